-- What a tool call that isn't refused tells (JVM TI, "Functions"): the values of its reply.
use Rattle.std.specs.Prelude.{ℕ, ◌+◌, ℤ, pos, List, [], ◌∷◌, ◌++◌, length, map, Option, Some, unwrap_or, codes, if◌then◌else◌}
use Rattle.std.specs.Option.{option_map_or}
use Rattle.std.specs.Fmt.{decimal, signed_decimal}
use Rattle.ti_ids.specs.Maybe.{◌>>=◌}
use Rattle.ti_ids.specs.declared.number.ThreadNo.{ThreadNo}
use Rattle.ti_ids.specs.declared.number.ObjNo.{ObjNo}
use Rattle.ti_ids.specs.declared.number.EnvNo.{EnvNo}
use Rattle.ti_ids.specs.declared.actor.Actor.{Actor}
use Rattle.ti_codes.specs.Phases.{phase_number}
use Rattle.jv_names.specs.Names.{Name}
use Rattle.link_versions.specs.Classes.{number_of}
use Rattle.agent_types.specs.declared.call.Call.{Call}
use Rattle.agent_types.specs.declared.call.Call.TheVariants.{GetTag, GetObjectsWithTags, IterateThroughHeap, GetThreadState, GetAllThreads, GetFrameCount, GetStackTrace, GetLoadedClasses, GetClassStatus, GetBytecodes, GetPhase}
use Rattle.tag_map.specs.Walks.{objects_with, walked}
use Rattle.machine_state.specs.Jobs.{Job}
use Rattle.machine_state.specs.Core.{Core, Thread, MethodFrame, thread_at, has_ended}
use Rattle.machine_state.specs.Trace.{Trace, Number, Bytes, Numbers, Texts, Reply}
use Rattle.machine_state.specs.Tags.{tag}
use Rattle.machine_state.specs.Versions.{Turns}
use Rattle.machine_state.specs.Linked.{linked}
use Rattle.machine_state.specs.Obsolete.{is_obsolete}
use Rattle.machine_state.specs.Statuses.{loaded_names, class_status, thread_state}
use Rattle.machine_state.specs.Events.{place_units}
use Rattle.machine_state.specs.Acts.{State}
use Rattle.machine_steps.specs.Throwing.{place_of}
use Rattle.tool_answer.specs.Naming.{newest_code, thread_meant, method_frames}

-- ---- threads

-- the numbers of these threads that haven't ended, the first of which has this one
abbrev pub living_from : ℕ → List Thread → List ℤ
living_from n [] = []
living_from n (t ∷ ts) = (if has_ended t then [] else pos n ∷ []) ++ living_from (n + 1) ts

abbrev pub frame_count : Core → Option ThreadNo → ℕ
frame_count core thread = option_map_or (λ t. length (method_frames core t)) thread 0

abbrev pub state_bits : State → Option ThreadNo → ℕ
state_bits s thread = unwrap_or (thread >>= λ t. thread_at s.core t >>= λ found. Some (thread_state s.core s.trace t found)) 0

-- ---- objects

-- the tags of an environment
abbrev pub tags_in : Trace → EnvNo → ObjNo → ℤ
tags_in trace env object = tag trace env object

-- an object and its tag
abbrev pub tagged_text : ObjNo × ℤ → List ℕ
tagged_text found = decimal found.0.0 ++ codes ":" ++ signed_decimal found.1

module _ (job : Job) (turns : Turns) (s : State) where
  -- a frame's place, with `!` behind it where the frame is obsolete
  abbrev pub frame_text : MethodFrame → List ℕ
  frame_text f =
      place_units (place_of (linked job turns s.trace s.core.classes) f)
      ++ (if is_obsolete job turns s.trace s.core.classes f then codes "!" else [])

  abbrev pub stack_texts : Option ThreadNo → List Name
  stack_texts thread = option_map_or (λ t. map frame_text (method_frames s.core t)) thread []

  -- the objects that a walk through the heap visits, all of them or those of a class alone
  abbrev pub visited : EnvNo → ℕ → Option Name → List ObjNo
  visited env filter class =
      walked s.core.heap (tags_in s.trace env) filter (class >>= number_of (linked job turns s.trace s.core.classes))

  -- ---- a case a call

  abbrev pub values_of : EnvNo → Call → Actor → Reply
  values_of env (GetTag object) actor = Number (tags_in s.trace env (record { 0 = object })) ∷ []
  values_of env (GetObjectsWithTags tags) actor =
      Texts (map tagged_text (objects_with (length s.core.heap.objects) (tags_in s.trace env) tags)) ∷ []
  values_of env (IterateThroughHeap filter class write) actor = Numbers (map (λ o. pos o.0) (visited env filter class)) ∷ []
  values_of env (GetThreadState thread) actor = Number (pos (state_bits s (thread_meant actor thread))) ∷ []
  values_of env GetAllThreads actor = Numbers (living_from 1 s.core.threads) ∷ []
  values_of env (GetFrameCount thread) actor = Number (pos (frame_count s.core (thread_meant actor thread))) ∷ []
  values_of env (GetStackTrace thread) actor = Texts (stack_texts (thread_meant actor thread)) ∷ []
  values_of env GetLoadedClasses actor = Texts (loaded_names s.core) ∷ []
  values_of env (GetClassStatus class) actor = Number (pos (unwrap_or (class_status s.core class) 0)) ∷ []
  values_of env (GetBytecodes class method desc) actor =
      Bytes (option_map_or (λ code. code.bytes) (newest_code job turns s class method desc) []) ∷ []
  values_of env GetPhase actor = Number (pos (phase_number s.core.phase)) ∷ []
  values_of env call actor = []
