-- What the arguments of tool calls name (JVM TI, "Functions"): classes, methods and fields by their names, threads and objects by their
-- numbers. What is asked of a class is asked of its newest version.
use Rattle.std.specs.Prelude.{ℕ, ◌==◌, pos, zero, suc, Bool, true, false, ◌&&◌, nat_le, List, [], ◌∷◌, find, flat_map, length, Option, Some, None, bytes_eq}
use Rattle.std.specs.List.{list_any}
use Rattle.std.specs.Option.{option_map_or}
use Rattle.ti_ids.specs.Maybe.{◌>>=◌}
use Rattle.ti_ids.specs.declared.number.ThreadNo.{ThreadNo}
use Rattle.ti_ids.specs.declared.number.EnvNo.{EnvNo}
use Rattle.ti_ids.specs.declared.actor.Actor.{Actor}
use Rattle.jv_names.specs.Names.{Name}
use Rattle.change_list.specs.Changes.{last}
use Rattle.agent_types.specs.declared.agent.AgentKind.TheVariants as agent_kinds
use Rattle.class_code.specs.Listing.{begins}
use Rattle.class_code.specs.CodeReading.{list_of}
use Rattle.class_tree.specs.declared.body.Code.{Code}
use Rattle.class_tree.specs.declared.members.Member.{Member}
use Rattle.class_tree.specs.Trees.{Tree}
use Rattle.class_tree.specs.Tree.{is_text, text_at, code_of}
use Rattle.thread_frames.specs.declared.frame.StackEntry.TheVariants.{Java, Init}
use Rattle.redefine_check.specs.Equivalence.{method_named}
use Rattle.machine_state.specs.Jobs.{Job, agent_at}
use Rattle.machine_state.specs.Core.{Core, Thread, StackFrame, MethodFrame, thread_at, frames_at}
use Rattle.machine_state.specs.Trace.{Place, FieldName}
use Rattle.machine_state.specs.Versions.{Turns}
use Rattle.machine_state.specs.Chains.{acting}
use Rattle.machine_state.specs.Linked.{trees}
use Rattle.machine_state.specs.Statuses.{loaded_names}
use Rattle.machine_state.specs.Acts.{State}

-- ---- environments

-- one of `java.lang.instrument`
abbrev pub is_java : Job → EnvNo → Bool
is_java job env = elim (agent_at job env) [
  | None ↦ false
  | Some agent ↦ elim agent.kind [ agent_kinds.Native ↦ false | agent_kinds.Java ↦ true ]
]

-- ---- classes

abbrev pub is_loaded : Core → Name → Bool
is_loaded core class = list_any (bytes_eq class) (loaded_names core)

module _ (job : Job) (turns : Turns) (s : State) where
  abbrev pub newest_tree : Name → Option Tree
  newest_tree class = last (trees job turns s.trace class)

  abbrev pub newest_method : Name → Name → Name → Option Member
  newest_method class method desc = newest_tree class >>= λ t. method_named t method desc

  -- its code, where it has one
  abbrev pub newest_code : Name → Name → Name → Option Code
  newest_code class method desc = newest_method class method desc >>= λ m. code_of m.attrs

  -- an instruction of the code begins at this place
  abbrev pub has_place : Name → Name → Name → ℕ → Bool
  has_place class method desc at =
      option_map_or (λ list. begins list (pos at)) (newest_code class method desc >>= λ code. list_of code.bytes) false

  -- the first field of a name
  abbrev pub named_in : Name → Name → Tree → Option FieldName
  named_in class field t =
      find (λ m. is_text (text_at t.pool m.name) field) t.fields >>= λ m. text_at t.pool m.desc >>= λ desc.
      Some (record { class = class; name = field; desc = desc })

  abbrev pub field_named : Name → Name → Option FieldName
  field_named class field = newest_tree class >>= named_in class field

abbrev pub place_at : Name → Name → Name → ℕ → Place
place_at class method desc at = record { method = record { class = class; name = method; desc = desc }; pc = at }

-- ---- objects

abbrev pub is_object : Core → ℕ → Bool
is_object core n = nat_le 1 n && nat_le n (length core.heap.objects)

-- ---- threads: 0 is the acting one

abbrev pub thread_meant : Actor → ℕ → Option ThreadNo
thread_meant actor zero = acting actor
thread_meant actor (suc n) = Some (record { 0 = suc n })

abbrev pub thread_of : Core → Actor → ℕ → Option Thread
thread_of core actor n = thread_meant actor n >>= thread_at core

abbrev pub is_acting : Actor → ThreadNo → Bool
is_acting actor t = option_map_or (λ own. own.0 == t.0) (acting actor) false

-- the frames of its methods, the top first
abbrev pub method_frame : StackFrame → List MethodFrame
method_frame (Java f) = f ∷ []
method_frame (Init class) = []

abbrev pub method_frames : Core → ThreadNo → List MethodFrame
method_frames core t = flat_map method_frame (frames_at core t)
