-- What a load step accepts of a class is the tree of the version that its record makes: the turns' records change no chain of transformers,
-- and in a chain those that aren't capable of retransformation come before those that are.
use Rattle.agent_types.specs.declared.agent.Agent as agent_type
use Rattle.event_mask.specs.Hooks as hooks
use Rattle.event_mask.specs.Settings as settings
use Rattle.event_mask.specs.declared.hook.HookClass.{HookClass}
use Rattle.event_mask.specs.declared.hook.HookClass.TheVariants.{Capable, Incapable, Unset}
use Rattle.jv_names.specs.Names.{Name}
use Rattle.machine_state.specs.Chains.{Turns, acting, added, chain, hook_by, hooks_from, hooks_of, java_turn, registration_change, rules_do}
use Rattle.machine_state.specs.Environments.{changes_in, given_capabilities, mask_change, rules_change, rules_of}
use Rattle.machine_state.specs.Jobs.{Job}
use Rattle.machine_state.specs.Trace.{Entry, Raised, Record, Trace, Turned}
use Rattle.machine_state.specs.Versions.{Nothing, making, version_of}
use Rattle.std.proofs.Common.{Bool, List, None, Option, [], ap, append-nil, cond, map, refl, sym, ℕ, ◌++◌, ◌+◌, ◌∙◌, ◌∷◌, ◌≡◌, ◌≤◌}
use Rattle.std.proofs.lemmas.Bool.{le-leb}
use Rattle.std.proofs.lemmas.List.Elements.{filter_map-append}
use Rattle.std.specs.List.{AllByRecursion, cons_option}
use Rattle.ti_codes.specs.declared.event.EventKind.TheVariants as kinds
use Rattle.ti_ids.specs.declared.actor.Actor.{Actor}
use Rattle.ti_ids.specs.declared.number.EnvNo.{EnvNo}
use Rattle.transform_chain.proofs.Folding.{kept_goes_on}
use Rattle.transform_chain.proofs.Grouping.{groups_rise}
use Rattle.transform_chain.proofs.Members.{groups_keep}
use Rattle.transform_chain.specs.Groups.{from_group, in_groups, up_to_group}
use Rattle.transform_chain.specs.Registrations.{registered}
use Rattle.transform_chain.specs.Turns.{Does, fold_from, folded}
use Rattle.transform_chain.specs.declared.active.Active.{Active}
use Rattle.transform_chain.specs.declared.registered.Registered.{Registered}

-- ---- records that change no chain

-- an event that was raised, or a turn
abbrev pub IsTold : Record → Type 0
IsTold (Raised event) = Unit {0}
IsTold (Turned env class set k n has_changed) = Unit {0}
IsTold _ = ⊥

pub told_quiet : (what : Record) (class : Name) → IsTold what → making class what ≡ Nothing
told_quiet (Raised event) class h = refl
told_quiet (Turned env name set k n has_changed) class h = refl
told_quiet _ class h = absurd h

told_silent : {C : Type 0} (change : Record → Option C) → ((event : _) → change (Raised event) ≡ None)
    → ((env : EnvNo) (class : Name) (set : Option Name) (k n : ℕ) (changed : Bool) → change (Turned env class set k n changed) ≡ None)
    → (what : Record) → IsTold what → change what ≡ None
told_silent change raised turned (Raised event) h = raised event
told_silent change raised turned (Turned env class set k n changed) h = turned env class set k n changed
told_silent change raised turned _ h = absurd h

changes_same : {C : Type 0} (change : Record → Option C) (trace : Trace) (e : Entry) → change e.what ≡ None
    → changes_in change (trace ++ e ∷ []) ≡ changes_in change trace
changes_same change trace e silent =
    filter_map-append (λ (e : Entry). change e.what) trace (e ∷ [])
    ∙ ap (λ o. changes_in change trace ++ cons_option o []) silent ∙ append-nil (changes_in change trace)

module _ (job : Job) (turns : Turns) (trace : Trace) (e : Entry) (told : IsTold e.what) (actor : Actor) where
  abbrev by : EnvNo → Option Name → Does
  by = rules_do turns

  abbrev after : Trace
  after = trace ++ e ∷ []

  added_same : added after ≡ added trace
  added_same =
      ap (λ cs. registered cs)
      (changes_same registration_change trace e (told_silent registration_change (λ event. refl) (λ env class set k n c. refl) e.what told))

  module _ (env : EnvNo) where
    masks_same : changes_in (mask_change env) after ≡ changes_in (mask_change env) trace
    masks_same =
        changes_same (mask_change env) trace e (told_silent (mask_change env) (λ event. refl) (λ env class set k n c. refl) e.what told)

    rules_changes : changes_in (rules_change env) after ≡ changes_in (rules_change env) trace
    rules_changes =
        changes_same (rules_change env) trace e (told_silent (rules_change env) (λ event. refl) (λ env class set k n c. refl) e.what told)

    rules_same : rules_of after env ≡ rules_of trace env
    rules_same = rw rules_changes refl

    hook_same : (hook : HookClass) → hook_by by after env hook ≡ hook_by by trace env hook
    hook_same Unset = refl
    hook_same Capable =
        ap (λ (set : Option Name). (let a : Active Does = record { group = 4; env = env; set = set; transformer = by env set } in a ∷ [])) rules_same
    hook_same Incapable =
        ap (λ (set : Option Name). (let a : Active Does = record { group = 2; env = env; set = set; transformer = by env set } in a ∷ [])) rules_same

    hooks_same : hooks_of job by after actor env ≡ hooks_of job by trace actor env
    hooks_same =
        ap (λ (cs : List settings.Change). cond (settings.mask kinds.ClassFileLoadHook (acting actor) cs)
        (hook_by by after env (hooks.hook_class (given_capabilities job env) cs)) []) masks_same
        ∙ ap (λ (l : List (Active Does)). cond (settings.mask kinds.ClassFileLoadHook (acting actor) (changes_in (mask_change env) trace)) l [])
        (hook_same (hooks.hook_class (given_capabilities job env) (changes_in (mask_change env) trace)))

  all_same : (n : ℕ) (agents : List agent_type.Agent) → hooks_from job by after actor n agents ≡ hooks_from job by trace actor n agents
  all_same n [] = refl
  all_same n (agent ∷ agents) =
      let env : EnvNo = record { 0 = n } in
      ap (λ (l : List (Active Does)). l ++ hooks_from job by after actor (n + 1) agents) (hooks_same env)
      ∙ ap (λ (l : List (Active Does)). hooks_of job by trace actor env ++ l) (all_same (n + 1) agents)

  pub chain_same : chain job by after actor ≡ chain job by trace actor
  chain_same =
      ap (λ (rs : List Registered). in_groups (map (java_turn by) rs ++ hooks_from job by after actor 1 job.agents)) added_same
      ∙ ap (λ (l : List (Active Does)). in_groups (map (java_turn by) (added trace) ++ l)) (all_same 1 job.agents)

-- ---- one fold

all_asked : (ts : List (Active Does)) → AllByRecursion (λ t. (1 ≤ t.group) × (t.group ≤ 4)) ts → from_group 1 ts ≡ ts
all_asked [] h = refl
all_asked (t ∷ ts) h =
    ap (λ (b : Bool). cond b (t ∷ from_group 1 ts) (from_group 1 ts)) (le-leb 1 t.group h.0.0)
    ∙ ap (λ (l : List (Active Does)). t ∷ l) (all_asked ts h.1)

-- what all turns make is the version of what is kept
pub version_is : (job : Job) (turns : Turns) (trace : Trace) (actor : Actor) (class : Name) (bytes : List ℕ)
    → (let ts = chain job (rules_do turns) trace actor in
    (version_of job turns class ts (folded class (up_to_group 2 ts) bytes)).bytes ≡ (fold_from class 1 ts bytes).made)
version_is job turns trace actor class bytes =
    let ts = chain job (rules_do turns) trace actor in
    let all : List (Active Does) = map (java_turn (rules_do turns)) (added trace) ++ hooks_from job (rules_do turns) trace actor 1 job.agents in
    sym (ap (λ (l : List (Active Does)). folded class l bytes) (all_asked ts (groups_keep.no_others all))
    ∙ kept_goes_on class ts bytes (groups_rise all))
