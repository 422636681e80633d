-- The state of an agent's environment, as the trace has it: whether it is disposed, its capabilities, its masks and its rule set
-- (JVM TI, "DisposeEnvironment", "Capability" and "SetEventNotificationMode"). Of each it is said here what a record changes; what the
-- changes come to is said where the part is defined.
use Rattle.std.specs.Prelude.{Bool, false, ◌==◌, List, [], Option, Some, None, filter_map, if◌then◌else◌}
use Rattle.std.specs.List.{list_any}
use Rattle.ti_ids.specs.declared.number.EnvNo.{EnvNo}
use Rattle.ti_codes.specs.declared.capability.Capability.{Capability}
use Rattle.ti_codes.specs.declared.event.EventKind.{EventKind}
use Rattle.jv_names.specs.Names.{Name}
use Rattle.change_list.specs.Changes.{last}
use Rattle.capability_set.specs.Held.{held}
use Rattle.event_mask.specs.declared.hook.HookClass.{HookClass}
use Rattle.event_mask.specs.Settings as settings
use Rattle.event_mask.specs.Settings.{Scope, Sets, Holds, Ends}
use Rattle.event_mask.specs.Hooks as hooks
use Rattle.machine_state.specs.Jobs.{Job}
use Rattle.machine_state.specs.Trace.{Record, Trace, ModeSet, CapsChanged, RulesChosen, Disposed}

abbrev pub same_environment : EnvNo → EnvNo → Bool
same_environment a b = a.0 == b.0

-- what the records of a trace change of something, in their order
abbrev pub changes_in : {C : Type 0} → (Record → Option C) → Trace → List C
changes_in change trace = filter_map (λ e. change e.what) trace

-- ---- disposal

-- a record says that an environment is disposed
abbrev pub disposes : EnvNo → Record → Bool
disposes env (Disposed of) = same_environment of env
disposes env _ = false

abbrev pub is_disposed : Trace → EnvNo → Bool
is_disposed trace env = list_any (λ e. disposes env e.what) trace

-- ---- capabilities

-- those with which a job lets an environment begin; that of an agent begins with none
abbrev pub given_capabilities : Job → EnvNo → List Capability
given_capabilities job env = []

abbrev pub capability_change : EnvNo → Record → Option (List Capability)
capability_change env (CapsChanged of caps) = if same_environment of env then Some caps else None
capability_change env _ = None

abbrev pub capabilities_of : Job → Trace → EnvNo → List Capability
capabilities_of job trace env = held (given_capabilities job env) (changes_in (capability_change env) trace)

-- ---- masks

abbrev pub mask_change : EnvNo → Record → Option settings.Change
mask_change env (ModeSet of kind scope on) = if same_environment of env then Some (Sets kind scope on) else None
mask_change env (CapsChanged of caps) = if same_environment of env then Some (Holds caps) else None
mask_change env (Disposed of) = if same_environment of env then Some Ends else None
mask_change env _ = None

abbrev pub setting : Trace → EnvNo → EventKind → Scope → Bool
setting trace env kind scope = settings.setting kind scope (changes_in (mask_change env) trace)

abbrev pub mask : Trace → EnvNo → EventKind → Scope → Bool
mask trace env kind scope = settings.mask kind scope (changes_in (mask_change env) trace)

-- whether the environment's hook is capable of retransformation, once it has turned ClassFileLoadHook on
abbrev pub hook_class : Job → Trace → EnvNo → HookClass
hook_class job trace env = hooks.hook_class (given_capabilities job env) (changes_in (mask_change env) trace)

-- ---- the rule set in force

abbrev pub rules_change : EnvNo → Record → Option Name
rules_change env (RulesChosen of set) = if same_environment of env then Some set else None
rules_change env _ = None

-- the one that was chosen last
abbrev pub rules_of : Trace → EnvNo → Option Name
rules_of trace env = last (changes_in (rules_change env) trace)
