-- The rules as they are seen from the parts.
use Rattle.std.specs.Prelude.{ℕ, Option, None, is_some, Bool, ◌&&◌, ◌||◌, slice_get, if◌then◌else◌}
use Rattle.std.specs.List.{list_all, list_any}
use Rattle.ti_ids.specs.Maybe.{◌>>=◌}
use Rattle.machine_model.specs.declared.MachineRule.{MachineRule}
use Rattle.machine_model.specs.declared.ThreadRule.{ThreadRule}
use Rattle.machine_model.specs.Rules.{is_live, is_over, live_rule, rule_in}
use Rattle.machine_core.specs.declared.parts.Parts.{Parts}
use Rattle.machine_core.specs.Frames.{rule_seen}

abbrev pub machine_rule_seen : Parts → Option MachineRule
machine_rule_seen p = rule_in p.phase (live_rule p.died (list_all (λ t. is_over t.state) p.threads.items))

-- of the thread at an index
abbrev pub thread_rule_seen : Parts → ℕ → Option ThreadRule
thread_rule_seen p index = if is_live p.phase then slice_get p.threads.items index >>= rule_seen p.class else None

abbrev pub any_thread_seen : Parts → Bool
any_thread_seen p = list_any (λ t. is_some (rule_seen p.class t)) p.threads.items

abbrev pub any_seen : Parts → Bool
any_seen p = is_some (machine_rule_seen p) || (is_live p.phase && any_thread_seen p)
