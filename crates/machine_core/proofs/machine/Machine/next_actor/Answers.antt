use Rattle.std.proofs.Common.{◌∙◌, Option, sym, ap}
use Rattle.ti_ids.specs.declared.actor.Actor.{Actor}
use Rattle.machine_model.specs.Rules.{actors}
use Rattle.machine_core.specs.Machines.{state_in, may_step}
use Rattle.machine_core.proofs.Rounds.{between, either, next_found}
use Rattle.machine_core.proofs.machine.Machine.next_actor.Goals as goal

pub returns-in-Some : goal.returns-in-Some
returns-in-Some c = λ live.
    let m = c.args.self.now in
    let start = c.place_behind-start.result in
    let front = between (may_step m) 0 start (actors m.job (state_in m).core) in
    let found = next_found (may_step m) c.args.current m.job (state_in m).core c.threads-threads.result start c.threads-threads.ensures.no_agents (c.threads-threads.ensures.told live) c.place_behind-start.ensures.same in
    ap (λ (r : Option Actor). either r front) (c.in-Some.ensures live) ∙ sym found

pub returns-in-None : goal.returns-in-None
returns-in-None c = λ live.
    let m = c.args.self.now in
    let start = c.place_behind-start.result in
    let front = between (may_step m) 0 start (actors m.job (state_in m).core) in
    let found = next_found (may_step m) c.args.current m.job (state_in m).core c.threads-threads.result start c.threads-threads.ensures.no_agents (c.threads-threads.ensures.told live) c.place_behind-start.ensures.same in
    c.first_enabled-in-None.ensures live ∙ ap (λ (r : Option Actor). either r front) (c.in-None.ensures live) ∙ sym found
