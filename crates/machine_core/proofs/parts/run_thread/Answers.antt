use Rattle.std.proofs.Common.{vec_len, refl, arith, Result, Ok, Err}
use Rattle.std.specs.Prelude.{IfOk}
use Rattle.machine_core.proofs.Zips.{changed_by}
use Rattle.machine_core.proofs.parts.run_thread.Goals as goal

if_ok : {T E : Type 0} (P Q : T → Type 0) (r : Result T E) → ((x : T) → P x → Q x) → IfOk r P → IfOk r Q
if_ok P Q (Ok x) f h = f x h
if_ok P Q (Err e) f h = tt

pub returns : goal.returns
returns c =
    if_ok _ _ c.execute.result (λ done did. changed_by c.args.index _ c.args.threads.now.items (vec_len c.args.threads.now) c.index_mut.result.now _ (omega (arith, c.args.threads.now.ok.0)) c.requires c.index_mut.ensures.value (record { state = refl; frames = did })) c.execute.ensures
