use Rattle.std.proofs.Common.{refl, ◌∙◌, ap, ◌++◌, ◌∷◌, [], List}
use Rattle.ti_ids.specs.declared.state.ThreadState.TheVariants.{Unbegun}
use Rattle.machine_core.specs.declared.thread.Thread.{Thread}
use Rattle.machine_core.proofs.parts.first_threads.Goals as goal

pub returns : goal.returns
returns c =
    let first : Thread = record { state = Unbegun; frames = c.new.result } in record {
      thread = first;
      alone = c.in_ok-push.ensures.items ∙ ap (λ (w : List Thread). w ++ first ∷ []) c.new-threads.ensures.items;
      state = refl;
      frames = c.new.ensures.items;
    }
