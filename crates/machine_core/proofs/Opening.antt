-- The parts before the first step.
use Rattle.std.proofs.Common.{◌≡◌, List, [], Option, Some, true, refl, sym, ap, subst, arith}
use Rattle.std.specs.Prelude.{is_some}
use Rattle.std.specs.List.{AllZip}
use Rattle.ti_ids.specs.declared.state.InitState.{InitState}
use Rattle.first_form.specs.ClassFiles.{ClassFile}
use Rattle.machine_model.specs.Jobs.{Job}
use Rattle.machine_model.specs.Replay.{opening}
use Rattle.machine_core.specs.declared.thread.Thread.{Thread}
use Rattle.machine_core.specs.declared.parts.Parts.{Parts}
use Rattle.machine_core.specs.ThreadChanges.{IsOpening}
use Rattle.machine_core.specs.Stands.{IsKnown, ThreadStands, IsLoaded, StandsFor}

pub opening_stands : (job : Job) (p : Parts) → IsKnown job → IsOpening p → StandsFor job p opening
unfolding opening
opening_stands job p k o = record {
  known = k;
  phase = o.phase;
  died = o.died;
  threads = subst (λ (ts : List Thread). AllZip (ThreadStands job [] (is_some p.class)) ts []) (sym o.threads) tt;
  crowd = omega arith;
  class = o.class;
  loaded = subst (λ (x : Option InitState). IsLoaded job [] x) (sym o.class) tt;
  statics = refl;
  objects = o.objects;
  few_objects = omega arith;
  output = o.output;
}

pub some_tree : (r : Option ClassFile) (t : ClassFile) → r ≡ Some t → is_some r ≡ true
some_tree r t e = ap (λ (x : Option ClassFile). is_some x) e
