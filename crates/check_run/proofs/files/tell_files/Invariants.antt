use Rattle.std.proofs.Common.{◌≡◌, true, take}
use Rattle.check_run.specs.Files.{AreAccepted, TellsFiles}
use Rattle.check_run.specs.Words.{texts}
use Rattle.check_run.proofs.files.tell_files.Given as goal

abbrev pub invariant-loop-name : goal.invariant-loop-name
invariant-loop-name g l =
    let S = g.S.Store in
    let W = g.W.Write in record {
      same : S.files l.store ≡ S.files l.fn.store;
      good : l.all ≡ true → AreAccepted (S.files l.fn.store) (texts (take l.name-index l.names));
      tells : TellsFiles (S.files l.fn.store) (texts (take l.name-index l.names)) (W.contents l.fn.out) (W.contents l.out) (S.faults l.fn.store) (S.faults l.store) l.all;
    }
