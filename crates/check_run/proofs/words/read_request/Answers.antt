use Rattle.std.proofs.Common.{◌<◌, length, string_bytes, rules, arith}
use Rattle.std.proofs.lemmas.List.{length-map}
use Rattle.std.proofs.lemmas.Bool.Decides.{nat_tests}
use Rattle.std.proofs.lemmas.List.Elements.{All-map}
use Rattle.std.proofs.lemmas.Grind.{common_steps}
use Rattle.check_run.specs.Words.{IsFile}
use Rattle.check_run.proofs.WordsAsked.{nothing_else}
use Rattle.check_run.proofs.words.read_request.Goals as goal
use Rattle.check_run.proofs.words.read_request.Goals.{then-is_empty-via-then-is_empty, then-is_empty-via-else-is_empty+then-not-are_files}

pub returns-clause-asked : goal.returns-clause-asked
returns-clause-asked c =
    let files = c.in_ok-times.files.now in
    let some : 0 < length files = grind (arith, nat_tests) in
    (c.in_ok-times.ensures.named, rw length-map some, All-map IsFile string_bytes files (c.if-not-are_files.ensures.0 (search rules)))

pub returns-then-is_empty-clause-nothing : goal.returns-then-is_empty-clause-nothing
returns-then-is_empty-clause-nothing c =
    let nothing = nothing_else _ c.in_ok-times.times c.in_ok-times.files.now c.in_ok-times.ensures.only in
    elim c.then-is_empty.branch [
      | then-is_empty-via-then-is_empty w ↦ nothing (λ some all. grind (arith, nat_tests))
      | then-is_empty-via-else-is_empty+then-not-are_files w ↦ nothing (λ some all. let yes = w.are_files.ensures.1 all in first_of (search rules, grind (arith, common_steps)))
    ]
