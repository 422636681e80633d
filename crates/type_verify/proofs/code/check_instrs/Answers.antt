use Rattle.std.proofs.Common.{◌∙◌, ℕ, ◌<◌, List, length, sym, ap, subst}
use Rattle.class_code.specs.declared.instr.Instr.{Instr}
use Rattle.type_frames.specs.TypeChecks.{Checked, checked, map_in, is_bad_map}
use Rattle.type_verify.specs.Checkers.{checked_of}
use Rattle.type_verify.proofs.Checked.{decided_in}
use Rattle.type_verify.proofs.code.check_instrs.Goals as goal

pub decide-requires-clause-some : goal.decide-requires-clause-some
decide-requires-clause-some c =
    let same = ap (λ (m : Checked). m.env.instrs) c.in-Ok.ensures.1 ∙ c.requires.listed in
    subst (λ (ps : List (ℕ × Instr)). 0 < length ps) (sym same) c.requires.some

pub returns-in-Ok : goal.returns-in-Ok
returns-in-Ok c =
    let h = c.args.hierarchy.now in
    let t = c.args.tree.now in
    let m = c.args.member.now in
    let code = c.args.code.now in
    decided_in (checked_of c.in-Ok.checker) (checked h t m code) (is_bad_map (map_in t m code)) c.decide.result c.in-Ok.ensures.1 c.in-Ok.ensures.0 c.decide.ensures
