use Rattle.std.proofs.Common.{◌≡◌, ◌∙◌, ◌++◌, ℕ, ◌<◌, ◌^◌, List, [], None, Result, Ok, refl, sym, ap, subst}
use Rattle.std.specs.Prelude.{All, unwrap_or}
use Rattle.class_code.specs.declared.instr.Instr.{Instr}
use Rattle.class_code.specs.Listing.{IsRising}
use Rattle.class_tree.specs.Tree.{frames_of}
use Rattle.type_frames.specs.declared.frame.MapFrame.{MapFrame}
use Rattle.type_frames.specs.Environments.{Environment}
use Rattle.type_frames.specs.TypeChecks.{bounds, map_in, is_bad_map, this_types, parameters_in}
use Rattle.type_verify.specs.declared.checker.Checker.{Checker}
use Rattle.type_verify.proofs.Checked.{frames_low, checked_is}
use Rattle.type_verify.proofs.code.checker_of.Goals as goal

pub returns : goal.returns
returns c =
    let h = c.args.hierarchy.now in
    let t = c.args.tree.now in
    let m = c.args.member.now in
    let code = c.args.code.now in
    let checker : Checker = record {
      method = c.in_ok-method_of.field-0;
      this = c.in_ok-this_refs.field-0;
      parameters = c.in_ok-parameter_refs.field-0;
      max_locals = code.max_locals;
      map = c.in-Ok.map;
      handlers = c.as_slice.result;
    } in
    let instrs = ap (λ (e : Environment). e.instrs) c.in_ok-method_of.ensures ∙ c.requires.listed in
    let offsets = subst (λ (ps : List (ℕ × Instr)). All (λ p. p.0 < 2 ^ 16) ps) (sym c.requires.listed) c.requires.offsets in
    let read : map_in t m code ≡ Ok c.in-Ok.map = c.in-Ok.ensures.value in (
      ap (λ (r : Result (List MapFrame) ℕ). is_bad_map r) read,
      checked_is h t m code checker c.in_ok-method_of.ensures c.in_ok-this_refs.ensures c.in_ok-parameter_refs.ensures refl read c.as_slice.ensures,
      record {
        rising = subst (λ (ps : List (ℕ × Instr)). IsRising ps) (sym instrs) c.requires.rising;
        short = frames_low (bounds t code) offsets 0 None (unwrap_or (this_types t m) [] ++ parameters_in t m) (unwrap_or (frames_of code.attrs) []) c.in-Ok.map read;
        rooms = c.in-Ok.ensures.rooms;
      },
    )
