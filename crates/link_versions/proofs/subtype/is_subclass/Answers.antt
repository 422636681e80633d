use Rattle.std.proofs.Common.{sym, ◌∙◌, arith}
use Rattle.std.proofs.lemmas.Bool.{ne_eqb}
use Rattle.link_versions.specs.Subtypes.{is_subclass}
use Rattle.link_versions.specs.Entries.{classes_of}
use Rattle.link_versions.proofs.Depths.{more_dimensions, same_dimensions, fewer_dimensions}
use Rattle.link_versions.proofs.subtype.is_subclass.Goals as goal

pub returns-then-depth-wanted : goal.returns-then-depth-wanted
unfolding is_subclass
returns-then-depth-wanted c =
    let a = c.type_of-depth.result in
    let b = c.type_of-wanted.result in
    rw (← c.type_of-depth.ensures, ← c.type_of-wanted.ensures) (c.is_array_below.ensures ∙ sym (more_dimensions (classes_of c.args.entries.now) a.0 a.1 b.0 b.1 c.if-depth-wanted.true))

pub returns-then-depth-wanted-2 : goal.returns-then-depth-wanted-2
unfolding is_subclass
returns-then-depth-wanted-2 c =
    let a = c.type_of-depth.result in
    let b = c.type_of-wanted.result in
    rw (← c.type_of-depth.ensures, ← c.type_of-wanted.ensures) (c.is_element_below.ensures ∙ sym (same_dimensions (classes_of c.args.entries.now) a.0 a.1 b.0 b.1 c.if-depth-wanted-2.true))

pub returns-else-depth-wanted-2 : goal.returns-else-depth-wanted-2
unfolding is_subclass
returns-else-depth-wanted-2 c =
    let a = c.type_of-depth.result in
    let b = c.type_of-wanted.result in
    rw (← c.type_of-depth.ensures, ← c.type_of-wanted.ensures)
    (ne_eqb a.0 b.0 c.if-depth-wanted-2.false ∙ sym (fewer_dimensions (classes_of c.args.entries.now) a.0 a.1 b.0 b.1 (omega (arith, c.if-depth-wanted.false, c.if-depth-wanted-2.false))))
