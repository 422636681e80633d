use Rattle.std.proofs.Common.{◌≡◌, List, [], ◌∷◌, length, sym, ap, subst, ◌∙◌, arith}
use Rattle.std.proofs.lemmas.List.{length-append}
use Rattle.link_versions.specs.Classes.{Class}
use Rattle.link_versions.specs.Entries.{class_of, classes_of, IsSound}
use Rattle.link_versions.proofs.Named.{nobody_has}
use Rattle.link_versions.proofs.Tables.{length-classes_of, classes_of-push, IsTable-push, lawful}
use Rattle.link_versions.proofs.table.Classes.push.Goals as goal

pub overflow_cast-number : goal.overflow_cast-number
overflow_cast-number c =
    let table = c.self.inside.table in
    let seen : length (classes_of table) ≡ length c.args.self.now = ap length c.self.view_is in
    omega (arith, length-classes_of table, seen, c.len.ensures, c.requires.room)

pub push-requires-clause-fresh : goal.push-requires-clause-fresh
push-requires-clause-fresh c =
    let table = c.self.inside.table in
    let sound = subst (λ (cs : List Class). IsSound cs c.args.entry) (sym c.self.view_is) c.requires.sound in
    nobody_has table c.args.entry.name (lawful table c.self.invariant.0) sound.lawful.fresh

pub invariant_of-self-2 : goal.invariant_of-self-2
invariant_of-self-2 c =
    let table = c.self.inside.table in
    let sound = subst (λ (cs : List Class). IsSound cs c.args.entry) (sym c.self.view_is) c.requires.sound in
    let seen : length (classes_of table) ≡ length c.args.self.now = ap length c.self.view_is in
    rw c.in_ok-push.ensures.ok
    (IsTable-push table c.args.entry c.self.invariant.0 sound, omega (arith, length-append table (c.args.entry ∷ []), length-classes_of table, seen, c.requires.room))

pub returns-clause-ok : goal.returns-clause-ok
returns-clause-ok c =
    let table = c.self.inside.table in
    ap classes_of c.in_ok-push.ensures.ok ∙ classes_of-push table c.args.entry ∙ ap (λ cs. class_of c.args.entry ∷ cs) c.self.view_is

pub returns-clause-number : goal.returns-clause-number
returns-clause-number c =
    let table = c.self.inside.table in
    let all : length (classes_of c.push.new.self) ≡ length (class_of c.args.entry ∷ classes_of table) =
    ap length (ap classes_of c.in_ok-push.ensures.ok ∙ classes_of-push table c.args.entry) in
    omega (arith, all, length-classes_of table, c.len.ensures)
