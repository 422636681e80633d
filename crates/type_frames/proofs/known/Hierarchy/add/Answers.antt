use Rattle.std.proofs.Common.{◌≡◌, ◌++◌, ◌∷◌, [], ◌∙◌, List, ℕ, ap, None, subst, sym}
use Rattle.std.specs.Prelude.{Vec}
use Rattle.std.specs.Map.{values_of}
use Rattle.std.specs.declared.alloc.Global.{Global}
use Rattle.type_frames.specs.declared.hierarchy.HierarchyClass.{HierarchyClass}
use Rattle.type_frames.specs.Hierarchies.{Known, class_named}
use Rattle.type_frames.specs.Keyed.{AreKeyed}
use Rattle.type_frames.proofs.Found.{insert_entry-named, keyed-push, values-push}
use Rattle.type_frames.proofs.known.Hierarchy.add.Goals as goal

abbrev Pairs : Type 0
Pairs = List (Vec ℕ Global × HierarchyClass)

pub invariant_of-self-2 : goal.invariant_of-self-2
invariant_of-self-2 c =
    let named : c.in_ok-name.name.items ≡ c.args.class.name = c.in_ok-name.ensures.items ∙ c.as_slice.ensures in
    let none : class_named (values_of c.self.inside.classes.entries) c.args.class.name ≡ None = ap (λ (h : Known). class_named h c.args.class.name) c.self.view_is ∙ c.requires in
    subst AreKeyed
    (sym (c.in_ok-insert.ensures.entries ∙ insert_entry-named c.self.inside.classes c.in_ok-name.name c.args.class named c.self.invariant none))
    (keyed-push c.self.inside.classes.entries c.in_ok-name.name c.args.class named c.self.invariant)

pub returns-clause-ok : goal.returns-clause-ok
returns-clause-ok c =
    let named : c.in_ok-name.name.items ≡ c.args.class.name = c.in_ok-name.ensures.items ∙ c.as_slice.ensures in
    let none : class_named (values_of c.self.inside.classes.entries) c.args.class.name ≡ None = ap (λ (h : Known). class_named h c.args.class.name) c.self.view_is ∙ c.requires in
    ap (λ (es : Pairs). values_of es) (c.in_ok-insert.ensures.entries ∙ insert_entry-named c.self.inside.classes c.in_ok-name.name c.args.class named c.self.invariant none)
    ∙ values-push c.self.inside.classes.entries (c.in_ok-name.name, c.args.class)
    ∙ ap (λ (h : Known). h ++ c.args.class ∷ []) c.self.view_is
