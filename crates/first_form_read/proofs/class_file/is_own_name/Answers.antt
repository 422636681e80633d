use Rattle.std.proofs.Common.{◌≡◌, ◌∙◌, ◌<◌, ◌^◌, ℕ, List, length, Bool, true, not, nat_lt, refl, sym}
use Rattle.std.specs.List.{list_all}
use Rattle.std.proofs.lemmas.Bool.{lt-ltb, le-ltb, false≢true}
use Rattle.jv_names.specs.Names.{is_class_name, is_visible}
use Rattle.first_form.specs.BaseSet.{is_base}
use Rattle.first_form.specs.ClassFiles.{is_own_name}
use Rattle.first_form_read.proofs.class_file.is_own_name.Goals as goal
use Rattle.first_form_read.proofs.class_file.is_own_name.Goals.{then-name-lt65536, else-name-lt65536, then-is_visible_text, else-is_visible_text}

-- a name of which only the last test is left
own_is : (name : List ℕ) (base : Bool) → length name < 2 ^ 16 → list_all is_visible name ≡ true → is_class_name name ≡ true → base ≡ is_base name
    → not base ≡ is_own_name name
own_is name base few visible named e =
    let short : nat_lt (length name) (2 ^ 16) ≡ true = lt-ltb (length name) (2 ^ 16) few in
    rw (short, visible, named, e) refl

pub returns-then-is_class_name : goal.returns-then-is_class_name
returns-then-is_class_name c =
    elim c.if-is_visible_text.branch [
      | then-is_visible_text w ↦ elim c.if-name-lt65536.branch [
        | then-name-lt65536 v ↦
            own_is c.args.name.now c.is_base.result v.if-name-lt65536.true
            (sym v.is_visible_text.ensures ∙ sym v.value-is ∙ w.if-is_visible_text.true)
            (sym w.is_class_name.ensures ∙ sym w.value-is ∙ c.if-is_class_name.true)
            c.is_base.ensures
        | else-name-lt65536 v ↦ absurd (false≢true (sym (le-ltb (length c.args.name.now) 65536 v.if-name-lt65536.false) ∙ sym v.value-is ∙ w.if-is_visible_text.true))
      ]
      | else-is_visible_text w ↦ absurd (false≢true (sym w.if-is_visible_text.false ∙ sym w.value-is ∙ c.if-is_class_name.true))
    ]
