use Rattle.std.proofs.Common.{◌≡◌, List, [], ◌++◌, Option, Some, None}
use Rattle.std.specs.Prelude.{option_to_list}
use Rattle.std.specs.List.{cons_option}
use Rattle.ti_ids.specs.declared.number.ClassNo.{ClassNo}
use Rattle.link_versions.proofs.table.Classes.array_interfaces.Goals as goal

both : (a b : Option ClassNo) (none one two : List ClassNo) → none ≡ [] → one ≡ none ++ option_to_list a → two ≡ one ++ option_to_list b → two ≡ cons_option a (cons_option b [])
both None None none one two e f g = simp (g, f, e)
both None (Some y) none one two e f g = simp (g, f, e)
both (Some x) None none one two e f g = simp (g, f, e)
both (Some x) (Some y) none one two e f g = simp (g, f, e)

pub returns : goal.returns
returns c = both _ _ c.new-interfaces.result c.put_named.new.classes c.put_named-2.new.classes c.new-interfaces.ensures c.in_ok-put_named.ensures c.in_ok-put_named-2.ensures
