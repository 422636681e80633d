use Rattle.std.proofs.Common.{◌≡◌, position, take}
use Rattle.jv_names.specs.Names.{Name}
use Rattle.class_tree.specs.Tree.{is_named as has_names}
use Rattle.link_versions.specs.MemberIndexes.{place_by_name}
use Rattle.link_versions.proofs.member_index.NameMap.new.Given as goal

abbrev pub invariant-loop-place : goal.invariant-loop-place
invariant-loop-place l = (n d : Name) → place_by_name l.index.names n d ≡ position (has_names l.tree.pool n d) (take l.place l.members)
