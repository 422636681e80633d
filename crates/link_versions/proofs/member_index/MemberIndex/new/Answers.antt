use Rattle.std.proofs.Common.{◌∙◌}
use Rattle.link_versions.proofs.Indexed.{seen_finds}
use Rattle.link_versions.proofs.member_index.MemberIndex.new.Goals as goal

pub returns : goal.returns
returns c n d = seen_finds c.in_ok-map.map.names n d ∙ c.in_ok-map.ensures n d
