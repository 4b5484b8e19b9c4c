-- There are as many groups as ends.
use Rattle.std.proofs.Common.{sym, ap, ◌∙◌, length}
use Rattle.ordered_lists.proofs.GroupLists.{length_groups}
use Rattle.ordered_lists.proofs.groups.Groups.len.Goals as goal

pub returns : goal.returns
returns g c =
    c.len.ensures ∙ c.self.inside.ends.ok.0 ∙ sym (length_groups 0 c.self.inside.items.items c.self.inside.ends.items)
    ∙ ap length c.self.view_is
