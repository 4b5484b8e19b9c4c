-- The groups joined are all items.
use Rattle.std.proofs.Common.{sym, ap, ◌∙◌}
use Rattle.std.specs.List.{flat_map}
use Rattle.ordered_lists.proofs.GroupLists.{groups_joined}
use Rattle.ordered_lists.proofs.groups.Groups.items.Goals as goal

pub returns : goal.returns
returns g c =
    c.as_slice.ensures.value
    ∙ sym (groups_joined 0 c.self.inside.items.items c.self.inside.ends.items c.self.invariant)
    ∙ ap (flat_map (λ group. group)) c.self.view_is
