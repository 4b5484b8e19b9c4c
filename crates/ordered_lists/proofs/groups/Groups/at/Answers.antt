-- The place is that of an end.
use Rattle.std.proofs.Common.{slice_get, sym, ap, ◌∙◌}
use Rattle.ordered_lists.proofs.GroupLists.{length_groups}
use Rattle.ordered_lists.proofs.groups.Groups.at.Goals as goal

pub group_in-requires-clause-ends : goal.group_in-requires-clause-ends
group_in-requires-clause-ends g c = rw (c.as_slice.ensures.value, c.as_slice-2.ensures.value) c.self.invariant

pub group_in-requires-clause-place : goal.group_in-requires-clause-place
group_in-requires-clause-place g c =
    rw c.as_slice-2.ensures.value (rw (length_groups 0 c.self.inside.items.items c.self.inside.ends.items) at
    (rw (sym c.self.view_is) at c.requires))

pub returns : goal.returns
returns g c =
    ap (λ l. slice_get l c.args.place) (sym c.self.view_is)
    ∙ (rw (c.as_slice.ensures.value, c.as_slice-2.ensures.value) at c.group_in.ensures)
