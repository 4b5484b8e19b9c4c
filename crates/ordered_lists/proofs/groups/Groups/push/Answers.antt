-- The new group stands behind the items, and its end behind the ends.
use Rattle.std.proofs.Common.{◌≡◌, ◌∷◌, [], ◌++◌, length, ap, ◌∙◌}
use Rattle.ordered_lists.proofs.GroupLists.{ends_more, groups_more}
use Rattle.ordered_lists.proofs.groups.Groups.push.Goals as goal

pub invariant_of-self-in-Ok : goal.invariant_of-self-in-Ok
invariant_of-self-in-Ok g c =
    let items = c.in_ok-extend_from_slice.ensures.items in
    let end : c.len.result ≡ length (c.self.inside.items.items ++ c.args.group.now) = rw items at
    (c.len.ensures ∙ c.extend_from_slice.new.self.ok.0) in
    rw (items, c.in-Ok.ensures.items) (ends_more 0 c.self.inside.items.items c.args.group.now c.self.inside.ends.items
    c.len.result c.self.invariant end)

pub returns-in-Ok-clause-ok : goal.returns-in-Ok-clause-ok
returns-in-Ok-clause-ok g c =
    let items = c.in_ok-extend_from_slice.ensures.items in
    let end : c.len.result ≡ length (c.self.inside.items.items ++ c.args.group.now) = rw items at
    (c.len.ensures ∙ c.extend_from_slice.new.self.ok.0) in
    rw (items, c.in-Ok.ensures.items) (groups_more 0 c.self.inside.items.items c.args.group.now c.self.inside.ends.items
    c.len.result c.self.invariant end)
    ∙ ap (λ l. l ++ c.args.group.now ∷ []) c.self.view_is
