-- The items of a group stand between its start and its end.
use Rattle.std.proofs.Common.{Some, ap, ◌∙◌}
use Rattle.ordered_lists.proofs.GroupLists.{bounds, group_at}
use Rattle.ordered_lists.proofs.groups.group_in.Goals as goal

pub part-requires-clause-rising : goal.part-requires-clause-rising
part-requires-clause-rising g c =
    rw c.start_of.ensures (bounds 0 c.args.items.now c.args.ends.now c.args.place 0 c.requires.ends c.requires.place).0

pub part-requires-clause-within : goal.part-requires-clause-within
part-requires-clause-within g c =
    (bounds 0 c.args.items.now c.args.ends.now c.args.place 0 c.requires.ends c.requires.place).1

pub returns : goal.returns
returns g c =
    group_at 0 c.args.items.now c.args.ends.now c.args.place 0 c.requires.place
    ∙ ap Some (rw (c.part.ensures, c.start_of.ensures))
