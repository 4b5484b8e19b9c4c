-- Behind the first place a group begins where the one before it ends.
use Rattle.std.proofs.Common.{◌-◌, suc, ◌≡◌, sym, arith}
use Rattle.ordered_lists.proofs.GroupLists.{start_behind}
use Rattle.ordered_lists.proofs.groups.start_of.Goals as goal

pub returns-else-place-eq0 : goal.returns-else-place-eq0
returns-else-place-eq0 c =
    let next : suc (c.args.place - 1) ≡ c.args.place = let h = c.if-place-eq0.false in omega arith in
    sym (start_behind 0 c.args.ends.now c.args.place (c.args.place - 1) 0 next c.requires)
