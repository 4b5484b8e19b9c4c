use Rattle.std.proofs.Common.{◌∙◌}
use Rattle.cell_check.proofs.ReachedKeys.{got_by}
use Rattle.cell_check.proofs.search.LinkSearch.start_of.Goals as goal

pub returns : goal.returns
returns c =
    c.copied.ensures ∙ got_by _ c.key_order.ensures.by_cmp c.args.self.now.starts c.args.key _ c.get.ensures.value
