use Rattle.std.proofs.Common.{sym, ◌∙◌}
use Rattle.std.specs.FinMap.{get-from_entries}
use Rattle.graph_blocks.proofs.walking.block_at.Goals as goal

pub returns : goal.returns
returns c =
    c.get.ensures.value ∙ sym (get-from_entries c.name_order.ensures.ways c.args.blocks.now c.args.way)
