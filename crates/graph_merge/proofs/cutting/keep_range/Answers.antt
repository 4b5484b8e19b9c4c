use Rattle.std.proofs.Common.{rules}
use Rattle.std.proofs.lemmas.Fn.{filter_same}
use Rattle.graph_merge.proofs.CutBlocks.{lies}
use Rattle.graph_merge.proofs.cutting.keep_range.Goals as goal

pub returns : goal.returns
returns c =
    filter_same _ (lies c.args.from c.args.to) _ (λ x b f k. search rules) c.args.blocks.now.items
    c.retain.new.self.items c.retain.ensures.filtered
