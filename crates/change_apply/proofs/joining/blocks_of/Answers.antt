use Rattle.std.proofs.Common.{◌++◌, [], ◌∷◌, append_assoc, refl, sym, ap, ◌∙◌}
use Rattle.change_apply.proofs.SourcedBlocks.{none_listed, more_listed}
use Rattle.change_apply.proofs.joining.blocks_of.Goals as goal

pub loop-block-init : goal.loop-block-init
loop-block-init c = record {
  all = refl;
  listed = none_listed c.reserve.new.self.map (c.in_ok-reserve.ensures.map ∙ c.new-blocks.ensures);
}

pub loop-block-preserved : goal.loop-block-preserved
loop-block-preserved c =
    let front = c.loop-block.yielded in
    let block = c.in-Some.block in
    record {
      all =
          c.loop-block.invariant.all ∙ ap (λ l. front ++ l) c.in-Some.ensures.steps.0
          ∙ sym (append_assoc front (block ∷ []) c.next.new.self.rest.items);
      listed = more_listed c.name_order.ensures.ways c.name_order.ensures.way_ties front block c.loop-block.blocks.map
          c.loop-block.invariant.listed c.insert.new.self.map c.in_ok-insert.ensures.ok;
    }
