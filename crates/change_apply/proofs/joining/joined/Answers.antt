use Rattle.std.proofs.Common.{List, subst}
use Rattle.std.proofs.lemmas.Result.{IfOk-weaker}
use Rattle.std.specs.List.Sorted.{IsPermutation}
use Rattle.road_model.specs.declared.blocks.Block.{Block}
use Rattle.change_apply.proofs.BuiltBlocks.{empty_by_test}
use Rattle.change_apply.proofs.SourcedBlocks.{no_block, joined_sound, joined_complete}
use Rattle.change_apply.proofs.joining.joined.Goals as goal

pub returns-then-is_empty-clause-complete : goal.returns-then-is_empty-clause-complete
returns-then-is_empty-clause-complete c w none = (
  none,
  no_block c.args.second.map c.items.result.now c.items.ensures.entries
      (empty_by_test c.items.result.now c.is_empty.result c.is_empty.ensures c.if-is_empty.true) w,
)

pub returns-clause-sound : goal.returns-clause-sound
returns-clause-sound c =
    let first = c.into_list-list.result.items in
    let second = c.into_list-more.result.items in
    let sorted = subst (λ (l : List Block). IsPermutation l c.sort_by_key.new.self.items) c.in_ok-append.ensures.items
    c.in_ok-sort_by_key.ensures.permutation in
    IfOk-weaker c.blocks_of.result _ _ (λ j sound w b got. joined_sound first second c.sort_by_key.new.self.items
    c.args.first.map c.args.second.map j.map sorted c.into_list-list.ensures.each c.into_list-more.ensures.each sound w
    b
    got) c.blocks_of.ensures.sound

pub returns-clause-complete : goal.returns-clause-complete
returns-clause-complete c =
    let first = c.into_list-list.result.items in
    let second = c.into_list-more.result.items in
    let sorted = subst (λ (l : List Block). IsPermutation l c.sort_by_key.new.self.items) c.in_ok-append.ensures.items
    c.in_ok-sort_by_key.ensures.permutation in
    IfOk-weaker c.blocks_of.result _ _ (λ j complete w none. joined_complete c.name_order.ensures.way_ties first second
    c.sort_by_key.new.self.items c.args.first.map c.args.second.map j.map sorted c.into_list-list.ensures.entries
    c.into_list-more.ensures.entries complete w none) c.blocks_of.ensures.complete
