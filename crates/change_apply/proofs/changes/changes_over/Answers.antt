use Rattle.std.proofs.Common.{◌≡◌, ◌++◌, ◌∷◌, [], List, Option, IsTrue, map, refl, sym, subst, ap, ◌∙◌}
use Rattle.std.proofs.Common.{append-nil, append_assoc, arith}
use Rattle.std.specs.FinMap.{find}
use Rattle.std.proofs.lemmas.List.{map-append, nil_from_length}
use Rattle.road_base.specs.declared.ids.WayId.{WayId}
use Rattle.ordered_lists.specs.Orders.{rises}
use Rattle.road_model.specs.declared.blocks.Block.{Block}
use Rattle.road_model.specs.Orders.{way_cmp}
use Rattle.layered_maps.specs.declared.change.Change.{Change}
use Rattle.layered_maps.specs.Layers.{Rise}
use Rattle.layered_maps.specs.Maps.{change_pair, over}
use Rattle.change_apply.specs.Rebuilding.{way_of, with_pieces}
use Rattle.change_apply.proofs.ChangedBlocks.{AreAmong, ArePlaced, Pairs, none_placed, rise_more, among_more}
use Rattle.change_apply.proofs.ChangedBlocks.{among_still, placed_by, placed_still, more_placed, all_placed}
use Rattle.change_apply.proofs.changes.changes_over.Goals as goal

-- the pairs of changes
abbrev pairs : List (Change WayId Block) → Pairs
pairs changes = map (change_pair way_of) changes

pushed_pairs : (changes new : List (Change WayId Block)) (change : Change WayId Block) (p : WayId × Option Block)
    → new ≡ changes ++ change ∷ [] → change_pair way_of change ≡ p → pairs new ≡ pairs changes ++ p ∷ []
pushed_pairs changes new change p grown is =
    ap pairs grown ∙ map-append (change_pair way_of) changes (change ∷ []) ∙ ap (λ q. pairs changes ++ q ∷ []) is

-- what changes leave at each way
abbrev left : List (Change WayId Block) → List (WayId × Block) → WayId → Option Block
left changes before w = find way_cmp w (over way_cmp (pairs changes) before)

abbrev at : List (WayId × Block) → WayId → Option Block
at before w = find way_cmp w before

pub loop-block-init : goal.loop-block-init
loop-block-init c =
    let none = c.in_ok-changes.ensures.items in
    record {
      all = refl;
      rising = subst (λ l. Rise way_cmp (pairs l)) (sym none) refl;
      among = subst (λ l. AreAmong [] (pairs l)) (sym none) (λ p i. absurd i);
      placed = λ before is.
          subst (λ l. ArePlaced [] (at before) (left l before)) (sym none) (none_placed (at before));
    }

pub loop-block-preserved-in-Continue-branch-2 : goal.loop-block-preserved-in-Continue-branch-2
loop-block-preserved-in-Continue-branch-2 c =
    let total = c.name_order.ensures.ways in
    let ties = c.name_order.ensures.way_ties in
    let front = c.loop-block.yielded in
    let b = c.in-Some.block in
    let rest = c.next.new.self.rest.items in
    let changes = c.loop-block.changes.items in
    let one = with_pieces b in
    let cut = c.loop-block.invariant.all ∙ ap (λ l. front ++ l) c.in-Some.ensures.steps.0 in
    let up : IsTrue (rises way_cmp (map way_of (front ++ b ∷ rest))) =
    subst (λ l. IsTrue (rises way_cmp (map way_of l))) (sym c.into_iter-block-iterator.ensures.into_iter_gives.0 ∙ cut)
    c.into_list-list.ensures.ascending in
    let among = c.loop-block.invariant.among in
    let grown = pushed_pairs changes _ _ _ c.in_ok-push.ensures.items c.in-Some-change_to.ensures.some in
    record {
      all = cut ∙ sym (append_assoc front (b ∷ []) rest);
      rising =
          subst (Rise way_cmp) (sym grown)
          (rise_more total ties front rest b (pairs changes) one up among c.loop-block.invariant.rising);
      among =
          subst (AreAmong (front ++ b ∷ [])) (sym grown)
          (among_more total ties front rest b (pairs changes) one up among);
      placed = λ before is.
          subst (λ ps. ArePlaced (front ++ b ∷ []) (at before) (λ w. find way_cmp w (over way_cmp ps before)))
          (sym grown)
          (more_placed total ties front b (at before) (left changes before)
          (λ w. find way_cmp w (over way_cmp (pairs changes ++ (b.way, one) ∷ []) before))
          (c.loop-block.invariant.placed before is)
          (placed_by total ties front rest b (pairs changes) one up among before refl));
    }

pub loop-block-preserved : goal.loop-block-preserved
loop-block-preserved c =
    let total = c.name_order.ensures.ways in
    let ties = c.name_order.ensures.way_ties in
    let front = c.loop-block.yielded in
    let b = c.in-Some.block in
    let rest = c.next.new.self.rest.items in
    let changes = c.loop-block.changes.items in
    let one = with_pieces b in
    let cut = c.loop-block.invariant.all ∙ ap (λ l. front ++ l) c.in-Some.ensures.steps.0 in
    let up : IsTrue (rises way_cmp (map way_of (front ++ b ∷ rest))) =
    subst (λ l. IsTrue (rises way_cmp (map way_of l))) (sym c.into_iter-block-iterator.ensures.into_iter_gives.0 ∙ cut)
    c.into_list-list.ensures.ascending in
    let among = c.loop-block.invariant.among in
    record {
      all = cut ∙ sym (append_assoc front (b ∷ []) rest);
      rising = c.loop-block.invariant.rising;
      among = among_still total ties front rest b (pairs changes) one up among;
      placed = λ before is.
          more_placed total ties front b (at before) (left changes before) (left changes before)
          (c.loop-block.invariant.placed before is)
          (placed_still total ties front rest b (pairs changes) one up among before
          (is b.way ∙ c.in_default.ensures.none));
    }

pub returns-clause-rising : goal.returns-clause-rising
returns-clause-rising c = c.loop-block.invariant.rising

pub returns-clause-leaves : goal.returns-clause-leaves
returns-clause-leaves c = λ before is.
    let list = c.into_list-list.result.items in
    let after = left c.loop-block.changes.items before in
    let none : c.loop-block.block-iterator.rest.items ≡ [] = nil_from_length _ (omega (
      arith,
      c.in-None.ensures.steps.0,
      c.loop-block.block-iterator.rest.ok,
    )) in
    let all : c.loop-block.yielded ≡ list =
    sym (sym c.into_iter-block-iterator.ensures.into_iter_gives.0 ∙ c.loop-block.invariant.all
    ∙ ap (λ l. c.loop-block.yielded ++ l) none ∙ append-nil c.loop-block.yielded) in
    all_placed c.name_order.ensures.ways c.name_order.ensures.way_ties c.args.fresh.map list
    c.into_list-list.ensures.entries c.into_list-list.ensures.each (at before) after
    (subst (λ (l : List Block). ArePlaced l (at before) after) all (c.loop-block.invariant.placed before is))
