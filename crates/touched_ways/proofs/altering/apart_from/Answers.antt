use Rattle.std.proofs.Common.{◌+◌, ◌∙◌, List, take, take_all, sym, ap, subst, IsTrue}
use Rattle.std.proofs.lemmas.List.{take_more}
use Rattle.road_base.specs.declared.ids.WayId.{WayId}
use Rattle.ordered_lists.specs.Orders.{rises}
use Rattle.ordered_lists.proofs.RisingLists.{take_rises}
use Rattle.road_model.specs.Orders.{way_cmp}
use Rattle.touched_ways.proofs.NearLists.{AreApart, apart_none, apart_more, apart_same}
use Rattle.touched_ways.proofs.altering.apart_from.Goals as goal
use Rattle.touched_ways.proofs.altering.apart_from.Goals.{then-not-is_among_next+in_ok-push, else-not-is_among_next}

pub loop-way-init : goal.loop-way-init
loop-way-init c =
    apart_none c.args.others.now c.new-apart.result.items c.new-apart.ensures.items

pub loop-way-preserved : goal.loop-way-preserved
loop-way-preserved c =
    let total = c.name_order.ensures.ways in
    let others = c.args.others.now in
    let all = c.items-way-items.result.now in
    let i = c.loop-way.way-index in
    let apart = c.loop-way.apart.items in
    let longer = take_more all i _ c.loop-way-test.true in
    let rising : IsTrue (rises way_cmp all) =
    subst (λ (l : List WayId). IsTrue (rises way_cmp l)) (sym c.items-way-items.ensures) c.requires.ways in
    let up = take_rises way_cmp (i + 1) all rising in
    elim c.if-not-is_among_next.branch [
      | then-not-is_among_next+in_ok-push w ↦
          apart_more others total (take i all) (take (i + 1) all) apart _ longer up c.loop-way.invariant
          (λ has. let is = c.is_among_next.ensures.1 has in let no = w.if-not-is_among_next.true in cc)
          w.push.new.self.items c.if-not-is_among_next.apart.items w.in_ok-push.ensures.items
          (ap (λ v. v.items) w.apart-is)
      | else-not-is_among_next w ↦
          apart_same others total (take i all) (take (i + 1) all) apart _ longer up c.loop-way.invariant
          (c.is_among_next.ensures.0 w.if-not-is_among_next.false) c.if-not-is_among_next.apart.items
          (ap (λ v. v.items) w.apart-is)
    ]

pub returns : goal.returns
returns c =
    let others = c.args.others.now in
    let apart = c.loop-way.apart.items in
    let all = take_all c.loop-way.way-index c.items-way-items.result.now c.loop-way-test.false
    ∙ c.items-way-items.ensures in
    subst (AreApart others c.args.ways.now) (sym c.from_list.ensures)
    (subst (λ (l : List WayId). AreApart others l apart) all c.loop-way.invariant)
