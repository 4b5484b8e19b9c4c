-- With each way its line is put, and the lines of the ways before stay.
use Rattle.std.proofs.Common.{inl, inr, sym, subst, List, Contains, take, get_or, pos}
use Rattle.std.proofs.lemmas.List.{take_more, take_all}
use Rattle.ordered_lists.proofs.ListMembers.{contains_more}
use Rattle.road_base.specs.declared.ids.WayId.{WayId}
use Rattle.drive_judging.proofs.DriveLines.{line_put}
use Rattle.drive_judging.proofs.drive_lines.lines_of.Goals as goal

abbrev no_way : WayId
no_way = record { 0 = pos 0 }

pub loop-way-preserved : goal.loop-way-preserved
loop-way-preserved g c v has =
    let M = g.M.World.objects c.args.world.now in
    let ways = c.args.ways.now in
    let k = c.loop-way.way-index in
    let w = get_or ways k no_way in
    let o = c.name_order.ensures in
    let cases = contains_more (take k ways) w v
    (subst (λ (l : List WayId). Contains l v) (take_more ways k no_way c.loop-way-test.true) has) in
    line_put M o.ways o.way_ties c.loop-way.lines c.insert.new.self w c.in_ok-line_of.field-0
    c.in_ok-insert.ensures.updates c.in_ok-line_of.ensures v
    (elim cases [ inl before ↦ inl (c.loop-way.invariant v before) | inr same ↦ inr same ])

pub returns : goal.returns
returns g c v has = c.loop-way.invariant v (subst (λ (l : List WayId). Contains l v)
    (sym (take_all c.loop-way.way-index c.args.ways.now c.loop-way-test.false)) has)
