use Rattle.std.proofs.Common.{List, Contains, IsTrue, sym, subst}
use Rattle.std.proofs.lemmas.Result.{IfOk-weaker}
use Rattle.road_base.specs.declared.ids.WayId.{WayId}
use Rattle.road_model.specs.declared.lists.Piece.{Piece}
use Rattle.ordered_lists.specs.Orders.{Lists, rises}
use Rattle.ordered_lists.proofs.JoinedLists.{lists_same}
use Rattle.road_model.specs.Orders.{way_cmp}
use Rattle.graph_blocks.specs.Lent.{map_of}
use Rattle.touched_ways.specs.Altering.{HereOrBeside, MeetsOne}
use Rattle.touched_ways.proofs.WayLists.{same}
use Rattle.change_apply.specs.Rebuilding.{AreMet, pieces_at}
use Rattle.change_apply.specs.Standing.{built_in}
use Rattle.change_apply.proofs.altering.met_by.Goals as goal

pub apart_from-requires-clause-ways : goal.apart_from-requires-clause-ways
apart_from-requires-clause-ways g c = subst (λ (l : List WayId). IsTrue (rises way_cmp l))
    (same c.in_ok-meeting.meeting)
    c.in_ok-meeting.ensures.ascending

pub returns : goal.returns
returns g c =
    let N = g.M.World.objects c.args.next.now in
    let near = c.args.near.now in
    let close = c.args.close.now in
    let altered = c.in_ok-altered.altered.items in
    let meeting = c.in_ok-meeting.meeting in
    let before : WayId → List Piece = pieces_at (built_in c.args.before.now) (map_of c.args.before.now.blocks.now) in
    let after : WayId → List Piece = pieces_at (built_in c.args.after.now) (map_of c.args.after.now.blocks.now) in
    let are : Lists (λ w. w) way_cmp (HereOrBeside N (MeetsOne N altered)) meeting =
    subst (λ (l : List WayId). Lists (λ w. w) way_cmp (HereOrBeside N (MeetsOne N l)) meeting) c.as_slice.ensures.value
    c.in_ok-meeting.ensures in
    IfOk-weaker c.apart_from.result
    (Lists (λ w. w) way_cmp (λ w. Contains meeting w × (Contains near w → ⊥))) (AreMet N before after close near)
    (λ met lists. record {
      altered = altered;
      only = λ w has.
          subst (λ (l : List WayId). Contains l w) c.items.ensures (c.in_ok-altered.ensures.only w has);
      same = λ w has not.
          c.in_ok-altered.ensures.same w (subst (λ (l : List WayId). Contains l w) (sym c.items.ensures) has) not;
      exactly = lists_same (λ w. w) way_cmp (λ w. Contains meeting w × (Contains near w → ⊥))
          (λ w. HereOrBeside N (MeetsOne N altered) w × (Contains near w → ⊥)) met lists
          (λ w is. (are.sound w is.0, is.1)) (λ w is. (are.complete w is.0, is.1));
    }) c.apart_from.ensures
