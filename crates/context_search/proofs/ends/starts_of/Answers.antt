use Rattle.std.proofs.Common.{inl, inr, sym, subst, List, Contains, take, get_or, pos}
use Rattle.std.specs.FinMap.{get}
use Rattle.std.proofs.lemmas.List.{take_more, take_all}
use Rattle.ordered_lists.proofs.ListMembers.{contains_more}
use Rattle.road_base.specs.declared.ids.WayId.{WayId}
use Rattle.road_model.specs.declared.lists.Piece.{Piece}
use Rattle.context_search.specs.Ends.{pieces_in}
use Rattle.context_search.proofs.SearchStartsOf.{are_starts}
use Rattle.graph_blocks.specs.Lent.{map_of}
use Rattle.context_search.proofs.ends.starts_of.Goals as goal

abbrev no_way : WayId
no_way = record { 0 = pos 0 }

pub loop-way-preserved : goal.loop-way-preserved
loop-way-preserved g c =
    let ways = c.ways_at-way-items.result.now in
    let k = c.loop-way.way-index in
    let w = get_or ways k no_way in
    let old = c.loop-way.invariant in
    let more = c.in_ok-add_starts.ensures in
    record {
      sound = λ s h. elim (more.new s h) [
        | inl before ↦ old.sound s before
        | inr now ↦ (w, subst (λ (l : List Piece). Contains l s.piece.now) c.pieces_of.ensures now.0, now.1)
      ];
      complete = λ v e i has there l. elim (contains_more (take k ways) w v
          (subst (λ (xs : List WayId). Contains xs v) (take_more ways k no_way c.loop-way-test.true) has)) [
            | inl before ↦ let r = old.complete v e i before there l in (r.0, more.stays r.0 r.1, r.2, r.3)
            | inr same ↦ more.all e i
                (subst (λ (xs : List Piece). Contains xs e) (sym c.pieces_of.ensures)
                (subst (λ (z : WayId). Contains (pieces_in (get (map_of c.args.blocks.now) z)) e) same there)) l
          ];
    }

pub returns : goal.returns
returns g c =
    let M = g.M.World.objects c.args.network.now.world.now in
    let P = g.P.Profile.rules c.args.network.now.profile in
    let ways = c.ways_at-way-items.result.now in
    let inv = c.loop-way.invariant in
    are_starts M P (c.one_name.ensures.pieces M) (c.has_block.ensures M)
    (map_of c.args.blocks.now) c.requires c.args.node ways c.loop-way.starts.items c.ways_at-way-items.ensures.complete
    (c.roads_refer.ensures.left M) inv.sound
    (λ w e i h. inv.complete w e i (subst (λ (xs : List WayId). Contains xs w)
    (sym (take_all c.loop-way.way-index ways c.loop-way-test.false)) h))
