use Rattle.std.proofs.Common.{◌⊎◌, inl, inr, List, Contains, get_or, pos, take, sym, subst}
use Rattle.std.proofs.lemmas.List.{take_all, take_more}
use Rattle.road_base.specs.declared.ids.WayId.{WayId}
use Rattle.ordered_lists.proofs.ListMembers.{contains_from_in, in_get}
use Rattle.road_model.specs.declared.lists.Piece.{Piece}
use Rattle.graph_blocks.specs.Lent.{map_of}
use Rattle.touched_ways.specs.Altering.{ListSameArcs}
use Rattle.change_apply.specs.Rebuilding.{pieces_at}
use Rattle.change_apply.specs.Sourcing.{IsLedFrom, ListArcTo}
use Rattle.change_apply.specs.Standing.{built_in}
use Rattle.change_apply.proofs.SourcedArcs.{AreAlike, adds_more, adds_none, more_alike, none_alike}
use Rattle.change_apply.proofs.sources.add_led.Goals as goal

pub loop-way-init : goal.loop-way-init
loop-way-init c =
    let before : WayId → List Piece = pieces_at (built_in c.args.before.now) (map_of c.args.before.now.blocks.now) in
    let after : WayId → List Piece = pieces_at (built_in c.args.after.now) (map_of c.args.after.now.blocks.now) in
    record {
      keeps = λ w has. has;
      only = adds_none c.args.led.now.items (IsLedFrom before after c.args.ways.now);
      alike = none_alike before after c.args.led.now.items;
    }

pub loop-way-preserved : goal.loop-way-preserved
loop-way-preserved c =
    let ways = c.args.ways.now in
    let i = c.loop-way.way-index in
    let way = get_or ways i (record { 0 = pos 0 }) in
    let before : WayId → List Piece = pieces_at (built_in c.args.before.now) (map_of c.args.before.now.blocks.now) in
    let after : WayId → List Piece = pieces_at (built_in c.args.after.now) (map_of c.args.after.now.blocks.now) in
    let more = c.add_either.new.led.items in
    let keeps = c.in_ok-add_either.ensures.keeps in
    let here : (w : WayId) → (Contains more w → ⊥) → ListSameArcs w (before way) (after way) =
    λ w not.
    subst (λ l. ListSameArcs w l (after way)) c.pieces-was.ensures
    (subst (λ (l : List Piece). ListSameArcs w c.pieces-was.result.now l) c.pieces-is.ensures
    (c.in_ok-add_either.ensures.alike w not)) in
    let has : Contains ways way =
    contains_from_in ways way (in_get ways i (record { 0 = pos 0 }) c.loop-way-test.true) in
    record {
      keeps = λ w has. keeps w (c.loop-way.invariant.keeps w has);
      only = adds_more c.args.led.now.items c.loop-way.led.items more (IsLedFrom before after ways)
          (λ w. ListArcTo c.pieces-was.result.now w ⊎ ListArcTo c.pieces-is.result.now w) c.loop-way.invariant.only
          c.in_ok-add_either.ensures.only
          (λ w x. (
            way,
            has,
            elim x [
              | inl was ↦ inl (subst (λ (l : List Piece). ListArcTo l w) c.pieces-was.ensures was)
              | inr now ↦ inr (subst (λ (l : List Piece). ListArcTo l w) c.pieces-is.ensures now)
            ],
          ));
      alike =
          subst (λ l. AreAlike before after l more) (sym (take_more ways i (record { 0 = pos 0 }) c.loop-way-test.true))
          (more_alike before after (take i ways) c.loop-way.led.items more way c.loop-way.invariant.alike keeps here);
    }

pub returns-clause-only : goal.returns-clause-only
returns-clause-only c = c.loop-way.invariant.only

pub returns-clause-alike : goal.returns-clause-alike
returns-clause-alike c =
    let before = pieces_at (built_in c.args.before.now) (map_of c.args.before.now.blocks.now) in
    let after = pieces_at (built_in c.args.after.now) (map_of c.args.after.now.blocks.now) in
    subst (λ (l : List WayId). AreAlike before after l c.loop-way.led.items)
    (take_all c.loop-way.way-index c.args.ways.now c.loop-way-test.false) c.loop-way.invariant.alike
