use Rattle.std.proofs.Common.{◌≡◌, get_or, pos, take, sym, subst}
use Rattle.std.proofs.lemmas.List.{take_all, take_more}
use Rattle.road_base.specs.declared.ids.Dir.TheVariants.{Forward}
use Rattle.road_model.specs.declared.lists.TurnArc.{TurnArc}
use Rattle.ordered_lists.proofs.ListMembers.{contains_from_in, in_get}
use Rattle.change_apply.specs.Sourcing.{AreArcsLed, LeadTo}
use Rattle.change_apply.proofs.SourcedArcs.{adds_more, adds_none, more_arcs, no_arcs}
use Rattle.change_apply.proofs.sources.add_each_arc.Goals as goal

pub loop-arc-init : goal.loop-arc-init
loop-arc-init c = record {
  keeps = λ w has. has;
  only = adds_none c.args.led.now.items (LeadTo c.args.arcs.now);
  led = no_arcs c.args.others.now c.args.led.now.items;
}

pub loop-arc-preserved : goal.loop-arc-preserved
loop-arc-preserved c =
    let arcs = c.args.arcs.now in
    let others = c.args.others.now in
    let i = c.loop-arc.arc-index in
    let more = c.add_unless_at.new.led.items in
    let keeps = c.in_ok-add_unless_at.ensures.keeps in
    let none : TurnArc = record
    { piece = record { way = record { 0 = pos 0 }; index = 0; dir = Forward }; length = 0 } in
    let arc = get_or arcs i none in
    record {
      keeps = λ w has. keeps w (c.loop-arc.invariant.keeps w has);
      only = adds_more c.args.led.now.items c.loop-arc.led.items more (LeadTo arcs) (λ w. arc.piece.way ≡ w)
          c.loop-arc.invariant.only c.in_ok-add_unless_at.ensures.only
          (λ w of. (arc, contains_from_in arcs arc (in_get arcs i none c.loop-arc-test.true), of));
      led =
          subst (λ l. AreArcsLed l others more) (sym (take_more arcs i _ c.loop-arc-test.true))
          (more_arcs (take i arcs) others c.loop-arc.led.items more _ c.loop-arc.invariant.led keeps
          c.in_ok-add_unless_at.ensures.adds);
    }

pub returns-clause-only : goal.returns-clause-only
returns-clause-only c = c.loop-arc.invariant.only

pub returns-clause-led : goal.returns-clause-led
returns-clause-led c =
    subst (λ l. AreArcsLed l c.args.others.now c.loop-arc.led.items)
    (take_all c.loop-arc.arc-index c.args.arcs.now c.loop-arc-test.false) c.loop-arc.invariant.led
