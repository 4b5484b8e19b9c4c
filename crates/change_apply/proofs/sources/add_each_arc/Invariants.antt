use Rattle.std.proofs.Common.{take}
use Rattle.change_apply.specs.Sourcing.{AreArcsLed, LeadTo}
use Rattle.change_apply.proofs.SourcedArcs.{AddsOnly, Keeps}
use Rattle.change_apply.proofs.sources.add_each_arc.Given as goal

-- the arcs so far that aren't among the others lead by pieces of the ways
abbrev pub invariant-loop-arc : goal.invariant-loop-arc
invariant-loop-arc l = record {
  keeps : Keeps l.fn.led.items l.led.items;
  only : AddsOnly l.fn.led.items l.led.items (LeadTo l.arcs);
  led : AreArcsLed (take l.arc-index l.arcs) l.others l.led.items;
}
