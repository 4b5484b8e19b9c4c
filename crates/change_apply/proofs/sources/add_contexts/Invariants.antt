use Rattle.std.proofs.Common.{take}
use Rattle.change_apply.specs.Sourcing.{AreLedBehind, LeadBehind}
use Rattle.change_apply.proofs.SourcedArcs.{AddsOnly, Keeps}
use Rattle.change_apply.proofs.sources.add_contexts.Given as goal

-- the arcs of the contexts so far that the others lack lead by pieces of the ways
abbrev pub invariant-loop-context : goal.invariant-loop-context
invariant-loop-context l = record {
  keeps : Keeps l.fn.led.items l.led.items;
  only : AddsOnly l.fn.led.items l.led.items (LeadBehind l.contexts);
  led : AreLedBehind (take l.context-index l.contexts) l.others l.led.items;
}
