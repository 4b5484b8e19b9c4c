-- In its direction the last step stands at one of the span's ends.
use Rattle.road_base.specs.declared.ids.Dir.TheVariants.{Forward, Backward}
use Rattle.way_pieces.specs.Names.{piece_of}
use Rattle.expanded_graph.proofs.LastSteps.{last_in}
use Rattle.expanded_graph.proofs.last_steps.last_step.Goals as goal

pub returns-in-Forward : goal.returns-in-Forward
returns-in-Forward c = last_in Forward (piece_of c.args.span) c.requires c.in-Forward.is

pub returns-in-Backward : goal.returns-in-Backward
returns-in-Backward c = last_in Backward (piece_of c.args.span) c.requires c.in-Backward.is
