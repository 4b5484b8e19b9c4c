use Rattle.std.proofs.Common.{ap, ◌∙◌}
use Rattle.graph_blocks.specs.Lent.{map_of}
use Rattle.session_replies.specs.Texts.{state_line}
use Rattle.session_replies.proofs.queries.state_reply.Goals as goal

pub returns : goal.returns
returns g c = record {
  blocks = map_of c.blocks-2.result.now;
  are = c.blocks-2.ensures.blocks;
  spelled =
      c.line_alone.ensures ∙ c.in_ok-state.ensures ∙ ap (λ t. state_line c.args.kept.0 t) c.counts-totals.ensures;
}
