use Rattle.std.proofs.lemmas.Result.{err_from_is_err_and}
use Rattle.road_model.specs.Format.{piece_bytes}
use Rattle.graph_file.specs.GraphReading.{IsPieceAt}
use Rattle.graph_file.specs.OneSpelling.{piece_one}
use Rattle.spelled_bytes.proofs.Fronts.{malformed_weaker, item_missing, one_more_begins}
use Rattle.graph_file.proofs.road_blocks.read_pieces.Goals as goal

pub returns-in_err-item-clause-malformed : goal.returns-in_err-item-clause-malformed
returns-in_err-item-clause-malformed g c =
    let p = err_from_is_err_and c.from_residual.result c.from_residual.ensures.1 in
    rw (p.1, p.2) (malformed_weaker c.in_err-item.field-0.0
    (item_missing (piece_bytes g.G.Grammar.sourced) (IsPieceAt g.G.Grammar.sourced c.args.way)
    (piece_one g.G.Grammar.sourced c.args.way) c.args.count c.loop.counter c.args.bytes.now
    c.loop.items.items c.loop.rest.now c.loop-test.true c.loop.invariant) c.in_err-item.ensures.malformed)

pub loop-preserved : goal.loop-preserved
loop-preserved g c =
    one_more_begins (piece_bytes g.G.Grammar.sourced) (IsPieceAt g.G.Grammar.sourced c.args.way) c.loop.counter
    c.args.bytes.now c.loop.items.items
    c.push.new.self.items c.loop.rest.now c.in_ok-item.item c.in_ok-item.after.now c.loop.invariant
    c.in_ok-item.ensures.found c.in_ok-push.ensures.items
