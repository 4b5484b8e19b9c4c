use Rattle.std.proofs.Common.{[], length, sym, ap, arith, append-nil}
use Rattle.std.specs.FinMap.{values}
use Rattle.graph_file.specs.GraphReading.{BeginsFile}
use Rattle.graph_file.proofs.GraphFiles.{more_in_none}
use Rattle.graph_file.proofs.graph.Graph.read.Goals as goal

pub returns-then-rest-gt0-clause-none : goal.returns-then-rest-gt0-clause-none
returns-then-rest-gt0-clause-none c =
    let graph = c.in-Ok-Some.graph in
    let begins : BeginsFile graph.version graph.profile c.args.bytes.now (values graph.blocks.map)
    c.in-Ok-Some.rest.now = record {
      file = rw c.in-Ok-Some.field-0-is at c.in-Ok-Some.ensures.file;
      parts = rw c.in-Ok-Some.field-0-is at c.in-Ok-Some.ensures.front;
    } in
    more_in_none graph.version graph.profile c.args.bytes.now c.in-Ok-Some.rest.now (values graph.blocks.map) begins
    (λ none. omega (arith, ap length none, c.if-rest-gt0.true))

pub returns-in-Ok-None-clause-none : goal.returns-in-Ok-None-clause-none
returns-in-Ok-None-clause-none c = λ is.
    (rw c.in-Ok-None.field-0-is at c.in-Ok-None.ensures.none) c.args.bytes.now [] (sym (append-nil c.args.bytes.now)) is
