use Rattle.std.proofs.Common.{sym, subst}
use Rattle.std.specs.List.{AllByRecursion}
use Rattle.road_model.specs.Format.{IsBlockForm, is_sourced, graph_bytes}
use Rattle.graph_file.specs.GraphReading.{IsFile, IsBareBlock, IsOfItsWay}
use Rattle.graph_file.specs.LookUps.{AreOrdered}
use Rattle.graph_file.proofs.LookUps.{are_ordered}
use Rattle.graph_file.proofs.GraphFiles.{forms, ways, bare_blocks, grammar, none_in_front}
use Rattle.graph_file.proofs.graph.Graph.read_front.Goals as goal

pub returns-in_ok-blocks-in-Ok-clause-forms : goal.returns-in_ok-blocks-in-Ok-clause-forms
returns-in_ok-blocks-in-Ok-clause-forms c =
    subst (AllByRecursion (IsBlockForm (is_sourced c.in-Ok.version))) (sym c.in_ok-blocks-in-Ok.ensures)
    (forms (is_sourced c.in-Ok.version) c.in-Ok.list.items c.in-Ok.ensures.found.file.some.1)

pub returns-in_ok-blocks-in-Ok-clause-bare : goal.returns-in_ok-blocks-in-Ok-clause-bare
returns-in_ok-blocks-in-Ok-clause-bare c = λ one.
    subst (AllByRecursion IsBareBlock) (sym c.in_ok-blocks-in-Ok.ensures)
    (bare_blocks c.in-Ok.version c.in-Ok.list.items c.in-Ok.ensures.found.file.some.1 one)

pub returns-in_ok-blocks-in-Ok-clause-ways : goal.returns-in_ok-blocks-in-Ok-clause-ways
returns-in_ok-blocks-in-Ok-clause-ways c =
    subst (AllByRecursion IsOfItsWay) (sym c.in_ok-blocks-in-Ok.ensures)
    (ways (is_sourced c.in-Ok.version) c.in-Ok.list.items c.in-Ok.ensures.found.file.some.1)

pub returns-in_ok-blocks-in-Ok-clause-file : goal.returns-in_ok-blocks-in-Ok-clause-file
returns-in_ok-blocks-in-Ok-clause-file c =
    subst (λ bs. IsFile c.in-Ok.version c.in-Ok.profile (graph_bytes c.in-Ok.version c.in-Ok.profile bs) bs)
    (sym c.in_ok-blocks-in-Ok.ensures) c.in-Ok.ensures.found.file

pub returns-in_ok-blocks-in-Ok-clause-grammar : goal.returns-in_ok-blocks-in-Ok-clause-grammar
returns-in_ok-blocks-in-Ok-clause-grammar c =
    let file = returns-in_ok-blocks-in-Ok-clause-file c in
    grammar c.in-Ok.version c.in-Ok.profile _ _ file

pub returns-in-Err-Malformed-clause-none : goal.returns-in-Err-Malformed-clause-none
returns-in-Err-Malformed-clause-none c =
    none_in_front c.args.bytes.now (rw c.in-Err-Malformed.field-0-is at c.in-Err-Malformed.ensures.malformed)

pub invariant_of-graph : goal.invariant_of-graph
invariant_of-graph c = record {
  ordered = subst AreOrdered (sym c.in_ok-blocks-in-Ok.ensures)
      (are_ordered (is_sourced c.in-Ok.version) c.in-Ok.list.items c.in-Ok.ensures.found.file.some.1);
}
