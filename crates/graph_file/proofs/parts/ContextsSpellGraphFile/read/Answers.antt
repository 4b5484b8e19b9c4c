-- Contexts that are not a piece's were read, so no others stand there.
use Rattle.std.proofs.Common.{map, IsTrue, sym, ◌∙◌}
use Rattle.std.proofs.lemmas.Bool.{false≢true}
use Rattle.ordered_lists.specs.Orders.{rises}
use Rattle.road_model.specs.Orders.{names_cmp}
use Rattle.road_model.specs.Format.{context_bytes, begins_alone}
use Rattle.graph_file.specs.GraphReading.{list_bytes, ListFits, IsContext}
use Rattle.graph_file.specs.OneSpelling.{list_one, context_one}
use Rattle.spelled_bytes.proofs.Fronts.{unfit_missing}
use Rattle.graph_file.proofs.parts.ContextsSpellGraphFile.read.Goals as goal

pub returns-then-not-are_of_a_piece-clause-malformed : goal.returns-then-not-are_of_a_piece-clause-malformed
returns-then-not-are_of_a_piece-clause-malformed g c = λ x r whole.
    let sourced = g.G.Grammar.sourced in
    let fit = rw c.deref.ensures.value at c.are_of_a_piece.ensures in
    unfit_missing (list_bytes (context_bytes sourced)) (ListFits (IsContext sourced))
    (λ cs. begins_alone cs × IsTrue (rises names_cmp (map (λ c. c.before) cs)))
    (list_one (context_bytes sourced) (IsContext sourced) (context_one sourced)) c.args.bytes.now
    c.in_ok-list.list.items c.in_ok-list.rest.now
    c.in_ok-list.ensures.found
    (λ is. false≢true (sym c.if-not-are_of_a_piece.true ∙ fit.1 is)) x r
    (record { fits = whole.fits.some; parts = whole.parts }) (whole.fits.alone, whole.fits.ascend)
