-- A context stands where its three lists stand.
use Rattle.std.proofs.Common.{◌∙◌, sym}
use Rattle.std.proofs.lemmas.Bool.{false≢true}
use Rattle.std.proofs.lemmas.Result.{err_from_is_err_and}
use Rattle.road_model.specs.declared.lists.Context.{Context}
use Rattle.spelled_bytes.proofs.Fronts.{malformed_weaker}
use Rattle.graph_file.specs.OneSpelling.{ContextLists, lists_of, context_lists}
use Rattle.graph_file.proofs.ContextParts.{renamed, unfit_lists, whole_context}
use Rattle.graph_file.proofs.parts.ContextSpellGraphFile.read.Goals as goal

pub returns-in_err-front-clause-malformed : goal.returns-in_err-front-clause-malformed
returns-in_err-front-clause-malformed g c =
    let p = err_from_is_err_and c.from_residual.result c.from_residual.ensures.1 in
    rw (p.1, p.2) (malformed_weaker c.in_err-front.field-0.0
    (λ none (x : Context) r whole. let parts = context_lists g.G.Grammar.sourced x c.args.bytes.now r whole in
    none (lists_of x) r (record { fits = parts.fits; parts = parts.parts })) c.in_err-front.ensures.malformed)

pub returns-then-not-are_of_a_context-clause-malformed : goal.returns-then-not-are_of_a_context-clause-malformed
returns-then-not-are_of_a_context-clause-malformed g c =
    let read = c.in_ok-front.ensures.found in
    let lists : ContextLists = (c.into_names-before.result, (c.in_ok-front.arcs, c.in_ok-front.sources)) in
    unfit_lists g.G.Grammar.sourced c.args.bytes.now lists c.in_ok-front.rest.now
    (renamed g.G.Grammar.sourced c.args.bytes.now c.in_ok-front.front c.into_names-before.result c.in_ok-front.arcs
    c.in_ok-front.sources c.in_ok-front.rest.now (record { fits = read.fits; parts = read.parts })
    c.into_names-before.ensures)
    (λ is. false≢true (sym c.if-not-are_of_a_context.true ∙ c.are_of_a_context.ensures.1 is))

pub returns-clause-found : goal.returns-clause-found
returns-clause-found g c =
    let read = c.in_ok-front.ensures.found in
    let fit = c.are_of_a_context.ensures.0 c.if-not-are_of_a_context.false in
    whole_context g.G.Grammar.sourced
    (record { before = c.into_names-before.result; arcs = c.in_ok-front.arcs; sources = c.in_ok-front.sources })
    c.args.bytes.now c.in_ok-front.rest.now
    (renamed g.G.Grammar.sourced c.args.bytes.now c.in_ok-front.front c.into_names-before.result c.in_ok-front.arcs
    c.in_ok-front.sources c.in_ok-front.rest.now (record { fits = read.fits; parts = read.parts })
    c.into_names-before.ensures) fit.0 fit.1
