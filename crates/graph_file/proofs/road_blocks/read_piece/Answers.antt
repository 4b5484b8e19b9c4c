use Rattle.std.proofs.Common.{◌+◌, ◌-◌, sym, subst}
use Rattle.road_base.specs.Bytes.{joined}
use Rattle.road_model.specs.Format.{place_bytes}
use Rattle.spelled_bytes.specs.Spelling.{AreSoMany}
use Rattle.spelled_bytes.specs.Reading.{Begins}
use Rattle.graph_file.specs.GraphReading.{PlaceFits}
use Rattle.std.proofs.lemmas.Result.{err_from_is_err_and}
use Rattle.spelled_bytes.proofs.Fronts.{malformed_weaker}
use Rattle.graph_file.proofs.PieceParts.{no_extent, no_places, no_contexts, whole_piece}
use Rattle.graph_file.proofs.road_blocks.read_piece.Goals as goal

pub returns-in_err-extent-clause-malformed : goal.returns-in_err-extent-clause-malformed
returns-in_err-extent-clause-malformed g c =
    let p = err_from_is_err_and c.from_residual.result c.from_residual.ensures.1 in
    rw (p.1, p.2) (malformed_weaker c.in_err-extent.field-0.0
    (no_extent g.G.Grammar.sourced c.args.way c.args.bytes.now)
    c.in_err-extent.ensures.malformed)

pub returns-in_err-places-clause-malformed : goal.returns-in_err-places-clause-malformed
returns-in_err-places-clause-malformed g c =
    let p = err_from_is_err_and c.from_residual-in_err-places.result c.from_residual-in_err-places.ensures.1 in
    rw (p.1, p.2) (malformed_weaker c.in_err-places.field-0.0
    (no_places g.G.Grammar.sourced c.args.way c.args.bytes.now c.in_ok-extent.extent c.in_ok-extent.rest.now
    c.in_ok-extent.ensures.found)
    c.in_err-places.ensures.malformed)

pub returns-in_err-contexts-clause-malformed : goal.returns-in_err-contexts-clause-malformed
returns-in_err-contexts-clause-malformed g c =
    let p = err_from_is_err_and c.from_residual-in_err-contexts.result c.from_residual-in_err-contexts.ensures.1 in
    rw (p.1, p.2) (malformed_weaker c.in_err-contexts.field-0.0
    (no_contexts g.G.Grammar.sourced c.args.way c.args.bytes.now c.in_ok-extent.extent c.in_ok-extent.rest.now
    c.in_ok-extent.ensures.found
    c.in_ok-places.places.items c.in_ok-places.rest.now c.in_ok-places.ensures.found)
    c.in_err-contexts.ensures.malformed)

pub returns-clause-found : goal.returns-clause-found
returns-clause-found g c =
    let e = c.in_ok-extent.extent in
    whole_piece g.G.Grammar.sourced (record {
      name = record { way = c.args.way; index = e.index; dir = e.dir };
      end = e.end;
      zone = e.zone;
      places = c.from_list.result;
      contexts = c.in_ok-contexts.contexts;
    }) c.args.bytes.now c.in_ok-extent.rest.now c.in_ok-places.rest.now c.in_ok-contexts.rest.now
    c.in_ok-extent.ensures.found
    (subst (λ l. Begins (joined place_bytes) (AreSoMany PlaceFits (e.end - e.index + 1)) c.in_ok-extent.rest.now l
    c.in_ok-places.rest.now) (sym c.from_list.ensures) c.in_ok-places.ensures.found) c.in_ok-contexts.ensures.found
