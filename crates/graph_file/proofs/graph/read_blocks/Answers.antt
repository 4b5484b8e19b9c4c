use Rattle.std.proofs.Common.{◌++◌, ℕ, List, map, refl, sym, ap, ◌∙◌}
use Rattle.std.proofs.lemmas.Bool.{false≢true}
use Rattle.std.proofs.lemmas.Result.{err_from_is_err_and}
use Rattle.road_base.specs.Bytes.{u32_bytes}
use Rattle.road_model.specs.declared.blocks.Block.{Block}
use Rattle.ordered_lists.specs.Orders.{rises}
use Rattle.road_model.specs.Orders.{way_cmp}
use Rattle.road_model.specs.Format.{magic_bytes, block_bytes, is_sourced}
use Rattle.graph_file.specs.GraphReading.{list_bytes}
use Rattle.graph_file.proofs.Ascents.{named}
use Rattle.spelled_bytes.proofs.Fronts.{malformed_weaker}
use Rattle.graph_file.proofs.GraphFiles.{blocks_one, numbered, behind, in_parts}
use Rattle.graph_file.proofs.graph.read_blocks.Goals as goal

pub returns-in-None-clause-malformed : goal.returns-in-None-clause-malformed
returns-in-None-clause-malformed c = λ version profile list rest begins.
    c.in-None.ensures.none (is_sourced version)
    (u32_bytes profile ++ (list_bytes (block_bytes (is_sourced version)) list ++ rest))
    (begins.parts ∙ in_parts version profile list rest)

pub returns-in_err-profile-clause-malformed : goal.returns-in_err-profile-clause-malformed
returns-in_err-profile-clause-malformed c =
    let p = err_from_is_err_and c.from_residual.result c.from_residual.ensures.1 in
    let v = c.in-Some.front.0 in
    rw (p.1, p.2) (malformed_weaker c.in_err-profile.field-0.0
    (λ none version profile list rest begins.
    none profile (list_bytes (block_bytes (is_sourced v)) list ++ rest)
    (numbered v c.in-Some.ensures.version c.args.bytes.now c.in-Some.front.1.now c.in-Some.ensures.some version
    profile list rest begins).1)
    c.in_err-profile.ensures.malformed)

pub returns-in_err-list-clause-malformed : goal.returns-in_err-list-clause-malformed
returns-in_err-list-clause-malformed c =
    let p = err_from_is_err_and c.from_residual-in_err-list.result c.from_residual-in_err-list.ensures.1 in
    rw (p.1, p.2) (malformed_weaker c.in_err-list.field-0.0
    (λ none version profile list rest begins. none list rest
    (behind c.in-Some.front.0 c.in-Some.ensures.version c.args.bytes.now c.in-Some.front.1.now c.in_ok-profile.rest.now
    c.in_ok-profile.profile c.in-Some.ensures.some c.in_ok-profile.ensures.found version profile list rest begins).1)
    c.in_err-list.ensures.malformed)

pub returns-then-not-do_ascend-clause-malformed : goal.returns-then-not-do_ascend-clause-malformed
returns-then-not-do_ascend-clause-malformed c = λ version profile list rest begins.
    let same = blocks_one (is_sourced c.in-Some.front.0) c.in_ok-list.list.items list c.in_ok-profile.rest.now
    c.in_ok-list.rest.now rest c.in_ok-list.ensures.found
    (behind c.in-Some.front.0 c.in-Some.ensures.version c.args.bytes.now c.in-Some.front.1.now c.in_ok-profile.rest.now
    c.in_ok-profile.profile c.in-Some.ensures.some c.in_ok-profile.ensures.found version profile list rest begins).1 in
    let up = named way_cmp (λ (b : Block). b.way) c.in_ok-list.list.items c.deref.result.now c.do_ascend.result
    c.do_ascend.ensures c.deref.ensures.value in
    false≢true (sym c.if-not-do_ascend.true ∙ up ∙ ap (λ (l : List Block). rises way_cmp (map (λ b. b.way) l)) same.0
    ∙ begins.file.ascend)

pub returns-clause-found : goal.returns-clause-found
returns-clause-found c =
    let up = named way_cmp (λ (b : Block). b.way) c.in_ok-list.list.items c.deref.result.now c.do_ascend.result
    c.do_ascend.ensures c.deref.ensures.value in
    let magic : List ℕ = magic_bytes (is_sourced c.in-Some.front.0) in
    record {
      file = record {
        known_version = c.in-Some.ensures.version;
        known = c.in_ok-profile.ensures.found.fits;
        spelled = refl;
        some = c.in_ok-list.ensures.found.fits;
        ascend = sym up ∙ c.if-not-do_ascend.false;
      };
      parts = c.in-Some.ensures.some ∙ ap (λ l. magic ++ l) c.in_ok-profile.ensures.found.parts
          ∙ ap (λ l. magic ++ (u32_bytes c.in_ok-profile.profile ++ l)) c.in_ok-list.ensures.found.parts
          ∙ sym (in_parts c.in-Some.front.0 c.in_ok-profile.profile c.in_ok-list.list.items c.in_ok-list.rest.now);
    }
