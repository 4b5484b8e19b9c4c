use Rattle.std.proofs.Common.{◌≡◌, ℤ, ℕ, Bool, List, FitsSigned, sym, subst, ◌∙◌}
use Rattle.std.specs.Int.{w64, cast_signed, cast_unsigned}
use Rattle.std.proofs.lemmas.Int.{to_z-of_z}
use Rattle.road_base.specs.Bytes.{joined}
use Rattle.road_model.specs.declared.lists.Piece.{Piece}
use Rattle.road_model.specs.Format.{piece_bytes, block_bytes}
use Rattle.spelled_bytes.specs.declared.unread.Unread.{Unread}
use Rattle.spelled_bytes.specs.Spelling.{AreSoMany}
use Rattle.spelled_bytes.specs.Reading.{Begins, NoneBegins, IfMalformed}
use Rattle.graph_file.specs.GraphReading.{IsPieceAt, IsWayBlock}
use Rattle.std.proofs.lemmas.Bool.{false≢true}
use Rattle.std.proofs.lemmas.Result.{err_from_is_err_and}
use Rattle.spelled_bytes.proofs.Fronts.{malformed_weaker}
use Rattle.graph_file.proofs.PieceParts.{no_head, no_pieces, unfit_pieces, whole_block}
use Rattle.graph_file.proofs.road_blocks.BlockSpellGraphFile.read.Goals as goal

-- the way's number, as it is passed on
passed : (w : ℤ) → FitsSigned w64 w → cast_signed w64 (cast_unsigned w64 w) ≡ w
passed w fits = to_z-of_z w64 w fits

abbrev ReadAt : Bool → ℕ → List ℕ → List Piece → List ℕ → ℤ → Type 0
ReadAt sourced n mid ps rest w = Begins (joined (piece_bytes sourced))
    (AreSoMany (IsPieceAt sourced (record { 0 = w })) n) mid ps rest

abbrev MissingAt : Bool → Unread → ℕ → List ℕ → ℤ → Type 0
MissingAt sourced e n mid w = IfMalformed e
    (NoneBegins (joined (piece_bytes sourced)) (AreSoMany (IsPieceAt sourced (record { 0 = w })) n) mid)

abbrev BlockAt : Bool → List ℕ → List ℕ → ℤ × List Piece → Type 0
BlockAt sourced bytes rest x = Begins (block_bytes sourced) (IsWayBlock sourced) bytes
    (record { way = record { 0 = x.0 }; pieces = x.1 }) rest

pub returns-in_err-number-clause-malformed : goal.returns-in_err-number-clause-malformed
returns-in_err-number-clause-malformed g c =
    let p = err_from_is_err_and c.from_residual.result c.from_residual.ensures.1 in
    rw (p.1, p.2) (malformed_weaker c.in_err-number.field-0.0 (no_head g.G.Grammar.sourced c.args.bytes.now)
    c.in_err-number.ensures.malformed)

pub returns-in_err-list-clause-malformed : goal.returns-in_err-list-clause-malformed
returns-in_err-list-clause-malformed g c =
    let p = err_from_is_err_and c.from_residual-in_err-list.result c.from_residual-in_err-list.ensures.1 in
    rw (p.1, p.2) (malformed_weaker c.in_err-list.field-0.0
    (no_pieces g.G.Grammar.sourced c.args.bytes.now c.in_ok-number.number c.in_ok-number.count c.in_ok-number.rest.now
    c.in_ok-number.ensures.found)
    (subst (MissingAt g.G.Grammar.sourced c.in_err-list.field-0.0 c.in_ok-number.count c.in_ok-number.rest.now)
    (passed c.in_ok-number.number c.in_ok-number.ensures.found.fits.0) c.in_err-list.ensures.malformed))

pub returns-then-not-are_of_a_way-clause-malformed : goal.returns-then-not-are_of_a_way-clause-malformed
returns-then-not-are_of_a_way-clause-malformed g c =
    let fit = rw c.deref.ensures.value at c.are_of_a_way.ensures in
    unfit_pieces g.G.Grammar.sourced c.args.bytes.now c.in_ok-number.number c.in_ok-number.count c.in_ok-number.rest.now
    c.in_ok-number.ensures.found c.in_ok-list.list.items c.in_ok-list.rest.now
    (subst (ReadAt g.G.Grammar.sourced c.in_ok-number.count c.in_ok-number.rest.now c.in_ok-list.list.items
    c.in_ok-list.rest.now)
    (passed c.in_ok-number.number c.in_ok-number.ensures.found.fits.0) c.in_ok-list.ensures.found)
    (λ is. false≢true (sym c.if-not-are_of_a_way.true ∙ fit.1 is))

pub returns-clause-found : goal.returns-clause-found
returns-clause-found g c =
    let fit = rw c.deref.ensures.value at c.are_of_a_way.ensures in
    subst (BlockAt g.G.Grammar.sourced c.args.bytes.now c.in_ok-list.rest.now)
    (λ i. (sym (passed c.in_ok-number.number c.in_ok-number.ensures.found.fits.0) i, sym c.from_list-pieces.ensures i))
    (whole_block g.G.Grammar.sourced c.args.bytes.now c.in_ok-number.number c.in_ok-number.count c.in_ok-number.rest.now
    c.in_ok-number.ensures.found c.in_ok-list.list.items c.in_ok-list.rest.now
    (subst (ReadAt g.G.Grammar.sourced c.in_ok-number.count c.in_ok-number.rest.now c.in_ok-list.list.items
    c.in_ok-list.rest.now)
    (passed c.in_ok-number.number c.in_ok-number.ensures.found.fits.0) c.in_ok-list.ensures.found)
    (fit.0 c.if-not-are_of_a_way.false))
