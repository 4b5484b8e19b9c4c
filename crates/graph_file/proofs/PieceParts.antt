-- Pieces and blocks, part by part.
use Rattle.std.proofs.Common.{◌≡◌, ℕ, ℤ, ◌+◌, ◌-◌, ◌<◌, ◌^◌, List, [], ◌∷◌, ◌++◌, length, map, IsTrue, FitsSigned, refl}
use Rattle.std.proofs.Common.{Bool, true, false, sym, ap, subst, ◌∙◌, append_assoc}
use Rattle.std.specs.Int.{w64}
use Rattle.std.specs.List.{AllByRecursion}
use Rattle.road_base.specs.Bytes.{u32_bytes, i64_bytes, joined}
use Rattle.road_base.specs.declared.ids.WayId.{WayId}
use Rattle.road_model.specs.declared.lists.Place.{Place}
use Rattle.road_model.specs.declared.lists.Context.{Context}
use Rattle.road_model.specs.declared.lists.Piece.{Piece}
use Rattle.road_model.specs.declared.blocks.Block.{Block}
use Rattle.ordered_lists.specs.Orders.{rises}
use Rattle.road_model.specs.Format.{dir_bytes, mark_bytes, place_bytes, context_bytes, piece_bytes, block_bytes}
use Rattle.road_model.specs.Format.{place_cmp, IsContextForm, ContextFits}
use Rattle.graph_file.specs.declared.extent.Extent.{Extent}
use Rattle.spelled_bytes.specs.Spelling.{pair_bytes, PairFits, AreSoMany}
use Rattle.spelled_bytes.specs.Reading.{Begins, NoneBegins}
use Rattle.spelled_bytes.specs.OneSpelling.{joined_one, pair_one, i64_one, u32_one}
use Rattle.graph_file.specs.GraphReading.{PlaceFits, list_bytes, IsContext, AreContexts, extent_bytes, IsExtent}
use Rattle.graph_file.specs.GraphReading.{MarkFits, Unless, IsBareContext, IsBarePiece, IsPieceAt, IsWayBlock}
use Rattle.graph_file.specs.OneSpelling.{extent_of, extent_one, piece_parts, piece_split, piece_one, place_one, three}

-- ---- pieces

pub no_extent : (sourced : Bool) (way : WayId) (bytes : List ℕ)
    → NoneBegins (extent_bytes sourced) (IsExtent sourced) bytes
    → NoneBegins (piece_bytes sourced) (IsPieceAt sourced way) bytes
no_extent sourced way bytes none p r whole =
    none (extent_of p) (joined place_bytes p.places ++ (list_bytes (context_bytes sourced) p.contexts ++ r))
    (piece_parts sourced way p bytes r whole).extent

behind_extent : (sourced : Bool) (way : WayId) (bytes : List ℕ) (e : Extent) (rest : List ℕ)
    → Begins (extent_bytes sourced) (IsExtent sourced) bytes e rest
    → (p : Piece) (r : List ℕ) → Begins (piece_bytes sourced) (IsPieceAt sourced way) bytes p r
    → Begins (joined place_bytes) (AreSoMany PlaceFits (e.end - e.index + 1)) rest p.places
    (list_bytes (context_bytes sourced) p.contexts ++ r)
behind_extent sourced way bytes e rest found p r whole =
    let parts = piece_parts sourced way p bytes r whole in
    let same = extent_one sourced e (extent_of p) bytes rest
    (joined place_bytes p.places ++ (list_bytes (context_bytes sourced) p.contexts ++ r)) found parts.extent in
    record {
      fits = (parts.places.0 ∙ ap (λ (x : Extent). x.end - x.index + 1) (sym same.0), parts.places.1);
      parts = same.1;
    }

pub no_places : (sourced : Bool) (way : WayId) (bytes : List ℕ) (e : Extent) (rest : List ℕ)
    → Begins (extent_bytes sourced) (IsExtent sourced) bytes e rest
    → NoneBegins (joined place_bytes) (AreSoMany PlaceFits (e.end - e.index + 1)) rest
    → NoneBegins (piece_bytes sourced) (IsPieceAt sourced way) bytes
no_places sourced way bytes e rest found none p r whole =
    none p.places (list_bytes (context_bytes sourced) p.contexts ++ r)
    (behind_extent sourced way bytes e rest found p r whole)

pub no_contexts : (sourced : Bool) (way : WayId) (bytes : List ℕ) (e : Extent) (mid : List ℕ)
    → Begins (extent_bytes sourced) (IsExtent sourced) bytes e mid
    → (places : List Place) (rest : List ℕ)
    → Begins (joined place_bytes) (AreSoMany PlaceFits (e.end - e.index + 1)) mid places rest
    → NoneBegins (list_bytes (context_bytes sourced)) (AreContexts sourced) rest
    → NoneBegins (piece_bytes sourced) (IsPieceAt sourced way) bytes
no_contexts sourced way bytes e mid found places rest seen none p r whole =
    let behind = behind_extent sourced way bytes e mid found p r whole in
    let same = joined_one place_bytes PlaceFits place_one places p.places rest
    (list_bytes (context_bytes sourced) p.contexts ++ r)
    (seen.fits.0 ∙ sym behind.fits.0) seen.fits.1 behind.fits.1 (sym seen.parts ∙ behind.parts) in
    none p.contexts r (record { fits = (piece_parts sourced way p bytes r whole).contexts; parts = same.1 })

forms_of : (sourced : Bool) (cs : List Context) → AllByRecursion (IsContext sourced) cs
    → AllByRecursion (IsContextForm sourced) cs
forms_of sourced [] all = tt
forms_of sourced (c ∷ cs) all = (all.0.form, forms_of sourced cs all.1)

fits_of : (sourced : Bool) (cs : List Context) → AllByRecursion (IsContext sourced) cs
    → AllByRecursion (ContextFits sourced) cs
fits_of sourced [] all = tt
fits_of sourced (c ∷ cs) all = (all.0.fits, fits_of sourced cs all.1)

bare_of : (cs : List Context) → AllByRecursion (IsContext false) cs → AllByRecursion IsBareContext cs
bare_of [] all = tt
bare_of (c ∷ cs) all = (all.0.bare, bare_of cs all.1)

bare_piece : (sourced : Bool) (p : Piece) → MarkFits sourced p.zone → AllByRecursion (IsContext sourced) p.contexts
    → Unless sourced (IsBarePiece p)
bare_piece false p mark all = record { unmarked = mark; contexts = bare_of p.contexts all }
bare_piece true p mark all = tt

-- the parts of a piece, one behind the other
pub whole_piece : (sourced : Bool) (p : Piece) (bytes mid rest r : List ℕ)
    → Begins (extent_bytes sourced) (IsExtent sourced) bytes (extent_of p) mid
    → Begins (joined place_bytes) (AreSoMany PlaceFits (p.end - p.name.index + 1)) mid p.places rest
    → Begins (list_bytes (context_bytes sourced)) (AreContexts sourced) rest p.contexts r
    → Begins (piece_bytes sourced) (IsPieceAt sourced p.name.way) bytes p r
whole_piece sourced p bytes mid rest r extent places contexts = record {
  fits = record {
    way_is = refl;
    form = record {
      ascends = extent.fits.ascends;
      bounded = extent.fits.bounded;
      place_count = places.fits.0;
      first_alone = contexts.fits.alone;
      contexts_ascend = contexts.fits.ascend;
      contexts = forms_of sourced p.contexts contexts.fits.some.1;
    };
    fits = record {
      places = places.fits.1;
      contexts = fits_of sourced p.contexts contexts.fits.some.1;
      context_count = contexts.fits.some.0;
    };
    bare = bare_piece sourced p extent.fits.mark contexts.fits.some.1;
  };
  parts = extent.parts
      ∙ ap (λ l. extent_bytes sourced (extent_of p) ++ l)
      (places.parts ∙ ap (λ l. joined place_bytes p.places ++ l) contexts.parts)
      ∙ sym (piece_split (u32_bytes p.name.index) (u32_bytes p.end) (dir_bytes p.name.dir) (mark_bytes sourced p.zone)
      (joined place_bytes p.places) (list_bytes (context_bytes sourced) p.contexts) r);
}

-- ---- blocks

-- the way, and how many pieces there are
abbrev pub HeadFits : ℤ × ℕ → Type 0
HeadFits = PairFits (FitsSigned w64) (λ n. n < 2 ^ 32)

pub block_head : (sourced : Bool) (bytes : List ℕ) (b : Block) (r : List ℕ)
    → Begins (block_bytes sourced) (IsWayBlock sourced) bytes b r
    → Begins (pair_bytes i64_bytes u32_bytes) HeadFits bytes (b.way.0, length b.pieces)
    (joined (piece_bytes sourced) b.pieces ++ r)
block_head sourced bytes b r whole = record {
  fits = (whole.fits.way, whole.fits.count);
  parts = whole.parts ∙ three (i64_bytes b.way.0) (u32_bytes (length b.pieces))
      (joined (piece_bytes sourced) b.pieces) r
      ∙ sym (append_assoc (i64_bytes b.way.0) (u32_bytes (length b.pieces))
      (joined (piece_bytes sourced) b.pieces ++ r));
}

pub no_head : (sourced : Bool) (bytes : List ℕ) → NoneBegins (pair_bytes i64_bytes u32_bytes) HeadFits bytes
    → NoneBegins (block_bytes sourced) (IsWayBlock sourced) bytes
no_head sourced bytes none b r whole =
    none (b.way.0, length b.pieces) (joined (piece_bytes sourced) b.pieces ++ r) (block_head sourced bytes b r whole)

behind_head : (sourced : Bool) (bytes : List ℕ) (w : ℤ) (n : ℕ) (rest : List ℕ)
    → Begins (pair_bytes i64_bytes u32_bytes) HeadFits bytes (w, n) rest
    → (b : Block) (r : List ℕ) → Begins (block_bytes sourced) (IsWayBlock sourced) bytes b r
    → Begins (joined (piece_bytes sourced)) (AreSoMany (IsPieceAt sourced (record { 0 = w })) n) rest b.pieces r
behind_head sourced bytes w n rest found b r whole =
    let same = pair_one i64_bytes (FitsSigned w64) u32_bytes (λ n. n < 2 ^ 32) i64_one u32_one (w, n)
    (b.way.0, length b.pieces) bytes rest (joined (piece_bytes sourced) b.pieces ++ r) found
    (block_head sourced bytes b r whole) in
    record {
      fits = (
        ap (λ (x : ℤ × ℕ). x.1) (sym same.0),
        subst (λ (x : ℤ × ℕ). AllByRecursion (IsPieceAt sourced (record { 0 = x.0 })) b.pieces) (sym same.0)
            whole.fits.pieces,
      );
      parts = same.1;
    }

pub no_pieces : (sourced : Bool) (bytes : List ℕ) (w : ℤ) (n : ℕ) (rest : List ℕ)
    → Begins (pair_bytes i64_bytes u32_bytes) HeadFits bytes (w, n) rest
    → NoneBegins (joined (piece_bytes sourced)) (AreSoMany (IsPieceAt sourced (record { 0 = w })) n) rest
    → NoneBegins (block_bytes sourced) (IsWayBlock sourced) bytes
no_pieces sourced bytes w n rest found none b r whole = none b.pieces r
    (behind_head sourced bytes w n rest found b r whole)

-- the pieces that were read are a block's, or none begins there
pub unfit_pieces : (sourced : Bool) (bytes : List ℕ) (w : ℤ) (n : ℕ) (mid : List ℕ)
    → Begins (pair_bytes i64_bytes u32_bytes) HeadFits bytes (w, n) mid
    → (ps : List Piece) (rest : List ℕ)
    → Begins (joined (piece_bytes sourced)) (AreSoMany (IsPieceAt sourced (record { 0 = w })) n) mid ps rest
    → ((ps ≡ [] → ⊥) × IsTrue (rises place_cmp (map (λ p. p.name) ps)) → ⊥)
    → NoneBegins (block_bytes sourced) (IsWayBlock sourced) bytes
unfit_pieces sourced bytes w n mid found ps rest seen unfit b r whole =
    let behind = behind_head sourced bytes w n mid found b r whole in
    let same = joined_one (piece_bytes sourced) (IsPieceAt sourced (record { 0 = w }))
    (piece_one sourced (record { 0 = w })) ps b.pieces rest r
    (seen.fits.0 ∙ sym behind.fits.0) seen.fits.1 behind.fits.1 (sym seen.parts ∙ behind.parts) in
    unfit (subst (λ l. (l ≡ [] → ⊥) × IsTrue (rises place_cmp (map (λ p. p.name) l))) (sym same.0)
    (whole.fits.some, whole.fits.ascend))

pub whole_block : (sourced : Bool) (bytes : List ℕ) (w : ℤ) (n : ℕ) (mid : List ℕ)
    → Begins (pair_bytes i64_bytes u32_bytes) HeadFits bytes (w, n) mid
    → (ps : List Piece) (rest : List ℕ)
    → Begins (joined (piece_bytes sourced)) (AreSoMany (IsPieceAt sourced (record { 0 = w })) n) mid ps rest
    → (ps ≡ [] → ⊥) × IsTrue (rises place_cmp (map (λ p. p.name) ps))
    → Begins (block_bytes sourced) (IsWayBlock sourced) bytes (record { way = record { 0 = w }; pieces = ps }) rest
whole_block sourced bytes w n mid found ps rest seen fit = record {
  fits = record {
    way = found.fits.0;
    count = subst (λ n. n < 2 ^ 32) (sym seen.fits.0) found.fits.1;
    some = fit.0;
    ascend = fit.1;
    pieces = seen.fits.1;
  };
  parts = found.parts ∙ append_assoc (i64_bytes w) (u32_bytes n) mid
      ∙ ap (λ l. i64_bytes w ++ l) (ap (λ k. u32_bytes k ++ mid) (sym seen.fits.0)
      ∙ ap (λ l. u32_bytes (length ps) ++ l) seen.parts)
      ∙ sym (three (i64_bytes w) (u32_bytes (length ps)) (joined (piece_bytes sourced) ps) rest);
}
