-- No spelling begins another one, and each is that of one value. What has a spelling gives this as its law, so the
-- proofs stand here.
use Rattle.std.proofs.Common.{◌≡◌, ℕ, ℤ, ◌+◌, ◌-◌, ◌<◌, ◌≤◌, ◌^◌, IsTrue, Bool, true, false, List, [], ◌∷◌, ◌++◌}
use Rattle.std.proofs.Common.{length}
use Rattle.std.proofs.Common.{drop, FitsSigned, refl, sym, ap, subst, ◌∙◌, arith, append_assoc}
use Rattle.std.specs.Int.{w32, w64}
use Rattle.std.specs.List.{AllByRecursion}
use Rattle.road_base.specs.Bytes.{u32_bytes, u64_bytes, i64_bytes, joined}
use Rattle.road_base.specs.Ranges.{is_in_range}
use Rattle.road_base.specs.declared.ids.Dir.{Dir}
use Rattle.road_base.specs.declared.ids.Dir.TheVariants.{Forward, Backward}
use Rattle.road_base.specs.declared.location.Location.{Location}
use Rattle.road_model.specs.declared.lists.PieceName.{PieceName}
use Rattle.road_model.specs.declared.lists.Place.{Place}
use Rattle.road_model.specs.declared.lists.TurnArc.{TurnArc}
use Rattle.road_model.specs.declared.lists.Context.{Context}
use Rattle.road_model.specs.Format.{dir_bytes, name_bytes, arc_bytes, source_bytes, sources_bytes, context_bytes}
use Rattle.road_model.specs.Format.{mark_bytes, place_bytes, NameFits}
use Rattle.spelled_bytes.specs.Spelling.{pair_bytes, PairFits, AreSoMany, location_bytes, LocationFits}
use Rattle.spelled_bytes.specs.Reading.{Begins, IsOneSpelling}
use Rattle.spelled_bytes.specs.OneSpelling.{differ, u32_one, u64_one, i64_one, pair_one, by_one, joined_one}
use Rattle.spelled_bytes.specs.OneSpelling.{location_one}
use Rattle.graph_file.specs.GraphReading.{Any, PlaceFits, ArcFits, list_bytes, ListFits, before_bytes, BeforeFits}
use Rattle.graph_file.specs.GraphReading.{SourceFits, MarkFits, SourcesAre, IsBareContext, IsContext, AreContexts}
use Rattle.graph_file.specs.GraphReading.{extent_bytes, IsExtent, Unless, IsBarePiece, IsPieceAt, IsWayBlock}
use Rattle.graph_file.specs.declared.extent.Extent.{Extent}
use Rattle.road_base.specs.declared.ids.WayId.{WayId}
use Rattle.road_model.specs.declared.lists.Piece.{Piece}
use Rattle.road_model.specs.Format.{piece_bytes, block_bytes, ContextFits, IsContextForm}

-- ---- lists

pub list_one : {A : Type 0} (f : A → List ℕ) (F : A → Type 0) → IsOneSpelling f F
    → IsOneSpelling (list_bytes f) (ListFits F)
list_one {A} f F one xs ys bytes r s first second =
    let a = u64_one (length xs) (length ys) bytes (joined f xs ++ r) (joined f ys ++ s)
    (record { fits = first.fits.0; parts = first.parts ∙ append_assoc (u64_bytes (length xs)) (joined f xs) r })
    (record { fits = second.fits.0; parts = second.parts ∙ append_assoc (u64_bytes (length ys)) (joined f ys) s }) in
    joined_one f F one xs ys r s a.0 first.fits.1 second.fits.1 a.1

-- ---- names, places and arcs

pub dir_one : IsOneSpelling dir_bytes Any
dir_one Forward Forward bytes r s first second = (refl, ap (drop 1) (sym first.parts ∙ second.parts))
dir_one Backward Backward bytes r s first second = (refl, ap (drop 1) (sym first.parts ∙ second.parts))
dir_one Forward Backward bytes r s first second = absurd (differ 0 1 bytes _ _ refl first.parts second.parts)
dir_one Backward Forward bytes r s first second = absurd (differ 1 0 bytes _ _ refl first.parts second.parts)

pub name_one : IsOneSpelling name_bytes NameFits
name_one x y bytes r s first second =
    by_one (λ (n : PieceName). (n.way.0, (n.index, n.dir))) (pair_bytes i64_bytes (pair_bytes u32_bytes dir_bytes))
    (PairFits (FitsSigned w64) (PairFits (λ n. n < 2 ^ 32) Any))
    (λ a b e i. record { way = record { 0 = (e i).0 }; index = (e i).1.0; dir = (e i).1.1 })
    (pair_one i64_bytes (FitsSigned w64) (pair_bytes u32_bytes dir_bytes) (PairFits (λ n. n < 2 ^ 32) Any) i64_one
    (pair_one u32_bytes (λ n. n < 2 ^ 32) dir_bytes Any u32_one dir_one)) x y bytes r s
    (record { fits = (first.fits.0, (first.fits.1, tt)); parts = first.parts })
    (record { fits = (second.fits.0, (second.fits.1, tt)); parts = second.parts })

range_fits : (lon lat : ℤ) → IsTrue (is_in_range lon lat) → FitsSigned w32 lon × FitsSigned w32 lat
range_fits lon lat within = (grind arith, grind arith)

pub location_fits : (l : Location) → LocationFits l
location_fits l = range_fits l.lon l.lat l.in_range

pub place_one : IsOneSpelling place_bytes PlaceFits
place_one x y bytes r s first second =
    by_one (λ (p : Place). (p.node.0, p.location)) (pair_bytes i64_bytes location_bytes)
    (PairFits (FitsSigned w64) LocationFits)
    (λ a b e i. record { node = record { 0 = (e i).0 }; location = (e i).1 })
    (pair_one i64_bytes (FitsSigned w64) location_bytes LocationFits i64_one location_one) x y bytes r s
    (record { fits = (first.fits, location_fits x.location); parts = first.parts })
    (record { fits = (second.fits, location_fits y.location); parts = second.parts })

pub arc_one : IsOneSpelling arc_bytes ArcFits
arc_one =
    by_one (λ (a : TurnArc). (a.piece, a.length)) (pair_bytes name_bytes u32_bytes)
    (PairFits NameFits (λ n. n < 2 ^ 32))
    (λ a b e i. record { piece = (e i).0; length = (e i).1 })
    (pair_one name_bytes NameFits u32_bytes (λ n. n < 2 ^ 32) name_one u32_one)

pub arcs_one : IsOneSpelling (list_bytes arc_bytes) (ListFits ArcFits)
arcs_one = list_one arc_bytes ArcFits arc_one

-- ---- contexts

pub before_one : IsOneSpelling before_bytes BeforeFits
before_one xs ys bytes r s first second =
    let a = u32_one (length xs + 1) (length ys + 1) bytes (joined name_bytes xs ++ r) (joined name_bytes ys ++ s)
    (record {
      fits = omega (arith, first.fits.0);
      parts = first.parts ∙ append_assoc (u32_bytes (length xs + 1)) (joined name_bytes xs) r;
    })
    (record {
      fits = omega (arith, second.fits.0);
      parts = second.parts ∙ append_assoc (u32_bytes (length ys + 1)) (joined name_bytes ys) s;
    }) in
    joined_one name_bytes NameFits name_one xs ys r s (omega (arith, a.0)) first.fits.1 second.fits.1 a.1

pub source_one : IsOneSpelling source_bytes SourceFits
source_one xs ys bytes r s first second =
    let a = u32_one (length xs) (length ys) bytes (joined name_bytes xs ++ r) (joined name_bytes ys ++ s)
    (record {
      fits = first.fits.0;
      parts = first.parts ∙ append_assoc (u32_bytes (length xs)) (joined name_bytes xs) r;
    })
    (record {
      fits = second.fits.0;
      parts = second.parts ∙ append_assoc (u32_bytes (length ys)) (joined name_bytes ys) s;
    }) in
    joined_one name_bytes NameFits name_one xs ys r s a.0 first.fits.1 second.fits.1 a.1

pub sources_one : (sourced : Bool) → IsOneSpelling (sources_bytes sourced) (SourcesAre sourced)
sources_one false x y bytes r s first second = (first.fits ∙ sym second.fits, sym first.parts ∙ second.parts)
sources_one true x y bytes r s first second =
    list_one source_bytes SourceFits source_one x y bytes r s
    (record { fits = first.fits; parts = first.parts }) (record { fits = second.fits; parts = second.parts })

-- sources of some length fit where their names do
sized_fit : (n : ℕ) (ss : List (List PieceName))
    → AllByRecursion (λ s. (1 ≤ length s) × (n ≤ length s) × (length s < 2 ^ 32)) ss
    → AllByRecursion (AllByRecursion NameFits) ss → AllByRecursion SourceFits ss
sized_fit n [] sized fit = tt
sized_fit n (s ∷ ss) sized fit = ((sized.0.2, fit.0), sized_fit n ss sized.1 fit.1)

pub sources_fit : (sourced : Bool) (c : Context) → IsContext sourced c → SourcesAre sourced c.sources
sources_fit false c is = is.bare
sources_fit true c is =
    let form = is.form.sources refl in
    let fit = is.fits.sources refl in
    (fit.count, sized_fit (length c.before) c.sources form.some fit.names)

-- the three lists of a context, one behind the other
abbrev pub ContextLists : Type 0
ContextLists = List PieceName × (List TurnArc × List (List PieceName))

abbrev pub lists_of : Context → ContextLists
lists_of c = (c.before, (c.arcs, c.sources))

abbrev pub lists_bytes : Bool → ContextLists → List ℕ
lists_bytes sourced = pair_bytes before_bytes (pair_bytes (list_bytes arc_bytes) (sources_bytes sourced))

abbrev pub ListsFit : Bool → ContextLists → Type 0
ListsFit sourced = PairFits BeforeFits (PairFits (ListFits ArcFits) (SourcesAre sourced))

pub lists_one : (sourced : Bool) → IsOneSpelling (lists_bytes sourced) (ListsFit sourced)
lists_one sourced =
    pair_one before_bytes BeforeFits (pair_bytes (list_bytes arc_bytes) (sources_bytes sourced))
    (PairFits (ListFits ArcFits) (SourcesAre sourced)) before_one
    (pair_one (list_bytes arc_bytes) (ListFits ArcFits) (sources_bytes sourced) (SourcesAre sourced) arcs_one
    (sources_one sourced))

-- five parts in two, the second of which is in two
pub context_split : (a b c d e : List ℕ) → a ++ (b ++ (c ++ (d ++ e))) ≡ (a ++ b) ++ ((c ++ d) ++ e)
context_split a b c d e =
    ap (λ l. a ++ (b ++ l)) (sym (append_assoc c d e)) ∙ sym (append_assoc a b ((c ++ d) ++ e))

pub context_spelled : (sourced : Bool) (c : Context) → context_bytes sourced c ≡ lists_bytes sourced (lists_of c)
context_spelled sourced c =
    context_split (u32_bytes (length c.before + 1)) (joined name_bytes c.before) (u64_bytes (length c.arcs))
    (joined arc_bytes c.arcs) (sources_bytes sourced c.sources)

pub context_lists : (sourced : Bool) (c : Context) (bytes r : List ℕ)
    → Begins (context_bytes sourced) (IsContext sourced) bytes c r
    → Begins (lists_bytes sourced) (ListsFit sourced) bytes (lists_of c) r
context_lists sourced c bytes r whole = record {
  fits = (
    (whole.fits.form.short, whole.fits.fits.names),
    ((whole.fits.fits.arc_count, whole.fits.fits.arcs), sources_fit sourced c whole.fits),
  );
  parts = whole.parts ∙ ap (λ l. l ++ r) (context_spelled sourced c);
}

pub context_one : (sourced : Bool) → IsOneSpelling (context_bytes sourced) (IsContext sourced)
context_one sourced x y bytes r s first second =
    by_one lists_of (lists_bytes sourced) (ListsFit sourced)
    (λ a b e i. record { before = (e i).0; arcs = (e i).1.0; sources = (e i).1.1 }) (lists_one sourced) x y bytes r s
    (let p = context_lists sourced x bytes r first in record { fits = p.fits; parts = p.parts })
    (let p = context_lists sourced y bytes s second in record { fits = p.fits; parts = p.parts })

pub contexts_one : (sourced : Bool) → IsOneSpelling (list_bytes (context_bytes sourced)) (AreContexts sourced)
contexts_one sourced x y bytes r s first second =
    list_one (context_bytes sourced) (IsContext sourced) (context_one sourced) x y bytes r s
    (record { fits = first.fits.some; parts = first.parts })
    (record { fits = second.fits.some; parts = second.parts })

-- ---- pieces

pub mark_one : (sourced : Bool) → IsOneSpelling (mark_bytes sourced) (MarkFits sourced)
mark_one false x y bytes r s first second = (first.fits ∙ sym second.fits, sym first.parts ∙ second.parts)
mark_one true false false bytes r s first second = (refl, ap (drop 1) (sym first.parts ∙ second.parts))
mark_one true true true bytes r s first second = (refl, ap (drop 1) (sym first.parts ∙ second.parts))
mark_one true false true bytes r s first second = absurd (differ 0 1 bytes _ _ refl first.parts second.parts)
mark_one true true false bytes r s first second = absurd (differ 1 0 bytes _ _ refl first.parts second.parts)

-- the parts of an extent, one behind the other
abbrev pub ExtentParts : Type 0
ExtentParts = ℕ × (ℕ × (Dir × Bool))

abbrev pub parts_of : Extent → ExtentParts
parts_of e = (e.index, (e.end, (e.dir, e.zone)))

abbrev pub parts_bytes : Bool → ExtentParts → List ℕ
parts_bytes sourced = pair_bytes u32_bytes (pair_bytes u32_bytes (pair_bytes dir_bytes (mark_bytes sourced)))

abbrev pub PartsFit : Bool → ExtentParts → Type 0
PartsFit sourced = PairFits (λ n. n < 2 ^ 32) (PairFits (λ n. n < 2 ^ 32) (PairFits Any (MarkFits sourced)))

pub parts_one : (sourced : Bool) → IsOneSpelling (parts_bytes sourced) (PartsFit sourced)
parts_one sourced =
    pair_one u32_bytes (λ n. n < 2 ^ 32) (pair_bytes u32_bytes (pair_bytes dir_bytes (mark_bytes sourced)))
    (PairFits (λ n. n < 2 ^ 32) (PairFits Any (MarkFits sourced))) u32_one
    (pair_one u32_bytes (λ n. n < 2 ^ 32) (pair_bytes dir_bytes (mark_bytes sourced)) (PairFits Any (MarkFits sourced))
    u32_one (pair_one dir_bytes Any (mark_bytes sourced) (MarkFits sourced) dir_one (mark_one sourced)))

pub extent_fits : (sourced : Bool) (e : Extent) → IsExtent sourced e → PartsFit sourced (parts_of e)
extent_fits sourced e is =
    let low = is.ascends in let high = is.bounded in (omega arith, (omega arith, (tt, is.mark)))

pub three : (a b c r : List ℕ) → (a ++ (b ++ c)) ++ r ≡ a ++ (b ++ (c ++ r))
three a b c r = append_assoc a (b ++ c) r ∙ ap (λ l. a ++ l) (append_assoc b c r)

five : (a b c d e r : List ℕ) → (a ++ (b ++ (c ++ (d ++ e)))) ++ r ≡ (a ++ (b ++ c)) ++ (d ++ (e ++ r))
five a b c d e r =
    append_assoc a (b ++ (c ++ (d ++ e))) r
    ∙ ap (λ l. a ++ l) (three b c (d ++ e) r ∙ ap (λ l. b ++ (c ++ l)) (append_assoc d e r))
    ∙ sym (three a b c (d ++ (e ++ r)))

-- the first four of six parts
pub piece_split : (a b c m d e r : List ℕ)
    → (a ++ (b ++ (c ++ (m ++ (d ++ e))))) ++ r ≡ (a ++ (b ++ (c ++ m))) ++ (d ++ (e ++ r))
piece_split a b c m d e r =
    ap (λ l. (a ++ (b ++ l)) ++ r) (sym (append_assoc c m (d ++ e))) ∙ five a b (c ++ m) d e r

pub extent_one : (sourced : Bool) → IsOneSpelling (extent_bytes sourced) (IsExtent sourced)
extent_one sourced x y bytes r s first second =
    by_one parts_of (parts_bytes sourced) (PartsFit sourced)
    (λ a b e i. record { index = (e i).0; end = (e i).1.0; dir = (e i).1.1.0; zone = (e i).1.1.1 })
    (parts_one sourced) x y bytes r s
    (record { fits = extent_fits sourced x first.fits; parts = first.parts })
    (record { fits = extent_fits sourced y second.fits; parts = second.parts })

abbrev pub extent_of : Piece → Extent
extent_of p = record { index = p.name.index; end = p.end; dir = p.name.dir; zone = p.zone }

-- what stands in a piece's bytes, one part behind the other
pub record PieceParts (sourced : Bool) (p : Piece) (bytes r : List ℕ) : Type 0 where
  pub extent : Begins (extent_bytes sourced) (IsExtent sourced) bytes (extent_of p)
      (joined place_bytes p.places ++ (list_bytes (context_bytes sourced) p.contexts ++ r))
  pub places : AreSoMany PlaceFits (p.end - p.name.index + 1) p.places
  pub contexts : AreContexts sourced p.contexts

all_bare : (sourced : Bool) (cs : List Context) → Unless sourced (AllByRecursion IsBareContext cs)
    → AllByRecursion (λ c. Unless sourced (IsBareContext c)) cs
all_bare sourced [] bare = tt
all_bare false (c ∷ cs) bare = (bare.0, all_bare false cs bare.1)
all_bare true (c ∷ cs) bare = (tt, all_bare true cs tt)

bare_mark : (sourced : Bool) (p : Piece) → Unless sourced (IsBarePiece p) → MarkFits sourced p.zone
bare_mark false p bare = bare.unmarked
bare_mark true p bare = tt

bare_contexts : (sourced : Bool) (p : Piece) → Unless sourced (IsBarePiece p)
    → Unless sourced (AllByRecursion IsBareContext p.contexts)
bare_contexts false p bare = bare.contexts
bare_contexts true p bare = tt

are_contexts : (sourced : Bool) (cs : List Context) → AllByRecursion (IsContextForm sourced) cs
    → AllByRecursion (ContextFits sourced) cs → AllByRecursion (λ c. Unless sourced (IsBareContext c)) cs
    → AllByRecursion (IsContext sourced) cs
are_contexts sourced [] f g h = tt
are_contexts sourced (c ∷ cs) f g h =
    (record { form = f.0; fits = g.0; bare = h.0 }, are_contexts sourced cs f.1 g.1 h.1)

pub piece_parts : (sourced : Bool) (way : WayId) (p : Piece) (bytes r : List ℕ)
    → Begins (piece_bytes sourced) (IsPieceAt sourced way) bytes p r → PieceParts sourced p bytes r
piece_parts sourced way p bytes r whole = record {
  extent = record {
    fits = record {
      ascends = whole.fits.form.ascends;
      bounded = whole.fits.form.bounded;
      mark = bare_mark sourced p whole.fits.bare;
    };
    parts = whole.parts ∙ piece_split (u32_bytes p.name.index) (u32_bytes p.end) (dir_bytes p.name.dir)
        (mark_bytes sourced p.zone) (joined place_bytes p.places) (list_bytes (context_bytes sourced) p.contexts) r;
  };
  places = (whole.fits.form.place_count, whole.fits.fits.places);
  contexts = record {
    some = (
      whole.fits.fits.context_count,
      are_contexts sourced p.contexts whole.fits.form.contexts whole.fits.fits.contexts
          (all_bare sourced p.contexts (bare_contexts sourced p whole.fits.bare)),
    );
    alone = whole.fits.form.first_alone;
    ascend = whole.fits.form.contexts_ascend;
  };
}

-- where the extents are one, so are the places and what stands behind them
pub piece_one : (sourced : Bool) (way : WayId) → IsOneSpelling (piece_bytes sourced) (IsPieceAt sourced way)
piece_one sourced way x y bytes r s first second =
    let a = piece_parts sourced way x bytes r first in
    let b = piece_parts sourced way y bytes s second in
    let extent = extent_one sourced (extent_of x) (extent_of y) bytes
    (joined place_bytes x.places ++ (list_bytes (context_bytes sourced) x.contexts ++ r))
    (joined place_bytes y.places ++ (list_bytes (context_bytes sourced) y.contexts ++ s)) a.extent b.extent in
    let count : x.end - x.name.index + 1 ≡ y.end - y.name.index + 1 = ap (λ (e : Extent). e.end - e.index + 1) extent.0
    in
    let places = joined_one place_bytes PlaceFits place_one x.places y.places
    (list_bytes (context_bytes sourced) x.contexts ++ r) (list_bytes (context_bytes sourced) y.contexts ++ s)
    (a.places.0 ∙ count ∙ sym b.places.0) a.places.1 b.places.1 extent.1 in
    let contexts = contexts_one sourced x.contexts y.contexts (list_bytes (context_bytes sourced) x.contexts ++ r) r s
    (record { fits = a.contexts; parts = refl }) (record { fits = b.contexts; parts = places.1 }) in
    let ways : x.name.way ≡ y.name.way = first.fits.way_is ∙ sym second.fits.way_is in (
      λ i. record {
        name = record { way = ways i; index = (extent.0 i).index; dir = (extent.0 i).dir };
        end = (extent.0 i).end;
        zone = (extent.0 i).zone;
        places = places.0 i;
        contexts = contexts.0 i;
      },
      contexts.1,
    )

-- ---- blocks

pub block_one : (sourced : Bool) → IsOneSpelling (block_bytes sourced) (IsWayBlock sourced)
block_one sourced x y bytes r s first second =
    let spell = piece_bytes sourced in
    let way = i64_one x.way.0 y.way.0 bytes
    (u32_bytes (length x.pieces) ++ (joined spell x.pieces ++ r))
    (u32_bytes (length y.pieces) ++ (joined spell y.pieces ++ s))
    (record {
      fits = first.fits.way;
      parts = first.parts ∙ three (i64_bytes x.way.0) (u32_bytes (length x.pieces)) (joined spell x.pieces) r;
    })
    (record {
      fits = second.fits.way;
      parts = second.parts ∙ three (i64_bytes y.way.0) (u32_bytes (length y.pieces)) (joined spell y.pieces) s;
    }) in
    let count = u32_one (length x.pieces) (length y.pieces)
    (u32_bytes (length x.pieces) ++ (joined spell x.pieces ++ r)) (joined spell x.pieces ++ r)
    (joined spell y.pieces ++ s)
    (record { fits = first.fits.count; parts = refl }) (record { fits = second.fits.count; parts = way.1 }) in
    let ways : x.way ≡ y.way = λ i. record { 0 = way.0 i } in
    let pieces = joined_one spell (IsPieceAt sourced x.way) (piece_one sourced x.way) x.pieces y.pieces r s count.0
    first.fits.pieces (subst (λ w. AllByRecursion (IsPieceAt sourced w) y.pieces) (sym ways) second.fits.pieces)
    count.1 in
    (λ i. record { way = ways i; pieces = pieces.0 i }, pieces.1)
