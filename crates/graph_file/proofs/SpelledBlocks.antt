-- Blocks as their bytes spell them: each piece under the name of its way, and without marks and sources where the file
-- has none.
use Rattle.std.proofs.Common.{◌≡◌, ℕ, suc, ◌<◌, ◌≤◌, ◌^◌, ◌&&◌, Bool, true, false, List, [], ◌∷◌, ◌++◌, length, map}
use Rattle.std.proofs.Common.{IsTrue, refl, sym, ap, subst, ◌∙◌, arith}
use Rattle.std.specs.List.{AllByRecursion}
use Rattle.std.specs.Ordering.{is_lt}
use Rattle.std.proofs.lemmas.Bool.{false≢true}
use Rattle.road_base.specs.Bytes.{u32_bytes, u64_bytes, i64_bytes, joined}
use Rattle.road_base.specs.declared.ids.WayId.{WayId}
use Rattle.road_model.specs.declared.lists.PieceName.{PieceName}
use Rattle.road_model.specs.declared.lists.Context.{Context}
use Rattle.road_model.specs.declared.lists.Piece.{Piece}
use Rattle.road_model.specs.declared.blocks.Block.{Block}
use Rattle.ordered_lists.specs.Orders.{rises, rises_from}
use Rattle.road_model.specs.Orders.{names_cmp}
use Rattle.road_model.specs.Format.{context_bytes, mark_bytes, dir_bytes, place_bytes, piece_bytes, block_bytes}
use Rattle.road_model.specs.Format.{graph_bytes, magic_bytes, is_sourced, place_cmp, begins_alone, IsContextForm}
use Rattle.road_model.specs.Format.{IsPieceForm, IsBlockForm, ContextFits, PieceFits, BlockFits}
use Rattle.graph_file.specs.GraphReading.{Unless, IsBareContext, IsBarePiece, IsPieceAt, IsWayBlock}
use Rattle.graph_file.proofs.PieceCount.{few_pieces}

-- ---- contexts

mark_in : Bool → Bool → Bool
mark_in false zone = false
mark_in true zone = zone

bare : Context → Context
bare c = record { before = c.before; arcs = c.arcs; sources = [] }

contexts_in : Bool → List Context → List Context
contexts_in false cs = map bare cs
contexts_in true cs = cs

pub as_many : {A B : Type 0} (f : A → B) (xs : List A) → length (map f xs) ≡ length xs
as_many f [] = refl
as_many f (x ∷ xs) = ap suc (as_many f xs)

same_mark : (sourced zone : Bool) → mark_bytes sourced (mark_in sourced zone) ≡ mark_bytes sourced zone
unfolding mark_in
same_mark false zone = refl
same_mark true zone = refl

as_many_in : (sourced : Bool) (cs : List Context) → length (contexts_in sourced cs) ≡ length cs
unfolding contexts_in
as_many_in false cs = as_many bare cs
as_many_in true cs = refl

bare_bytes : (cs : List Context) → joined (context_bytes false) (map bare cs) ≡ joined (context_bytes false) cs
unfolding bare
bare_bytes [] = refl
bare_bytes (c ∷ cs) = ap (λ l. context_bytes false c ++ l) (bare_bytes cs)

same_contexts : (sourced : Bool) (cs : List Context)
    → joined (context_bytes sourced) (contexts_in sourced cs) ≡ joined (context_bytes sourced) cs
unfolding contexts_in
same_contexts false cs = bare_bytes cs
same_contexts true cs = refl

bare_forms : (cs : List Context) → AllByRecursion (IsContextForm false) cs
    → AllByRecursion (IsContextForm false) (map bare cs)
unfolding bare
bare_forms [] all = tt
bare_forms (c ∷ cs) all = (
  record {
    short = all.0.short;
    arcs_ascend = all.0.arcs_ascend;
    targets = all.0.targets;
    sources = λ yes. absurd (false≢true yes);
  },
  bare_forms cs all.1,
)

forms_in : (sourced : Bool) (cs : List Context) → AllByRecursion (IsContextForm sourced) cs
    → AllByRecursion (IsContextForm sourced) (contexts_in sourced cs)
unfolding contexts_in
forms_in false cs all = bare_forms cs all
forms_in true cs all = all

bare_fits : (cs : List Context) → AllByRecursion (ContextFits false) cs
    → AllByRecursion (ContextFits false) (map bare cs)
unfolding bare
bare_fits [] all = tt
bare_fits (c ∷ cs) all = (
  record {
    names = all.0.names;
    arcs = all.0.arcs;
    arc_count = all.0.arc_count;
    sources = λ yes. absurd (false≢true yes);
  },
  bare_fits cs all.1,
)

fits_in : (sourced : Bool) (cs : List Context) → AllByRecursion (ContextFits sourced) cs
    → AllByRecursion (ContextFits sourced) (contexts_in sourced cs)
unfolding contexts_in
fits_in false cs all = bare_fits cs all
fits_in true cs all = all

bare_names : (cs : List Context) → map (λ (c : Context). c.before) (map bare cs) ≡ map (λ (c : Context). c.before) cs
unfolding bare
bare_names [] = refl
bare_names (c ∷ cs) = ap (λ l. c.before ∷ l) (bare_names cs)

names_in : (sourced : Bool) (cs : List Context)
    → map (λ (c : Context). c.before) (contexts_in sourced cs) ≡ map (λ (c : Context). c.before) cs
unfolding contexts_in
names_in false cs = bare_names cs
names_in true cs = refl

bare_alone : (cs : List Context) → begins_alone cs → begins_alone (map bare cs)
unfolding bare
bare_alone [] alone = alone
bare_alone (c ∷ cs) alone = alone

alone_in : (sourced : Bool) (cs : List Context) → begins_alone cs → begins_alone (contexts_in sourced cs)
unfolding contexts_in
alone_in false cs alone = bare_alone cs alone
alone_in true cs alone = alone

are_bare : (cs : List Context) → AllByRecursion IsBareContext (map bare cs)
unfolding bare
are_bare [] = tt
are_bare (c ∷ cs) = (refl, are_bare cs)

-- ---- pieces

piece_at : Bool → WayId → Piece → Piece
piece_at sourced w p = record {
  name = record { way = w; index = p.name.index; dir = p.name.dir };
  end = p.end;
  zone = mark_in sourced p.zone;
  places = p.places;
  contexts = contexts_in sourced p.contexts;
}

pub block_at : Bool → Block → Block
block_at sourced b = record { way = b.way; pieces = map (piece_at sourced b.way) b.pieces }

same_piece : (sourced : Bool) (w : WayId) (p : Piece)
    → piece_bytes sourced (piece_at sourced w p) ≡ piece_bytes sourced p
unfolding piece_at
same_piece sourced w p = λ i. u32_bytes p.name.index ++ (u32_bytes p.end
    ++ (dir_bytes p.name.dir ++ (same_mark sourced p.zone i ++ (joined place_bytes p.places
    ++ (u64_bytes (as_many_in sourced p.contexts i) ++ same_contexts sourced p.contexts i)))))

same_pieces : (sourced : Bool) (w : WayId) (ps : List Piece)
    → joined (piece_bytes sourced) (map (piece_at sourced w) ps) ≡ joined (piece_bytes sourced) ps
same_pieces sourced w [] = refl
same_pieces sourced w (p ∷ ps) = λ i. same_piece sourced w p i ++ same_pieces sourced w ps i

same_block : (sourced : Bool) (b : Block) → block_bytes sourced (block_at sourced b) ≡ block_bytes sourced b
unfolding block_at
same_block sourced b = λ i. i64_bytes b.way.0
    ++ (u32_bytes (as_many (piece_at sourced b.way) b.pieces i) ++ same_pieces sourced b.way b.pieces i)

same_blocks : (sourced : Bool) (bs : List Block)
    → joined (block_bytes sourced) (map (block_at sourced) bs) ≡ joined (block_bytes sourced) bs
same_blocks sourced [] = refl
same_blocks sourced (b ∷ bs) = λ i. same_block sourced b i ++ same_blocks sourced bs i

pub same_file : (version profile : ℕ) (bs : List Block)
    → graph_bytes version profile (map (block_at (is_sourced version)) bs) ≡ graph_bytes version profile bs
same_file version profile bs = λ i. magic_bytes (is_sourced version)
    ++ (u32_bytes profile
    ++ (u64_bytes (as_many (block_at (is_sourced version)) bs i) ++ same_blocks (is_sourced version) bs i))

pub same_ways : (sourced : Bool) (bs : List Block)
    → map (λ (b : Block). b.way) (map (block_at sourced) bs) ≡ map (λ (b : Block). b.way) bs
unfolding block_at
same_ways sourced [] = refl
same_ways sourced (b ∷ bs) = ap (λ l. b.way ∷ l) (same_ways sourced bs)

same_rise : (sourced : Bool) (w : WayId) (n : PieceName) (ps : List Piece)
    → rises_from place_cmp (record { way = w; index = n.index; dir = n.dir })
    (map (λ (p : Piece). p.name) (map (piece_at sourced w) ps)) ≡ rises_from place_cmp n (map (λ p. p.name) ps)
unfolding piece_at
same_rise sourced w n [] = refl
same_rise sourced w n (p ∷ ps) = ap (λ b. is_lt (place_cmp n p.name) && b) (same_rise sourced w p.name ps)

same_rises : (sourced : Bool) (w : WayId) (ps : List Piece)
    → rises place_cmp (map (λ (p : Piece). p.name) (map (piece_at sourced w) ps))
    ≡ rises place_cmp (map (λ p. p.name) ps)
unfolding piece_at
same_rises sourced w [] = refl
same_rises sourced w (p ∷ ps) = same_rise sourced w p.name ps

still_some : (sourced : Bool) (w : WayId) (ps : List Piece) → (ps ≡ [] → ⊥) → map (piece_at sourced w) ps ≡ [] → ⊥
still_some sourced w [] some none = some refl
still_some sourced w (p ∷ ps) some none = omega (arith, ap length none)

bare_in : (sourced : Bool) (w : WayId) (p : Piece) → Unless sourced (IsBarePiece (piece_at sourced w p))
unfolding piece_at mark_in contexts_in
bare_in false w p = record { unmarked = refl; contexts = are_bare p.contexts }
bare_in true w p = tt

form_at : (sourced : Bool) (w : WayId) (p : Piece) → IsPieceForm sourced p → IsPieceForm sourced (piece_at sourced w p)
unfolding piece_at
form_at sourced w p form = record {
  ascends = form.ascends;
  bounded = form.bounded;
  place_count = form.place_count;
  first_alone = alone_in sourced p.contexts form.first_alone;
  contexts_ascend = subst (λ l. IsTrue (rises names_cmp l)) (sym (names_in sourced p.contexts)) form.contexts_ascend;
  contexts = forms_in sourced p.contexts form.contexts;
}

fits_at : (sourced : Bool) (w : WayId) (p : Piece) → PieceFits sourced p → PieceFits sourced (piece_at sourced w p)
unfolding piece_at
fits_at sourced w p fits = record {
  places = fits.places;
  contexts = fits_in sourced p.contexts fits.contexts;
  context_count = subst (λ n. n < 2 ^ 64) (sym (as_many_in sourced p.contexts)) fits.context_count;
}

way_at : (sourced : Bool) (w : WayId) (p : Piece) → (piece_at sourced w p).name.way ≡ w
unfolding piece_at
way_at sourced w p = refl

pieces_at : (sourced : Bool) (w : WayId) (ps : List Piece) → AllByRecursion (IsPieceForm sourced) ps
    → AllByRecursion (PieceFits sourced) ps → AllByRecursion (IsPieceAt sourced w) (map (piece_at sourced w) ps)
pieces_at sourced w [] form fits = tt
pieces_at sourced w (p ∷ ps) form fits = (
  record {
    way_is = way_at sourced w p;
    form = form_at sourced w p form.0;
    fits = fits_at sourced w p fits.0;
    bare = bare_in sourced w p;
  },
  pieces_at sourced w ps form.1 fits.1,
)

-- ---- blocks

way_block : (sourced : Bool) (b : Block) → IsBlockForm sourced b → BlockFits sourced b
    → IsWayBlock sourced (block_at sourced b)
unfolding block_at
way_block sourced b form fits = record {
  way = fits.way;
  count =
      let few : length b.pieces ≤ 131068 = few_pieces sourced b.pieces form.ascend form.pieces in
      let same : length (map (piece_at sourced b.way) b.pieces) ≡ length b.pieces
      = as_many (piece_at sourced b.way) b.pieces in
      omega arith;
  some = still_some sourced b.way b.pieces form.some;
  ascend = same_rises sourced b.way b.pieces ∙ form.ascend;
  pieces = pieces_at sourced b.way b.pieces form.pieces fits.pieces;
}

pub way_blocks : (sourced : Bool) (bs : List Block) → AllByRecursion (IsBlockForm sourced) bs
    → AllByRecursion (BlockFits sourced) bs → AllByRecursion (IsWayBlock sourced) (map (block_at sourced) bs)
way_blocks sourced [] form fits = tt
way_blocks sourced (b ∷ bs) form fits =
    (way_block sourced b form.0 fits.0, way_blocks sourced bs form.1 fits.1)
