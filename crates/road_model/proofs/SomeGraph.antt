-- Every way has a block, and every object map a graph.
use Rattle.std.proofs.Common.{◌≡◌, ℕ, zero, suc, ◌+◌, ◌-◌, ◌<◌, ◌≤◌, List, [], ◌∷◌, ◌++◌, length, map, inl, refl, sym}
use Rattle.std.proofs.Common.{ap, ◌∙◌, subst, arith, Option, Some, None, slice_get, IsTrue}
use Rattle.std.specs.Prelude.{is_some}
use Rattle.std.proofs.lemmas.Bool.{false≢true}
use Rattle.road_base.specs.declared.ids.NodeId.{NodeId}
use Rattle.road_base.specs.declared.ids.WayId.{WayId}
use Rattle.road_base.specs.declared.ids.Dir.{Dir}
use Rattle.road_base.specs.declared.ids.Dir.TheVariants.{Forward, Backward}
use Rattle.road_base.specs.declared.location.Location.{Location}
use Rattle.road_base.specs.declared.objects.Node.{Node}
use Rattle.road_base.specs.Objects.{Objects, node_of}
use Rattle.road_model.specs.declared.lists.PieceName.{PieceName}
use Rattle.road_model.specs.declared.lists.Place.{Place}
use Rattle.road_model.specs.declared.lists.TurnArc.{TurnArc}
use Rattle.road_model.specs.declared.lists.Context.{Context}
use Rattle.road_model.specs.declared.lists.Piece.{Piece}
use Rattle.road_model.specs.declared.blocks.Block.{Block}
use Rattle.road_model.specs.Rules.{Rules}
use Rattle.road_model.specs.Lines.{node_at}
use Rattle.road_model.specs.Driving.{located, node_located, is_marked}
use Rattle.road_model.specs.Pieces.{Span, IsPiece}
use Rattle.road_model.specs.Contexts.{Every}
use Rattle.road_model.specs.Network.{IsContext}
use Rattle.ordered_lists.specs.Orders.{Lists}
use Rattle.road_model.specs.Orders.{name_cmp, names_cmp, way_cmp}
use Rattle.road_model.specs.Blocks.{IsPlaceOf, IsArcEntry, IsSourceEntry, IsContextEntry, IsPieceEntry, IsBlock}
use Rattle.road_model.specs.Blocks.{IsRoadBlock, name_of, place_position}
use Rattle.road_model.specs.Format.{graph_bytes}
use Rattle.road_model.specs.Naming.{HasBlock, HasGraph}
use Rattle.ordered_lists.proofs.ListMembers.{In, in_from_contains, contains_from_in}
use Rattle.ordered_lists.proofs.AscendingLists.{lists_unique}
use Rattle.road_model.proofs.TotalOrders.{way_cmp_total, way_cmp_exact, name_cmp_total, name_cmp_exact, names_cmp_total}
use Rattle.road_model.proofs.TotalOrders.{names_cmp_exact}
use Rattle.road_model.proofs.UniqueEntries.{one_piece, one_entry, one_block}
use Rattle.ordered_lists.proofs.Enumerated.{Finite, fin_one, fin_by, fin_bind, fin_made}
use Rattle.road_model.proofs.LongestContext.{Every-front}
use Rattle.road_model.proofs.WalkLists.{context_pieces}
use Rattle.road_model.proofs.StepEnds.{some_located}
use Rattle.road_model.proofs.FinitePieces.{IsOf, piece_located, fin_pieces, fin_pieces_of}
use Rattle.road_model.proofs.FiniteContexts.{fin_before, arcs_of}
use Rattle.road_model.proofs.SourceLists.{sources_of}
use Rattle.ordered_lists.proofs.SortedLists.{listed}

-- ---- a list that has at each place below n something of which a fact holds

record Tabulated {A : Type 0} (Q : ℕ → A → Type 0) (n : ℕ) : Type 0 where
  list : List A
  count : length list ≡ n
  each : (k : ℕ) (x : A) → slice_get list k ≡ Some x → Q k x

front_more : {A : Type 0} (Q : ℕ → A → Type 0) (x : A) → Q 0 x → (xs : List A) →
    ((k : ℕ) (y : A) → slice_get xs k ≡ Some y → Q (suc k) y) → (k : ℕ) (y : A) → slice_get (x ∷ xs) k ≡ Some y → Q k y
front_more Q x q xs each zero y e = let f : x ≡ y = cc in subst (Q 0) f q
front_more Q x q xs each (suc k) y e = each k y e

none_at : {A : Type 0} (Q : ℕ → A → Type 0) (k : ℕ) (y : A) → slice_get [] k ≡ Some y → Q k y
none_at Q zero y e = cc
none_at Q (suc k) y e = cc

tabulated : {A : Type 0} (Q : ℕ → A → Type 0) (n : ℕ) → ((k : ℕ) → k < n → (x : A) × Q k x) → Tabulated Q n
tabulated Q zero some = record { list = []; count = refl; each = none_at Q }
tabulated Q (suc n) some =
    let t = tabulated (λ k. Q (suc k)) n (λ k l. some (suc k) (omega arith)) in
    let x = some 0 (omega arith) in
    record { list = x.0 ∷ t.list; count = ap suc t.count; each = front_more Q x.0 x.1 t.list t.each }

module _ (M : Objects) (P : Rules) where
  -- ---- places

  place_by : (p : Span) (k : ℕ) (v : NodeId) → node_at M p.way (place_position p k) ≡ Some v → (n : Node) →
      node_of M v ≡ Some n → (o : Option Location) → n.location ≡ o → IsTrue (is_some o) →
      (x : Place) × IsPlaceOf M p k x
  place_by p k v e n f None g h = absurd (false≢true h)
  place_by p k v e n f (Some l) g h = (
    record { node = v; location = l },
    record { node = e; body = n; visible = f; location = g },
  )

  body_by : (p : Span) (k : ℕ) (v : NodeId) → node_at M p.way (place_position p k) ≡ Some v → (o : Option Node) →
      node_of M v ≡ o → IsTrue (node_located o) → (x : Place) × IsPlaceOf M p k x
  body_by p k v e None f h = absurd (false≢true h)
  body_by p k v e (Some n) f h = place_by p k v e n f n.location refl h

  -- a piece stays between its ends
  between : (w : WayId) (i j : ℕ) (d : Dir) (k : ℕ) → i < j → k < j - i + 1 →
      (i ≤ place_position (record { way = w; index = i; end = j; dir = d }) k)
      × (place_position (record { way = w; index = i; end = j; dir = d }) k ≤ j)
  between w i j Forward k l h = (omega arith, omega arith)
  between w i j Backward k l h = (omega arith, omega arith)

  place_at : (p : Span) → IsPiece M P p → (k : ℕ) → k < p.end - p.index + 1 → (x : Place) × IsPlaceOf M p k x
  place_at p i k h =
      let b = between p.way p.index p.end p.dir k i.ascends h in
      let l = piece_located M P p i (place_position p k) b.0 b.1 in
      let v = some_located M (node_at M p.way (place_position p k)) l in
      body_by p k v.0 v.1 (node_of M v.0) refl (subst (λ o. IsTrue (located M o)) v.1 l)

  places_of : (p : Span) → IsPiece M P p → Tabulated (IsPlaceOf M p) (p.end - p.index + 1)
  places_of p i = tabulated (IsPlaceOf M p) (p.end - p.index + 1) (place_at p i)

  -- ---- contexts

  pub names_tell : (a b : List Span) → Every (IsPiece M P) a → Every (IsPiece M P) b → map name_of a ≡ map name_of b →
      a ≡ b
  names_tell [] [] i j e = refl
  names_tell [] (q ∷ b) i j e = cc
  names_tell (p ∷ a) [] i j e = cc
  names_tell (p ∷ a) (q ∷ b) i j e =
      let n : name_of p ≡ name_of q = cc in
      let f : map name_of a ≡ map name_of b = cc in
      let g = one_piece M P p q i.0 j.0 n in
      let h = names_tell a b i.1 j.1 f in
      cc (g, h)

  module _ (p : Span) where
    context_entry : List Span → Context
    context_entry b = record {
      before = map name_of b;
      arcs = (arcs_of M P (b ++ p ∷ [])).0;
      sources = (sources_of M P p (b ++ p ∷ [])).0;
    }

    unfoldable pub context_of : (b : List Span) → IsContext M P (b ++ p ∷ []) → (e : Context) × IsContextEntry M P p e
    unfolding context_entry
    context_of b c = (
      context_entry b,
      record {
        before = b;
        context = c;
        named = refl;
        arcs = (arcs_of M P (b ++ p ∷ [])).1;
        sources = (sources_of M P p (b ++ p ∷ [])).1;
      },
    )

    -- the arcs of the context of the pieces b and p
    abbrev AreArcs : List Span → List TurnArc → Type 0
    AreArcs b xs = Lists (λ (a : TurnArc). a.piece) name_cmp (IsArcEntry M P (b ++ p ∷ [])) xs

    same_arcs : (b : List Span) (xs ys : List TurnArc) → AreArcs b xs → AreArcs b ys → xs ≡ ys
    same_arcs b xs ys l m = lists_unique (λ (a : TurnArc). a.piece) name_cmp name_cmp_total
        (IsArcEntry M P (b ++ p ∷ [])) xs ys l m

    -- the sources of the context of the pieces b and p
    abbrev AreSources : List Span → List (List PieceName) → Type 0
    AreSources b xs = Lists (λ (s : List PieceName). s) names_cmp (IsSourceEntry M P p (b ++ p ∷ [])) xs

    same_sources : (b : List Span) (xs ys : List (List PieceName)) → AreSources b xs → AreSources b ys → xs ≡ ys
    same_sources b xs ys l m = lists_unique (λ (s : List PieceName). s) names_cmp names_cmp_total
        (IsSourceEntry M P p (b ++ p ∷ [])) xs ys l m

    context_is : (e : Context) (k : IsContextEntry M P p e) → e ≡ context_entry k.before
    unfolding context_entry
    context_is e k =
        let n = k.named in
        let r = arcs_of M P (k.before ++ p ∷ []) in
        let a = same_arcs k.before e.arcs r.0 k.arcs r.1 in
        let q = sources_of M P p (k.before ++ p ∷ []) in
        let s = same_sources k.before e.sources q.0 k.sources q.1 in
        λ i. record { before = n i; arcs = a i; sources = s i }

    fin_contexts : Finite (IsContextEntry M P p)
    unfolding context_of
    fin_contexts = fin_made (fin_before M P p) context_of (λ e k. (k.before, k.context, λ c. context_is e k))

    before_pieces : (b : List Span) → IsContext M P (b ++ p ∷ []) → Every (IsPiece M P) b
    before_pieces b c = Every-front (IsPiece M P) b (p ∷ []) (context_pieces M P (b ++ p ∷ []) c)

    one_context_entry : (a b : Context) → IsContextEntry M P p a → IsContextEntry M P p b → a.before ≡ b.before → a ≡ b
    one_context_entry a b k l e =
        let f : k.before ≡ l.before = names_tell k.before l.before (before_pieces k.before k.context)
        (before_pieces l.before l.context) (sym k.named ∙ e ∙ l.named) in
        let arcs : a.arcs ≡ b.arcs = same_arcs l.before a.arcs b.arcs
        (subst (λ v. AreArcs v a.arcs) f k.arcs) l.arcs in
        let sources : a.sources ≡ b.sources = same_sources l.before a.sources b.sources
        (subst (λ v. AreSources v a.sources) f k.sources) l.sources in
        λ i. record { before = e i; arcs = arcs i; sources = sources i }

    contexts_of : (xs : List Context) × Lists (λ c. c.before) names_cmp (IsContextEntry M P p) xs
    contexts_of = listed
        (λ (c : Context). c.before) names_cmp names_cmp_total names_cmp_exact fin_contexts one_context_entry

  -- ---- blocks

  module _ (w : WayId) where
    pub piece_entry : (p : Span) → IsOf M P w p → (e : Piece) × IsPieceEntry M P w e
    piece_entry p h =
        let t = places_of p h.is in
        let c = contexts_of p in (
          record {
            name = name_of p;
            end = p.end;
            zone = is_marked M P w p.dir;
            places = t.list;
            contexts = c.0;
          },
          record {
            piece = p;
            is = h.is;
            of = h.way;
            named = refl;
            end_is = refl;
            marked = refl;
            count = t.count;
            places = t.each;
            contexts = c.1;
          },
        )

    pub entry_named : (p : Span) (h : IsOf M P w p) → (piece_entry p h).0.name ≡ name_of p
    unfolding piece_entry
    entry_named p h = refl

    fin_entries : Finite (IsPieceEntry M P w)
    fin_entries = fin_made (fin_pieces_of M P w) piece_entry
        (λ e k. (
          k.piece,
          record { is = k.is; way = k.of },
          λ h. let f = piece_entry k.piece h in
              one_entry M P w e f.0 k f.1 (k.named ∙ sym (entry_named k.piece h)),
        ))

    block_of : (b : Block) × IsBlock M P w b
    block_of =
        let l = listed (λ (e : Piece). e.name) name_cmp name_cmp_total name_cmp_exact fin_entries
        (one_entry M P w) in
        (record { way = w; pieces = l.0 }, record { way = refl; pieces = l.1 })

  pub has_block : HasBlock M P
  has_block w = block_of w

  -- the way has a piece
  record HasPiece (w : WayId) : Type 0 where
    piece : Span
    of : IsOf M P w piece

  fin_roads : Finite HasPiece
  fin_roads = fin_by (fin_bind (fin_pieces M P) (λ p. fin_one p.way))
      (λ w h. record { piece = h.0; of = record { is = h.1; way = sym h.2 } })
      (λ w h. (h.piece, h.of.is, sym h.of.way))

  entry_in : (w : WayId) (b : Block) → IsBlock M P w b → HasPiece w → b.pieces ≡ [] → ⊥
  entry_in w b i h e =
      let f = piece_entry w h.piece h.of in
      subst (λ l. In f.0 l) e (in_from_contains b.pieces f.0 (i.pieces.complete f.0 f.1))

  road_block : (w : WayId) → HasPiece w → (b : Block) × IsRoadBlock M P b
  road_block w h =
      let b = block_of w in
      (b.0, record { block = subst (λ v. IsBlock M P v b.0) (sym b.1.way) b.1; some = entry_in w b.0 b.1 h })

  first_piece : (w : WayId) (l : List Piece) → (l ≡ [] → ⊥) →
      ((e : Piece) → In e l → IsPieceEntry M P w e) → HasPiece w
  first_piece w [] some sound = absurd (some refl)
  first_piece w (e ∷ l) some sound = let k = sound e (inl refl) in
      record { piece = k.piece; of = record { is = k.is; way = k.of } }

  road_has : (b : Block) → IsRoadBlock M P b → HasPiece b.way
  road_has b r = first_piece b.way b.pieces r.some (λ e i. r.block.pieces.sound e (contains_from_in b.pieces e i))

  road_is : (b : Block) → IsRoadBlock M P b → (h : HasPiece b.way) → b ≡ (road_block b.way h).0
  unfolding road_block
  road_is b r h = let o = block_of b.way in one_block M P b.way b o.0 r.block o.1

  fin_road_blocks : Finite (IsRoadBlock M P)
  fin_road_blocks = fin_made fin_roads road_block (λ b r. (b.way, road_has b r, road_is b r))

  one_road_block : (a b : Block) → IsRoadBlock M P a → IsRoadBlock M P b → a.way ≡ b.way → a ≡ b
  one_road_block a b r s e = one_block M P b.way a b (subst (λ v. IsBlock M P v a) e r.block) s.block

  pub has_graph : HasGraph M P
  has_graph =
      let l = listed (λ (b : Block). b.way) way_cmp way_cmp_total way_cmp_exact fin_road_blocks one_road_block in
      (graph_bytes 2 P.number l.0, record { blocks = l.0; listed = l.1; spelled = refl })
