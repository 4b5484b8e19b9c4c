-- What is written of a piece, and of all pieces of a way.
use Rattle.std.proofs.Common.{
  ◌≡◌,
  ◌<◌,
  ◌≤◌,
  ◌+◌,
  ◌-◌,
  ℕ,
  List,
  [],
  ◌∷◌,
  ◌++◌,
  length,
  map,
  take,
  get_or,
  inl,
  refl,
  sym,
  ap,
  ◌∙◌,
  subst,
  arith,
  IsTrue,
  true,
  Some,
  slice_get,
  Contains,
}
use Rattle.std.specs.List.{All, AllByRecursion, filter_map}
use Rattle.std.specs.Cmp.{IsTotalOrder}
use Rattle.std.proofs.lemmas.Bool.{and_parts, or_left, or_right}
use Rattle.std.proofs.lemmas.List.{map-append, take_more}
use Rattle.std.proofs.lemmas.List.Elements.{All-contains, recursion_from_All}
use Rattle.road_base.specs.declared.ids.WayId.{WayId}
use Rattle.road_base.specs.declared.ids.Dir.{Dir}
use Rattle.road_base.specs.declared.ids.Dir.TheVariants.{Forward, Backward}
use Rattle.road_base.specs.Objects.{Objects}
use Rattle.road_model.specs.declared.lists.PieceName.{PieceName}
use Rattle.road_model.specs.declared.lists.Piece.{Piece}
use Rattle.road_model.specs.Rules.{Rules}
use Rattle.road_model.specs.declared.blocks.Block.{Block}
use Rattle.road_model.specs.Lines.{line_of}
use Rattle.road_model.specs.Driving.{is_open, is_marked, is_road, drivable}
use Rattle.road_model.specs.Pieces.{Span, IsPiece}
use Rattle.ordered_lists.specs.Orders.{Lists, rises}
use Rattle.road_model.specs.Orders.{way_cmp, name_cmp, names_cmp}
use Rattle.road_model.specs.Blocks.{IsContextEntry, IsPieceEntry, IsBlock}
use Rattle.road_model.specs.Format.{IsContextForm, IsPieceForm, begins_alone, place_cmp}
use Rattle.road_model.specs.Naming.{OneEntry}
use Rattle.way_pieces.specs.declared.spans.PieceSpan.{PieceSpan}
use Rattle.way_pieces.specs.Names.{piece_of, IsSpanOn}
use Rattle.way_lines.specs.declared.road_line.LineNode.{LineNode}
use Rattle.way_lines.specs.RoadLines.{line_node}
use Rattle.expanded_graph.specs.declared.marks.ZoneMarks.{ZoneMarks}
use Rattle.expanded_graph.specs.Marks.{AreMarks, mark_in}
use Rattle.expanded_graph.specs.Bare.{IsBarePiece}
use Rattle.expanded_graph.specs.Contexts.{IsBareContext}
use Rattle.expanded_graph.specs.Travel.{place_of, nodes_on}
use Rattle.ordered_lists.proofs.ListMembers.{In, in_map, from_map, in_from_contains, contains_from_in}
use Rattle.expanded_graph.proofs.PlaceOrder.{places_rise}
use Rattle.expanded_graph.proofs.PiecePlaces.{within, places_count, places_at}

-- the names of the pieces, one more
pub names_more : (pieces more : List Piece) (p : Piece) (spans : List PieceSpan) (i : ℕ) (d : PieceSpan)
    → i < length spans → more ≡ pieces ++ p ∷ [] → p.name ≡ (get_or spans i d).name
    → map (λ (e : Piece). e.name) pieces ≡ map (λ (x : PieceSpan). x.name) (take i spans)
    → map (λ (e : Piece). e.name) more ≡ map (λ (x : PieceSpan). x.name) (take (i + 1) spans)
names_more pieces more p spans i d h grown named so_far =
    ap (map (λ (e : Piece). e.name)) grown
    ∙ map-append (λ (e : Piece). e.name) pieces (p ∷ [])
    ∙ ap (λ (l : List PieceName). l ++ p.name ∷ []) so_far
    ∙ ap (λ (n : PieceName). map (λ (x : PieceSpan). x.name) (take i spans) ++ n ∷ []) named
    ∙ sym (map-append (λ (x : PieceSpan). x.name) (take i spans) (get_or spans i d ∷ []))
    ∙ ap (map (λ (x : PieceSpan). x.name)) (sym (take_more spans i d h))

module _ (M : Objects) (P : Rules) (w : WayId) where
  pub own_line : (nodes : List LineNode) (s : PieceSpan) → IsSpanOn M P w s
      → nodes ≡ map (line_node M P) (line_of M w) → nodes ≡ map (line_node M P) (line_of M s.name.way)
  own_line nodes s on line = line ∙ ap (λ v. map (line_node M P) (line_of M v)) (sym on.of)

  module _ (s : PieceSpan) (on : IsSpanOn M P w s) (nodes : List LineNode)
      (line : nodes ≡ map (line_node M P) (line_of M w)) (e : Piece) (named : e.name ≡ s.name)
      (ended : e.end ≡ s.end)
      (placed : e.places ≡ filter_map place_of (nodes_on s nodes)) where
    count : length e.places ≡ s.end - s.name.index + 1
    count = ap length placed ∙ places_count M P s on.is nodes (own_line nodes s on line)

    -- before the sources of its contexts are written
    pub bare_entry : e.zone ≡ is_marked M P w s.name.dir
        → Lists (λ c. c.before) names_cmp (IsBareContext M P (piece_of s)) e.contexts → IsBarePiece M P w e
    bare_entry marked contexts = record {
      piece = piece_of s;
      is = on.is;
      of = on.of;
      named = named;
      end_is = ended;
      marked = marked;
      count = count;
      places = λ k x h. places_at M P s on.is nodes (own_line nodes s on line) k x
          (subst (λ l. slice_get l k ≡ Some x) placed h);
      contexts = contexts;
    }

    pub entry : e.zone ≡ is_marked M P w s.name.dir
        → Lists (λ c. c.before) names_cmp (IsContextEntry M P (piece_of s)) e.contexts → IsPieceEntry M P w e
    entry marked contexts = record {
      piece = piece_of s;
      is = on.is;
      of = on.of;
      named = named;
      end_is = ended;
      marked = marked;
      count = count;
      places = λ k x h. places_at M P s on.is nodes (own_line nodes s on line) k x
          (subst (λ l. slice_get l k ≡ Some x) placed h);
      contexts = contexts;
    }

    pub form : length nodes ≤ 65535 → IsTrue (rises names_cmp (map (λ c. c.before) e.contexts))
        → begins_alone e.contexts → AllByRecursion (IsContextForm true) e.contexts → IsPieceForm true e
    form short ascending first forms =
        let up = on.is.ascends in
        let inside = within M P s on.is nodes (own_line nodes s on line) in
        let index : e.name.index ≡ s.name.index = ap (λ n. n.index) named in
        record {
          ascends = omega arith;
          bounded = omega arith;
          place_count = omega (arith, count);
          first_alone = first;
          contexts_ascend = ascending;
          contexts = forms;
        }

  -- ---- all pieces of the way

  module _ (spans : List PieceSpan) (on : Lists (λ s. s.name) name_cmp (IsSpanOn M P w) spans)
      (pieces : List Piece) (names : map (λ p. p.name) pieces ≡ map (λ s. s.name) spans)
      (entries : All (IsPieceEntry M P w) pieces) where
    names_ascend : IsTrue (rises name_cmp (map (λ p. p.name) pieces))
    names_ascend = ap (rises name_cmp) names ∙ on.ascending

    is_entry : (e : Piece) → Contains pieces e → IsPieceEntry M P w e
    is_entry e has = All-contains (IsPieceEntry M P w) pieces e entries has

    -- what is to be written of a piece was written
    written : OneEntry M P → (e : Piece) → IsPieceEntry M P w e → In e pieces
    written one e h =
        let s : PieceSpan = record { name = e.name; end = e.end } in
        let same : piece_of s ≡ h.piece =
        λ i. record {
          way = (h.named i).way;
          index = (h.named i).index;
          end = h.end_is i;
          dir = (h.named i).dir;
        } in
        let there : IsSpanOn M P w s =
        record { of = ap (λ n. n.way) h.named ∙ h.of; is = subst (λ p. IsPiece M P p) (sym same) h.is } in
        let listed = in_map (λ (x : PieceSpan). x.name) spans s (in_from_contains spans s (on.complete s there)) in
        let r = from_map (λ (p : Piece). p.name) pieces e.name (subst (In e.name) (sym names) listed) in
        subst (λ x. In x pieces) (sym (one w e r.0 h (is_entry r.0 (contains_from_in pieces r.0 r.1)) r.2)) r.1

    pub pieces_listed : OneEntry M P → Lists (λ p. p.name) name_cmp (IsPieceEntry M P w) pieces
    pieces_listed one = record {
      ascending = names_ascend;
      sound = is_entry;
      complete = λ e h. contains_from_in pieces e (written one e h);
    }

    way_of_entry : (e : Piece) → In e pieces → e.name.way ≡ w
    way_of_entry e j = let h = is_entry e (contains_from_in pieces e j) in ap (λ n. n.way) h.named ∙ h.of

    pub pieces_rise : IsTotalOrder way_cmp → IsTrue (rises place_cmp (map (λ p. p.name) pieces))
    pieces_rise total = places_rise (λ (p : Piece). p.name) total w pieces way_of_entry names_ascend

    -- the block with these pieces
    pub is_block : OneEntry M P → (b : Block) → b.way ≡ w → b.pieces ≡ pieces → IsBlock M P w b
    is_block one b of has =
        record {
          way = of;
          pieces = subst (λ (l : List Piece). Lists (λ p. p.name) name_cmp (IsPieceEntry M P w) l) (sym has)
              (pieces_listed one);
        }

    pub has_form : IsTotalOrder way_cmp → All (IsPieceForm true) pieces → (l : List Piece) → l ≡ pieces
        → AllByRecursion (IsPieceForm true) l × IsTrue (rises place_cmp (map (λ (p : Piece). p.name) l))
    has_form total forms l same = (
      subst (AllByRecursion (IsPieceForm true)) (sym same) (recursion_from_All (IsPieceForm true) pieces forms),
      ap
          (λ (x : List Piece). rises place_cmp (map (λ (p : Piece). p.name) x)) same ∙ pieces_rise total,
    )

  -- ---- a way with pieces is a road

  open_road : (d : Dir) → is_open M P w d ≡ true → IsTrue (is_road M P w)
  open_road Forward is = or_left _ _ is
  open_road Backward is = or_right _ _ is

  -- one may drive a piece's first step, so its way is open
  piece_open : (p : Span) → IsPiece M P p → is_open M P p.way p.dir ≡ true
  unfolding drivable
  piece_open p is = let up = is.ascends in (and_parts _ _ (is.drives p.index (omega arith) up)).0

  pub is_road_by : (spans : List PieceSpan)
      → Lists (λ s. s.name) name_cmp (IsSpanOn M P w) spans
      → (spans ≡ [] → ⊥)
      → IsTrue (is_road M P w)
  is_road_by [] on some = absurd (some refl)
  is_road_by (s ∷ spans) on some =
      let first = on.sound s (contains_from_in (s ∷ spans) s (inl refl)) in
      let opens = piece_open (piece_of s) first.is in
      open_road s.name.dir (subst (λ v. is_open M P v s.name.dir ≡ true) first.of opens)

-- ---- marks

pub marked_in : (M : Objects) (P : Rules) (w : WayId) (m : ZoneMarks) → AreMarks M P w m → (d : Dir)
    → mark_in m d ≡ is_marked M P w d
marked_in M P w m are Forward = are.forward
marked_in M P w m are Backward = are.backward
