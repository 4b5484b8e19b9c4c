-- The pieces that a block lists are those of the way, and they start and end where its line says.
use Rattle.std.proofs.Common.{◌≡◌, ℕ, suc, ◌+◌, ◌-◌, ◌<◌, List, [], ◌∷◌, length, map, filter_map, slice_get, Option, Some}
use Rattle.std.proofs.Common.{IsTrue, Contains, inl, inr, refl, sym, ap, subst, ◌∙◌, arith}
use Rattle.std.specs.List.{cons_option}
use Rattle.std.specs.List.Sorted.{IsSortedByKey, IsStableByKey}
use Rattle.road_base.specs.declared.ids.NodeId.{NodeId}
use Rattle.road_base.specs.declared.ids.WayId.{WayId}
use Rattle.road_base.specs.declared.ids.Dir.{Dir}
use Rattle.road_base.specs.declared.ids.Dir.TheVariants.{Forward, Backward}
use Rattle.road_base.specs.Objects.{Objects}
use Rattle.road_model.specs.declared.lists.Place.{Place}
use Rattle.road_model.specs.declared.lists.Piece.{Piece}
use Rattle.road_model.specs.declared.blocks.Block.{Block}
use Rattle.road_model.specs.Rules.{Rules}
use Rattle.road_model.specs.Lines.{line_of, node_at}
use Rattle.road_model.specs.Pieces.{Span, IsPiece}
use Rattle.road_model.specs.Blocks.{place_position, IsListedPiece, ListsPieces}
use Rattle.ordered_lists.specs.Orders.{rises}
use Rattle.road_model.specs.Orders.{node_cmp, name_cmp}
use Rattle.way_lines.specs.declared.road_line.LineNode.{LineNode}
use Rattle.way_lines.specs.RoadLines.{line_node}
use Rattle.way_pieces.specs.declared.spans.PieceSpan.{PieceSpan}
use Rattle.way_pieces.specs.declared.arrivals.Arrival.{Arrival}
use Rattle.way_pieces.specs.declared.at_nodes.AtNode.{AtNode}
use Rattle.way_pieces.specs.declared.departures.Departure.{Departure}
use Rattle.way_pieces.specs.Listed.{listed_span, start_along, listed_start, stop_along, listed_stop}
use Rattle.way_pieces.specs.Names.{IsSpanOn, piece_of}
use Rattle.way_pieces.specs.RoadPieces.{AreSpans, AreStarts, AreStops}
use Rattle.way_pieces.specs.Starts.{node_in, start_on}
use Rattle.way_pieces.specs.Stops.{stop_on}
use Rattle.ordered_lists.proofs.ListMembers.{In, contains_map, contains_from_map, contains_from_in}
use Rattle.road_model.proofs.UniqueEntries.{one_piece}
use Rattle.road_model.proofs.TotalOrders.{name_cmp_total, node_cmp_total, node_cmp_exact}
use Rattle.junctions.proofs.Positions.{some_same}
use Rattle.way_pieces.proofs.LastPlaces.{last_two}
use Rattle.way_pieces.proofs.StartOrder.{span, there, line_by, within, are_starts}
use Rattle.way_pieces.proofs.StopOrder.{are_stops}

names_listed : (es : List Piece) → map (λ e. e.name) es ≡ map (λ s. s.name) (map listed_span es)
names_listed [] = refl
names_listed (e ∷ es) = ap (λ l. e.name ∷ l) (names_listed es)

-- ---- the pieces

module _ (M : Objects) (P : Rules) (w : WayId) where
  module _ (e : Piece) (is : IsListedPiece M P w e) where
    listed_is : is.piece ≡ piece_of (listed_span e)
    listed_is = λ x. record {
      way = (sym is.named x).way;
      index = (sym is.named x).index;
      end = sym is.end_is x;
      dir = (sym is.named x).dir;
    }

    listed_on : IsSpanOn M P w (listed_span e)
    listed_on = record { of = ap (λ n. n.way) is.named ∙ is.of; is = subst (IsPiece M P) listed_is is.is }

  module _ (b : Block) (lists : ListsPieces M P w b) where
    span_complete : (s : PieceSpan) → IsSpanOn M P w s → Contains (map listed_span b.pieces) s
    span_complete s on =
        let e = lists.complete (piece_of s) on.is on.of in
        let is = lists.sound e.0 e.1 in
        let same = one_piece M P is.piece (piece_of s) is.is on.is (sym is.named ∙ e.2) in
        let end : (e.0).end ≡ s.end = is.end_is ∙ ap (λ p. p.end) same in
        let name : (e.0).name ≡ s.name = e.2 in
        let read : listed_span e.0 ≡ s = λ x. record { name = name x; end = end x } in
        subst (Contains (map listed_span b.pieces)) read (contains_map listed_span b.pieces e.0 e.1)

    -- they are all pieces of the way
    pub are_listed : AreSpans M P w (map listed_span b.pieces)
    are_listed = record {
      ascending = subst (λ l. IsTrue (rises name_cmp l)) (names_listed b.pieces) lists.ascending;
      sound = λ s has.
          let e = contains_from_map listed_span b.pieces s has in
          subst (IsSpanOn M P w) (sym e.2) (listed_on e.0 (lists.sound e.0 e.1));
      complete = span_complete;
    }

-- ---- where they start and end

module _ (M : Objects) (P : Rules) (nodes : List LineNode) (w : WayId)
    (line : nodes ≡ map (line_node M P) (line_of M w)) where
  -- a place of a piece, by the line
  same_place : (k m : ℕ) (v : NodeId) → m < length nodes → k ≡ m → node_at M w k ≡ Some v → v ≡ node_in nodes m
  same_place k m v inside same is =
      some_same v (node_in nodes m)
      (sym is ∙ (ap (node_at M w) same ∙ there M P nodes w line m inside))

  start_read : (i j : ℕ) (d : Dir) (places : List Place) → i < j → j < length nodes → length places ≡ j - i + 1
      → ((k : ℕ) (x : Place) → slice_get places k ≡ Some x
      → node_at M w (place_position (record { way = w; index = i; end = j; dir = d }) k) ≡ Some x.node)
      → start_along (span w i j d) places ≡ Some (start_on nodes (span w i j d))
  start_read i j d [] up inside count each = absurd (omega arith)
  start_read i j d (x ∷ []) up inside count each = absurd (omega arith)
  start_read i j Forward (x ∷ y ∷ more) up inside count each =
      let from = same_place (i + 0) i x.node (omega arith) (omega arith) (each 0 x refl) in
      let to = same_place (i + 1) (i + 1) y.node (omega arith) refl (each 1 y refl) in
      λ z. Some (record {
        node = from z;
        item = record {
          piece = record { way = w; index = i; dir = Forward };
          first = record { way = w; index = i; dir = Forward };
          toward = to z;
        };
      })
  start_read i j Backward (x ∷ y ∷ more) up inside count each =
      let from = same_place (j - 0) j x.node (omega arith) (omega arith) (each 0 x refl) in
      let to = same_place (j - 1) (j - 1) y.node (omega arith) refl (each 1 y refl) in
      λ z. Some (record {
        node = from z;
        item = record {
          piece = record { way = w; index = i; dir = Backward };
          first = record { way = w; index = j - 1; dir = Backward };
          toward = to z;
        };
      })

  stop_read : (i j : ℕ) (d : Dir) (places : List Place) → i < j → j < length nodes → length places ≡ j - i + 1
      → ((k : ℕ) (x : Place) → slice_get places k ≡ Some x
      → node_at M w (place_position (record { way = w; index = i; end = j; dir = d }) k) ≡ Some x.node)
      → stop_along (span w i j d) places ≡ Some (stop_on nodes (span w i j d))
  stop_read i j Forward places up inside count each =
      let r = last_two (span w i j Forward) places (j - i - 1) (omega arith) in
      let from = same_place (i + (j - i - 1)) (j - 1) (r.from).node (omega arith) (omega arith)
      (each (j - i - 1) r.from r.before) in
      let to = same_place (i + (suc (j - i - 1))) j (r.to).node (omega arith) (omega arith)
      (each (suc (j - i - 1)) r.to r.last) in
      r.read ∙ (λ z. Some (record { node = to z; item = record { span = span w i j Forward; from = from z } }))
  stop_read i j Backward places up inside count each =
      let r = last_two (span w i j Backward) places (j - i - 1) (omega arith) in
      let from = same_place (j - (j - i - 1)) (i + 1) (r.from).node (omega arith) (omega arith)
      (each (j - i - 1) r.from r.before) in
      let to = same_place (j - (suc (j - i - 1))) i (r.to).node (omega arith) (omega arith)
      (each (suc (j - i - 1)) r.to r.last) in
      r.read ∙ (λ z. Some (record { node = to z; item = record { span = span w i j Backward; from = from z } }))

-- what is read of each piece
all_read : {A : Type 0} (read : Piece → Option A) (on : PieceSpan → A) (es : List Piece)
    → ((e : Piece) → In e es → read e ≡ Some (on (listed_span e)))
    → filter_map read es ≡ map on (map listed_span es)
all_read read on [] each = refl
all_read {A = A} read on (e ∷ es) each =
    ap (λ o. cons_option o (filter_map read es)) (each e (inl refl))
    ∙ ap (λ (l : List A). on (listed_span e) ∷ l) (all_read read on es (λ f i. each f (inr i)))

module _ (M : Objects) (P : Rules) (w : WayId) where
  abbrev nodes : List LineNode
  nodes = map (line_node M P) (line_of M w)

  -- a listed piece starts where the line says
  start_is : (e : Piece) → IsListedPiece M P w e → listed_start e ≡ Some (start_on nodes (listed_span e))
  start_is e is =
      let on = listed_on M P w e is in
      let fits = within M P w nodes (λ road. refl) (listed_span e) on in
      start_read M P nodes e.name.way (line_by M P w nodes (λ road. refl) (listed_span e) on)
      e.name.index e.end e.name.dir e.places fits.0 fits.1
      (is.count ∙ ap (λ (p : Span). p.end - p.index + 1) (listed_is M P w e is))
      (subst (λ (p : Span). (k : ℕ) (x : Place) → slice_get e.places k ≡ Some x
      → node_at M p.way (place_position p k) ≡ Some x.node) (listed_is M P w e is) is.nodes)

  -- and ends there
  stop_is : (e : Piece) → IsListedPiece M P w e → listed_stop e ≡ Some (stop_on nodes (listed_span e))
  stop_is e is =
      let on = listed_on M P w e is in
      let fits = within M P w nodes (λ road. refl) (listed_span e) on in
      stop_read M P nodes e.name.way (line_by M P w nodes (λ road. refl) (listed_span e) on)
      e.name.index e.end e.name.dir e.places fits.0 fits.1
      (is.count ∙ ap (λ (p : Span). p.end - p.index + 1) (listed_is M P w e is))
      (subst (λ (p : Span). (k : ℕ) (x : Place) → slice_get e.places k ≡ Some x
      → node_at M p.way (place_position p k) ≡ Some x.node) (listed_is M P w e is) is.nodes)

  -- the starts that are read, sorted
  pub starts_listed : (b : Block) → ListsPieces M P w b → (old new : List (AtNode Departure))
      → old ≡ filter_map listed_start b.pieces → IsSortedByKey (λ s. s.node) node_cmp new
      → IsStableByKey (λ s. s.node) node_cmp old new → AreStarts M P w new
  starts_listed b lists old new made sorted stable =
      are_starts M P w name_cmp_total node_cmp_total node_cmp_exact nodes (λ road. refl) (map listed_span b.pieces)
      (are_listed M P w b lists) old new
      (made ∙ all_read listed_start (start_on nodes) b.pieces
      (λ e i. start_is e (lists.sound e (contains_from_in b.pieces e i))))
      sorted stable

  -- the ends that are read, sorted
  pub stops_listed : (b : Block) → ListsPieces M P w b → (old new : List (AtNode Arrival))
      → old ≡ filter_map listed_stop b.pieces → IsSortedByKey (λ s. s.node) node_cmp new
      → IsStableByKey (λ s. s.node) node_cmp old new → AreStops M P w new
  stops_listed b lists old new made sorted stable =
      are_stops M P w name_cmp_total node_cmp_total node_cmp_exact nodes (λ road. refl) (map listed_span b.pieces)
      (are_listed M P w b lists) old new
      (made ∙ all_read listed_stop (stop_on nodes) b.pieces
      (λ e i. stop_is e (lists.sound e (contains_from_in b.pieces e i))))
      sorted stable
