-- The places of a piece, and where it ends.
use Rattle.std.proofs.Common.{
  true,
  is_some,
  ◌≡◌,
  ℕ,
  zero,
  suc,
  ◌+◌,
  ◌-◌,
  ◌<◌,
  ◌≤◌,
  List,
  [],
  ◌∷◌,
  ◌++◌,
  length,
  map,
  take,
  drop,
  reverse,
  inl,
  inr,
  refl,
  sym,
  ap,
  ◌∙◌,
  subst,
  arith,
  get_or,
  slice_get,
  slice_index_or,
  Some,
  None,
  Option,
  option_map,
  filter_map,
  IsTrue,
  length-take,
  length-drop,
  get_or-take,
  get_or-drop,
}
use Rattle.std.specs.List.{cons_option}
use Rattle.std.proofs.lemmas.Bool.{false≢true}
use Rattle.std.proofs.lemmas.List.{get_or-reverse, length-reverse, reverse-append, length-map}
use Rattle.std.proofs.lemmas.List.Elements.{filter_map-append}
use Rattle.std.proofs.lemmas.Option.{same_Some, slice_get_within, slice_get-get_or, get_or_from_slice_get}
use Rattle.road_base.specs.declared.ids.NodeId.{NodeId}
use Rattle.road_base.specs.declared.ids.WayId.{WayId}
use Rattle.road_base.specs.declared.ids.Dir.{Dir}
use Rattle.road_base.specs.declared.ids.Dir.TheVariants.{Forward, Backward}
use Rattle.road_base.specs.declared.location.Location.{Location}
use Rattle.road_base.specs.declared.objects.Node.{Node}
use Rattle.road_base.specs.Objects.{Objects, node_of}
use Rattle.road_model.specs.declared.lists.Place.{Place}
use Rattle.road_model.specs.Rules.{Rules}
use Rattle.road_model.specs.Lines.{line_of, node_at, end_at, tail_of, head_of, tail_position, head_position}
use Rattle.road_model.specs.Driving.{node_located, located}
use Rattle.road_model.specs.Pieces.{IsPiece}
use Rattle.road_model.specs.Blocks.{IsPlaceOf, place_position}
use Rattle.way_pieces.specs.declared.spans.PieceSpan.{PieceSpan}
use Rattle.way_pieces.specs.declared.departures.Departure.{Departure}
use Rattle.way_pieces.specs.Names.{IsDeparture, piece_of}
use Rattle.way_lines.specs.declared.road_line.LineNode.{LineNode}
use Rattle.way_lines.specs.RoadLines.{location_in, location_of, line_node}
use Rattle.way_pieces.specs.Names.{Arrives}
use Rattle.expanded_graph.specs.Travel.{place_of, nodes_on, travelled}
use Rattle.ordered_lists.proofs.ListMembers.{In, at_in}
use Rattle.road_model.proofs.FinitePieces.{piece_located}
use Rattle.way_pieces.proofs.DrivenSteps.{named_end}
use Rattle.expanded_graph.proofs.Ends.{step, first_index, first_step, spell_begins, last_index, last_step, spell_ends}
use Rattle.expanded_graph.proofs.Ends.{piece_on_line}

-- ---- lists of those that lie somewhere

reverse_option : {A : Type 0} (o : Option A) → reverse (cons_option o []) ≡ cons_option o []
reverse_option None = refl
reverse_option (Some x) = refl

cons_option-append : {A : Type 0} (o : Option A) (xs : List A) → cons_option o xs ≡ cons_option o [] ++ xs
cons_option-append None xs = refl
cons_option-append (Some x) xs = refl

filter_map-reverse : {A B : Type 0} (f : A → Option B) (xs : List A)
    → filter_map f (reverse xs) ≡ reverse (filter_map f xs)
filter_map-reverse f [] = refl
filter_map-reverse f (x ∷ xs) =
    ap (filter_map f) (reverse-append (x ∷ []) xs)
    ∙ filter_map-append f (reverse xs) (x ∷ [])
    ∙ ap (λ ys. ys ++ cons_option (f x) []) (filter_map-reverse f xs)
    ∙ ap (λ ys. reverse (filter_map f xs) ++ ys) (sym (reverse_option (f x)))
    ∙ sym (reverse-append (cons_option (f x) []) (filter_map f xs))
    ∙ ap reverse (sym (cons_option-append (f x) (filter_map f xs)))

pub filter_map-travelled : {A B : Type 0} (d : Dir) (f : A → Option B) (xs : List A)
    → filter_map f (travelled d xs) ≡ travelled d (filter_map f xs)
filter_map-travelled Forward f xs = refl
filter_map-travelled Backward f xs = filter_map-reverse f xs

-- the value that an option has
pub record Has {A : Type 0} (o : Option A) : Type 0 where
  pub value : A
  pub is : o ≡ Some value

kept_length : {A B : Type 0} (h : A → Option B) (x : A) (xs : List A) (o : Option B) → Has o
    → length (filter_map h xs) ≡ length xs → length (cons_option o (filter_map h xs)) ≡ suc (length xs)
kept_length h x xs None v e = let n = v.is in cc
kept_length h x xs (Some y) v e = ap suc e

-- where each member gives something, none is left out
all_kept : {A B : Type 0} (h : A → Option B) (xs : List A) → ((x : A) → In x xs → Has (h x))
    → length (filter_map h xs) ≡ length xs
all_kept h [] each = refl
all_kept h (x ∷ xs) each = kept_length h x xs (h x) (each x (inl refl)) (all_kept h xs (λ y i. each y (inr i)))

-- where a member of the kept list comes from
record From {A B : Type 0} (h : A → Option B) (xs : List A) (k : ℕ) (y : B) : Type 0 where
  value : A
  at : slice_get xs k ≡ Some value
  gives : h value ≡ Some y

from_next : {A B : Type 0} (h : A → Option B) (x : A) (xs : List A) (k : ℕ) (y : B) → From h xs k y
    → From h (x ∷ xs) (suc k) y
from_next h x xs k y f = record { value = f.value; at = f.at; gives = f.gives }

from_more : {A B : Type 0} (h : A → Option B) (x : A) (xs : List A) (o : Option B) (k : ℕ) (y : B) → h x ≡ o → Has o
    → slice_get (cons_option o (filter_map h xs)) k ≡ Some y
    → ((j : ℕ) → slice_get (filter_map h xs) j ≡ Some y → From h xs j y) → From h (x ∷ xs) k y
from_more h x xs None k y e v at go = let n = v.is in cc
from_more h x xs (Some z) zero y e v at go = record { value = x; at = refl; gives = e ∙ at }
from_more h x xs (Some z) (suc k) y e v at go = from_next h x xs k y (go k at)

kept_from : {A B : Type 0} (h : A → Option B) (xs : List A) (k : ℕ) (y : B) → ((x : A) → In x xs → Has (h x))
    → slice_get (filter_map h xs) k ≡ Some y → From h xs k y
kept_from h [] k y each at = cc
kept_from h (x ∷ xs) k y each at =
    from_more h x xs (h x) k y refl (each x (inl refl)) at (λ j e. kept_from h xs j y (λ z i. each z (inr i)) e)

-- ---- a part of a list, in either direction

part_length : {A : Type 0} (xs : List A) (i j : ℕ) → i < j → j < length xs
    → length (take (j - i + 1) (drop i xs)) ≡ j - i + 1
part_length xs i j a b = omega (arith, length-take (j - i + 1) (drop i xs), length-drop i xs)

part_at : {A : Type 0} (xs : List A) (i j k : ℕ) (x : A) → i < j → j < length xs
    → slice_get (take (j - i + 1) (drop i xs)) k ≡ Some x → slice_get xs (i + k) ≡ Some x
part_at xs i j k x a b e =
    let l = slice_get_within (take (j - i + 1) (drop i xs)) k x e in
    let long = part_length xs i j a b in
    let at : slice_index_or xs (i + k) x ≡ x =
    sym (get_or-drop i xs k x)
    ∙ (sym (get_or-take (j - i + 1) (drop i xs) k x (omega arith))
    ∙ get_or_from_slice_get (take (j - i + 1) (drop i xs)) k x x e) in
    slice_get-get_or xs (i + k) x (omega arith) ∙ ap Some at

reversed_at : {A : Type 0} (ys : List A) (k : ℕ) (x : A) → slice_get (reverse ys) k ≡ Some x
    → slice_get ys (length ys - 1 - k) ≡ Some x
reversed_at ys k x e =
    let l = slice_get_within (reverse ys) k x e in
    let long = length-reverse ys in
    let at : slice_index_or ys (length ys - 1 - k) x ≡ x =
    sym (get_or-reverse ys k x (omega arith)) ∙ get_or_from_slice_get (reverse ys) k x x e in
    slice_get-get_or ys (length ys - 1 - k) x (omega arith) ∙ ap Some at

-- the position of the k-th node of travel between two positions
abbrev travel_position : Dir → ℕ → ℕ → ℕ → ℕ
travel_position Forward i j k = i + k
travel_position Backward i j k = j - k

travelled_at : {A : Type 0} (d : Dir) (xs : List A) (i j k : ℕ) (x : A) → i < j → j < length xs
    → slice_get (travelled d (take (j - i + 1) (drop i xs))) k ≡ Some x
    → slice_get xs (travel_position d i j k) ≡ Some x
travelled_at Forward xs i j k x a b e = part_at xs i j k x a b e
travelled_at Backward xs i j k x a b e =
    let ys = take (j - i + 1) (drop i xs) in
    let long = part_length xs i j a b in
    let l = slice_get_within (reverse ys) k x e in
    let m = length-reverse ys in
    let f : i + (length ys - 1 - k) ≡ j - k = omega arith in
    subst (λ z. slice_get xs z ≡ Some x) f (part_at xs i j (length ys - 1 - k) x a b (reversed_at ys k x e))

travelled_within : {A : Type 0} (d : Dir) (xs : List A) (i j k : ℕ) (x : A) → i < j → j < length xs
    → slice_get (travelled d (take (j - i + 1) (drop i xs))) k ≡ Some x → k ≤ j - i
travelled_within Forward xs i j k x a b e =
    let long = part_length xs i j a b in
    let l = slice_get_within (take (j - i + 1) (drop i xs)) k x e in
    omega arith
travelled_within Backward xs i j k x a b e =
    let ys = take (j - i + 1) (drop i xs) in
    let long = part_length xs i j a b in
    let l = slice_get_within (reverse ys) k x e in
    let m = length-reverse ys in
    omega arith

travelled_length : {A : Type 0} (d : Dir) (xs : List A) (i j : ℕ) → i < j → j < length xs
    → length (travelled d (take (j - i + 1) (drop i xs))) ≡ j - i + 1
travelled_length Forward xs i j a b = part_length xs i j a b
travelled_length Backward xs i j a b = length-reverse (take (j - i + 1) (drop i xs)) ∙ part_length xs i j a b

position_is : (w : WayId) (i j : ℕ) (d : Dir) (k : ℕ)
    → place_position (record { way = w; index = i; end = j; dir = d }) k ≡ travel_position d i j k
position_is w i j Forward k = refl
position_is w i j Backward k = refl

position_between : (d : Dir) (i j k : ℕ) → i < j → k ≤ j - i → (i ≤ travel_position d i j k)
    × (travel_position d i j k ≤ j)
position_between Forward i j k a b = (omega arith, omega arith)
position_between Backward i j k a b = (omega arith, omega arith)

-- ---- the places of a piece

has_from_some : {A : Type 0} (o : Option A) → is_some o ≡ true → Has o
has_from_some None h = absurd (false≢true h)
has_from_some (Some x) h = record { value = x; is = refl }

module _ (M : Objects) (P : Rules) where
  body_located : (o : Option Node) → IsTrue (node_located o) → Has (location_in o)
  body_located None h = absurd (false≢true h)
  body_located (Some n) h = has_from_some n.location h

  node_lies : (v : NodeId) → IsTrue (located M (Some v)) → Has (location_of M v)
  node_lies v h = body_located (node_of M v) h

  way_node_known : (v : NodeId) → Has (location_of M v) → Has (place_of (line_node M P v))
  way_node_known v h =
      record {
        value = record { node = v; location = h.value };
        is = ap (option_map (λ l. record { node = v; location = l })) h.is;
      }

  mapped_at : (xs : List NodeId) (k : ℕ) (s : LineNode) → slice_get (map (line_node M P) xs) k ≡ Some s → (v : NodeId)
      × (slice_get xs k ≡ Some v) × (line_node M P v ≡ s)
  mapped_at [] k s e = cc
  mapped_at (x ∷ xs) zero s e = (x, refl, same_Some _ _ e)
  mapped_at (x ∷ xs) (suc k) s e = mapped_at xs k s e

  -- the body of a node that lies somewhere
  record LiesAt (v : NodeId) (l : Location) : Type 0 where
    body : Node
    visible : node_of M v ≡ Some body
    location : body.location ≡ Some l

  lies_by : (v : NodeId) (l : Location) (o : Option Node) → node_of M v ≡ o → location_in o ≡ Some l → LiesAt v l
  lies_by v l None e h = cc
  lies_by v l (Some n) e h = record { body = n; visible = e; location = h }

  lies_at : (v : NodeId) (l : Location) → location_of M v ≡ Some l → LiesAt v l
  lies_at v l h = lies_by v l (node_of M v) refl h

  node_on_line : (w : WayId) (k : ℕ) (v : NodeId) → slice_get (line_of M w) k ≡ Some v → node_at M w k ≡ Some v
  unfolding node_at
  node_on_line w k v e = e

  way_node_on_line : (w : WayId) (nodes : List LineNode) (k : ℕ) (s : LineNode)
      → nodes ≡ map (line_node M P) (line_of M w) → slice_get nodes k ≡ Some s → (node_at M w k ≡ Some s.node)
      × (line_node M P s.node ≡ s)
  way_node_on_line w nodes k s line e =
      let r = mapped_at (line_of M w) k s (subst (λ l. slice_get l k ≡ Some s) line e) in
      let n : r.0 ≡ s.node = ap (λ t. t.node) r.2 in
      (node_on_line w k r.0 r.1 ∙ ap Some n, ap (line_node M P) (sym n) ∙ r.2)

  location_from : (v : NodeId) (o : Option Location) (x : Place) → location_of M v ≡ o
      → option_map (λ l. record { node = v; location = l }) o ≡ Some x → (x.node ≡ v)
      × (location_of M v ≡ Some x.location)
  location_from v None x e h = cc
  location_from v (Some l) x e h =
      let same : record { node = v; location = l } ≡ x = same_Some _ _ h in
      (sym (ap (λ p. p.node) same), e ∙ ap (λ p. Some p.location) same)

  -- the place of a node of the line
  placed : (v : NodeId) (x : Place) → place_of (line_node M P v) ≡ Some x → (x.node ≡ v) × LiesAt x.node x.location
  placed v x h =
      let r = location_from v (location_of M v) x refl h in
      (r.0, lies_at x.node x.location (ap (location_of M) r.0 ∙ r.1))

  module _ (s : PieceSpan) (is : IsPiece M P (piece_of s)) (nodes : List LineNode)
      (line : nodes ≡ map (line_node M P) (line_of M s.name.way)) where
    pub within : s.end < length nodes
    within =
        let on = piece_on_line M P (piece_of s) is in
        let long : length nodes ≡ length (line_of M s.name.way) =
        ap length line ∙ length-map (line_of M s.name.way) (line_node M P) in
        omega arith

    abbrev position : ℕ → ℕ
    position k = travel_position s.name.dir s.name.index s.end k

    way_node_of : (k : ℕ) (x : LineNode) → slice_get (nodes_on s nodes) k ≡ Some x
        → (node_at M s.name.way (position k) ≡ Some x.node) × (line_node M P x.node ≡ x)
    way_node_of k x e =
        way_node_on_line s.name.way nodes (position k) x line
        (travelled_at s.name.dir nodes s.name.index s.end k x is.ascends within e)

    way_node_lies : (k : ℕ) (x : LineNode) → slice_get (nodes_on s nodes) k ≡ Some x → Has (place_of x)
    way_node_lies k x e =
        let r = way_node_of k x e in
        let k_within = travelled_within s.name.dir nodes s.name.index s.end k x is.ascends within e in
        let between = position_between s.name.dir s.name.index s.end k is.ascends k_within in
        let there = piece_located M P (piece_of s) is (position k) between.0 between.1 in
        subst (λ t. Has (place_of t)) r.1
        (way_node_known x.node (node_lies x.node (subst (λ o. IsTrue (located M o)) r.0 there)))

    each_lies : (x : LineNode) → In x (nodes_on s nodes) → Has (place_of x)
    each_lies x i = let a = at_in (nodes_on s nodes) x i in way_node_lies a.0 x a.1

    -- all nodes of the piece have places
    pub places_count : length (filter_map place_of (nodes_on s nodes)) ≡ s.end - s.name.index + 1
    places_count =
        all_kept place_of (nodes_on s nodes) each_lies
        ∙ travelled_length s.name.dir nodes s.name.index s.end is.ascends within

    pub places_at : (k : ℕ) (x : Place) → slice_get (filter_map place_of (nodes_on s nodes)) k ≡ Some x
        → IsPlaceOf M (piece_of s) k x
    places_at k x e =
        let f = kept_from place_of (nodes_on s nodes) k x each_lies e in
        let r = way_node_of k f.value f.at in
        let p = placed f.value.node x (ap place_of r.1 ∙ f.gives) in
        let lies = p.1 in
        record {
          node = ap (node_at M s.name.way) (position_is s.name.way s.name.index s.end s.name.dir k) ∙ r.0
              ∙ ap Some (sym p.0);
          body = lies.body;
          visible = lies.visible;
          location = lies.location;
        }

-- ---- where a piece ends

module _ (M : Objects) (P : Rules) (s : PieceSpan) (nodes : List LineNode) (ascends : s.name.index < s.end)
    (inside : s.end < length nodes) (line : nodes ≡ map (line_node M P) (line_of M s.name.way)) where
  way_node_there : (k : ℕ) (d : LineNode) → k < length nodes → node_at M s.name.way k ≡ Some (get_or nodes k d).node
  way_node_there k d h =
      (way_node_on_line M P s.name.way nodes k (get_or nodes k d) line (slice_get-get_or nodes k d h)).0

  arrives_by : (u v : NodeId) → tail_of M (last_step (piece_of s)) ≡ Some u
      → head_of M (last_step (piece_of s)) ≡ Some v → Arrives M (piece_of s) u v
  arrives_by u v e f = let r =
      spell_ends (piece_of s) ascends in record {
        front = r.front;
        last = last_step (piece_of s);
        ends = r.is;
        tail = e;
        head = f;
      }

  last_up : (d : Dir) (i j : ℕ) → i < j → last_index d i j + 1 ≤ j
  last_up Forward i j up = omega arith
  last_up Backward i j up = omega arith

  -- the nodes of the last step
  last_end : (i : ℕ) → end_at M (last_step (piece_of s)) i ≡ node_at M s.name.way i
  last_end i =
      let whole : length nodes ≡ length (line_of M s.name.way) =
      ap length line ∙ length-map (line_of M s.name.way) (line_node M P) in
      let up = last_up s.name.dir s.name.index s.end ascends in
      named_end M (last_step (piece_of s)) i (omega arith)

  pub arrives_forward : s.name.dir ≡ Forward → (d e : LineNode)
      → Arrives M (piece_of s) (get_or nodes (s.end - 1) d).node (get_or nodes s.end e).node
  arrives_forward is d e =
      arrives_by (get_or nodes (s.end - 1) d).node (get_or nodes s.end e).node
      (last_end _ ∙ ap (λ x. node_at M s.name.way (tail_position x (last_index x s.name.index s.end))) is
      ∙ way_node_there (s.end - 1) d (omega arith))
      (let same : s.end - 1 + 1 ≡ s.end = omega arith in
      last_end _ ∙ ap (λ x. node_at M s.name.way (head_position x (last_index x s.name.index s.end))) is
      ∙ (ap (node_at M s.name.way) same ∙ way_node_there s.end e inside))

  pub arrives_backward : s.name.dir ≡ Backward → (d e : LineNode)
      → Arrives M (piece_of s) (get_or nodes (s.name.index + 1) d).node (get_or nodes s.name.index e).node
  arrives_backward is d e =
      arrives_by (get_or nodes (s.name.index + 1) d).node (get_or nodes s.name.index e).node
      (last_end _ ∙ ap (λ x. node_at M s.name.way (tail_position x (last_index x s.name.index s.end))) is
      ∙ way_node_there (s.name.index + 1) d (omega arith))
      (last_end _ ∙ ap (λ x. node_at M s.name.way (head_position x (last_index x s.name.index s.end))) is
      ∙ way_node_there s.name.index e (omega arith))

  -- ---- where a piece starts

  first_up : (d : Dir) (i j : ℕ) → i < j → first_index d i j + 1 ≤ j
  first_up Forward i j up = omega arith
  first_up Backward i j up = omega arith

  -- the nodes of the first step
  first_end : (i : ℕ) → end_at M (first_step (piece_of s)) i ≡ node_at M s.name.way i
  first_end i =
      let whole : length nodes ≡ length (line_of M s.name.way) =
      ap length line ∙ length-map (line_of M s.name.way) (line_node M P) in
      let up = first_up s.name.dir s.name.index s.end ascends in
      named_end M (first_step (piece_of s)) i (omega arith)

  module _ (is : IsPiece M P (piece_of s)) where
    starts_by : (z : Departure) (v : NodeId) → z.piece ≡ s.name → z.first ≡ first_step (piece_of s)
        → tail_of M (first_step (piece_of s)) ≡ Some v → head_of M (first_step (piece_of s)) ≡ Some z.toward
        → IsDeparture M P v z
    starts_by z v named first e f =
        let r = spell_begins (piece_of s) ascends in
        record {
          piece = piece_of s;
          is = is;
          named = named;
          more = r.rest;
          begins = r.is ∙ ap (λ x. x ∷ r.rest) (sym first);
          leaves = ap (tail_of M) first ∙ e;
          toward = ap (head_of M) first ∙ f;
        }

    pub starts_forward : s.name.dir ≡ Forward → (d e : LineNode) (z : Departure) (v : NodeId) → z.piece ≡ s.name
        → z.first ≡ record { way = s.name.way; index = s.name.index; dir = s.name.dir }
        → v ≡ (get_or nodes s.name.index d).node → z.toward ≡ (get_or nodes (s.name.index + 1) e).node
        → IsDeparture M P v z
    starts_forward along d e z v named first at toward =
        let index : s.name.index ≡ first_index s.name.dir s.name.index s.end =
        sym (ap (λ x. first_index x s.name.index s.end) along) in
        starts_by z v named (first ∙ ap (λ k. step s.name.way k s.name.dir) index)
        (first_end _ ∙ ap (λ x. node_at M s.name.way (tail_position x (first_index x s.name.index s.end))) along
        ∙ (way_node_there s.name.index d (omega arith) ∙ ap Some (sym at)))
        (first_end _ ∙ ap (λ x. node_at M s.name.way (head_position x (first_index x s.name.index s.end))) along
        ∙ (way_node_there (s.name.index + 1) e (omega arith) ∙ ap Some (sym toward)))

    pub starts_backward : s.name.dir ≡ Backward → (d e : LineNode) (z : Departure) (v : NodeId) → z.piece ≡ s.name
        → z.first ≡ record { way = s.name.way; index = s.end - 1; dir = s.name.dir }
        → v ≡ (get_or nodes s.end d).node → z.toward ≡ (get_or nodes (s.end - 1) e).node
        → IsDeparture M P v z
    starts_backward against d e z v named first at toward =
        let index : s.end - 1 ≡ first_index s.name.dir s.name.index s.end =
        sym (ap (λ x. first_index x s.name.index s.end) against) in
        let up : s.end - 1 + 1 ≡ s.end = omega arith in
        starts_by z v named (first ∙ ap (λ k. step s.name.way k s.name.dir) index)
        (first_end _ ∙ ap (λ x. node_at M s.name.way (tail_position x (first_index x s.name.index s.end))) against
        ∙ (ap (node_at M s.name.way) up ∙ (way_node_there s.end d inside ∙ ap Some (sym at))))
        (first_end _ ∙ ap (λ x. node_at M s.name.way (head_position x (first_index x s.name.index s.end))) against
        ∙ (way_node_there (s.end - 1) e (omega arith) ∙ ap Some (sym toward)))
