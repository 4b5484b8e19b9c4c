-- A way with pieces has a located node, and the cell in which its first one lies owns it and no other does.
use Rattle.std.proofs.Common.{◌≡◌, ℕ, ◌≤◌, List, [], ◌∷◌, length, map, slice_get, Option, Some, None}
use Rattle.std.proofs.Common.{IsTrue, Contains, inl, inr, refl, sym, ap, subst, ◌∙◌, arith, true, ◌⊎◌}
use Rattle.std.specs.Option.{option_or, option_map}
use Rattle.std.proofs.lemmas.Bool.{and_parts, or_left, or_right, cases_order}
use Rattle.std.proofs.lemmas.Option.{slice_get-map}
use Rattle.road_base.specs.declared.ids.NodeId.{NodeId}
use Rattle.road_base.specs.declared.ids.WayId.{WayId}
use Rattle.road_base.specs.declared.location.Location.{Location}
use Rattle.road_base.specs.declared.objects.Node.{Node}
use Rattle.road_base.specs.declared.objects.Way.{Way}
use Rattle.road_base.specs.Objects.{Objects, node_of, way_of}
use Rattle.ordered_lists.proofs.ListMembers.{in_from_contains, at_in, contains_from_map}
use Rattle.ordered_lists.proofs.ListMembers.{contains_head, contains_later, contains_cases, contains_none}
use Rattle.road_base.specs.declared.ids.Step.{Step}
use Rattle.road_base.specs.declared.ids.Dir.{Dir}
use Rattle.road_base.specs.declared.ids.Dir.TheVariants.{Forward, Backward}
use Rattle.road_model.specs.declared.blocks.Block.{Block}
use Rattle.road_model.specs.declared.lists.Piece.{Piece}
use Rattle.road_model.specs.Rules.{Rules}
use Rattle.road_model.specs.Lines.{node_at}
use Rattle.road_model.specs.Driving.{is_open, is_road, drivable}
use Rattle.road_model.specs.Blocks.{place_position, IsPieceEntry, IsRoadBlock}
use Rattle.road_model.specs.Links.{RefersTo}
use Rattle.road_model.proofs.LocalLinks.{node_same, way_same}
use Rattle.map_cells.specs.Areas.{is_in, CoverNodes}
use Rattle.map_cells.specs.Owners.{place_in, first_place, IsOwn}
use Rattle.map_cells.specs.Parts.{Cell, AreCells, HasOneOwner}
use Rattle.map_cells.proofs.KeptLinks.{way_kept}

-- ---- the first located node

-- the node is visible, and located there
record IsPlacedAt (M : Objects) (n : NodeId) (x : Location) : Type 0 where
  body : Node
  is : node_of M n ≡ Some body
  located : body.location ≡ Some x

placed_at : (o : Option Node) (x : Location) → place_in o ≡ Some x
    → (body : Node) × (o ≡ Some body) × (body.location ≡ Some x)
placed_at None x e = cc
placed_at (Some body) x e = (body, refl, e)

module _ (M : Objects) where
  place_of : (n : NodeId) (x : Location) → IsPlacedAt M n x → place_in (node_of M n) ≡ Some x
  place_of n x h = ap place_in h.is ∙ h.located

  here : (n : NodeId) (x : Location) → place_in (node_of M n) ≡ Some x → IsPlacedAt M n x
  here n x e = let h = placed_at (node_of M n) x e in record { body = h.0; is = h.1; located = h.2 }

  or_later : (o q : Option Location) (x : Location) → option_or o q ≡ Some x → (o ≡ Some x) ⊎ (q ≡ Some x)
  or_later None q x e = inr e
  or_later (Some y) q x e = inl e

  or_first : (o q : Option Location) → (y : Location) × (q ≡ Some y) → (y : Location) × (option_or o q ≡ Some y)
  or_first None q h = h
  or_first (Some x) q h = (x, refl)

  -- it is the place of one of the nodes
  first_at : (ns : List NodeId) (x : Location) → first_place M ns ≡ Some x
      → (n : NodeId) × Contains ns n × IsPlacedAt M n x
  unfolding first_place
  first_at [] x e = cc
  first_at (n ∷ ns) x e = elim (or_later (place_in (node_of M n)) (first_place M ns) x e) [
    | inl now ↦ (n, contains_head n ns, here n x now)
    | inr more ↦ let h = first_at ns x more in (h.0, contains_later n h.0 ns h.1, h.2)
  ]

  -- one of them is located, so there is a first one
  first_some : (ns : List NodeId) (n : NodeId) (x : Location) → Contains ns n → IsPlacedAt M n x
      → (y : Location) × (first_place M ns ≡ Some y)
  unfolding first_place
  first_some [] n x has placed = absurd (contains_none n has)
  first_some (m ∷ ns) n x has placed = elim (contains_cases m n ns has) [
    | inl is ↦ (x, ap (λ o. option_or o (first_place M ns)) (place_of m x (subst (λ k. IsPlacedAt M k x) is placed)))
    | inr more ↦ or_first (place_in (node_of M m)) (first_place M ns) (first_some ns n x more placed)
  ]

-- it is the same where each of the nodes is
first_same : (M C : Objects) (ns : List NodeId) → ((n : NodeId) → Contains ns n → node_of C n ≡ node_of M n)
    → first_place C ns ≡ first_place M ns
unfolding first_place
first_same M C [] same = refl
first_same M C (n ∷ ns) same = λ i. option_or (place_in (same n (contains_head n ns) i))
    (first_same M C ns (λ m has. same m (contains_later n m ns has)) i)

-- ---- a way with pieces has a located node

open_road : (M : Objects) (P : Rules) (w : WayId) (d : Dir) → is_open M P w d ≡ true → IsTrue (is_road M P w)
open_road M P w Forward e = or_left (is_open M P w Forward) (is_open M P w Backward) e
open_road M P w Backward e = or_right (is_open M P w Forward) (is_open M P w Backward) e

drivable_road : (M : Objects) (P : Rules) (s : Step) → IsTrue (drivable M P s) → IsTrue (is_road M P s.way)
unfolding drivable
drivable_road M P s drives = open_road M P s.way s.dir (and_parts _ _ drives).0

first_of_some : {A : Type 0} (xs : List A) → 1 ≤ length xs → (x : A) × (slice_get xs 0 ≡ Some x)
first_of_some [] some = absurd (omega arith)
first_of_some (x ∷ xs) some = (x, refl)

-- the way refers to a located node
record HasPlace (M : Objects) (w : WayId) : Type 0 where
  node : NodeId
  place : Location
  refers : RefersTo M w node
  placed : IsPlacedAt M node place

module _ (M : Objects) (P : Rules) (passed : (w : WayId) (i : ℕ) (v : NodeId) → IsTrue (is_road M P w)
    → node_at M w i ≡ Some v → RefersTo M w v) where
  piece_place : (w : WayId) (e : Piece) → IsPieceEntry M P w e → HasPlace M w
  piece_place w e entry =
      let p = entry.piece in
      let count = entry.count in
      let some : 1 ≤ length e.places = omega arith in
      let first = first_of_some e.places some in
      let at = entry.places 0 first.0 first.1 in
      let low : p.index ≤ p.index = omega arith in
      let step : Step = record { way = p.way; index = p.index; dir = p.dir } in
      let road = drivable_road M P step (entry.is.drives p.index low entry.is.ascends) in
      record {
        node = first.0.node;
        place = first.0.location;
        refers = subst (λ v. RefersTo M v first.0.node) entry.of
            (passed p.way (place_position p 0) first.0.node road at.node);
        placed = record { body = at.body; is = at.visible; located = at.location };
      }

  block_place : (b : Block) (ps : List Piece) → b.pieces ≡ ps → IsRoadBlock M P b → HasPlace M b.way
  block_place b [] none road = absurd (road.some none)
  block_place b (e ∷ rest) is road = piece_place b.way e
      (road.block.pieces.sound e (subst (λ ps. Contains ps e) (sym is) (contains_head e rest)))

-- ---- its owner

-- two cells that share a place stand at the same position, and so are one
one_cell_at : (M : Objects) (cells : List Cell) → CoverNodes M (map (λ c. c.cell) cells) → (x : Location) (c d : Cell)
    → Contains cells c → Contains cells d → IsTrue (is_in c.cell x) → IsTrue (is_in d.cell x) → c ≡ d
one_cell_at M cells cover x c d has of in_c in_d =
    let k = at_in cells c (in_from_contains cells c has) in
    let j = at_in cells d (in_from_contains cells d of) in
    let cell_at_k : slice_get (map (λ z. z.cell) cells) k.0 ≡ Some c.cell
    = slice_get-map (λ (z : Cell). z.cell) cells k.0 ∙ ap (option_map (λ (z : Cell). z.cell)) k.1 in
    let cell_at_j : slice_get (map (λ z. z.cell) cells) j.0 ≡ Some d.cell
    = slice_get-map (λ (z : Cell). z.cell) cells j.0 ∙ ap (option_map (λ (z : Cell). z.cell)) j.1 in
    elim (cases_order k.0 j.0) [
      | inl same ↦ let e = subst (λ i. slice_get cells i ≡ Some c) same k.1 in let f = j.1 in cc
      | inr (inl below)
          ↦ absurd (cover.apart k.0 j.0 c.cell d.cell below cell_at_k cell_at_j x in_c in_d)
      | inr (inr above)
          ↦ absurd (cover.apart j.0 k.0 d.cell c.cell above cell_at_j cell_at_k x in_d in_c)
    ]

module _ (M : Objects) (cells : List Cell) (are : AreCells M cells) (w : WayId) where
  -- a cell that has the way has its first located node where the map has it
  first_kept : (c : Cell) → Contains cells c → (body : Way) → way_of c.objects w ≡ Some body
      → first_place c.objects body.refs ≡ first_place M body.refs
  first_kept c has body there = first_same M c.objects body.refs
      (λ n named. node_same c.objects M n ((are.cut c has).lines w body n there named))

  own : (c : Cell) → Contains cells c → (refers : HasPlace M w) → (x : Location)
      → first_place M refers.refers.body.refs ≡ Some x → IsTrue (is_in c.cell x) → IsOwn c.objects c.cell w
  own c has h x first inside =
      let body = h.refers.body in
      let node = first_at M body.refs x first in
      let placed = node.2 in
      let keeps = (are.cut c has).ways w (record {
        body = body;
        is = h.refers.is;
        node = node.0;
        named = node.1;
        inside = record {
          body = placed.body;
          is = placed.is;
          place = x;
          located = placed.located;
          inside = are.inside c has x inside;
        };
      }) in
      let there : way_of c.objects w ≡ Some body = way_same c.objects M w keeps ∙ h.refers.is in
      record {
        highway = record { body = body; visible = there; tagged = h.refers.highway };
        body = body;
        is = there;
        place = x;
        first = first_kept c has body there ∙ first;
        inside = inside;
      }

  -- the place by which a cell owns the way is the map's
  own_place : (c : Cell) → Contains cells c → (refers : HasPlace M w) → (x : Location)
      → first_place M refers.refers.body.refs ≡ Some x → IsOwn c.objects c.cell w → IsTrue (is_in c.cell x)
  own_place c has h x first is =
      let there = way_kept M c.objects (are.cut c has).part w is.body is.is in
      let same : is.body ≡ h.refers.body = let e = h.refers.is in cc in
      let other : first_place M h.refers.body.refs ≡ Some is.place
      = subst (λ (b : Way). first_place M b.refs ≡ Some is.place) same
      (sym (first_kept c has is.body is.is) ∙ is.first) in
      let place : is.place ≡ x = cc in
      subst (λ y. IsTrue (is_in c.cell y)) place is.inside

  one_owner_at : HasPlace M w → HasOneOwner M cells w
  one_owner_at h =
      let refs = h.refers.body.refs in
      let first = first_some M refs h.node h.place h.refers.member h.placed in
      let at = first_at M refs first.0 first.1 in
      let covered = are.cover.all at.0 at.2.body first.0 at.2.is at.2.located in
      let c = contains_from_map (λ (z : Cell). z.cell) cells covered.0 covered.1 in
      let inside = subst (λ a. IsTrue (is_in a first.0)) c.2 covered.2 in
      record {
        owner = c.0;
        listed = c.1;
        owns = own c.0 c.1 h first.0 first.1 inside;
        only = λ d has is. one_cell_at M cells are.cover first.0 d c.0 has c.1
            (own_place d has h first.0 first.1 is) inside;
      }

pub one_owner : (M : Objects) (P : Rules) → ((w : WayId) (i : ℕ) (v : NodeId) → IsTrue (is_road M P w)
    → node_at M w i ≡ Some v → RefersTo M w v) → (cells : List Cell) (b : Block) → AreCells M cells
    → IsRoadBlock M P b → HasOneOwner M cells b.way
one_owner M P passed cells b are road = one_owner_at M cells are b.way (block_place M P passed b b.pieces refl road)
