-- What may be driven: steps, roads and pieces.
use Rattle.std.proofs.Common.{map, option_map, ◌≡◌, ℕ, ◌+◌, ◌-◌, ◌<◌, ◌≤◌, ◌&&◌, ◌⊎◌, List, length, get_or, slice_get}
use Rattle.std.proofs.Common.{Option, Some, None, true, cond, IsTrue, inl, inr, refl, sym, ap, subst, ◌∙◌, arith}
use Rattle.std.proofs.lemmas.Bool.{and_parts, and_from, or_left, or_right, lt-ltb}
use Rattle.std.proofs.lemmas.List.{length-map}
use Rattle.std.proofs.lemmas.Option.{none-some, same_Some, slice_get_within, slice_get-get_or, slice_get-map}
use Rattle.road_base.specs.declared.ids.NodeId.{NodeId}
use Rattle.road_base.specs.declared.ids.WayId.{WayId}
use Rattle.road_base.specs.declared.ids.Step.{Step}
use Rattle.road_base.specs.declared.ids.Dir.{Dir}
use Rattle.road_base.specs.declared.ids.Dir.TheVariants.{Forward, Backward}
use Rattle.road_base.specs.Objects.{Objects, node_of}
use Rattle.road_model.specs.Rules.{Rules}
use Rattle.road_model.specs.Lines.{line_of, node_at, names_pair, end_at}
use Rattle.road_model.specs.Driving.{is_open, is_road, located, drivable}
use Rattle.road_model.specs.Pieces.{Span, IsPiece}
use Rattle.junctions.specs.Junctions.{IsJunction}
use Rattle.way_lines.specs.declared.road_line.LineNode.{LineNode}
use Rattle.way_lines.specs.RoadLines.{line_node}
use Rattle.way_pieces.specs.declared.stretches.Stretch.{Stretch}
use Rattle.way_pieces.specs.Stretches.{IsStretch, piece_on, is_located}
use Rattle.road_model.proofs.StepEnds.{some_located}
use Rattle.way_lines.proofs.NamedPairs.{if_named}
use Rattle.junctions.proofs.Positions.{located_in}

pub open_road : (M : Objects) (P : Rules) (w : WayId) (d : Dir) → is_open M P w d ≡ true → IsTrue (is_road M P w)
open_road M P w Forward is = or_left _ _ is
open_road M P w Backward is = or_right _ _ is

-- ---- nodes

pub on_line : (M : Objects) (w : WayId) (k : ℕ) → IsTrue (located M (node_at M w k)) → k < length (line_of M w)
unfolding node_at
on_line M w k h = let n = some_located M (slice_get (line_of M w) k) h in slice_get_within (line_of M w) k n.0 n.1

line_node_lies : (M : Objects) (P : Rules) (o : Option NodeId) → is_located (option_map (line_node M P) o) ≡ located M o
line_node_lies M P None = refl
line_node_lies M P (Some v) = located_in (node_of M v)

module _ (M : Objects) (P : Rules) (w : WayId) (nodes : List LineNode)
    (line : nodes ≡ map (line_node M P) (line_of M w)) where
  seen : (k : ℕ) → slice_get nodes k ≡ option_map (line_node M P) (node_at M w k)
  unfolding node_at
  seen k = ap (λ (l : List LineNode). slice_get l k) line ∙ slice_get-map (line_node M P) (line_of M w) k

  -- where the nodes of the line were looked up it is known which are located
  pub seen_located : (k : ℕ) → is_located (slice_get nodes k) ≡ located M (node_at M w k)
  seen_located k = ap is_located (seen k) ∙ line_node_lies M P (node_at M w k)

  pub as_long : length nodes ≡ length (line_of M w)
  as_long = ap length line ∙ length-map (line_of M w) (line_node M P)

  some_node : (o : Option NodeId) (y : LineNode) → Some y ≡ option_map (line_node M P) o → o ≡ Some y.node
  some_node None y e = absurd (none-some y (sym e))
  some_node (Some v) y e = ap Some (sym (ap (λ (n : LineNode). n.node) (same_Some y (line_node M P v) e)))

  -- the node at a position that the line reaches
  pub node_there : (k : ℕ) (d : LineNode) → k < length nodes → node_at M w k ≡ Some (get_or nodes k d).node
  node_there k d within = some_node (node_at M w k) (get_or nodes k d)
      (sym (slice_get-get_or nodes k d within) ∙ seen k)

-- ---- steps

pub drivable_parts : (M : Objects) (P : Rules) (s : Step) → IsTrue (drivable M P s)
    → IsTrue (is_open M P s.way s.dir) × (IsTrue (located M (node_at M s.way s.index)) × IsTrue
    (located M (node_at M s.way (s.index + 1))))
unfolding drivable
drivable_parts M P s h = let a = and_parts _ _ h in let b = and_parts _ _ a.1 in (a.0, (b.0, b.1))

pub drivable_from : (M : Objects) (P : Rules) (s : Step) → IsTrue (is_open M P s.way s.dir)
    → IsTrue (located M (node_at M s.way s.index)) → IsTrue (located M (node_at M s.way (s.index + 1)))
    → IsTrue (drivable M P s)
unfolding drivable
drivable_from M P s a b c = and_from _ _ a (and_from _ _ b c)

-- where a step begins and ends, by the nodes at its positions
pub named_end : (M : Objects) (s : Step) (i : ℕ) → s.index + 1 < length (line_of M s.way)
    → end_at M s i ≡ node_at M s.way i
unfolding end_at names_pair
named_end M s i within = ap (λ b. cond b (node_at M s.way i) None)
    (lt-ltb (s.index + 1) (length (line_of M s.way)) within)

pub end_node : (M : Objects) (s : Step) (i : ℕ) (v : NodeId) → end_at M s i ≡ Some v → node_at M s.way i ≡ Some v
unfolding end_at
end_node M s i v is = if_named (names_pair M s) (node_at M s.way i) v is

-- ---- pieces

module _ (M : Objects) (P : Rules) (p : Span) (is : IsPiece M P p) where
  begin_parts : IsTrue
      (is_open M P p.way p.dir) × (IsTrue (located M (node_at M p.way p.index)) × IsTrue
      (located M (node_at M p.way (p.index + 1))))
  begin_parts = let up = is.ascends in drivable_parts M P (record { way = p.way; index = p.index; dir = p.dir })
      (is.drives p.index (omega arith) up)

  end_located : IsTrue (located M (node_at M p.way p.end))
  end_located =
      let up = is.ascends in
      let same : p.end - 1 + 1 ≡ p.end = omega arith in
      let parts = drivable_parts M P (record { way = p.way; index = p.end - 1; dir = p.dir })
      (is.drives (p.end - 1) (omega arith) (omega arith)) in
      subst (λ k. IsTrue (located M (node_at M p.way k))) same (parts.1).1

  pub piece_road : IsTrue (is_road M P p.way)
  piece_road = open_road M P p.way p.dir begin_parts.0

  pub piece_first : IsJunction M P p.way p.index
  piece_first = record { road = piece_road; on_line = on_line M p.way p.index (begin_parts.1).0; not_plain = is.first }

  pub piece_last : IsJunction M P p.way p.end
  piece_last = record { road = piece_road; on_line = on_line M p.way p.end end_located; not_plain = is.last }

  -- the way is open, and both ends are located
  pub piece_parts : IsTrue
      (is_open M P p.way p.dir && (located M (node_at M p.way p.index) && located M (node_at M p.way p.end)))
  piece_parts = and_from _ _ begin_parts.0 (and_from _ _ (begin_parts.1).0 end_located)

order : (i j k : ℕ) → i ≤ k → k ≤ j → (k ≡ i) ⊎ ((k ≡ j) ⊎ ((i < k) × (k < j)))
order i j k a b = grind arith

module _ (M : Objects) (P : Rules) (s : Stretch) (stretch : IsStretch M P s) (d : Dir) where
  all_located : IsTrue (located M (node_at M s.way s.index)) → IsTrue (located M (node_at M s.way s.end)) → (k : ℕ)
      → s.index ≤ k → k ≤ s.end → IsTrue (located M (node_at M s.way k))
  all_located first last k low high = elim (order s.index s.end k low high) [
    | inl same ↦ subst (λ m. IsTrue (located M (node_at M s.way m))) (sym same) first
    | inr others ↦ elim others [
      | inl same ↦ subst (λ m. IsTrue (located M (node_at M s.way m))) (sym same) last
      | inr inside ↦ let plain = stretch.inner k inside.0 inside.1 in subst (λ o. IsTrue (located M o)) (sym plain.is)
          plain.here
    ]
  ]

  -- a piece lies between two neighbouring junctions where the way is open and both are located
  pub piece_from : IsTrue
      (is_open M P s.way d && (located M (node_at M s.way s.index) && located M (node_at M s.way s.end)))
      → IsPiece M P (piece_on s d)
  piece_from h =
      let a = and_parts _ _ h in
      let b = and_parts _ _ a.1 in
      record {
        ascends = stretch.ascends;
        first = stretch.first.not_plain;
        last = stretch.last.not_plain;
        inner = stretch.inner;
        drives = λ k low high. drivable_from M P (record { way = s.way; index = k; dir = d }) a.0
            (all_located b.0 b.1 k low (omega arith)) (all_located b.0 b.1 (k + 1) (omega arith) (omega arith));
      }
