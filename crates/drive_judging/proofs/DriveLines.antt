-- Lines that are kept by their ways, with one put among them, and where steps begin and end by them.
use Rattle.std.proofs.Common.{◌≡◌, ◌⊎◌, inl, inr, ℕ, ◌+◌, List, [], length, Option, Some, None, cond, true, false}
use Rattle.std.proofs.Common.{is_some}
use Rattle.std.proofs.Common.{IsTrue, IsFalse, IfSome, IfNone, slice_get, sym, ◌∙◌, ap, nat_lt}
use Rattle.std.specs.Ordering.{is_eq}
use Rattle.std.specs.Cmp.{IsTotalOrder}
use Rattle.std.specs.FinMap.{IsAntisymmetric}
use Rattle.std.specs.BTreeMap.{BTreeMap, Updates}
use Rattle.std.proofs.lemmas.Cmp.{tied_itself}
use Rattle.road_base.specs.declared.ids.NodeId.{NodeId}
use Rattle.road_base.specs.declared.ids.WayId.{WayId}
use Rattle.road_base.specs.declared.ids.Step.{Step}
use Rattle.road_base.specs.declared.objects.Way.{Way}
use Rattle.road_base.specs.Objects.{Objects, way_of}
use Rattle.road_model.specs.Lines.{changes, refs_of, line_of, node_at, names_pair, tail_position, head_position}
use Rattle.road_model.specs.Orders.{way_cmp}
use Rattle.drive_judging.specs.declared.drive_lines.DriveLine.{DriveLine}
use Rattle.drive_judging.specs.DriveLines.{line_in, IsLineIn, HasEnds}
use Rattle.drive_judging.proofs.JudgedSteps.{at_named}
use Rattle.ordered_lists.proofs.Comparisons.{eq_cases}

module _ (M : Objects) where
  pub line_visible : (w : WayId) (b : Way) → way_of M w ≡ Some b → line_of M w ≡ changes b.refs
  unfolding line_of
  line_visible w b e = ap (λ o. changes (refs_of o)) e

  pub line_hidden : (w : WayId) → way_of M w ≡ None → line_of M w ≡ []
  unfolding line_of
  line_hidden w e = ap (λ o. changes (refs_of o)) e

  -- one more line is kept, and the others stay
  pub line_put : IsTotalOrder way_cmp → IsAntisymmetric way_cmp → (old new : BTreeMap WayId DriveLine) (k : WayId)
      (line : DriveLine) → Updates way_cmp old new k (Some line) → line.nodes.items ≡ line_of M k → (w : WayId)
      → IsLineIn M old w ⊎ (w ≡ k) → IsLineIn M new w
  line_put ways ties old new k line put is w which = elim (eq_cases (way_cmp k w)) [
    | inl e ↦ record {
      line = line;
      at = put.0 w ∙ ap (λ r. cond (is_eq r) (Some line) (line_in old w)) e;
      is = is ∙ ap (line_of M) (ties k w e);
    }
    | inr f ↦ elim which [
      | inl h ↦ record {
        line = h.line;
        at = put.0 w ∙ ap (λ b. cond b (Some line) (line_in old w)) f ∙ h.at;
        is = h.is;
      }
      | inr same ↦
          let tied : is_eq (way_cmp k w) ≡ true
          = ap (λ v. is_eq (way_cmp k v)) same ∙ ap is_eq (tied_itself ways k) in
          let both : true ≡ false = sym tied ∙ f in
          cc
    ]
  ]

  -- ---- where steps begin and end

  module _ (s : Step) (nodes : List NodeId) (is : nodes ≡ line_of M s.way) where
    named_by : nat_lt (s.index + 1) (length nodes) ≡ true → IsTrue (names_pair M s)
    unfolding names_pair
    named_by h = ap (λ (l : List NodeId). nat_lt (s.index + 1) (length l)) (sym is) ∙ h

    not_named_by : nat_lt (s.index + 1) (length nodes) ≡ false → IsFalse (names_pair M s)
    unfolding names_pair
    not_named_by h = ap (λ (l : List NodeId). nat_lt (s.index + 1) (length l)) (sym is) ∙ h

    stands_by : (i : ℕ) (v : NodeId) → slice_get nodes i ≡ Some v → node_at M s.way i ≡ Some v
    unfolding node_at
    stands_by i v e = ap (λ (l : List NodeId). slice_get l i) (sym is) ∙ e

    ends_by : (p : NodeId × NodeId) → slice_get nodes (tail_position s.dir s.index) ≡ Some p.0
        → slice_get nodes (head_position s.dir s.index) ≡ Some p.1 → nat_lt (s.index + 1) (length nodes) ≡ true
        → HasEnds M s p
    ends_by p t h n =
        let named = named_by n in (
          at_named M s (tail_position s.dir s.index) named ∙ stands_by (tail_position s.dir s.index) p.0 t,
          at_named M s (head_position s.dir s.index) named ∙ stands_by (head_position s.dir s.index) p.1 h,
        )

-- the line that is kept is the one that was found
same_line : (M : Objects) (lines : BTreeMap WayId DriveLine) (w : WayId) (line : DriveLine)
    → line_in lines w ≡ Some line → IsLineIn M lines w → line.nodes.items ≡ line_of M w
same_line M lines w line e k =
    let some : Some line ≡ Some k.line = sym e ∙ k.at in
    let same : line ≡ k.line = cc in
    ap (λ (l : DriveLine). l.nodes.items) same ∙ k.is

module _ (lines : BTreeMap WayId DriveLine) (s : Step) (line : DriveLine)
    (found : line_in lines s.way ≡ Some line) where
  pub ends_some : (r : Option (NodeId × NodeId))
      → IfSome r (λ p. slice_get line.nodes.items (tail_position s.dir s.index) ≡ Some p.0)
      → IfSome r (λ p. slice_get line.nodes.items (head_position s.dir s.index) ≡ Some p.1)
      → is_some r ≡ nat_lt (s.index + 1) (length line.nodes.items)
      → IfSome r (λ p. (M : Objects) → IsLineIn M lines s.way → HasEnds M s p)
  ends_some None t h n = tt
  ends_some (Some p) t h n = λ M k.
      ends_by M s line.nodes.items (same_line M lines s.way line found k) p t h (sym n)

  pub ends_none : (r : Option (NodeId × NodeId)) → is_some r ≡ nat_lt (s.index + 1) (length line.nodes.items)
      → IfNone r ((M : Objects) → IsLineIn M lines s.way → IsFalse (names_pair M s))
  ends_none None n = λ M k. not_named_by M s line.nodes.items (same_line M lines s.way line found k) (sym n)
  ends_none (Some p) n = tt
