-- What is at a node stands together once it is sorted, and is what the pieces make of it.
use Rattle.std.proofs.Common.{◌≡◌, ℕ, zero, suc, ◌-◌, ◌≤◌, Bool, true, false, List, [], ◌∷◌, ◌++◌, length, map, take}
use Rattle.std.proofs.Common.{drop, IsTrue, Contains, refl, sym, ap, subst, ◌∙◌, arith}
use Rattle.std.specs.Ordering.{is_lt, is_le, is_eq}
use Rattle.std.specs.Cmp.{IsTotalOrder, Equal-is}
use Rattle.std.specs.FinMap.{IsAntisymmetric}
use Rattle.std.specs.List.{filter}
use Rattle.std.specs.List.Sorted.{IsPartitionPoint, IsSortedByKey, IsStableByKey}
use Rattle.std.proofs.lemmas.Cmp.{tied_itself}
use Rattle.road_base.specs.declared.ids.NodeId.{NodeId}
use Rattle.road_model.specs.declared.lists.PieceName.{PieceName}
use Rattle.road_model.specs.Lines.{same_node}
use Rattle.road_model.specs.Orders.{node_cmp, name_cmp}
use Rattle.ordered_lists.specs.Orders.{Lists, rises}
use Rattle.way_pieces.specs.declared.at_nodes.AtNode.{AtNode}
use Rattle.way_pieces.specs.declared.spans.PieceSpan.{PieceSpan}
use Rattle.way_pieces.specs.AtNodes.{items_at, AreByNode}
use Rattle.way_pieces.specs.Departures.{Gains}
use Rattle.ordered_lists.proofs.AscendingLists.{rises_kept}
use Rattle.ordered_lists.proofs.FilteredLists.{contains_filter, contains_from_filter}
use Rattle.ordered_lists.proofs.ListMembers.{contains_map, contains_from_map}
use Rattle.ordered_lists.proofs.SortedParts.{kept_by_sort, low_first, part_together}

-- ---- between the two places that the searches find

nothing : {A : Type 0} (xs : List A) (n m : ℕ) → length xs ≡ 0 → take n (drop m xs) ≡ []
nothing [] zero zero none = refl
nothing [] zero (suc m) none = refl
nothing [] (suc n) zero none = refl
nothing [] (suc n) (suc m) none = refl
nothing (x ∷ xs) n m none = absurd (omega arith)

module _ {A : Type 0} (v : NodeId) (low high : ℕ) where
  abbrev pub Below : List (AtNode A) → Type 0
  Below xs = IsPartitionPoint (λ x. is_lt (node_cmp x.node v) ≡ true) (λ x. is_lt (node_cmp x.node v) ≡ false) xs low

  abbrev pub Upto : List (AtNode A) → Type 0
  Upto xs = IsPartitionPoint (λ x. is_le (node_cmp x.node v) ≡ true) (λ x. is_le (node_cmp x.node v) ≡ false) xs high

  pub rising : (xs : List (AtNode A)) → Below xs → Upto xs → low ≤ length xs → high ≤ length xs → low ≤ high
  rising [] below upto a b = omega arith
  rising (x ∷ xs) below upto a b =
      low_first (λ (s : AtNode A). s.node) node_cmp x v (x ∷ xs) low high below upto a b

  pub together : (xs : List (AtNode A)) → Below xs → Upto xs → low ≤ length xs → high ≤ length xs
      → take (high - low) (drop low xs) ≡ filter (λ s. same_node s.node v) xs
  together [] below upto a b = nothing [] (high - low) low refl
  together (x ∷ xs) below upto a b =
      part_together (λ (s : AtNode A). s.node) node_cmp x v (x ∷ xs) low high below upto a b

-- ---- sorted by node

module _ {A : Type 0} (total : IsTotalOrder node_cmp) (v : NodeId) where
  kept_with : (a : A) (xs ys : List (AtNode A)) → IsStableByKey (λ s. s.node) node_cmp xs ys
      → items_at v xs ≡ items_at v ys
  kept_with a xs ys stable = ap (λ (l : List (AtNode A)). map (λ s. s.item) l)
      (kept_by_sort (λ (s : AtNode A). s.node) node_cmp total (record { node = v; item = a }) xs ys stable)

  -- a stable sort leaves those of each node as they were
  pub items_kept : (xs ys : List (AtNode A)) → IsStableByKey (λ s. s.node) node_cmp xs ys
      → items_at v xs ≡ items_at v ys
  items_kept [] [] stable = refl
  items_kept [] (y ∷ ys) stable = kept_with y.item [] (y ∷ ys) stable
  items_kept (x ∷ xs) ys stable = kept_with x.item (x ∷ xs) ys stable

-- ---- one of each piece

module _ {A : Type 0} (name : A → PieceName) (on : PieceSpan → AtNode A)
    (named : (s : PieceSpan) → name (on s).item ≡ s.name) where
  names_are : (spans : List PieceSpan) → map (λ (t : AtNode A). name t.item) (map on spans) ≡ map (λ s. s.name) spans
  names_are [] = refl
  names_are (s ∷ ss) =
      ap (λ n. n ∷ map (λ (t : AtNode A). name t.item) (map on ss)) (named s)
      ∙ ap (λ (l : List PieceName). s.name ∷ l) (names_are ss)

  names_through : (ts : List (AtNode A)) → map (λ (t : AtNode A). name t.item) ts ≡ map name (map (λ t. t.item) ts)
  names_through [] = refl
  names_through (t ∷ ts) = ap (λ (l : List PieceName). name t.item ∷ l) (names_through ts)

  module _ (Is : NodeId → A → Type 0) (names : IsTotalOrder name_cmp) (total : IsTotalOrder node_cmp)
      (exact : IsAntisymmetric node_cmp) (IsSpan : PieceSpan → Type 0) (spans : List PieceSpan)
      (lists : Lists (λ s. s.name) name_cmp IsSpan spans)
      (so : (s : PieceSpan) → IsSpan s → Is (on s).node (on s).item)
      (each : (v : NodeId) (z : A) → Is v z
      → (s : PieceSpan) × (IsSpan s × (((on s).node ≡ v) × ((on s).item ≡ z)))) where
    module _ (v : NodeId) where
      abbrev here : AtNode A → Bool
      here t = same_node t.node v

      abbrev all : List (AtNode A)
      all = map on spans

      sound : (z : A) → Contains (items_at v all) z → Is v z
      sound z has =
          let t = contains_from_map (λ (t : AtNode A). t.item) (filter here all) z has in
          let passes = contains_from_filter here all t.0 t.1 in
          let s = contains_from_map on spans t.0 passes.0 in
          let same : (on s.0).node ≡ v = ap (λ (u : AtNode A). u.node) (sym s.2)
          ∙ exact (t.0).node v ((Equal-is _).0 passes.1) in
          let item : (on s.0).item ≡ z = ap (λ (u : AtNode A). u.item) (sym s.2) ∙ sym t.2 in
          subst (λ u. Is u z) same (subst (Is (on s.0).node) item (so s.0 (lists.sound s.0 s.1)))

      complete : (z : A) → Is v z → Contains (items_at v all) z
      complete z is =
          let s = each v z is in
          let has = contains_map on spans s.0 (lists.complete s.0 (s.1).0) in
          let passes : here (on s.0) ≡ true = ap (λ u. same_node u v) ((s.1).1).0 ∙ ap is_eq (tied_itself total v) in
          subst (Contains (items_at v all)) ((s.1).1).1
          (contains_map (λ (t : AtNode A). t.item) (filter here all) (on s.0)
          (contains_filter here all (on s.0) has passes))

      listed : Lists name name_cmp (Is v) (items_at v all)
      listed = record {
        ascending = subst (λ (l : List PieceName). IsTrue (rises name_cmp l)) (names_through (filter here all))
            (rises_kept (λ (t : AtNode A). name t.item) name_cmp names here all
            (subst (λ (l : List PieceName). IsTrue (rises name_cmp l)) (sym (names_are spans)) lists.ascending));
        sound = sound;
        complete = complete;
      }

    -- the list of those of all pieces, sorted
    pub by_node : (old new : List (AtNode A)) → old ≡ map on spans → IsSortedByKey (λ s. s.node) node_cmp new
        → IsStableByKey (λ s. s.node) node_cmp old new → AreByNode name Is new
    by_node old new made sorted stable = record {
      ascending = sorted;
      exactly = λ v.
          subst (λ (l : List A). Lists name name_cmp (Is v) l)
          (sym (ap (items_at v) made) ∙ items_kept total v old new stable) (listed v);
    }

-- those at the node that were added are all that are asked for there
pub gained : {A : Type 0} (name : A → PieceName) (Is : NodeId → A → Type 0) (v : NodeId) (all part : List (AtNode A))
    (old new : List A) → AreByNode name Is all → part ≡ filter (λ s. same_node s.node v) all
    → new ≡ old ++ map (λ s. s.item) part → Gains name (Is v) old new
gained {A = A} name Is v all part old new are here added = record {
  more = items_at v all;
  appended = added ∙ ap (λ (l : List (AtNode A)). old ++ map (λ s. s.item) l) here;
  listed = are.exactly v;
}
