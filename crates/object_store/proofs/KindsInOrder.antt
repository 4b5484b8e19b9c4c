-- The events of one kind stand side by side in a list in key order: those of nodes, then of ways, then of relations.
use Rattle.std.proofs.Common.{◌≡◌, ℕ, zero, suc, ◌-◌, ◌≤◌, Bool, true, false, not, List, [], ◌∷◌, length, map, filter}
use Rattle.std.proofs.Common.{take, drop, refl, sym, ap, arith, slice_index_or}
use Rattle.std.specs.declared.cmp.Ordering.TheVariants.{Less}
use Rattle.std.specs.Cmp.{IsTotalOrder}
use Rattle.std.specs.List.{AllWithin}
use Rattle.std.specs.List.Sorted.{IsPartitionedBy, IsPartitionPoint}
use Rattle.std.proofs.lemmas.List.{take_all, length-drop}
use Rattle.road_base.specs.declared.ids.Key.{Key}
use Rattle.road_base.specs.declared.ids.Key.TheVariants.{Node, Way, Relation}
use Rattle.road_base.specs.declared.event.Event.{Event}
use Rattle.road_base.specs.Objects.{key_cmp}
use Rattle.object_store.specs.Listed.{key_of, is_node, is_way, is_relation, IsInOrder}
use Rattle.ordered_lists.proofs.ListMembers.{in_get}
use Rattle.ordered_lists.proofs.AscendingLists.{rest_rises}
use Rattle.object_store.proofs.InOrder.{above}

pub drop_in_order : (m : ℕ) (xs : List Event) → IsInOrder xs → IsInOrder (drop m xs)
drop_in_order zero xs h = h
drop_in_order (suc m) [] h = refl
drop_in_order (suc m) (x ∷ xs) h = drop_in_order m xs (rest_rises key_cmp x.key (map key_of xs) h)

-- a test that holds of each key below one of which it holds
abbrev pub HoldsBelow : (Key → Bool) → Type 0
HoldsBelow q = (a b : Key) → key_cmp a b ≡ Less → q b ≡ true → q a ≡ true

pub nodes_below : HoldsBelow is_node
nodes_below (Node a) b l h = refl
nodes_below (Way a) (Node b) l h = cc
nodes_below (Way a) (Way b) l h = cc
nodes_below (Way a) (Relation b) l h = cc
nodes_below (Relation a) (Node b) l h = cc
nodes_below (Relation a) (Way b) l h = cc
nodes_below (Relation a) (Relation b) l h = cc

pub others_below : HoldsBelow (λ k. not (is_relation k))
others_below (Node a) b l h = refl
others_below (Way a) b l h = refl
others_below (Relation a) (Node b) l h = cc
others_below (Relation a) (Way b) l h = cc
others_below (Relation a) (Relation b) l h = cc

-- such a test parts a list in key order
pub parted : IsTotalOrder key_cmp → (q : Key → Bool) → HoldsBelow q → (xs : List Event) → IsInOrder xs
    → IsPartitionedBy (λ e. q e.key) xs
parted total q below [] h i j d le l is = absurd (omega arith)
parted total q below (x ∷ xs) h zero zero d le l is = is
parted total q below (x ∷ xs) h zero (suc j) d le l is =
    below x.key (slice_index_or xs j d).key (above total x.key xs h (slice_index_or xs j d)
    (in_get xs j d (omega arith))) is
parted total q below (x ∷ xs) h (suc i) zero d le l is = absurd (omega arith)
parted total q below (x ∷ xs) h (suc i) (suc j) d le l is = parted total q below xs
    (rest_rises key_cmp x.key (map key_of xs) h) i j d (omega arith) (omega arith) is

-- ---- the two parts of a list

module _ {X : Type 0} (p : X → Bool) where
  none_left : (xs : List X) → AllWithin (λ x. p x ≡ false) xs 0 (length xs)
      → (filter p xs ≡ []) × (filter (λ x. not (p x)) xs ≡ xs)
  none_left [] h = (refl, refl)
  none_left (x ∷ xs) h =
      let here : p x ≡ false = h 0 x (omega arith) (omega arith) in
      let later = none_left xs (λ k d from l. h (suc k) d (omega arith) (omega arith)) in
      (rw here later.0, rw here (ap (λ l. x ∷ l) later.1))

  pub two_parts : (xs : List X) (i : ℕ) → i ≤ length xs → IsPartitionPoint (λ x. p x ≡ true) (λ x. p x ≡ false) xs i
      → (take i xs ≡ filter p xs) × (drop i xs ≡ filter (λ x. not (p x)) xs)
  two_parts xs zero l h = let none = none_left xs h.1 in (sym none.0, sym none.1)
  two_parts [] (suc i) l h = absurd (omega arith)
  two_parts (x ∷ xs) (suc i) l h =
      let here : p x ≡ true = h.0 0 x (omega arith) (omega arith) in
      let later = two_parts xs i (omega arith) (
        λ k d from m. h.0 (suc k) d (omega arith) (omega arith),
        λ k d from m. h.1 (suc k) d (omega arith)
            (omega arith),
      ) in
      (rw here (ap (λ l. x ∷ l) later.0), rw here later.1)

no_way_of_node : (k : Key) → is_node k ≡ true → is_way k ≡ false
no_way_of_node (Node n) e = refl
no_way_of_node (Way w) e = cc
no_way_of_node (Relation r) e = refl

no_way_of_relation : (k : Key) → is_relation k ≡ true → is_way k ≡ false
no_way_of_relation (Node n) e = refl
no_way_of_relation (Way w) e = cc
no_way_of_relation (Relation r) e = refl

way_else : (k : Key) → is_node k ≡ false → is_relation k ≡ false → is_way k ≡ true
way_else (Node n) e f = cc
way_else (Way w) e f = refl
way_else (Relation r) e f = cc

abbrev no_relations : List Event → List Event
no_relations xs = filter (λ e. not (is_relation e.key)) xs

abbrev no_nodes : List Event → List Event
no_nodes xs = filter (λ e. not (is_node e.key)) xs

abbrev ways_of : List Event → List Event
ways_of xs = filter (λ e. is_way e.key) xs

-- what is no node's and no relation's is a way's
pub ways_left : (xs : List Event) → no_relations (no_nodes xs) ≡ ways_of xs
ways_left [] = refl
ways_left (x ∷ xs) =
    elim (is_node x.key) as (λ t. is_node x.key ≡ t → no_relations (no_nodes (x ∷ xs)) ≡ ways_of (x ∷ xs)) [
      | true ↦ λ e. rw (e, no_way_of_node x.key e) (ways_left xs)
      | false ↦ λ e. rw e (elim (is_relation x.key) as
          (λ t. is_relation x.key ≡ t → no_relations (x ∷ no_nodes xs) ≡ ways_of (x ∷ xs)) [
            | true ↦ λ f. rw (f, no_way_of_relation x.key f) (ways_left xs)
            | false ↦ λ f. rw (f, way_else x.key e f) (ap (λ l. x ∷ l) (ways_left xs))
          ] refl)
    ] refl

-- what is something other than no relation's is a relation's
pub relations_left : (xs : List Event) → filter (λ e. not (not (is_relation e.key))) xs
    ≡ filter (λ e. is_relation e.key) xs
relations_left [] = refl
relations_left (x ∷ xs) =
    elim (is_relation x.key) as (λ t. is_relation x.key ≡ t
    → filter (λ e. not (not (is_relation e.key))) (x ∷ xs) ≡ filter (λ e. is_relation e.key) (x ∷ xs)) [
      | true ↦ λ e. rw e (ap (λ l. x ∷ l) (relations_left xs))
      | false ↦ λ e. rw e (relations_left xs)
    ] refl

pub behind : {X : Type 0} (i : ℕ) (xs : List X) → take (length xs - i) (drop i xs) ≡ drop i xs
behind i xs = take_all (length xs - i) (drop i xs) (omega (arith, length-drop i xs))
