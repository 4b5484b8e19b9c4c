-- Cells without a node may be left out: those that stay have the nodes, and stand in their order.
use Rattle.std.proofs.Common.{◌≡◌, ℕ, zero, suc, ◌<◌, Bool, true, false, cond, List, [], ◌∷◌, slice_get, Some, Contains}
use Rattle.std.proofs.Common.{IsTrue, ap, arith}
use Rattle.std.specs.List.{filter}
use Rattle.road_base.specs.declared.ids.NodeId.{NodeId}
use Rattle.road_base.specs.Objects.{Objects}
use Rattle.ordered_lists.proofs.ListMembers.{at_in, in_at}
use Rattle.ordered_lists.proofs.FilteredLists.{from_filter, contains_filter}
use Rattle.map_cells.specs.declared.area.Area.{Area}
use Rattle.map_cells.specs.Areas.{CoverWorld, CoverNodes}
use Rattle.map_cells.specs.Cells.{IsLocatedIn}

module _ {A : Type 0} where
  -- these two stand in the list, the first one before the second
  record StandsBefore (xs : List A) (a b : A) : Type 0 where
    first : ℕ
    second : ℕ
    before : first < second
    at_first : slice_get xs first ≡ Some a
    at_second : slice_get xs second ≡ Some b

  one_later : (x : A) (xs : List A) (a b : A) → StandsBefore xs a b → StandsBefore (x ∷ xs) a b
  one_later x xs a b h = record {
    first = suc h.first;
    second = suc h.second;
    before = let l = h.before in omega arith;
    at_first = h.at_first;
    at_second = h.at_second;
  }

  module _ (p : A → Bool) where
    from_first : (x : A) (xs : List A) (j : ℕ) (a b : A) → x ≡ a → slice_get (filter p xs) j ≡ Some b
        → StandsBefore (x ∷ xs) a b
    from_first x xs j a b is at =
        let k = at_in xs b (from_filter p xs b (in_at (filter p xs) b j at)).0 in
        record { first = 0; second = suc k.0; before = omega arith; at_first = ap Some is; at_second = k.1 }

    -- the head is kept, or isn't; the rest is known
    by_head : (x : A) (xs : List A)
        → ((i j : ℕ) (a b : A) → i < j → slice_get (filter p xs) i ≡ Some a → slice_get (filter p xs) j ≡ Some b
        → StandsBefore xs a b)
        → (keep : Bool) (i j : ℕ) (a b : A) → i < j
        → slice_get (cond keep (x ∷ filter p xs) (filter p xs)) i ≡ Some a
        → slice_get (cond keep (x ∷ filter p xs) (filter p xs)) j ≡ Some b → StandsBefore (x ∷ xs) a b
    by_head x xs rest false i j a b below at_i at_j = one_later x xs a b (rest i j a b below at_i at_j)
    by_head x xs rest true i zero a b below at_i at_j = absurd (omega arith)
    by_head x xs rest true zero (suc j) a b below at_i at_j = from_first x xs j a b (cc) at_j
    by_head x xs rest true (suc i) (suc j) a b below at_i at_j =
        one_later x xs a b (rest i j a b (omega arith) at_i at_j)

    kept_before : (xs : List A) (i j : ℕ) (a b : A) → i < j → slice_get (filter p xs) i ≡ Some a
        → slice_get (filter p xs) j ≡ Some b → StandsBefore xs a b
    kept_before [] i j a b below at_i at_j = cc
    kept_before (x ∷ xs) i j a b below at_i at_j = by_head x xs (kept_before xs) (p x) i j a b below at_i at_j

pub nodes_covered : (M : Objects) (cells : List Area) (has_node : Area → Bool) → CoverWorld cells
    → ((c : Area) (n : NodeId) → Contains cells c → IsLocatedIn M c n → IsTrue (has_node c))
    → CoverNodes M (filter has_node cells)
nodes_covered M cells has_node cover some = record {
  all = λ n body place is located.
      let c = cover.all place in
      let kept = some c.0 n c.1 (record { body = body; is = is; place = place; located = located; inside = c.2 }) in
      (c.0, contains_filter has_node cells c.0 c.1 kept, c.2);
  apart = λ i j a b below at_i at_j.
      let h = kept_before has_node cells i j a b below at_i at_j in
      cover.apart h.first h.second a b h.before h.at_first h.at_second;
}
