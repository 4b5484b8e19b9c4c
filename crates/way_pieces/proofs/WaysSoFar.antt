-- What is listed way by way.
use Rattle.std.proofs.Common.{◌≡◌, ℕ, ◌+◌, ◌<◌, inl, inr, List, length, map, take, get_or, Contains, IsTrue, sym, subst}
use Rattle.std.proofs.Common.{◌∙◌}
use Rattle.std.specs.Ordering.{is_lt}
use Rattle.road_base.specs.declared.ids.WayId.{WayId}
use Rattle.road_model.specs.declared.lists.PieceName.{PieceName}
use Rattle.ordered_lists.specs.Orders.{Lists, rises}
use Rattle.road_model.specs.Orders.{way_cmp, name_cmp}
use Rattle.way_pieces.specs.Departures.{Gains}
use Rattle.ordered_lists.proofs.JoinedLists.{lists_extended, has_before, has_last, one_more}
use Rattle.road_model.proofs.TotalOrders.{way_cmp_total}
use Rattle.way_pieces.proofs.AscendingLists.{taken_below}
use Rattle.way_pieces.proofs.NameOrder.{way_first}

-- those over the ways so far
abbrev pub SoFar : {A : Type 0} → (A → WayId) → (A → Type 0) → List WayId → A → Type 0
SoFar way Is ways z = Contains ways (way z) × Is z

-- those over the way
abbrev pub Over : {A : Type 0} → (A → WayId) → (A → Type 0) → WayId → A → Type 0
Over way Is w z = (way z ≡ w) × Is z

module _ {A : Type 0} (name : A → PieceName) (way : A → WayId) (Is : A → Type 0)
    (named : (z : A) → Is z → (name z).way ≡ way z) where
  -- one way more
  pub way_gained : (ways : List WayId) (i : ℕ) (d : WayId) (xs ys : List A)
      → IsTrue (rises way_cmp (map (λ w. w) ways)) → i < length ways
      → Lists name name_cmp (SoFar way Is (take i ways)) xs → Gains name (Over way Is (get_or ways i d)) xs ys
      → Lists name name_cmp (SoFar way Is (take (i + 1) ways)) ys
  way_gained ways i d xs ys up within before gained =
      lists_extended name name_cmp (SoFar way Is (take i ways)) (Over way Is (get_or ways i d))
      (SoFar way Is (take (i + 1) ways)) xs gained.more ys gained.appended before gained.listed
      (λ a b so over.
      let less = taken_below way_cmp way_cmp_total ways up i d (way a) within so.0 in
      way_first (name a) (name b)
      (subst (λ w. IsTrue (is_lt (way_cmp w (name b).way))) (sym (named a so.1))
      (subst (λ w. IsTrue (is_lt (way_cmp (way a) w))) (sym (named b over.1 ∙ over.0)) less)))
      (λ z so. (has_before ways i d (way z) within so.0, so.1))
      (λ z over. (has_last ways i d (way z) within over.0, over.1))
      (λ z so. elim (one_more ways i d (way z) within so.0) [
        | inl same ↦ inr (same, so.1)
        | inr less ↦ inl (less, so.1)
      ])
