-- Whether a way is among others is decided.
use Rattle.std.proofs.Common.{List, [], ◌∷◌, Contains, inl, inr, subst}
use Rattle.road_base.specs.declared.ids.WayId.{WayId}
use Rattle.ordered_lists.proofs.Decided.{Decided}
use Rattle.ordered_lists.proofs.ListMembers.{contains_head, contains_later, contains_cases, contains_none}
use Rattle.road_model.proofs.Positions.{decided_way}

pub decided_way_in : (w : WayId) (ways : List WayId) → Decided (Contains ways w)
decided_way_in w [] = inr (contains_none w)
decided_way_in w (v ∷ ways) = elim (decided_way w v) [
  | inl e ↦ inl (subst (λ x. Contains (x ∷ ways) w) e (contains_head w ways))
  | inr other ↦ elim (decided_way_in w ways) [
    | inl has ↦ inl (contains_later v w ways has)
    | inr none ↦ inr (λ h. elim (contains_cases v w ways h) [ inl e ↦ other e | inr more ↦ none more ])
  ]
]
