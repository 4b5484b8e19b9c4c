-- The first located node of a way, gone over from the front.
use Rattle.std.proofs.Common.{◌≡◌, ℕ, ◌+◌, ◌<◌, ◌≤◌, List, ◌∷◌, [], Some, None, length, drop, get_or}
use Rattle.std.proofs.Common.{refl, ap, ◌∙◌}
use Rattle.std.proofs.lemmas.List.{drop_more, drop_all}
use Rattle.std.specs.Option.{option_or}
use Rattle.road_base.specs.declared.ids.NodeId.{NodeId}
use Rattle.road_base.specs.declared.location.Location.{Location}
use Rattle.road_base.specs.Objects.{Objects, node_of}
use Rattle.map_cells.specs.Owners.{place_in, first_place}

module _ (M : Objects) where
  at_first : (n : NodeId) (ns : List NodeId)
      → first_place M (n ∷ ns) ≡ option_or (place_in (node_of M n)) (first_place M ns)
  unfolding first_place
  at_first n ns = refl

  at_none : first_place M [] ≡ None
  unfolding first_place
  at_none = refl

  module _ (nodes : List NodeId) (i : ℕ) (d : NodeId)
      (before : first_place M nodes ≡ first_place M (drop i nodes)) where
    here : i < length nodes → first_place M nodes
        ≡ option_or (place_in (node_of M (get_or nodes i d))) (first_place M (drop (i + 1) nodes))
    here within = before ∙ ap (first_place M) (drop_more nodes i d within)
        ∙ at_first (get_or nodes i d) (drop (i + 1) nodes)

    pub first_later : i < length nodes → place_in (node_of M (get_or nodes i d)) ≡ None
        → first_place M nodes ≡ first_place M (drop (i + 1) nodes)
    first_later within none = here within ∙ ap (λ o. option_or o (first_place M (drop (i + 1) nodes))) none

    pub first_here : (place : Location) → i < length nodes → place_in (node_of M (get_or nodes i d)) ≡ Some place
        → first_place M nodes ≡ Some place
    first_here place within some = here within ∙ ap (λ o. option_or o (first_place M (drop (i + 1) nodes))) some

  pub first_none : (nodes : List NodeId) (i : ℕ) → first_place M nodes ≡ first_place M (drop i nodes)
      → length nodes ≤ i → first_place M nodes ≡ None
  first_none nodes i before past = before ∙ ap (first_place M) (drop_all i nodes past) ∙ at_none
