-- Contexts by their numbers, and where arcs lead.
use Rattle.std.proofs.Common.{◌≡◌, ℕ, zero, suc, ◌-◌, ◌<◌, List, [], ◌∷◌, length, map, Some, slice_get, Contains, sym}
use Rattle.std.proofs.Common.{◌∙◌, ap, subst, arith, get_or}
use Rattle.std.specs.List.{HoldsAt}
use Rattle.std.proofs.lemmas.Option.{get_or_from_slice_get}
use Rattle.ordered_lists.proofs.ListPlaces.{some_at, read_at, one_stands, contains_at}
use Rattle.road_model.specs.declared.lists.PieceName.{PieceName}
use Rattle.road_model.specs.declared.lists.TurnArc.{TurnArc}
use Rattle.context_search.specs.declared.spots.Spot.{Spot}
use Rattle.context_search.specs.Marks.{At, at_of, key_of, names_behind}
use Rattle.context_search.specs.Visits.{HasTargets}
use Rattle.least_cost.specs.Shown.{LeadsBy}

abbrev Key : Type 0
Key = PieceName × List PieceName

module _ {A B : Type 0} (f : A → B) where
  pub map_at : (xs : List A) (i : ℕ) (x : A) → slice_get xs i ≡ Some x → slice_get (map f xs) i ≡ Some (f x)
  map_at [] i x e = cc
  map_at (y ∷ ys) zero x e = let g : y ≡ x = cc in ap (λ z. Some (f z)) g
  map_at (y ∷ ys) (suc i) x e = map_at ys i x e

  pub map_within : (xs : List A) (i : ℕ) → i < length xs → i < length (map f xs)
  map_within [] i h = absurd (omega arith)
  map_within (y ∷ ys) zero h = omega arith
  map_within (y ∷ ys) (suc i) h = let g = map_within ys i (omega arith) in omega arith

  pub within_map : (xs : List A) (i : ℕ) → i < length (map f xs) → i < length xs
  within_map [] i h = absurd (omega arith)
  within_map (y ∷ ys) zero h = omega arith
  within_map (y ∷ ys) (suc i) h = let g = within_map ys i (omega arith) in omega arith

-- the context that was read
pub spot_read : (spots : List Spot) (i : ℕ) (s : Spot) → i < length spots → s ≡ get_or spots i s
    → slice_get (map at_of spots) i ≡ Some (at_of s)
spot_read spots i s h e = map_at at_of spots i s (read_at spots i s h e)

-- the context that was found
pub spot_there : (spots : List Spot) (i : ℕ) (k : Key) → i < length spots
    → HoldsAt (λ s. key_of (at_of s) ≡ k) spots i
    → (x : At) × (slice_get (map at_of spots) i ≡ Some x) × (key_of x ≡ k)
spot_there spots i k h e =
    let s = some_at spots i h in
    let same = get_or_from_slice_get spots i s.0 s.0 s.1 in
    (at_of s.0, map_at at_of spots i s.0 s.1, subst (λ t. key_of (at_of t) ≡ k) same (e s.0))

pub no_target : (L : List At) (x : At) (a : TurnArc) (i : ℕ) (names : List PieceName) → HasTargets L
    → slice_get L i ≡ Some x → Contains x.context.arcs a → names ≡ names_behind x (a.length - 1)
    → ((y : At) → Contains L y → key_of y ≡ (a.piece, names) → ⊥) → ⊥
no_target L x a i names targets at has same none =
    let t = targets x a (contains_at L i x at) has in
    none t.0 t.1 (t.2 ∙ ap (λ ns. (a.piece, ns)) (sym same))

pub leads_to : (spots : List Spot) (x y : At) (a : TurnArc) (i n : ℕ) (names : List PieceName)
    → slice_get (map at_of spots) i ≡ Some x → slice_get (map at_of spots) i ≡ Some y
    → names ≡ names_behind x (a.length - 1) → n < length spots
    → HoldsAt (λ s. key_of (at_of s) ≡ (a.piece, names)) spots n → LeadsBy (map at_of spots) y a n
leads_to spots x y a i n names at also same h e =
    let t = spot_there spots n (a.piece, names) h e in
    let one = one_stands (map at_of spots) i x y at also in
    record {
      to = t.0;
      at = t.1;
      named = t.2 ∙ ap (λ ns. (a.piece, ns)) (same ∙ ap (λ z. names_behind z (a.length - 1)) one);
    }
