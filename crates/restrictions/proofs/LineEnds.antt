-- The first and the last node of a line are the first and the last reference.
use Rattle.std.specs.Prelude.{slice_get}
use Rattle.std.proofs.Common.{◌≡◌, ℕ, ◌-◌, ◌<◌, ◌≤◌, get_or, List, [], ◌∷◌, Some, is_some, nat_le, Bool, true, false}
use Rattle.std.proofs.Common.{cond, length, refl, sym, ap, ◌∙◌, arith}
use Rattle.std.proofs.lemmas.Bool.Decides.{nat_tests}
use Rattle.std.proofs.lemmas.Option.{slice_get-get_or}
use Rattle.road_base.specs.declared.ids.NodeId.{NodeId}
use Rattle.road_base.specs.declared.ids.Key.{Key}
use Rattle.road_model.specs.Lines.{changes, changes_from, same_node}
use Rattle.road_model.specs.Restrictions.{last_of}
use Rattle.road_model.proofs.SameNodes.{node_from_same}

-- the last of the list, or x where it is empty
abbrev pub last_or : NodeId → List NodeId → NodeId
last_or x [] = x
last_or x (y ∷ ys) = last_or y ys

pub last_at : (x : NodeId) (ys : List NodeId) → slice_get (x ∷ ys) (length ys) ≡ Some (last_or x ys)
last_at x [] = refl
last_at x (y ∷ ys) = last_at y ys

pub at_last : (x : NodeId) (ys : List NodeId) → slice_get (x ∷ ys) (length (x ∷ ys) - 1) ≡ Some (last_or x ys)
at_last x ys =
    let e : length (x ∷ ys) - 1 ≡ length ys = omega arith in
    ap (λ (n : ℕ). slice_get (x ∷ ys) n) e ∙ last_at x ys

kept_by : (x y : NodeId) (ys : List NodeId) (b : Bool) → same_node x y ≡ b
    → last_or x (changes_from x ys) ≡ last_or x ys → last_or y (changes_from y ys) ≡ last_or y ys
    → last_or x (cond b (changes_from x ys) (y ∷ changes_from y ys)) ≡ last_or y ys
kept_by x y ys true same dropped kept = dropped ∙ ap (λ (n : NodeId). last_or n ys) (node_from_same x y same)
kept_by x y ys false same dropped kept = kept

last_kept : (x : NodeId) (ys : List NodeId) → last_or x (changes_from x ys) ≡ last_or x ys
last_kept x [] = refl
last_kept x (y ∷ ys) = kept_by x y ys (same_node x y) refl (last_kept x ys) (last_kept y ys)

pub line_ends_first : (xs : List NodeId) → slice_get (changes xs) 0 ≡ slice_get xs 0
line_ends_first [] = refl
line_ends_first (x ∷ xs) = refl

pub line_ends_last : (xs : List NodeId) → slice_get (changes xs) (length (changes xs) - 1)
    ≡ slice_get xs (length xs - 1)
line_ends_last [] = refl
line_ends_last (x ∷ xs) = at_last x (changes_from x xs) ∙ (ap Some (last_kept x xs) ∙ sym (at_last x xs))

-- ---- what stands second, and what stands last

pub has_second : (xs : List NodeId) → is_some (slice_get xs 1) ≡ nat_le 2 (length xs)
has_second [] = refl
has_second (x ∷ []) = refl
has_second (x ∷ y ∷ xs) = grind (arith, nat_tests)

pub last_is : (k : Key) (ks : List Key) → last_of (k ∷ ks) ≡ slice_get (k ∷ ks) (length ks)
last_is k [] = refl
last_is k (l ∷ ks) = last_is l ks

pub last_read : (ks : List Key) (d : Key) → 1 ≤ length ks → Some (get_or ks (length ks - 1) d) ≡ last_of ks
last_read [] d some = absurd (omega arith)
last_read (k ∷ ks) d some =
    let inside : length (k ∷ ks) - 1 < length (k ∷ ks) = omega arith in
    let e : length (k ∷ ks) - 1 ≡ length ks = omega arith in
    sym (slice_get-get_or (k ∷ ks) (length (k ∷ ks) - 1) d inside)
    ∙ (ap (λ (n : ℕ). slice_get (k ∷ ks) n) e ∙ sym (last_is k ks))
