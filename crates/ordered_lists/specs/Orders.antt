-- Strictly ascending lists, and those that have exactly what is asked for.
use Rattle.std.specs.Prelude.{List, [], ◌∷◌, map, Bool, true, ◌&&◌, IsTrue, Contains}
use Rattle.std.specs.Ordering.{is_lt}
use Rattle.std.specs.declared.cmp.Ordering.{Ordering}

abbrev pub rises_from : {N : Type 0} → (N → N → Ordering) → N → List N → Bool
rises_from R x [] = true
rises_from R x (y ∷ ys) = is_lt (R x y) && rises_from R y ys

-- each is below the next
abbrev pub rises : {N : Type 0} → (N → N → Ordering) → List N → Bool
rises R [] = true
rises R (x ∷ xs) = rises_from R x xs

-- the list has exactly the values of which the fact holds, their names strictly ascending
pub record Lists {A N : Type 0} (name : A → N) (R : N → N → Ordering) (Is : A → Type 0) (xs : List A) : Type 0 where
  pub ascending : IsTrue (rises R (map name xs))
  pub sound : (x : A) → Contains xs x → Is x
  pub complete : (x : A) → Is x → Contains xs x
