-- Reading a source part by part.
use Rattle.std.proofs.Common.{◌≡◌, ℕ, zero, suc, ◌≤◌, ◌<◌, List, [], ◌∷◌, ◌++◌, length, take, drop, Option, None, Some}
use Rattle.std.proofs.Common.{Ok, Err, refl, sym, ap, ◌∙◌, append_assoc, arith, inl, inr}
use Rattle.std.proofs.lemmas.List.{take-append-le, take-append-drop, length-take-le, take-take, append-nil}
use Rattle.road_io.specs.Told.{Told, Rose}
use Rattle.road_io.specs.Calls.{Takes, Gives}
use Rattle.road_io.specs.declared.outside.Failed.{Failed}
use Rattle.road_io.specs.Parts.{Took}

-- before the first read
pub took_nothing : (x : Option (List ℕ)) → Took [] x x
took_nothing None = tt
took_nothing (Some left) = refl

take_twice : (n : ℕ) (l : List ℕ) → take n (take n l) ≡ take n l
take_twice n l = take-take n n l (omega arith)

given : (n : ℕ) (left old new : List ℕ) → Gives n left old new → take n new ≡ take n left
given n left old new g =
    let fits : n ≤ length (take n left) = rw (length-take-le n left g.enough) (omega arith) in
    rw g.bytes (take-append-le n (take n left) (drop n old) fits ∙ take_twice n left)

more : (read left old new : List ℕ) (n : ℕ) → Gives n left old new → read ++ left ≡ (read ++ take n new) ++ drop n left
more read left old new n g =
    rw (given n left old new g) (ap (λ (l : List ℕ). read ++ l) (sym (take-append-drop n left))
    ∙ sym (append_assoc read (take n left) (drop n left)))

-- a read that gave n bytes
pub took_more : (read old new : List ℕ) (n : ℕ) (x y z : Option (List ℕ)) → Took read x y
    → Told (Takes old new (Ok n)) y z → Took (read ++ take n new) x z
took_more read old new n None None None t g = tt
took_more read old new n None None (Some z) t g = g
took_more read old new n None (Some y) z t g = absurd t
took_more read old new n (Some x) None z t g = absurd t
took_more read old new n (Some x) (Some y) None t g = g
took_more read old new n (Some x) (Some y) (Some z) t g = t ∙ more read y old new n g.0
    ∙ ap (λ (l : List ℕ). (read ++ take n new) ++ l) (sym g.1)

-- a read that failed
pub took_still : (read old new : List ℕ) (e : Failed) (x y z : Option (List ℕ)) → Took read x y
    → Told (Takes old new (Err e)) y z → Took read x z
took_still read old new e None None None t g = tt
took_still read old new e None None (Some z) t g = g
took_still read old new e None (Some y) z t g = absurd t
took_still read old new e (Some x) None z t g = absurd t
took_still read old new e (Some x) (Some y) None t g = g
took_still read old new e (Some x) (Some y) (Some z) t g = t ∙ ap (λ (l : List ℕ). read ++ l) (sym g)

empty_room : (old : List ℕ) → 0 < length old → old ≡ [] → ⊥
empty_room [] room e = omega arith
empty_room (x ∷ old) room e = cc

ended : (n : ℕ) (left old new : List ℕ) → 0 < length old → n ≡ 0 → Gives n left old new → left ≡ []
ended n left old new room e g = elim (g.none.0 e) [ inl h ↦ absurd (empty_room old room h) | inr h ↦ h ]

drop_nothing : (n : ℕ) → drop n (let none : List ℕ = [] in none) ≡ []
drop_nothing zero = refl
drop_nothing (suc n) = refl

-- a read that gave nothing, with room for something
pub took_all : (read old new : List ℕ) (n : ℕ) (x y z : Option (List ℕ)) → 0 < length old → n ≡ 0 → Took read x y
    → Told (Takes old new (Ok n)) y z → Told (λ was left. (was ≡ read) × (left ≡ [])) x z
took_all read old new n None None None room e t g = tt
took_all read old new n None None (Some z) room e t g = g
took_all read old new n None (Some y) z room e t g = absurd t
took_all read old new n (Some x) None z room e t g = absurd t
took_all read old new n (Some x) (Some y) None room e t g = g
took_all read old new n (Some x) (Some y) (Some z) room e t g =
    let none = ended n y old new room e g.0 in (
      t ∙ ap (λ (l : List ℕ). read ++ l) none ∙ append-nil read,
      g.1 ∙ ap (λ (l : List ℕ). drop n l) none
          ∙ drop_nothing n,
    )

-- a count that rose later has risen
pub rose_since : (a b c : ℕ) → a ≤ b → Rose b c → Rose a c
rose_since a b c le (inl h) = inl (omega arith)
rose_since a b c le (inr h) = inr h
