-- What a source held, and what was read of it.
use Rattle.std.proofs.Common.{◌≡◌, ℕ, List, [], ◌++◌, Option, None, Some, refl, ap, ◌∙◌}
use Rattle.std.specs.Prelude.{unwrap_or}
use Rattle.std.proofs.lemmas.List.{append-nil}
use Rattle.road_io.specs.Parts.{Took}
use Rattle.bounded_input.specs.Input.{Ended}
use Rattle.cells.specs.Run.{HeldBytes}

-- what is left, nothing where it isn't told
abbrev pub behind_of : Option (List ℕ) → List ℕ
behind_of left = unwrap_or left []

-- what was read stood before what is left
pub held_by : (read : List ℕ) (held left : Option (List ℕ)) → Took read held left
    → HeldBytes (read ++ behind_of left) (behind_of left) held left
held_by read None None t = tt
held_by read None (Some y) t = absurd t
held_by read (Some x) None t = absurd t
held_by read (Some x) (Some y) t = (t, refl)

-- nothing was read
pub held_still : (held : Option (List ℕ)) → HeldBytes (behind_of held) (behind_of held) held held
held_still None = tt
held_still (Some x) = (refl, refl)

behind_nothing : (left : Option (List ℕ)) → Ended left → behind_of left ≡ []
behind_nothing None e = refl
behind_nothing (Some y) e = e

-- what was read of an input that ended is all of it
pub all_read : (read : List ℕ) (left : Option (List ℕ)) → Ended left → read ++ behind_of left ≡ read
all_read read left e = ap (λ (l : List ℕ). read ++ l) (behind_nothing left e) ∙ append-nil read

-- what a source tells is what it held
pub same_held : (bytes other behind : List ℕ) (held left : Option (List ℕ)) → held ≡ Some bytes
    → HeldBytes other behind held left → bytes ≡ other
same_held bytes other behind None left e l = cc
same_held bytes other behind (Some x) None e l = absurd l
same_held bytes other behind (Some x) (Some y) e l =
    let k : Some x ≡ Some bytes = e in let m : x ≡ other = l.0 in cc
