-- What a source held, and what was read of it.
use Rattle.std.proofs.Common.{ℕ, List, [], ◌++◌, Option, None, Some, refl}
use Rattle.std.specs.Prelude.{unwrap_or}
use Rattle.road_io.specs.Parts.{Took}
use Rattle.session.specs.Conversing.{HeldBytes}

-- what is left, nothing where it isn't told
abbrev pub behind_of : Option (List ℕ) → List ℕ
behind_of left = unwrap_or left []

-- what was read stood before what is left
pub held_by : (read : List ℕ) (held left : Option (List ℕ)) → Took read held left
    → HeldBytes (read ++ behind_of left) (behind_of left) held left
held_by read None None t = tt
held_by read None (Some y) t = absurd t
held_by read (Some x) None t = absurd t
held_by read (Some x) (Some y) t = (t, refl)

-- nothing was read
pub held_still : (held : Option (List ℕ)) → HeldBytes (behind_of held) (behind_of held) held held
held_still None = tt
held_still (Some x) = (refl, refl)
