-- What was read of a source, part by part.
use Rattle.std.specs.Prelude.{◌≡◌, ℕ, List, ◌++◌, Option}
use Rattle.road_io.specs.Told.{Told}

-- these bytes were read of those that were left
abbrev pub Took : List ℕ → Option (List ℕ) → Option (List ℕ) → Type 0
Took read = Told (λ before now. before ≡ read ++ now)
