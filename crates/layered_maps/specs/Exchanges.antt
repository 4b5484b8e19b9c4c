-- A change of a map, found and not made yet.
use Rattle.std.specs.Prelude.{List}

-- the pairs before and after it
pub record Exchange (K V : Type 0) : Type 0 where
  pub before : List (K × V)
  pub after : List (K × V)
