-- A builder of blocks as it is seen.
-- the world and the profile for which it builds
pub record Pair (M P : Type 0) : Type 0 where
  pub world : M
  pub profile : P
