-- What a source and a site of the system hold.
use Rattle.std.specs.Prelude.{ℕ}

-- what stands beneath, a reader or a writer, and how often a call failed
pub record Real (R : Type 0) : Type 0 where
  pub beneath : R
  pub faults : ℕ
