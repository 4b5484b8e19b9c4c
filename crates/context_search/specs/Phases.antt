-- The phases in which one goes along pieces, by their marks.
use Rattle.std.specs.Prelude.{ℕ, Bool, Option, Some}

-- the phase in which a walk starts with a piece, and the one in which it goes on from a phase by a piece, if it does,
-- by whether the piece is marked
pub record PhaseRules : Type 0 where
  pub start : Bool → ℕ
  pub go : ℕ → Bool → Option ℕ

-- one phase, in which a walk goes on by every piece
abbrev pub one_phase : PhaseRules
one_phase = record { start = λ zone. 0; go = λ phase zone. Some 0 }
