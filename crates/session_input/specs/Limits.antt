-- The limits of a session's input.
use Rattle.std.specs.Prelude.{◌≡◌, ℕ, ◌+◌, ◌<◌, ◌^◌, List, [], ◌∷◌, ◌++◌, length}
use Rattle.opl_lexer.specs.Letters.{newline}
use Rattle.opl_lexer.specs.Parts.{Lacks}
use Rattle.session_input.specs.Messages.{Message, IsMessage, IsOpen, BeginsFrame}

-- The bytes behind the last whole message pass a limit, where so many bytes came before: a line has more than 2^24
-- bytes, or a frame more than 2^30 behind its first line, or the session more than 2^40.
pub data PassesLimit (before : ℕ) (bytes : List ℕ) : Type 0 where
  OfLine : (front line : List ℕ) → bytes ≡ front ++ line → Lacks newline line → 2 ^ 24 < length line
      → PassesLimit before bytes
  OfFrame : (number : ℕ) (first more : List ℕ) → BeginsFrame number [] first → bytes ≡ first ++ more
      → 2 ^ 30 < length more → PassesLimit before bytes
  OfSession : 2 ^ 40 < before + length bytes → PassesLimit before bytes

-- no front of the bytes passes a limit
abbrev pub IsWithin : ℕ → List ℕ → Type 0
IsWithin before bytes = (front rest : List ℕ) → bytes ≡ front ++ rest → PassesLimit before front → ⊥

-- the bytes are this message, within the limits
pub record IsTaken (before : ℕ) (message : Message) (bytes : List ℕ) : Type 0 where
  pub is : IsMessage message bytes
  pub within : IsWithin before bytes

-- the bytes are no whole message yet, within the limits
pub record IsPending (before : ℕ) (bytes : List ℕ) : Type 0 where
  pub open_bytes : IsOpen bytes
  pub within : IsWithin before bytes

-- The bytes come to one byte too many: those before it are no whole message yet, within the limits, and with it a limit
-- is passed.
pub record IsStopped (before : ℕ) (bytes : List ℕ) : Type 0 where
  pub pending : List ℕ
  pub byte : ℕ
  pub rest : List ℕ
  pub is : bytes ≡ (pending ++ byte ∷ []) ++ rest
  pub open_bytes : IsPending before pending
  pub passes : PassesLimit before (pending ++ byte ∷ [])
