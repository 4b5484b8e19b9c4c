-- The generator of numbers: what a draw leaves of its state, and what the draw gives.
use Rattle.std.specs.Prelude.{ℕ, zero, suc, ◌+◌, ◌*◌, ◌/◌, ◌%◌, ◌^◌, List, [], ◌∷◌, ◌++◌}

-- the state that a draw leaves
unfoldable pub after_draw : ℕ → ℕ
after_draw s = (s * 6364136223846793005 + 1442695040888963407) % 2 ^ 64

-- what a draw from this state gives
unfoldable pub drawn : ℕ → ℕ
drawn s = after_draw s / 2 ^ 33

-- what a draw below k from this state gives
unfoldable pub drawn_below : ℕ → ℕ → ℕ
drawn_below k s = drawn s % k

-- f applied so many times
unfoldable pub iterate : (ℕ → ℕ) → ℕ → ℕ → ℕ
iterate f zero s = s
iterate f (suc times) s = f (iterate f times s)

-- the state that so many draws leave
abbrev pub after_draws : ℕ → ℕ → ℕ
after_draws count s = iterate after_draw count s

-- what f gives of the first numbers: of 0, 1, .. in turn, below the count
unfoldable pub listed : {A : Type 0} → (ℕ → A) → ℕ → List A
listed f zero = []
listed f (suc count) = listed f count ++ f count ∷ []
