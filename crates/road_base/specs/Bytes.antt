-- Numbers as bytes, little endian, lists of what has bytes, and what an append leaves.
use Rattle.std.specs.Prelude.{◌≡◌, ℕ, ℤ, List, [], ◌∷◌, ◌++◌, length, take}
use Rattle.std.specs.Int.{w32, w64, to_le_bytes, cast_unsigned}

abbrev pub u32_bytes : ℕ → List ℕ
u32_bytes n = to_le_bytes w32 n

abbrev pub u64_bytes : ℕ → List ℕ
u64_bytes n = to_le_bytes w64 n

abbrev pub i32_bytes : ℤ → List ℕ
i32_bytes z = to_le_bytes w32 (cast_unsigned w32 z)

abbrev pub i64_bytes : ℤ → List ℕ
i64_bytes z = to_le_bytes w64 (cast_unsigned w64 z)

-- each one's bytes, in order
abbrev pub joined : {A : Type 0} → (A → List ℕ) → List A → List ℕ
joined spell [] = []
joined spell (x ∷ xs) = spell x ++ joined spell xs

-- the old bytes still stand in front
abbrev pub Keeps : List ℕ → List ℕ → Type 0
Keeps old new = take (length old) new ≡ old
