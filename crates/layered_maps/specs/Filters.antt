-- Marks at two slots of each number, by which a map tells most keys that it doesn't have.
use Rattle.std.specs.Prelude.{ℕ, ℤ, ◌≡◌, ◌*◌, ◌/◌, ◌%◌, ◌^◌, List, [], Option, Some, None, IsTrue, is_some, slice_index}
use Rattle.std.specs.Int.{w64, cast_unsigned, bit_at}
use Rattle.std.specs.FinMap.{find}
use Rattle.std.specs.declared.cmp.Ordering.{Ordering}
use Rattle.std.specs.declared.rc.Rc.{Rc}

-- the first slot of a number: the number modulo 1,048,576
unfoldable pub slot_of : ℤ → ℕ
slot_of number = cast_unsigned w64 number % 1048576

-- the other slot of a number, by Fibonacci hashing (D. E. Knuth, The Art of Computer Programming 3, 6.4): the upper 20
-- of the 64 bits of the number times 2^64 divided by the golden ratio
unfoldable pub other_slot_of : ℤ → ℕ
other_slot_of number = cast_unsigned w64 number * 0x9E37_79B9_7F4A_7C15 % 2 ^ 64 / 2 ^ 44

-- the slot is marked, where each word has 64 slots
abbrev pub IsSlotMarked : List ℕ → ℕ → Type 0
IsSlotMarked words slot = bit_at (slice_index words (slot / 64)) (slot % 64) ≡ 1

-- both slots of the number are marked
abbrev pub IsMarked : List ℕ → ℤ → Type 0
IsMarked words number = IsSlotMarked words (slot_of number) × IsSlotMarked words (other_slot_of number)

-- the words of a filter, and none where there is none
abbrev pub slots_in : {Z : Type 0} → Option (Rc (List ℕ) Z) → List ℕ
slots_in None = []
slots_in (Some filter) = filter.value

-- wherever a key has a value, its number is marked
abbrev pub AreMarked : {K V : Type 0} → (K → K → Ordering) → (K → ℤ) → List (K × V) → List ℕ → Type 0
AreMarked {K} R number pairs words = (k : K) → IsTrue (is_some (find R k pairs)) → IsMarked words (number k)
