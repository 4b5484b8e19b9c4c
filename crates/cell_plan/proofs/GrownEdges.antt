-- The edges of what is grown.
use Rattle.std.proofs.Common.{◌≡◌, ℕ, ◌+◌, ◌-◌, ◌<◌, ◌≤◌, max, min, ◌⊎◌, inl, inr, arith}
use Rattle.std.proofs.lemmas.Bool.{cases_lt}

-- an edge is as far from what is in it as it was grown, or is that of what is around it
pub low_edge : (start by around edge low margin at : ℕ) → low ≡ max (start - by) around → margin ≤ by → start ≤ at
    → (around + margin ≤ at) ⊎ (around ≡ edge) → (low + margin ≤ at) ⊎ (low ≡ edge)
low_edge start by around edge low margin at is le inside (inl far) = inl (omega arith)
low_edge start by around edge low margin at is le inside (inr same) = elim (cases_lt around (start - by)) [
  | inl l ↦ inl (omega arith)
  | inr le ↦ inr (omega arith)
]

pub high_edge : (end by around edge high margin at : ℕ) → high ≡ min (end + by) around → margin ≤ by → at < end
    → (at + margin < around) ⊎ (around ≡ edge) → (at + margin < high) ⊎ (high ≡ edge)
high_edge end by around edge high margin at is le inside (inl far) = inl (omega arith)
high_edge end by around edge high margin at is le inside (inr same) = elim (cases_lt (end + by) around) [
  | inl l ↦ inl (omega arith)
  | inr le ↦ inr (omega arith)
]
