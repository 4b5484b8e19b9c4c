-- Bytes that are at most a space, found sixteen at a time.
use Rattle.std.proofs.Common.{◌≡◌, ◌<◌, ◌≤◌, ◌+◌, ℕ, List, Bool, false, not, map, length, slice_index, take, get_or}
use Rattle.std.proofs.Common.{leb, eqb, cond, sym, ◌∙◌, subst, arith}
use lib.Count.{count_trailing_zeros}
use Rattle.std.specs.List.{prefix_len}
use Rattle.std.specs.Simd.Lanes.{mask_l}
use Rattle.std.proofs.lemmas.Bool.{leb-false}
use Rattle.std.proofs.lemmas.Simd.{length-chunk, first_set_mask_l, run_in_chunk_le, run_in_chunk_fails}
use Rattle.std.proofs.lemmas.Simd.{none_from_empty_mask}

-- at most a space
abbrev pub is_low : ℕ → Bool
is_low b = leb b 32

-- the bits of the mask tell which of the first sixteen bytes are low
pub record IsMask (bytes : List ℕ) (mask : ℕ) : Type 0 where
  pub room : 0 + 16 ≤ length bytes
  pub bits : mask ≡ mask_l (map is_low (take 16 bytes))

-- no bit is set
pub all_above : (bytes : List ℕ) (mask : ℕ) → IsMask bytes mask → mask ≡ 0 → (k : ℕ) → k < 16 → 32 < slice_index bytes k
all_above bytes mask is none k h =
    let passes : leb (get_or bytes k 0) 32 ≡ false = none_from_empty_mask is_low bytes 0 16 0 is.room
    (sym is.bits ∙ none) k (omega arith) (omega arith) in
    leb-false (get_or bytes k 0) 32 passes

-- the lowest bit stands for the first of them
counted : (bytes : List ℕ) (mask : ℕ) → IsMask bytes mask → eqb mask 0 ≡ false
    → count_trailing_zeros 64 mask ≡ prefix_len (λ b. not (is_low b)) (take 16 bytes)
counted bytes mask is some =
    let first = first_set_mask_l is_low (take 16 bytes) 16 (length-chunk 0 16 bytes is.room) (omega arith) in
    let here : cond (eqb mask 0) 16 (count_trailing_zeros 64 mask) ≡ prefix_len (λ b. not (is_low b)) (take 16 bytes) =
    subst (λ m. cond (eqb m 0) 16 (count_trailing_zeros 64 m) ≡ prefix_len (λ b. not (is_low b)) (take 16 bytes))
    (sym is.bits) first in
    rw some at here

pub first_within : (bytes : List ℕ) (mask : ℕ) → IsMask bytes mask → eqb mask 0 ≡ false
    → count_trailing_zeros 64 mask ≤ 16
first_within bytes mask is some = run_in_chunk_le is_low bytes 0 16 (count_trailing_zeros 64 mask) 0 is.room
    (counted bytes mask is some)

pub above_first : (bytes : List ℕ) (mask : ℕ) → IsMask bytes mask → eqb mask 0 ≡ false → (k : ℕ)
    → k < count_trailing_zeros 64 mask → 32 < slice_index bytes k
above_first bytes mask is some k h =
    let passes : leb (get_or bytes k 0) 32 ≡ false = run_in_chunk_fails is_low bytes 0 16 (count_trailing_zeros 64 mask)
    0 is.room (counted bytes mask is some) k (omega arith) (omega arith) in
    leb-false (get_or bytes k 0) 32 passes
