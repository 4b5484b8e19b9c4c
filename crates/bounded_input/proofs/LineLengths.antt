-- How long the last line is, and no other line too long.
use Rattle.std.specs.Prelude.{◌≡◌, ◌≢◌, ◌+◌, ◌-◌, ◌≤◌, ◌<◌, ◌^◌, ◌++◌, ℕ, List, length, slice_index}
use Rattle.std.proofs.Common.{arith, refl, inl, inr, sym, ◌∙◌, ap, length-append}
use Rattle.std.proofs.lemmas.Bool.{cases_lt}
use Rattle.std.proofs.lemmas.List.{get_or_append_left, get_or-append_right}
use Rattle.bounded_input.specs.Limits.{HasLongLine, EndsLine}

left : (bs ps : List ℕ) (j : ℕ) → j < length bs → slice_index (bs ++ ps) j ≡ slice_index bs j
left bs ps j inside = get_or_append_left bs ps 0 j inside

right : (bs ps : List ℕ) (j : ℕ) → length bs ≤ j → slice_index (bs ++ ps) j ≡ slice_index ps (j - length bs)
right bs ps j past = get_or-append_right bs ps (length bs) j 0 refl past

-- no newline among the first n bytes
abbrev pub IsPlainTo : List ℕ → ℕ → Type 0
IsPlainTo ps n = (j : ℕ) → j < n → slice_index ps j ≢ 10

-- from the last line's first byte on to n bytes of the next part there is no newline
plain : (bs ps : List ℕ) (k n : ℕ) → EndsLine bs k → IsPlainTo ps n → (j : ℕ) → length bs - k ≤ j → j < length bs + n
    → slice_index (bs ++ ps) j ≢ 10
plain bs ps k n ends none j from to = λ e. elim (cases_lt j (length bs)) [
  | inl h ↦ ends.open_line j from h (sym (left bs ps j h) ∙ e)
  | inr h ↦ none (j - length bs) (omega arith) (sym (right bs ps j h) ∙ e)
]

-- the last line grows past the limit
pub long : (bs ps : List ℕ) (k n : ℕ) → EndsLine bs k → n ≤ length ps → IsPlainTo ps n → 2 ^ 24 < k + n
    → HasLongLine (bs ++ ps)
long bs ps k n ends inside none above =
    let bound = ends.bound in
    let total = length-append bs ps in
    (length bs - k, (omega arith, λ j from to. plain bs ps k n ends none j from (omega arith)))

-- no line that ends before n bytes of the next part is too long
short_before : (bs ps : List ℕ) (k n i : ℕ) → EndsLine bs k → (HasLongLine bs → ⊥) → k + n ≤ 2 ^ 24
    → i + 2 ^ 24 < length bs + n → ((j : ℕ) → i ≤ j → j ≤ i + 2 ^ 24 → slice_index (bs ++ ps) j ≢ 10) → ⊥
short_before bs ps k n i ends short few inside none = elim (cases_lt (i + 2 ^ 24) (length bs)) [
  | inl h ↦ short (i, (h, λ j from to e. none j from to (left bs ps j (omega arith) ∙ e)))
  | inr h ↦ elim ends.start [
    | inl whole ↦ omega arith
    | inr begun ↦ elim (cases_lt (length bs - k - 1) i) [
      | inl after ↦ (let before = begun.0 in omega arith)
      | inr within ↦ (let before = begun.0 in none (length bs - k - 1) within (omega arith)
          (left bs ps (length bs - k - 1) (omega arith) ∙ begun.1))
    ]
  ]
]

-- a part without a newline makes the last line longer
pub grown : (bs ps : List ℕ) (k : ℕ) → EndsLine bs k → IsPlainTo ps (length ps) → EndsLine (bs ++ ps) (k + length ps)
grown bs ps k ends none =
    let bound = ends.bound in
    let total = length-append bs ps in
    record {
      bound = omega arith;
      open_line = λ j from to. plain bs ps k (length ps) ends none j (omega arith) (omega arith);
      start = elim ends.start [
        | inl whole ↦ inl (omega arith)
        | inr begun ↦ (let before = begun.0 in let same : length (bs ++ ps) - (k + length ps) - 1
            ≡ length bs - k - 1 = omega arith in
            inr (
              omega arith,
              ap (slice_index (bs ++ ps)) same
                  ∙ (left bs ps (length bs - k - 1) (omega arith) ∙ begun.1),
            ))
      ];
    }

pub grown_short : (bs ps : List ℕ) (k : ℕ) → EndsLine bs k → (HasLongLine bs → ⊥) → k + length ps ≤ 2 ^ 24
    → HasLongLine (bs ++ ps) → ⊥
grown_short bs ps k ends short few l =
    let total = length-append bs ps in
    let inside = l.1.0 in
    short_before bs ps k (length ps) l.0 ends short few (omega arith) l.1.1

-- a part with a newline begins a line
pub begun : (bs ps : List ℕ) (m f : ℕ) → EndsLine ps m → f < length ps → slice_index ps f ≡ 10 → EndsLine (bs ++ ps) m
begun bs ps m f ends inside newline =
    let bound = ends.bound in
    let total = length-append bs ps in
    record {
      bound = omega arith;
      open_line = λ j from to e. ends.open_line (j - length bs) (omega arith) (omega arith)
          (sym (right bs ps j (omega arith)) ∙ e);
      start = elim ends.start [
        | inl whole ↦ absurd (ends.open_line f (omega arith) inside newline)
        | inr first ↦ (let before = first.0 in let same : (length (bs ++ ps) - m - 1) - length bs
            ≡ length ps - m - 1 = omega arith in
            inr (
              omega arith,
              right bs ps (length (bs ++ ps) - m - 1) (omega arith)
                  ∙ (ap (slice_index ps) same ∙ first.1),
            ))
      ];
    }

pub begun_short : (bs ps : List ℕ) (k f : ℕ) → EndsLine bs k → (HasLongLine bs → ⊥) → k + f ≤ 2 ^ 24 → f < length ps
    → slice_index ps f ≡ 10 → length ps ≤ 2 ^ 24 → HasLongLine (bs ++ ps) → ⊥
begun_short bs ps k f ends short few inside newline part l =
    let total = length-append bs ps in
    let whole = l.1.0 in
    elim (cases_lt (l.0 + 2 ^ 24) (length bs + f)) [
      | inl h ↦ short_before bs ps k f l.0 ends short few h l.1.1
      | inr h ↦ (let same : (length bs + f) - length bs ≡ f = omega arith in
          l.1.1 (length bs + f) (omega arith) h (right bs ps (length bs + f) (omega arith)
          ∙ (ap (slice_index ps) same ∙ newline)))
    ]
