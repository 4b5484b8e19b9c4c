-- Sums over a list in which elements are put into places before them.
use Rattle.std.proofs.Common.{◌≡◌, ℕ, ◌+◌, ◌/◌, ◌<◌, ◌≤◌, List, ◌++◌, length, take, drop}
use Rattle.std.proofs.Common.{set, get_or, arith, ap, sym, ◌∙◌}
use Rattle.std.specs.List.{sum_by}
use Rattle.cell_plan.specs.declared.sums.Tally.{Tally}
use Rattle.std.proofs.lemmas.List.{take_more_set, drop-set-lt, take-append-le, take_all}
use Rattle.std.proofs.lemmas.List.Sums.{sum_by_push, sum_by_more, sum_by-drop_more}

module _ {X : Type 0} (f : X → ℕ) (xs : List X) (next : ℕ) (d : X) (within : next < length xs) where
  -- y in the place of what stands at k
  put_at : (k : ℕ) (y : X) → k ≤ next
      → sum_by f (take (k + 1) (set xs k y)) + sum_by f (drop (next + 1) (set xs k y))
      ≡ sum_by f (take k xs) + f y + sum_by f (drop (next + 1) xs)
  put_at k y before =
      let front = ap (sum_by f) (take_more_set xs k y (omega arith)) ∙ sum_by_push f (take k xs) y in
      let rest = ap (sum_by f) (drop-set-lt (next + 1) xs k y (omega arith)) in
      omega (arith, front, rest)

  -- the next one put behind those kept
  pub put_next : (k : ℕ) → k ≤ next
      → sum_by f (take (k + 1) (set xs k (get_or xs next d))) + sum_by f (drop (next + 1) (set xs k (get_or xs next d)))
      ≡ sum_by f (take k xs) + sum_by f (drop next xs)
  put_next k before = omega (arith, put_at k (get_or xs next d) before, sum_by-drop_more f xs next d within)

  -- the last one kept and the next one together in the place of the last one
  pub put_into : (kept k : ℕ) (y : X) → k + 1 ≡ kept → kept ≤ next → f y ≡ f (get_or xs k d) + f (get_or xs next d)
      → sum_by f (take kept (set xs k y)) + sum_by f (drop (next + 1) (set xs k y))
      ≡ sum_by f (take kept xs) + sum_by f (drop next xs)
  put_into kept k y one before both =
      let e : sum_by f (take kept (set xs k y)) ≡ sum_by f (take (k + 1) (set xs k y)) = ap
      (λ n. sum_by f (take n (set xs k y))) (sym one) in
      let g : sum_by f (take kept xs) ≡ sum_by f (take (k + 1) xs) = ap (λ n. sum_by f (take n xs)) (sym one) in
      omega (
        arith,
        e,
        g,
        put_at k y (omega arith),
        sum_by-drop_more f xs next d within,
        sum_by_more f xs k d
            (omega arith),
        both,
      )

-- the tally of the square of twice the side
abbrev pub halved : Tally → Tally
halved t = record { column = t.column / 2; row = t.row / 2; count = t.count }

-- what a vector holds after its slice was written to
pub after_slice : {X : Type 0} (len : ℕ) (new old : List X) → len ≡ length new
    → take len (new ++ drop (length new) old) ≡ new
after_slice len new old long = take-append-le len new (drop (length new) old) (omega (arith, long))
    ∙ take_all len new (omega (arith, long))
