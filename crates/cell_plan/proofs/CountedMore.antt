-- Counts of one more place, and in a coarser grid.
use Rattle.std.proofs.Common.{◌≡◌, ℕ, ◌+◌, ◌*◌, ◌/◌, Bool, cond, List, [], ◌∷◌, ◌++◌, sym, ◌∙◌}
use Rattle.std.specs.List.{count_by}
use Rattle.std.proofs.lemmas.List.Sums.{sum_by_push}
use Rattle.std.proofs.Math.Nat.{div-div-eq-div-mul}
use Rattle.road_base.specs.declared.location.Location.{Location}
use Rattle.cell_plan.specs.declared.sums.Tally.{Tally}
use Rattle.cell_plan.specs.Grids.{units_east, units_north}
use Rattle.cell_plan.specs.Sums.{tallied, lying, weight}

-- a place more, and the tally of its square
pub counted_more : (wanted : ℕ → ℕ → Bool) (side : ℕ) (tallies : List Tally) (t : Tally) (places : List Location)
    (p : Location) → tallied wanted tallies ≡ lying wanted side places → t.column ≡ units_east p / side
    → t.row ≡ units_north p / side → t.count ≡ 1
    → tallied wanted tallies + weight wanted t ≡ lying wanted side (places ++ p ∷ [])
counted_more wanted side tallies t places p same column row one =
    let here : Location → ℕ = λ q. cond (wanted (units_east q / side) (units_north q / side)) 1 0 in
    let last : weight wanted t ≡ here p = λ i. cond (wanted (column i) (row i)) (one i) 0 in
    (λ i. same i + last i) ∙ sym (sum_by_push here places p)

-- what lies in squares of twice the side
pub lying_coarser : (wanted : ℕ → ℕ → Bool) (side : ℕ) (places : List Location)
    → lying (λ column row. wanted (column / 2) (row / 2)) side places ≡ lying wanted (side * 2) places
lying_coarser wanted side places =
    let halves : (n : ℕ) → n / side / 2 ≡ n / (side * 2) = λ n. div-div-eq-div-mul n side 2 in
    λ i. count_by (λ p. wanted (halves (units_east p) i) (halves (units_north p) i)) places
