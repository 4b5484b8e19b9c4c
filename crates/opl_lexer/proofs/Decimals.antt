-- Digits that are cut and joined.
use Rattle.std.specs.Prelude.{◌≡◌, ◌≤◌, ◌<◌, ◌-◌, ◌*◌, ◌^◌, ℕ, zero, suc, List, [], ◌∷◌, take, drop, length}
use Rattle.std.specs.Prelude.{slice_index, Option, Some, None, SomeIff}
use Rattle.std.specs.Char.{digit_value}
use Rattle.std.specs.Str.Parse.{AllDigits, digits_value}
use Rattle.std.proofs.Common.{arith, ◌∙◌}
use Rattle.std.proofs.lemmas.Str.Parse.{digits_value_short, numerals_by_value, tells_digits}

pub AllDigits-from_index : (ds : List ℕ) → ((k : ℕ) → k < length ds → digit_value (slice_index ds k) < 10)
    → AllDigits 10 ds
AllDigits-from_index [] each = tt
AllDigits-from_index (c ∷ cs) each = (each 0 (omega arith), AllDigits-from_index cs (λ k h. each (suc k) (omega arith)))

-- digits, cut and joined
pub AllDigits-take : (ds : List ℕ) (k : ℕ) → AllDigits 10 ds → AllDigits 10 (take k ds)
AllDigits-take ds zero all = tt
AllDigits-take [] (suc k) all = tt
AllDigits-take (c ∷ cs) (suc k) all = (all.0, AllDigits-take cs k all.1)

pub AllDigits-drop : (ds : List ℕ) (k : ℕ) → AllDigits 10 ds → AllDigits 10 (drop k ds)
AllDigits-drop ds zero all = all
AllDigits-drop [] (suc k) all = tt
AllDigits-drop (c ∷ cs) (suc k) all = AllDigits-drop cs k all.1

pub AllDigits-join : (ds : List ℕ) (k : ℕ) → AllDigits 10 (take k ds) → AllDigits 10 (drop k ds) → AllDigits 10 ds
AllDigits-join ds zero front rest = rest
AllDigits-join [] (suc k) front rest = tt
AllDigits-join (c ∷ cs) (suc k) front rest = (front.0, AllDigits-join cs k front.1 rest)

pub AllDigits-at : (ds : List ℕ) (i : ℕ) → AllDigits 10 ds → i < length ds → digit_value (slice_index ds i) < 10
AllDigits-at [] i all h = absurd (omega arith)
AllDigits-at (c ∷ cs) zero all h = all.0
AllDigits-at (c ∷ cs) (suc i) all h = AllDigits-at cs i all.1 (omega arith)

pub digits_value-short : (ds : List ℕ) (k : ℕ) → AllDigits 10 ds → length ds ≤ k → digits_value 10 ds < 10 ^ k
digits_value-short ds k all short = digits_value_short (numerals_by_value (AllDigits 10) tells_digits) ds k all short

pub scaled : (len v : ℕ) → len < 7 → v < 10 ^ len → v * 10 ^ (7 - len) < 10 ^ 7
scaled zero v l h = omega arith
scaled (suc zero) v l h = omega arith
scaled (suc (suc zero)) v l h = omega arith
scaled (suc (suc (suc zero))) v l h = omega arith
scaled (suc (suc (suc (suc zero)))) v l h = omega arith
scaled (suc (suc (suc (suc (suc zero))))) v l h = omega arith
scaled (suc (suc (suc (suc (suc (suc zero)))))) v l h = omega arith
scaled (suc (suc (suc (suc (suc (suc (suc n))))))) v l h = absurd (omega arith)

pub SomeIff-change : (o : Option ℕ) (p q : Type 0) (v w : ℕ) → SomeIff o p v → (p → q) → (q → p) → v ≡ w → SomeIff o q w
SomeIff-change (Some x) p q v w h to from same = (to h.0, h.1 ∙ same)
SomeIff-change None p q v w h to from same = λ y. h (from y)
