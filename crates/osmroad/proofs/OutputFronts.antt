-- Fronts of what is put: which line they can't hold.
use Rattle.std.proofs.Common.{◌≡◌, ℕ, ◌+◌, ◌<◌, List, ◌++◌, length, get_or, sym, ◌∙◌, ap}
use Rattle.std.proofs.Common.{arith, length-append}
use Rattle.std.proofs.Transfers.{starts_with_length}
use Rattle.std.proofs.lemmas.List.{get_or-take, get_or-append-add}
use Rattle.std.specs.Io.{StartsWith}

-- a front of what was put holds no line that begins with another byte
pub other_put : (was out line put : List ℕ) → 0 < length line → (get_or out 0 0 ≡ get_or line 0 0 → ⊥)
    → StartsWith (was ++ out) put → StartsWith put (was ++ line) → ⊥
other_put was out line put some other front starts =
    let total = length-append was line in
    let long : length was + 0 < length put = omega (arith, starts_with_length put (was ++ line) starts) in
    let within : length was + 0 < length (was ++ line) = omega arith in
    let k = length was + 0 in
    other (sym (get_or-append-add was out 0 0)
    ∙ sym (get_or-take (length put) (was ++ out) k 0 long)
    ∙ ap (λ (l : List ℕ). get_or l k 0) front
    ∙ sym (get_or-take (length (was ++ line)) put k 0 within)
    ∙ ap (λ (l : List ℕ). get_or l k 0) starts
    ∙ get_or-append-add was line 0 0)
