-- Fronts of what is put.
use Rattle.std.proofs.Common.{ℕ, ◌<◌, List, ◌++◌, length, take, refl, sym, ◌∙◌, ap, arith}
use Rattle.std.proofs.Common.{append_assoc, length-append}
use Rattle.std.proofs.Transfers.{starts_with_of_eq, starts_with_of_append, starts_with_trans, starts_with_length}
use Rattle.std.proofs.Math.Seq.{take-append-add}
use Rattle.std.proofs.lemmas.List.{take-append-drop}
use Rattle.std.specs.Prelude.{drop}
use Rattle.std.specs.Io.{StartsWith}

pub starts_whole : (xs : List ℕ) → StartsWith xs xs
starts_whole xs = starts_with_of_eq xs xs refl

pub starts_front : (xs rest : List ℕ) → StartsWith (xs ++ rest) xs
starts_front xs rest = starts_with_of_append (xs ++ rest) xs rest refl

-- a front of a chunk behind some bytes
pub starts_behind : (xs chunk put : List ℕ) → StartsWith chunk put → StartsWith (xs ++ chunk) (xs ++ put)
starts_behind xs chunk put front =
    ap (λ (n : ℕ). take n (xs ++ chunk)) (length-append xs put)
    ∙ (take-append-add xs chunk (length put) ∙ ap (λ (l : List ℕ). xs ++ l) front)

pub starts_taken : (n : ℕ) (xs : List ℕ) → StartsWith xs (take n xs)
starts_taken n xs = starts_with_of_append xs (take n xs) (drop n xs) (sym (take-append-drop n xs))

pub starts_longer : (xs chunk more put : List ℕ) → StartsWith (xs ++ chunk) put → StartsWith (xs ++ (chunk ++ more)) put
starts_longer xs chunk more put front =
    starts_with_trans (xs ++ (chunk ++ more)) (xs ++ chunk) put
    (starts_with_of_append (xs ++ (chunk ++ more)) (xs ++ chunk) more (sym (append_assoc xs chunk more))) front

-- an output that is a front of what it was holds no line behind that
pub nothing_put : (was line put : List ℕ) → 0 < length line → StartsWith was put → StartsWith put (was ++ line) → ⊥
nothing_put was line put some front starts = omega (
  arith,
  starts_with_length was put front,
  starts_with_length put (was ++ line) starts,
  length-append was line,
)
