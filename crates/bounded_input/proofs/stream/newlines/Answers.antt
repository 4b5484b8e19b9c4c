use Rattle.std.proofs.Common.{◌≡◌, ◌≤◌, ◌==◌, ℕ, List, take, length, sym, ap, ◌∙◌, arith}
use Rattle.std.specs.Prelude.{count_by}
use Rattle.std.proofs.lemmas.List.{take_all}
use Rattle.bounded_input.proofs.LinesBehind.{whole_count, whole_few}
use Rattle.bounded_input.proofs.stream.newlines.Goals as goal

-- all bytes were passed
all_passed : (bytes : List ℕ) (i count : ℕ) → length bytes ≤ i → count ≡ count_by (λ b. b == 10) (take i bytes)
    → count ≡ count_by (λ b. b == 10) bytes
all_passed bytes i count end so_far = so_far ∙ ap (count_by (λ b. b == 10)) (take_all i bytes end)

pub returns-clause-count : goal.returns-clause-count
returns-clause-count c =
    let bytes = c.args.bytes.now in
    all_passed bytes c.loop-byte.byte-index c.loop-byte.count c.loop-byte-test.false c.loop-byte.invariant
    ∙ sym (whole_count bytes)

pub returns-clause-few : goal.returns-clause-few
returns-clause-few c = omega (arith, returns-clause-count c, whole_few c.args.bytes.now)
