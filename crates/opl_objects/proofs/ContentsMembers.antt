-- Members, cut at the first `@`.
use Rattle.std.specs.Prelude.{◌≡◌, ◌==◌, ◌<◌, ◌+◌, ◌++◌, nat_lt, ℕ, List, [], ◌∷◌, true, false, take, drop, length}
use Rattle.std.specs.Prelude.{refl}
use Rattle.std.specs.List.{position_or_len, before_first, after_first}
use Rattle.std.proofs.Common.{arith, ◌∙◌, ap, length-append, cond}
use Rattle.std.proofs.Math.Seq.{take-append_seam, drop-append-add}
use Rattle.std.proofs.lemmas.Bool.Decides.{nat_tests}
use Rattle.std.proofs.lemmas.List.{take_all}
use Rattle.std.proofs.lemmas.List.Elements.{All-head, All-tail}
use Rattle.opl_lexer.specs.declared.fault.FaultKind.TheVariants.{BadMember}
use Rattle.opl_lexer.specs.Parts.{Lacks, IsCutAt}
use Rattle.opl_lexer.specs.Contents.{Bad, text_of, key_of, is_at_sign, member_with, member_of}

first_at : (front rest : List ℕ) → Lacks 64 front → position_or_len is_at_sign (front ++ (64 ∷ rest)) ≡ length front
first_at [] rest lacks = refl
first_at (b ∷ bs) rest lacks =
    let here : is_at_sign b ≡ false = All-head (λ c. (c == 64) ≡ false) b bs lacks in
    let others = first_at bs rest (All-tail (λ c. (c == 64) ≡ false) b bs lacks) in
    rw (here, others) (omega arith)

none_at : (bs : List ℕ) → Lacks 64 bs → position_or_len is_at_sign bs ≡ length bs
none_at [] lacks = refl
none_at (b ∷ bs) lacks =
    let here : is_at_sign b ≡ false = All-head (λ c. (c == 64) ≡ false) b bs lacks in
    let others = none_at bs (All-tail (λ c. (c == 64) ≡ false) b bs lacks) in
    rw (here, others) (omega arith)

pub member_cut : (item front rest : List ℕ) → IsCutAt 64 item front rest
    → member_of item ≡ member_with (key_of front) (text_of rest)
member_cut item front rest k =
    let at : position_or_len is_at_sign item ≡ length front = ap (position_or_len is_at_sign) k.written
    ∙ first_at front rest k.first in
    let before : before_first is_at_sign item ≡ front = ap (λ n. take n item) at
    ∙ (ap (take (length front)) k.written ∙ take-append_seam front (64 ∷ rest)) in
    let behind : after_first is_at_sign item ≡ rest = ap (λ n. drop (n + 1) item) at
    ∙ (ap (drop (length front + 1)) k.written ∙ drop-append-add front (64 ∷ rest) 1) in
    let longer : length front < length item = omega (arith, ap length k.written, length-append front (64 ∷ rest)) in
    let test : nat_lt (length front) (length item) ≡ true = grind (arith, nat_tests) in
    ap (λ f. cond (nat_lt (length f) (length item)) (member_with (key_of f) (text_of (after_first is_at_sign item)))
    (Bad BadMember)) before
    ∙ (ap (λ b. cond b (member_with (key_of front) (text_of (after_first is_at_sign item))) (Bad BadMember)) test
    ∙ ap (λ r. member_with (key_of front) (text_of r)) behind)

pub member_uncut : (item : List ℕ) → Lacks 64 item → member_of item ≡ Bad BadMember
member_uncut item lacks =
    let at : position_or_len is_at_sign item ≡ length item = none_at item lacks in
    let before : before_first is_at_sign item ≡ item = ap (λ n. take n item) at
    ∙ take_all (length item) item (omega arith) in
    let test : nat_lt (length item) (length item) ≡ false = grind (arith, nat_tests) in
    ap (λ f. cond (nat_lt (length f) (length item)) (member_with (key_of f) (text_of (after_first is_at_sign item)))
    (Bad BadMember)) before
    ∙ ap (λ b. cond b (member_with (key_of item) (text_of (after_first is_at_sign item))) (Bad BadMember)) test
