-- Lists, read item by item.
use Rattle.std.specs.Prelude.{◌≡◌, ◌≤◌, ◌<◌, ◌+◌, ◌-◌, ◌++◌, nat_lt, ℕ, suc, List, [], ◌∷◌, true, false, length, take}
use Rattle.std.specs.Prelude.{refl}
use Rattle.std.proofs.Common.{arith, sym, ◌∙◌, ap, append-nil, append_assoc, length-append}
use Rattle.std.proofs.Math.Seq.{take-append_seam, take-append-add}
use Rattle.std.proofs.lemmas.Bool.Decides.{nat_tests}
use Rattle.std.proofs.lemmas.List.{take_all}
use Rattle.opl_lexer.specs.declared.fault.FaultKind.{FaultKind}
use Rattle.opl_lexer.specs.declared.fault.FaultKind.TheVariants.{TooMany}
use Rattle.opl_lexer.specs.Contents.{Parsed, Good, Bad, items, put_before, all_of, and_no_more, list_of}

-- what two lists hold together
abbrev then_parsed : {A : Type 0} → Parsed (List A) → Parsed (List A) → Parsed (List A)
then_parsed (Good xs) (Good ys) = Good (xs ++ ys)
then_parsed (Good xs) (Bad kind) = Bad kind
then_parsed (Bad kind) others = Bad kind

then_parsed-none : {A : Type 0} (h : Parsed (List A)) → h ≡ then_parsed (Good []) h
then_parsed-none (Good xs) = refl
then_parsed-none (Bad kind) = refl

put_before-then : {A : Type 0} (v : Parsed A) (h others : Parsed (List A))
    → put_before v (then_parsed h others) ≡ then_parsed (put_before v h) others
put_before-then (Good v) (Good xs) (Good ys) = refl
put_before-then (Good v) (Good xs) (Bad kind) = refl
put_before-then (Good v) (Bad kind) others = refl
put_before-then (Bad kind) h others = refl

all_of-append : {A : Type 0} (read : List ℕ → Parsed A) (xs ys : List (List ℕ))
    → all_of read (xs ++ ys) ≡ then_parsed (all_of read xs) (all_of read ys)
all_of-append read [] ys = then_parsed-none (all_of read ys)
all_of-append read (x ∷ xs) ys = ap (λ h. put_before (read x) h) (all_of-append read xs ys)
    ∙ put_before-then (read x) (all_of read xs) (all_of read ys)

-- The items in front of those that are left hold this list, and none of them is in fault.
pub record IsRead {A : Type 0} (read : List ℕ → Parsed A) (contents : List ℕ) (list : List A)
    (left : List (List ℕ)) : Type 0 where
  pub done : List (List ℕ)
  pub split : items contents ≡ done ++ left
  pub good : all_of read done ≡ Good list
  pub count : length done ≡ length list
  pub short : length list ≤ 65535

-- one item more
pub read_more : {A : Type 0} (read : List ℕ → Parsed A) (contents : List ℕ) (list : List A) (item : List ℕ)
    (others : List (List ℕ)) (v : A) → IsRead read contents list (item ∷ others) → length list < 65535
    → read item ≡ Good v → IsRead read contents (list ++ v ∷ []) others
read_more {A} read contents list item others v so_far room here = record {
  done = so_far.done ++ item ∷ [];
  split = so_far.split ∙ sym (append_assoc so_far.done (item ∷ []) others);
  good = all_of-append read so_far.done (item ∷ [])
      ∙ (ap (λ h. then_parsed h (put_before (read item) (Good []))) so_far.good
      ∙ ap (λ h. then_parsed (Good list) (put_before h (Good []))) here);
  count = let same = so_far.count in omega (arith, length-append so_far.done (item ∷ []), length-append list (v ∷ []));
  short = omega (arith, length-append list (v ∷ []));
}

-- an item in fault
pub read_fault : {A : Type 0} (read : List ℕ → Parsed A) (contents : List ℕ) (list : List A) (item : List ℕ)
    (others : List (List ℕ)) (kind : FaultKind) → IsRead read contents list (item ∷ others) → length list < 65535
    → read item ≡ Bad kind → list_of read contents ≡ Bad kind
read_fault {A} read contents list item others kind so_far room here =
    let done = so_far.done in
    let m = 65534 - length done in
    let n : 65535 ≡ length done + suc m = let same = so_far.count in omega arith in
    let taken : take 65535 (items contents) ≡ done ++ (item ∷ take m others) =
    ap (take 65535) so_far.split ∙ (ap (λ k. take k (done ++ (item ∷ others))) n
    ∙ take-append-add done (item ∷ others) (suc m)) in
    let all : all_of read (take 65535 (items contents)) ≡ Bad kind =
    ap (all_of read) taken ∙ (all_of-append read done (item ∷ take m others)
    ∙ (ap (λ h. then_parsed h (put_before (read item) (all_of read (take m others)))) so_far.good
    ∙ ap (λ h. then_parsed (Good list) (put_before h (all_of read (take m others)))) here)) in
    ap (and_no_more (nat_lt 65535 (length (items contents)))) all

-- an item behind the last one that a list may have
pub read_too_many : {A : Type 0} (read : List ℕ → Parsed A) (contents : List ℕ) (list : List A) (left : List (List ℕ))
    → IsRead read contents list left → 0 < length left → length list ≡ 65535 → list_of read contents ≡ Bad TooMany
read_too_many {A} read contents list left so_far some full =
    let done = so_far.done in
    let n : 65535 ≡ length done = sym full ∙ sym so_far.count in
    let taken : take 65535 (items contents) ≡ done =
    ap (take 65535) so_far.split ∙ (ap (λ k. take k (done ++ left)) n ∙ take-append_seam done left) in
    let long : 65535 < length (items contents) = omega (arith, ap length so_far.split, length-append done left) in
    let more : nat_lt 65535 (length (items contents)) ≡ true = grind (arith, nat_tests) in
    ap (λ b. and_no_more b (all_of read (take 65535 (items contents)))) more
    ∙ ap (and_no_more true) (ap (all_of read) taken ∙ so_far.good)

-- no item is left
pub read_all : {A : Type 0} (read : List ℕ → Parsed A) (contents : List ℕ) (list : List A)
    → IsRead read contents list [] → list_of read contents ≡ Good list
read_all {A} read contents list so_far =
    let done = so_far.done in
    let whole : items contents ≡ done = so_far.split ∙ append-nil done in
    let short : length done ≤ 65535 = let same = so_far.count in let few = so_far.short in omega arith in
    let taken : take 65535 (items contents) ≡ done = ap (take 65535) whole ∙ take_all 65535 done short in
    let few : length (items contents) ≤ 65535 = omega (arith, ap length whole) in
    let none : nat_lt 65535 (length (items contents)) ≡ false = grind (arith, nat_tests) in
    ap (λ b. and_no_more b (all_of read (take 65535 (items contents)))) none
    ∙ ap (and_no_more false) (ap (all_of read) taken ∙ so_far.good)
