-- References that are a letter and digits alone.
use Rattle.std.specs.Prelude.{◌≡◌, ◌==◌, ◌≤◌, ◌<◌, ◌+◌, ◌++◌, nat_lt, ℕ, ℤ, suc, List, [], ◌∷◌, IsTrue, Option, Some}
use Rattle.std.specs.Prelude.{None, true, false, take, drop, length, slice_index, refl}
use Rattle.std.specs.Cmp.{second_so}
use Rattle.std.specs.Option.{option_map}
use Rattle.std.specs.List.{list_all}
use Rattle.std.proofs.Common.{arith, sym, ◌∙◌, ap, is_some, subst, length-drop}
use Rattle.std.proofs.lemmas.List.{take-append-drop, take_all}
use Rattle.std.proofs.lemmas.List.Elements.{All-nil, All-cons}
use Rattle.road_base.specs.declared.ids.NodeId.{NodeId}
use Rattle.opl_lexer.specs.declared.fault.FaultKind.TheVariants.{BadRef}
use Rattle.opl_lexer.specs.Parts.{parts, Lacks, IsCutAt}
use Rattle.opl_lexer.specs.Numbers.{is_digit, is_numeral, whole_of}
use Rattle.opl_lexer.specs.Contents.{Good, or_fault, number_in, ref_of}
use Rattle.opl_objects.specs.References.{BeginsWithRef}
use Rattle.opl_lexer.proofs.Cuts.{parts_first, parts_alone}
use Rattle.opl_objects.proofs.ContentsCuts.{drop_here}
use Rattle.opl_objects.proofs.ContentsNumbers.{digits_lack, number_alone}

-- the letter, and behind it digits that spell the number
pub record IsPlain (text : List ℕ) (len : ℕ) (n : ℤ) : Type 0 where
  pub letter : slice_index text 0 ≡ 110
  pub digits : IsTrue (is_numeral (take len (drop 1 text)))
  pub spells : whole_of (take len (drop 1 text)) ≡ Some n

some_byte : (text : List ℕ) → slice_index text 0 ≡ 110 → 0 < length text
some_byte [] letter = absurd (omega arith)
some_byte (b ∷ bs) letter = omega arith

some_of : {A : Type 0} (o : Option A) (v : A) → o ≡ Some v → is_some o ≡ true
some_of o v e = ap is_some e

-- what the item says
plain_good : (text : List ℕ) (len : ℕ) (n : ℤ) → IsPlain text len n
    → ref_of (take (suc len) text) ≡ Good (record { 0 = n })
plain_good [] len n is = absurd (let letter = is.letter in omega arith)
plain_good (b ∷ bs) len n is =
    let front = take len bs in
    let number : number_in (parts 120 front) ≡ Some n = number_alone front (some_of (whole_of front) n is.spells)
    ∙ is.spells in
    rw (is.letter, number) refl

plain_lacks : (text : List ℕ) (len : ℕ) (n : ℤ) → IsPlain text len n → Lacks 44 (take (suc len) text)
plain_lacks [] len n is = All-nil (λ b. (b == 44) ≡ false)
plain_lacks (b ∷ bs) len n is =
    let digits = second_so (nat_lt 0 (length (take len bs))) (list_all is_digit (take len bs)) is.digits in
    let letter : (b == 44) ≡ false = rw is.letter refl in
    All-cons (λ c. (c == 44) ≡ false) b (take len bs) letter (digits_lack 44 (take len bs) refl digits)

-- no item stands behind it
pub plain_alone : (text : List ℕ) (len : ℕ) (n : ℤ) → IsPlain text len n → length text ≤ suc len
    → BeginsWithRef text (record { 0 = n }) []
plain_alone text len n is past =
    let whole : take (suc len) text ≡ text = take_all (suc len) text past in
    record {
      item = text;
      split = parts_alone 44 text (subst (Lacks 44) whole (plain_lacks text len n is));
      good = subst (λ t. ref_of t ≡ Good (record { 0 = n })) whole (plain_good text len n is);
    }

-- a comma stands behind it
pub plain_first : (text : List ℕ) (len end : ℕ) (n : ℤ) → IsPlain text len n → end ≡ suc len → end < length text
    → slice_index text end ≡ 44 → BeginsWithRef text (record { 0 = n }) (parts 44 (drop (end + 1) text))
plain_first text len end n is place inside comma =
    let item = take end text in
    let lacks : Lacks 44 item = subst (λ k. Lacks 44 (take k text)) (sym place) (plain_lacks text len n is) in
    let good : ref_of item ≡ Good (record { 0 = n }) = subst (λ k. ref_of (take k text) ≡ Good (record { 0 = n }))
    (sym place) (plain_good text len n is) in
    let rest : drop end text ≡ 44 ∷ drop (end + 1) text = drop_here text end inside
    ∙ ap (λ b. b ∷ drop (end + 1) text) comma in
    let cut : IsCutAt 44 text item (drop (end + 1) text) = record
    { written = sym (take-append-drop end text) ∙ ap (λ l. item ++ l) rest; first = lacks } in
    record { item = item; split = parts_first 44 text item (drop (end + 1) text) cut; good = good }

pub end_inside : (text rest : List ℕ) (len : ℕ) → slice_index text 0 ≡ 110 → rest ≡ drop 1 text → len ≤ length rest
    → (len + 1 ≡ length text → ⊥) → len + 1 < length text
end_inside text rest len letter behind within more =
    let some = some_byte text letter in
    omega (arith, ap length behind, length-drop 1 text)
