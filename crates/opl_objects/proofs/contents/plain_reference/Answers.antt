use Rattle.std.proofs.Common.{rules, arith, w64, ◌≡◌, ◌≤◌, ◌<◌, ◌+◌, suc, length, drop, slice_index, ap}
use mir.Val.{to_z, of_z}
use Rattle.std.proofs.lemmas.Int.{to_z-of_z}
use Rattle.std.proofs.lemmas.Str.{IsCharBoundary-after_ascii}
use Rattle.opl_objects.proofs.ContentsReferences.{IsPlain, end_inside, plain_alone, plain_first}
use Rattle.opl_objects.proofs.contents.plain_reference.Goals as goal

pub bounds-bytes-end : goal.bounds-bytes-end
bounds-bytes-end c =
    let text = c.args.text.now in
    let letter : slice_index text 0 ≡ 110 = omega (arith, c.in_ok-letter.ensures.some) in
    let whole : length c.as_bytes-bytes.result.now ≡ length text = ap length c.as_bytes-bytes.ensures.value in
    let inside = end_inside text c.in_ok-letter.rest.now c.in_ok-number.digits letter c.in_ok-letter.ensures.rest
    c.in_ok-number.ensures.within (λ e. c.if-end-bytes.false (omega arith)) in
    omega arith

pub returns-then-end-bytes : goal.returns-then-end-bytes
returns-then-end-bytes c =
    let text = c.args.text.now in
    let digits = c.in_ok-number.digits in
    let n = c.in_ok-number.number in
    let rest : c.in_ok-letter.rest.now ≡ drop 1 text = c.in_ok-letter.ensures.rest in
    let letter : slice_index text 0 ≡ 110 = omega (arith, c.in_ok-letter.ensures.some) in
    let is : IsPlain text digits n = record {
      letter = letter;
      digits = rw rest at c.in_ok-number.ensures.digits;
      spells
          = rw rest at c.in_ok-number.ensures.value;
    } in
    let whole : length c.as_bytes-bytes.result.now ≡ length text = ap length c.as_bytes-bytes.ensures.value in
    let past : length text ≤ suc digits = omega arith in
    let same : to_z w64 (of_z w64 n) ≡ n = search (rules, to_z-of_z) in
    rw same (plain_alone text digits n is past)

pub range_from-requires : goal.range_from-requires
range_from-requires c = λ _.
    let text = c.args.text.now in
    let end = c.in_ok-number.digits + 1 in
    let letter : slice_index text 0 ≡ 110 = omega (arith, c.in_ok-letter.ensures.some) in
    let whole : length c.as_bytes-bytes.result.now ≡ length text = ap length c.as_bytes-bytes.ensures.value in
    let inside : end < length text = end_inside text c.in_ok-letter.rest.now c.in_ok-number.digits letter
    c.in_ok-letter.ensures.rest c.in_ok-number.ensures.within (λ e. c.if-end-bytes.false (omega arith)) in
    let here : slice_index c.as_bytes-bytes.result.now end ≡ 44 = omega arith in
    let comma : slice_index text end ≡ 44 = rw c.as_bytes-bytes.ensures.value at here in
    IsCharBoundary-after_ascii text end c.utf8.text inside (omega arith)

pub returns : goal.returns
returns c =
    let text = c.args.text.now in
    let digits = c.in_ok-number.digits in
    let end = digits + 1 in
    let n = c.in_ok-number.number in
    let rest : c.in_ok-letter.rest.now ≡ drop 1 text = c.in_ok-letter.ensures.rest in
    let letter : slice_index text 0 ≡ 110 = omega (arith, c.in_ok-letter.ensures.some) in
    let is : IsPlain text digits n = record {
      letter = letter;
      digits = rw rest at c.in_ok-number.ensures.digits;
      spells
          = rw rest at c.in_ok-number.ensures.value;
    } in
    let whole : length c.as_bytes-bytes.result.now ≡ length text = ap length c.as_bytes-bytes.ensures.value in
    let inside : end < length text = end_inside text c.in_ok-letter.rest.now digits letter rest
    c.in_ok-number.ensures.within (λ e. c.if-end-bytes.false (omega arith)) in
    let here : slice_index c.as_bytes-bytes.result.now end ≡ 44 = omega arith in
    let comma : slice_index text end ≡ 44 = rw c.as_bytes-bytes.ensures.value at here in
    let same : to_z w64 (of_z w64 n) ≡ n = search (rules, to_z-of_z) in
    rw (same, c.range_from.ensures.value) (plain_first text digits end n is (omega arith) inside comma)
