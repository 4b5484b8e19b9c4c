use Rattle.std.proofs.Common.{arith}
use Rattle.std.proofs.lemmas.Str.{IsCharBoundary-after_ascii}
use Rattle.opl_lexer.proofs.Cuts.{found_cut, found_place, parts_first}
use Rattle.moment_rules.proofs.TextCuts.{uncut}
use Rattle.moment_rules.proofs.cutting.cut.Goals as goal

pub returns-in_default-clause-parts : goal.returns-in_default-clause-parts
returns-in_default-clause-parts c =
    uncut c.args.stop c.args.text.now c.memchr.result (rw c.as_bytes.ensures.value at c.memchr.ensures) c.in_default.is

-- behind a byte of ASCII a text may be cut
pub range_from-requires : goal.range_from-requires
range_from-requires c = λ _.
    let text = c.args.text.now in
    let place = found_place c.args.stop text c.memchr.result c.in-Some.at
    (rw c.as_bytes.ensures.value at c.memchr.ensures) c.in-Some.is in
    IsCharBoundary-after_ascii text c.in-Some.at c.utf8.text place.0 (omega (arith, place.1))

pub returns-clause-parts : goal.returns-clause-parts
returns-clause-parts c =
    let text = c.args.text.now in
    let cut = found_cut c.args.stop text c.memchr.result c.in-Some.at
    (rw c.as_bytes.ensures.value at c.memchr.ensures) c.in-Some.is in
    rw (c.split_at.ensures.front, c.range_from.ensures.value) (parts_first c.args.stop text _ _ cut)
