use Rattle.std.proofs.Common.{arith}
use Rattle.std.proofs.lemmas.Str.{IsCharBoundary-after_ascii}
use Rattle.opl_lexer.proofs.Cuts.{found_cut, found_place}
use Rattle.opl_lexer.proofs.escapes.cut.Goals as goal

-- behind a byte of ASCII a text may be cut
pub range_from-requires : goal.range_from-requires
range_from-requires c = λ _.
    let text = c.args.text.now in
    let place = found_place 37 text c.memchr.result c.in-Some.at (rw c.as_bytes.ensures.value at c.memchr.ensures)
    c.in-Some.is in
    IsCharBoundary-after_ascii text c.in-Some.at c.utf8.text place.0 (omega (arith, place.1))

pub returns-clause-some : goal.returns-clause-some
returns-clause-some c =
    let text = c.args.text.now in
    let cut = found_cut 37 text c.memchr.result c.in-Some.at (rw c.as_bytes.ensures.value at c.memchr.ensures)
    c.in-Some.is in
    rw (c.split_at.ensures.front, c.range_from.ensures.value) cut
