use Rattle.std.proofs.Common.{arith, ◌≡◌, ◌<◌, ◌+◌, length, slice_index, drop, take}
use Rattle.std.proofs.lemmas.Str.{IsCharBoundary-after_ascii}
use Rattle.opl_lexer.proofs.Cuts.{parts_first, parts_alone}
use Rattle.opl_objects.proofs.ContentsCuts.{IsBehind, cut_here, lacks_all}
use Rattle.opl_objects.proofs.cut.at_first.Goals as goal

-- behind a byte of ASCII a text may be cut
pub range_from-requires : goal.range_from-requires
range_from-requires c = λ _.
    let text = c.args.text.now in
    let inside : c.loop-at.at < length text = omega arith in
    let here : slice_index text c.loop-at.at ≡ c.args.stop = rw c.as_bytes-bytes.ensures.value at c.if-bytes-at.true in
    IsCharBoundary-after_ascii text c.loop-at.at c.utf8.text inside (omega arith)

pub returns-then-bytes-at-clause-cut : goal.returns-then-bytes-at-clause-cut
returns-then-bytes-at-clause-cut c =
    let text = c.args.text.now in
    let inside : c.loop-at.at < length text = omega arith in
    let behind : IsBehind c.args.stop text c.loop-at.at = rw c.as_bytes-bytes.ensures.value at c.loop-at.invariant in
    let here : slice_index text c.loop-at.at ≡ c.args.stop = rw c.as_bytes-bytes.ensures.value at c.if-bytes-at.true in
    let cut = cut_here c.args.stop text c.loop-at.at inside behind here in
    rw (c.split_at.ensures.front, c.range_from.ensures.value) cut

pub returns-then-bytes-at-clause-parts : goal.returns-then-bytes-at-clause-parts
returns-then-bytes-at-clause-parts c =
    let text = c.args.text.now in
    let inside : c.loop-at.at < length text = omega arith in
    let behind : IsBehind c.args.stop text c.loop-at.at = rw c.as_bytes-bytes.ensures.value at c.loop-at.invariant in
    let here : slice_index text c.loop-at.at ≡ c.args.stop = rw c.as_bytes-bytes.ensures.value at c.if-bytes-at.true in
    let cut = cut_here c.args.stop text c.loop-at.at inside behind here in
    let split = parts_first c.args.stop text (take c.loop-at.at text) (drop (c.loop-at.at + 1) text) cut in
    rw (c.split_at.ensures.front, c.range_from.ensures.value) split

pub returns-clause-lacks : goal.returns-clause-lacks
returns-clause-lacks c =
    let behind : IsBehind c.args.stop c.args.text.now c.loop-at.at = rw c.as_bytes-bytes.ensures.value at
    c.loop-at.invariant in
    lacks_all c.args.stop c.args.text.now c.loop-at.at (omega arith) behind

pub returns-clause-parts : goal.returns-clause-parts
returns-clause-parts c =
    let behind : IsBehind c.args.stop c.args.text.now c.loop-at.at = rw c.as_bytes-bytes.ensures.value at
    c.loop-at.invariant in
    let lacks = lacks_all c.args.stop c.args.text.now c.loop-at.at (omega arith) behind in
    parts_alone c.args.stop c.args.text.now lacks
