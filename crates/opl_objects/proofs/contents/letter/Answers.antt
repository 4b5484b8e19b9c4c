use Rattle.std.proofs.Common.{rules, ◌<◌, length, slice_index}
use Rattle.std.proofs.lemmas.Str.{IsCharBoundary-after_ascii}
use Rattle.opl_objects.proofs.contents.letter.Goals as goal

-- behind a byte of ASCII a text may be cut
pub range_from-requires : goal.range_from-requires
range_from-requires c = λ _.
    let text = c.args.text.now in
    let some : 0 < length text = search rules in
    let ascii : slice_index text 0 < 128 = rw c.as_bytes-bytes.ensures.value at c.if-bytes-ge128.false in
    IsCharBoundary-after_ascii text 0 c.utf8.text some ascii
