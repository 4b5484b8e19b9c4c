use Rattle.std.proofs.Common.{◌<◌, get_or, arith}
use Rattle.std.proofs.lemmas.Str.{IsCharBoundary-after_ascii}
use Rattle.opl_objects.proofs.LineMarks.{byte_bounds, has_letter}
use Rattle.opl_objects.proofs.parts.behind.Goals as goal

pub split_at-requires : goal.split_at-requires
split_at-requires c =
    let bounds = byte_bounds c.args.by in
    let low : 0 < get_or c.args.field.now 0 0 = omega (arith, c.requires) in
    let small : get_or c.args.field.now 0 0 < 128 = omega (arith, c.requires) in
    IsCharBoundary-after_ascii c.args.field.now 0 c.utf8.field (has_letter c.args.field.now low) small
