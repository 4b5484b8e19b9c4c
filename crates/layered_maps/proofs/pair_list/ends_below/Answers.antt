use Rattle.std.proofs.Common.{◌<◌, ◌-◌, sym, ◌∙◌, length, arith}
use Rattle.layered_maps.proofs.pair_list.ends_below.Goals as goal

pub returns-else-count-eq0 : goal.returns-else-count-eq0
returns-else-count-eq0 g c = λ true k d from l.
    let some = c.if-count-eq0.false in
    let within = c.requires.count in
    let last : c.args.count - 1 < length c.args.keys.now = omega arith in
    c.requires.parted k (c.args.count - 1) d (omega arith) last (sym (c.is_below.ensures.below d last) ∙ true)
