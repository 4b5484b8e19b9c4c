use Rattle.std.proofs.Common.{sym, ◌∙◌}
use Rattle.std.specs.Ordering.{is_lt}
use Rattle.layered_maps.proofs.Parts.{point_between}
use Rattle.layered_maps.proofs.pair_list.first_near.Goals as goal

pub returns-then-not-is_below-clause-point : goal.returns-then-not-is_below-clause-point
returns-then-not-is_below-clause-point g c =
    point_between (λ a. is_lt (g.K.Ord.cmp a c.args.key)) c.args.keys.now c.requires.parted c.args.at
    (c.ends_below.ensures c.if-ends_below.true)
    (λ d l. sym (c.is_below.ensures.below d l) ∙ c.if-not-is_below.true)
