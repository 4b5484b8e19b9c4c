use Rattle.std.proofs.Common.{◌+◌, ◌-◌, ◌/◌, ◌<◌, length, arith}
use Rattle.std.specs.Ordering.{is_lt}
use Rattle.layered_maps.proofs.Parts.{holds_to, fails_from}
use Rattle.layered_maps.proofs.keyed_search.count_below.Goals as goal

pub loop-low-preserved-then-is_below_at : goal.loop-low-preserved-then-is_below_at
loop-low-preserved-then-is_below_at g c =
    let low = c.loop-low.low in
    let high = c.loop-low.high in
    let middle = low + (high - low) / 2 in
    let list = c.args.list.now in
    let inside : middle < high = omega (arith, c.loop-low-test.true) in
    let within : middle < length list = omega (arith, inside, c.loop-low.invariant.1) in (
      omega (arith, inside),
      c.loop-low.invariant.1,
      holds_to (λ v. is_lt (g.K.Ord.cmp (g.V.Keyed.key v) c.args.key)) list c.requires middle within
          c.is_below_at.result c.is_below_at.ensures c.if-is_below_at.true,
      c.loop-low.invariant.3,
    )

pub loop-low-preserved : goal.loop-low-preserved
loop-low-preserved g c =
    let low = c.loop-low.low in
    let high = c.loop-low.high in
    let middle = low + (high - low) / 2 in
    let list = c.args.list.now in
    let inside : middle < high = omega (arith, c.loop-low-test.true) in
    let within : middle < length list = omega (arith, inside, c.loop-low.invariant.1) in (
      omega (arith, inside),
      omega (arith, within),
      c.loop-low.invariant.2,
      fails_from (λ v. is_lt (g.K.Ord.cmp (g.V.Keyed.key v) c.args.key)) list c.requires middle within
          c.is_below_at.result c.is_below_at.ensures c.if-is_below_at.false,
    )
