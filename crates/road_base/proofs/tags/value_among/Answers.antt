-- A key that is passed differs, and one that begins with a later byte is above the key asked for, as are all behind it.
use Rattle.std.proofs.Common.{◌≡◌, true, false, get_or, bytes_eq, refl, sym, ap, ◌∙◌, arith, add-one}
use Rattle.std.specs.Ordering.{is_eq}
use Rattle.std.specs.declared.cmp.Ordering.TheVariants.{Less, Greater}
use Rattle.std.specs.Cmp.Lexicographic.{nat_list_cmp_total}
use Rattle.ordered_lists.proofs.Comparisons.{turned}
use Rattle.road_base.proofs.TagWalks.{first_decide, passes, meets, stops, none_left}
use Rattle.road_base.proofs.TagSearch.{text_cmp, differ_from_cmp}
use Rattle.road_base.proofs.tags.value_among.Goals as goal
use Rattle.road_base.proofs.tags.value_among.Goals.{in-Less, in-Equal+else-eq}

pub returns-then-eq : goal.returns-then-eq
returns-then-eq c =
    let same : bytes_eq (get_or c.args.list.now c.loop-pair.pair-index c.pair-item.result).0 c.args.key.now ≡ true =
    cc in
    let met = meets c.args.key.now c.args.list.now c.loop-pair.pair-index c.pair-item.result c.loop-pair-test.true
    same in
    cc

pub returns-in-Greater : goal.returns-in-Greater
returns-in-Greater c =
    let first = first_decide c.as_bytes.result.now c.as_bytes-in-loop-pair.result.now Greater
    (sym c.in-Greater.is ∙ c.first_bytes_order.ensures) refl in
    let above : text_cmp (get_or c.args.list.now c.loop-pair.pair-index c.pair-item.result).0 c.args.key.now ≡ Greater =
    cc in
    let below = turned text_cmp nat_list_cmp_total
    (get_or c.args.list.now c.loop-pair.pair-index c.pair-item.result).0 c.args.key.now Greater above in
    sym (c.loop-pair.invariant ∙ stops c.args.key.now c.args.list.now c.requires.ascending c.loop-pair.pair-index
    c.pair-item.result c.loop-pair-test.true below)

pub loop-pair-preserved : goal.loop-pair-preserved
loop-pair-preserved c =
    let next = passes c.args.key.now c.args.list.now c.loop-pair.pair-index c.pair-item.result c.loop-pair-test.true in
    elim c.match-first_bytes_order.branch [
      | in-Less w ↦
          let first = first_decide c.as_bytes.result.now c.as_bytes-in-loop-pair.result.now Less
          (sym w.in-Less.is ∙ c.first_bytes_order.ensures) refl in
          let below : text_cmp (get_or c.args.list.now c.loop-pair.pair-index c.pair-item.result).0 c.args.key.now
          ≡ Less = cc in
          let other = differ_from_cmp (get_or c.args.list.now c.loop-pair.pair-index c.pair-item.result).0
          c.args.key.now (ap is_eq below) in
          c.loop-pair.invariant ∙ rw add-one (next other)
      | in-Equal+else-eq w ↦
          let other : bytes_eq (get_or c.args.list.now c.loop-pair.pair-index c.pair-item.result).0 c.args.key.now
          ≡ false = cc in
          c.loop-pair.invariant ∙ rw add-one (next other)
    ]

pub returns : goal.returns
returns c = sym (c.loop-pair.invariant ∙ none_left c.args.key.now c.args.list.now c.loop-pair.pair-index
    (let h = c.loop-pair-test.false in omega arith))
