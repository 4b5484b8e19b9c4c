-- The words that begin with the driven steps stand between the two places that the searches find.
use Rattle.std.proofs.Common.{rules, ◌∙◌, length}
use Rattle.std.specs.Ordering.{is_lt, is_le}
use Rattle.std.proofs.lemmas.List.Sorted.{IsPartitionPoint-from_clause}
use Rattle.ordered_lists.proofs.SortedParts.{below_parted, upto_parted, low_first, part_together}
use Rattle.restrictions.specs.declared.word_list.Word.{Word}
use Rattle.drive_judging.specs.DriveWords.{steps_cmp}
use Rattle.drive_judging.proofs.WordOrder.{steps_total}
use Rattle.drive_judging.proofs.WordsBegun.{front_of, fronts_sorted, begun, some_word}
use Rattle.drive_judging.proofs.word_rules.beginning_with.Goals as goal

pub part-requires-clause-rising : goal.part-requires-clause-rising
part-requires-clause-rising c =
    let v = c.args.driven.now in
    let xs = c.args.words.now in
    let n = length v in
    let sorted = fronts_sorted n xs c.requires in
    low_first (front_of n) steps_cmp some_word v xs c.partition_point-low.result c.partition_point-high.result
    (IsPartitionPoint-from_clause (λ (w : Word). is_lt (steps_cmp (front_of n w) v)) xs c.partition_point-low.result
    c.partition_point-low.ensures.partitioned (below_parted (front_of n) steps_cmp steps_total v xs sorted)
    (λ a r q k. search rules))
    (IsPartitionPoint-from_clause (λ (w : Word). is_le (steps_cmp (front_of n w) v)) xs c.partition_point-high.result
    c.partition_point-high.ensures.partitioned (upto_parted (front_of n) steps_cmp steps_total v xs sorted)
    (λ a r q k. search rules))
    c.partition_point-low.ensures.bound c.partition_point-high.ensures.bound

pub returns : goal.returns
returns c =
    let v = c.args.driven.now in
    let xs = c.args.words.now in
    let n = length v in
    let sorted = fronts_sorted n xs c.requires in
    begun v xs c.part.result.now (c.part.ensures
    ∙ part_together (front_of n) steps_cmp some_word v xs c.partition_point-low.result c.partition_point-high.result
    (IsPartitionPoint-from_clause (λ (w : Word). is_lt (steps_cmp (front_of n w) v)) xs c.partition_point-low.result
    c.partition_point-low.ensures.partitioned (below_parted (front_of n) steps_cmp steps_total v xs sorted)
    (λ a r q k. search rules))
    (IsPartitionPoint-from_clause (λ (w : Word). is_le (steps_cmp (front_of n w) v)) xs c.partition_point-high.result
    c.partition_point-high.ensures.partitioned (upto_parted (front_of n) steps_cmp steps_total v xs sorted)
    (λ a r q k. search rules))
    c.partition_point-low.ensures.bound c.partition_point-high.ensures.bound)
