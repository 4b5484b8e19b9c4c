-- A sort moves the words alone.
use Rattle.std.proofs.Common.{rules}
use Rattle.std.specs.Ordering.{is_lt}
use Rattle.std.proofs.lemmas.List.Sorted.{answers_always, ranks_by, Contains-permutation, IsPermutation-sym}
use Rattle.restrictions.specs.declared.word_list.Word.{Word}
use Rattle.drive_judging.specs.DriveWords.{steps_cmp}
use Rattle.drive_judging.proofs.WordOrder.{steps_total}
use Rattle.drive_judging.proofs.word_table.put_in_order.Goals as goal

pub returns-clause-sorted : goal.returns-clause-sorted
returns-clause-sorted c =
    c.sort_unstable_by.ensures.sorted (λ (x y : Word). is_lt (steps_cmp x.steps y.steps))
    (ranks_by steps_total (λ (w : Word). w.steps)) (answers_always _ _ _ (λ f a r q k. search rules))

pub returns-clause-same : goal.returns-clause-same
returns-clause-same c w =
    let moved = c.sort_unstable_by.ensures.permutation in (
      λ h. Contains-permutation _ _ w (IsPermutation-sym _ _ moved) h,
      λ h. Contains-permutation _ _ w moved h,
    )
