-- The pair that the search finds holds the key's value, and where it finds none no pair has the key.
use Rattle.std.proofs.Common.{rules}
use Rattle.std.proofs.lemmas.Fn.{always_returns_same}
use Rattle.road_base.proofs.TagSearch.{text_cmp, found_value, missed_value}
use Rattle.road_base.proofs.tags.Tags.get.Goals as goal

pub returns-in-Ok : goal.returns-in-Ok
returns-in-Ok c =
    let same = c.in-Ok.ensures.position (λ t. text_cmp t.0 c.args.key.now)
    (always_returns_same _ _ _ (λ a r g called. (search rules, search rules))) c.index-list-at.result in
    let found = found_value c.args.key.now c.items-list.result.now
    (rw c.items-list.ensures c.self.invariant.0) c.in-Ok.at c.index-list-at.result c.in-Ok.ensures.bound
    same in
    cc

pub returns-in-Err : goal.returns-in-Err
returns-in-Err c =
    let parted = c.in-Err.ensures.position (λ t. text_cmp t.0 c.args.key.now)
    (always_returns_same _ _ _ (λ a r g called. (search rules, search rules))) in
    let missed = missed_value c.args.key.now c.items-list.result.now
    (rw c.items-list.ensures c.self.invariant.0) c.in-Err.field-0 parted in
    cc
