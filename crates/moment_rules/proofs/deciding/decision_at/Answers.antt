use Rattle.std.proofs.Common.{◌≡◌, ◌∙◌, ℕ, List, None, true, ap, subst}
use Rattle.road_base.specs.Tags.{TagList, value_of}
use Rattle.access_profile.specs.FirstLetters.{may_be_access_key}
use Rattle.moment_rules.specs.MomentDecisions.{decision_at, first_said, said_by_either}
use Rattle.moment_rules.proofs.MomentKeys.{none_decides}
use Rattle.moment_rules.proofs.deciding.decision_at.Goals as goal

pub returns-then-lacks_access_keys : goal.returns-then-lacks_access_keys
returns-then-lacks_access_keys c =
    let none = c.lacks_access_keys.ensures c.if-lacks_access_keys.true in
    none_decides c.args.at c.args.tags.now c.args.dir
    (subst (λ (ts : TagList). (key : List ℕ) → may_be_access_key key ≡ true → value_of key ts ≡ None)
    c.items.ensures.items none)

pub returns : goal.returns
unfolding decision_at
returns c =
    c.first_said.ensures ∙ ap (first_said (said_by_either c.args.at c.args.tags.now)) c.deciding_keys.ensures
