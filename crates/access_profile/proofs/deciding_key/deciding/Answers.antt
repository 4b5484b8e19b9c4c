use Rattle.std.proofs.Common.{◌≡◌, ℕ, List, None, true, subst}
use Rattle.road_base.specs.Tags.{TagList, value_of}
use Rattle.access_profile.specs.FirstLetters.{may_be_access_key}
use Rattle.access_profile.proofs.MissingKeys.{none_decides}
use Rattle.access_profile.proofs.deciding_key.deciding.Goals as goal

pub returns-then-lacks_access_keys : goal.returns-then-lacks_access_keys
returns-then-lacks_access_keys c =
    let none = c.lacks_access_keys.ensures c.if-lacks_access_keys.true in
    none_decides c.args.tags.now c.args.dir
    (subst (λ (ts : TagList). (k : List ℕ) → may_be_access_key k ≡ true → value_of k ts ≡ None)
    c.items.ensures.items none)
