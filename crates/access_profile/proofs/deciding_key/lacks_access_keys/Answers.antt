use Rattle.std.proofs.Common.{◌≡◌, arith, false}
use Rattle.std.proofs.lemmas.Grind.{common_steps}
use Rattle.std.proofs.lemmas.List.Folds.{list_any-append}
use Rattle.access_profile.proofs.MissingKeys.{absent, may_have_access_key}
use Rattle.access_profile.proofs.deciding_key.lacks_access_keys.Goals as goal

pub loop-tag-preserved : goal.loop-tag-preserved
loop-tag-preserved c = grind (arith, common_steps, list_any-append)

pub returns : goal.returns
returns c = λ _ k alike.
    let none : may_have_access_key c.args.tags.now ≡ false = grind (arith, common_steps) in
    absent k c.args.tags.now alike none
