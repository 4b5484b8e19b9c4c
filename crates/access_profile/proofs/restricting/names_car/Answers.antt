-- The value is cut at semicolons, and each part is looked at.
use Rattle.std.proofs.Common.{◌==◌, rules}
use Rattle.std.proofs.lemmas.Iterator.Search.{any_from_yields_List}
use Rattle.std.proofs.lemmas.Iterator.Splits.{YieldsList-from_slice_split}
use Rattle.access_profile.specs.Letters.{semicolon}
use Rattle.access_profile.specs.Restricting.{names_car, is_car_name, without_spaces}
use Rattle.access_profile.proofs.restricting.names_car.Goals as goal

pub returns : goal.returns
unfolding names_car
returns c =
    any_from_yields_List (λ part. is_car_name (without_spaces part)) _ _ _ c.any.ensures.ran
    (YieldsList-from_slice_split _ (λ b. b == semicolon) c.args.value.now c.split.ensures.rest c.split.ensures.done
    c.split.ensures.closure (λ x b q called. (search rules, search rules)))
    (λ x b q called. (search rules, search rules))
