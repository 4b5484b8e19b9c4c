-- What is found of an order in which via members may be passed.
use Rattle.std.specs.Prelude.{Bool, cond, ◌&&◌, not, List, length, nat_lt, Option, Some, None}
use Rattle.road_base.specs.declared.ids.Key.{Key}
use Rattle.road_base.specs.declared.objects.Relation.{Relation}
use Rattle.road_base.specs.Objects.{Objects}
use Rattle.road_model.specs.declared.answers.Unusable.{Unusable}
use Rattle.road_model.specs.declared.answers.Unusable.TheVariants.{NotAnEnd, NotConnected}
use Rattle.road_model.specs.Rules.{Rules}
use Rattle.road_model.specs.Restrictions.{any_way, are_ways, connects, misses_end, vias}

-- the profile may pass these via members in the reversed order: it reverses, and they are two ways or more
abbrev pub may_be_reversed : Rules → List Key → Bool
may_be_reversed P vs = (P.reverses && nat_lt 1 (length vs)) && are_ways vs

-- the cause that holds where the via members are passed in this order, of those two that the reversed order may mend
abbrev pub misfit_of : Objects → Relation → List Key → Option Unusable
misfit_of M r vs = cond (misses_end M r vs) (Some NotAnEnd)
    (cond (are_ways (vias r) && not (connects M any_way r vs)) (Some NotConnected) None)
