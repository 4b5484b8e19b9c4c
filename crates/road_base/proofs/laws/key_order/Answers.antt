use Rattle.std.proofs.Common.{◌≡◌, refl}
use Rattle.std.specs.Ordering.{eq_by_cmp}
use Rattle.road_base.specs.contracts.ids.KeyOrd.TheImpl.{ghosts as order}
use Rattle.road_base.specs.contracts.ids.KeyPartialEq.TheImpl.{ghosts as equality}
use Rattle.road_base.specs.declared.ids.Key.{Key}
use Rattle.road_base.specs.declared.ids.Key.TheVariants.{Node, Way, Relation}
use Rattle.road_base.specs.Objects.{key_cmp}
use Rattle.road_base.proofs.KeyOrder.{key_cmp_total, key_cmp-IsAntisymmetric}
use Rattle.road_base.proofs.laws.key_order.Goals as goal

pub returns-clause-total : goal.returns-clause-total
returns-clause-total c = key_cmp_total

pub returns-clause-ties : goal.returns-clause-ties
returns-clause-ties c = key_cmp-IsAntisymmetric

cmp-key_cmp : (a b : Key) → order.cmp a b ≡ key_cmp a b
cmp-key_cmp (Node a) (Node b) = refl
cmp-key_cmp (Node a) (Way b) = refl
cmp-key_cmp (Node a) (Relation b) = refl
cmp-key_cmp (Way a) (Node b) = refl
cmp-key_cmp (Way a) (Way b) = refl
cmp-key_cmp (Way a) (Relation b) = refl
cmp-key_cmp (Relation a) (Node b) = refl
cmp-key_cmp (Relation a) (Way b) = refl
cmp-key_cmp (Relation a) (Relation b) = refl

pub returns-clause-by_cmp : goal.returns-clause-by_cmp
returns-clause-by_cmp c = cmp-key_cmp

eq-key_cmp : (a b : Key) → equality.eq a b ≡ eq_by_cmp key_cmp a b
eq-key_cmp (Node a) (Node b) = refl
eq-key_cmp (Node a) (Way b) = refl
eq-key_cmp (Node a) (Relation b) = refl
eq-key_cmp (Way a) (Node b) = refl
eq-key_cmp (Way a) (Way b) = refl
eq-key_cmp (Way a) (Relation b) = refl
eq-key_cmp (Relation a) (Node b) = refl
eq-key_cmp (Relation a) (Way b) = refl
eq-key_cmp (Relation a) (Relation b) = refl

pub returns-clause-by_eq : goal.returns-clause-by_eq
returns-clause-by_eq c = eq-key_cmp
