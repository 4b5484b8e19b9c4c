-- The object map and the rules of a network, and what is said of them.
use Rattle.road_base.specs.Objects.{Objects}
use Rattle.road_model.specs.Rules.{Rules}
use Rattle.road_model.specs.declared.network.Network.{Network}

-- the network's object map
abbrev pub map_of : {M P : _} {W : _} {R : _} → Network M P W R → Objects
map_of {M} {P} {W} {R} n = W.objects n.world.now

-- what its profile answers
abbrev pub rules_of : {M P : _} {W : _} {R : _} → Network M P W R → Rules
rules_of {M} {P} {W} {R} n = R.rules n.profile

-- what is said of an object map and of rules, said of the network's
abbrev pub on : {M P : _} {W : _} {R : _} → Network M P W R → {T : Type 1} → (Objects → Rules → T) → T
on n about = about (map_of n) (rules_of n)

-- what is made of an object map and of rules, made of the network's
abbrev pub made_on : {M P : _} {W : _} {R : _} → Network M P W R → {T : Type 0} → (Objects → Rules → T) → T
made_on n make = make (map_of n) (rules_of n)
