-- A change of an object map, found and not made yet.
use Rattle.std.specs.Prelude.{List, refl}
use Rattle.std.specs.Coded.{Coded, code_by, coded×, coded_list}
use Rattle.road_base.specs.declared.ids.Key.{Key}
use Rattle.road_base.specs.declared.event.Event.{Event}
use Rattle.road_base.specs.Objects.{Objects}
use Rattle.road_base.specs.Applying.{IsApplied}
use Rattle.object_store.specs.Codes.{coded_key, coded_objects}

-- the objects before and after it, and the keys whose visible body it changes
pub record Following : Type 0 where
  pub before : Objects
  pub after : Objects
  pub keys : List Key

-- what some events leave of the objects before
abbrev pub IsLeft : Objects → Objects → Type 0
IsLeft before after = (events : List Event) × IsApplied before events after

abbrev pub coded_following : Coded Following
coded_following =
    code_by (Objects × (Objects × List Key)) (coded× coded_objects (coded× coded_objects (coded_list coded_key)))
    (λ f. (f.before, (f.after, f.keys))) (λ p. record { before = p.0; after = p.1.0; keys = p.1.1 }) (λ _. refl)
