-- The code of an object map, by which a proof tells two of them apart.
use Rattle.std.specs.Prelude.{ℕ, refl}
use Rattle.std.specs.Coded.{Coded, code_by, coded×, coded_ℕ}
use Rattle.std.specs.FinMap.{code}
use Rattle.road_base.specs.declared.ids.Key.{Key}
use Rattle.road_base.specs.declared.objects.Body.{Body}
use Rattle.road_base.specs.contracts.ids.Key as key
use Rattle.road_base.specs.contracts.objects.Body as body
use Rattle.road_base.specs.Objects.{Objects, Entry}

abbrev pub coded_key : Coded Key
coded_key = (key.the_row).coded

abbrev pub coded_body : Coded Body
coded_body = (body.the_row).coded

abbrev pub coded_entry : Coded Entry
coded_entry = code_by (ℕ × Body) (coded× coded_ℕ coded_body) (λ e. (e.version, e.body))
    (λ p. record { version = p.0; body = p.1 }) (λ _. refl)

abbrev pub coded_objects : Coded Objects
coded_objects = code coded_key coded_entry
