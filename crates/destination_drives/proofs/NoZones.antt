-- Without zones every legal drive goes through none.
use Rattle.std.proofs.Common.{◌≡◌, ◌↔◌, List, true, false, Option, Some, None, refl, sym, ◌∙◌}
use Rattle.road_base.specs.Objects.{Objects, way_of}
use Rattle.road_base.specs.Tags.{TagList}
use Rattle.road_base.specs.declared.ids.Dir.{Dir}
use Rattle.road_base.specs.declared.ids.Step.{Step}
use Rattle.road_base.specs.declared.objects.Way.{Way}
use Rattle.road_model.specs.Rules.{Rules}
use Rattle.road_model.specs.Driving.{is_marked, zone_way}
use Rattle.road_model.specs.Network.{Legal}
use Rattle.destination_drives.specs.Zones.{is_zone_step, Through, Zoned}

module _ (M : Objects) (P : Rules) (none : (tags : TagList) (dir : Dir) → P.zone tags dir ≡ false) where
  no_way : (w : Option Way) (d : Dir) → zone_way P w d ≡ false
  no_way None d = refl
  no_way (Some w) d = none w.tags d

  no_step : (s : Step) → is_zone_step M P s ≡ false
  unfolding is_marked
  no_step s = no_way (way_of M s.way) s.dir

  no_through : (d : List Step) → Through M P d → ⊥
  no_through d t =
      let e : true ≡ false = sym t.inside ∙ no_step t.marked in
      cc

  pub all_legal : (d : List Step) → Zoned M P d ↔ Legal M P d
  all_legal d = (λ z. z.legal, λ l. record { legal = l; not_through = no_through d })
