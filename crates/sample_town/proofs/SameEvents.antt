-- Events with equal parts are equal, whichever way their ghost facts were proved.
use mathlib.Core.HLevel.{is_prop→PathP}
use mathlib.Core.Bool.{Bool-set}
use Rattle.std.proofs.Common.{◌≡◌, refl, ap, sym, ◌∙◌, subst, ℕ, ◌+◌, ◌*◌, ℤ, pos, Bool, true, false, IsTrue, []}
use Rattle.std.proofs.Common.{Some}
use Rattle.std.proofs.lemmas.Bool.{false≢true}
use Rattle.road_base.proofs.EqualPlaces.{equal_places}
use Rattle.road_base.specs.Kinds.{has_kind}
use Rattle.road_base.specs.Ranges.{is_in_range}
use Rattle.road_base.specs.Tags.{TagList}
use Rattle.road_base.specs.declared.event.Event.{Event}
use Rattle.road_base.specs.declared.ids.NodeId.{NodeId}
use Rattle.road_base.specs.declared.ids.Key.TheVariants.{Node as NodeKey}
use Rattle.road_base.specs.declared.location.Location.{Location}
use Rattle.road_base.specs.declared.objects.Node.{Node}
use Rattle.road_base.specs.declared.objects.Body.TheVariants.{Node as NodeBody}
use Rattle.sample_town.specs.Streets.{node, node_at, place, place_if}

pub same_event : (x y : Event) → x.key ≡ y.key → x.version ≡ y.version → x.body ≡ y.body → x ≡ y
same_event x y key version body = λ i. record {
  key = key i;
  version = version i;
  body = body i;
  kind = is_prop→PathP (λ j. IsTrue (has_kind (key j) (body j))) (λ j. Bool-set (has_kind (key j) (body j)) true) x.kind
      y.kind i;
}

placed_if : (l : Location) (within : Bool) (is : is_in_range l.lon l.lat ≡ within)
    → place_if l.lon l.lat within is ≡ Some l
placed_if l true is = ap Some (equal_places (record { lon = l.lon; lat = l.lat; in_range = is }) l refl refl)
placed_if l false is = absurd (false≢true (sym is ∙ l.in_range))

-- a location is the place at its numbers
pub placed : (l : Location) (lon lat : ℤ) → l.lon ≡ lon → l.lat ≡ lat → Some l ≡ place lon lat
unfolding place
placed l lon lat same_lon same_lat =
    let P : ℤ → Type 0 = λ x. Some l ≡ place x lat in
    let Q : ℤ → Type 0 = λ y. Some l ≡ place l.lon y in
    subst P same_lon (subst Q same_lat (sym (placed_if l (is_in_range l.lon l.lat) refl)))

-- an event with the parts of the node is the node
pub is_node : (e : Event) (q r c : ℕ) (id : NodeId) (tags : TagList) (l : Location) → e.key ≡ NodeKey id
    → e.version ≡ 1 + q → e.body ≡ NodeBody (record { tags = tags; location = Some l }) → id ≡ node_at r c
    → tags ≡ [] → l.lon ≡ pos (10000 * c + q) → l.lat ≡ pos (10000 * r) → e ≡ node q r c
unfolding node
is_node e q r c id tags l key version body same none lon lat =
    let there = placed l (pos (10000 * c + q)) (pos (10000 * r)) lon lat in
    let whole : ◌≡◌ {A = Node} (record { tags = tags; location = Some l })
    (record { tags = []; location = place (pos (10000 * c + q)) (pos (10000 * r)) }) =
    λ i. record { tags = none i; location = there i } in
    same_event e (node q r c) (key ∙ ap NodeKey same) version (body ∙ ap NodeBody whole)
