use Rattle.std.proofs.Common.{◌≡◌, Bool, ◌&&◌, ap, sym, ◌∙◌, Some, IsTrue}
use Rattle.std.specs.Ordering.{int_eq}
use Rattle.std.proofs.lemmas.Bool.{and_parts, and_from}
use Rattle.std.proofs.lemmas.Bool.Decides.{Decides-int_eq}
use Rattle.road_base.specs.declared.location.Location.{Location}
use Rattle.road_base.proofs.EqualPlaces.{equal_places}
use Rattle.road_base.proofs.objects.same_location.Goals as goal

-- places are equal where both numbers are
same_place : (a b : Location) (r : Bool) → r ≡ (int_eq a.lon b.lon && int_eq a.lat b.lat) → IsTrue r → a ≡ b
same_place a b r is h =
    let p = and_parts _ _ (sym is ∙ h) in
    let e = (Decides-int_eq a.lon b.lon).0 p.0 in
    let f = (Decides-int_eq a.lat b.lat).0 p.1 in
    equal_places a b e f

place_same : (a b : Location) (r : Bool) → r ≡ (int_eq a.lon b.lon && int_eq a.lat b.lat) → a ≡ b → IsTrue r
place_same a b r is h = is ∙ and_from _ _ ((Decides-int_eq a.lon b.lon).1 (ap (λ (l : Location). l.lon) h))
    ((Decides-int_eq a.lat b.lat).1 (ap (λ (l : Location). l.lat) h))

inner : (a b : Location) → Some a ≡ Some b → a ≡ b
inner a b e = cc

pub returns-in-Some-Some : goal.returns-in-Some-Some
returns-in-Some-Some c =
    let x = c.in-Some-Some.this in
    let y = c.in-Some-Some.that in (
      λ h. c.in-Some-Some.is-0 ∙ ap Some (same_place x y _ c.eq.ensures h)
          ∙ sym c.in-Some-Some.is-1,
      λ h. place_same x y _ c.eq.ensures
          (inner x y (sym c.in-Some-Some.is-0 ∙ h ∙ c.in-Some-Some.is-1)),
    )
