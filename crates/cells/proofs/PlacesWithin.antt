-- Nodes that lie in an area, one event after another.
use Rattle.std.proofs.Common.{◌≡◌, ℕ, ◌<◌, ◌+◌, List, [], ◌∷◌, None, Some, take, get_or, length, length-append}
use Rattle.std.proofs.Common.{IsTrue, false, filter, refl, ap, ◌∙◌, subst, arith}
use Rattle.std.proofs.lemmas.List.{take_more}
use Rattle.std.proofs.lemmas.List.Elements.{filter-append}
use Rattle.road_base.specs.declared.event.Event.{Event}
use Rattle.road_base.specs.declared.location.Location.{Location}
use Rattle.map_cells.specs.declared.area.Area.{Area}
use Rattle.map_cells.specs.Areas.{is_in}
use Rattle.cell_plan.specs.CellPlans.{places_in}
use Rattle.cells.specs.Made.{place_of, places_of}
use Rattle.cells.proofs.PlacesCounted.{places_more}

-- an event more
pub one_more : (area : Area) (events : List Event) (i : ℕ) (none : Event) → i < length events
    → places_in area (places_of (take (i + 1) events))
    ≡ places_in area (places_of (take i events)) + places_in area (places_of (get_or events i none ∷ []))
one_more area events i none within =
    let front = take i events in
    let next = get_or events i none ∷ [] in
    ap (λ (l : List Event). places_in area (places_of l)) (take_more events i none within)
    ∙ (ap (λ (l : List Location). places_in area l) (places_more front next)
    ∙ (ap (λ (l : List Location). length l) (filter-append (λ p. is_in area p) (places_of front) (places_of next))
    ∙ length-append (filter (λ p. is_in area p) (places_of front)) (filter (λ p. is_in area p) (places_of next))))

-- of an event with a place
at_place : (area : Area) (event : Event) (place : Location) → place_of event.body ≡ Some place
    → places_in area (places_of (event ∷ [])) ≡ places_in area (place ∷ [])
at_place area event place is =
    let one : places_of (event ∷ []) ≡ place ∷ [] = rw is refl in
    ap (λ (l : List Location). places_in area l) one

pub within : (area : Area) (event : Event) (place : Location) → place_of event.body ≡ Some place
    → IsTrue (is_in area place) → places_in area (places_of (event ∷ [])) ≡ 1
within area event place is inside =
    let one : places_in area (place ∷ []) ≡ 1 = rw inside refl in at_place area event place is ∙ one

pub outside : (area : Area) (event : Event) (place : Location) → place_of event.body ≡ Some place
    → is_in area place ≡ false → places_in area (places_of (event ∷ [])) ≡ 0
outside area event place is apart =
    let none : places_in area (place ∷ []) ≡ 0 = rw apart refl in at_place area event place is ∙ none

-- of one without
pub nowhere : (area : Area) (event : Event) → place_of event.body ≡ None
    → places_in area (places_of (event ∷ [])) ≡ 0
nowhere area event is =
    let none : places_of (event ∷ []) ≡ [] = rw is refl in ap (λ (l : List Location). places_in area l) none

-- the count after an event, by the one before it
pub counted : (area : Area) (events : List Event) (i : ℕ) (event : Event) (old new added : ℕ) → i < length events
    → event ≡ get_or events i event → places_in area (places_of (event ∷ [])) ≡ added
    → old ≡ places_in area (places_of (take i events)) → new ≡ old + added
    → new ≡ places_in area (places_of (take (i + 1) events))
counted area events i event old new added within is one before sum =
    let more = one_more area events i event within in
    let here = subst (λ (e : Event). places_in area (places_of (e ∷ [])) ≡ added) is one in
    omega arith
