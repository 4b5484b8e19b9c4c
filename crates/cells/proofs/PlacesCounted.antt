-- Places that are counted, one event after another.
use Rattle.std.proofs.Common.{◌≡◌, ℕ, ◌<◌, ◌+◌, List, [], ◌∷◌, ◌++◌, take, get_or, length, refl, sym, ap, ◌∙◌, subst}
use Rattle.std.proofs.Common.{None, Some, append_assoc}
use Rattle.std.proofs.lemmas.List.{append-nil, take_more}
use Rattle.std.proofs.lemmas.List.Elements.{filter_map-append}
use Rattle.std.proofs.lemmas.List.Concat.{flat_map-append}
use Rattle.std.specs.List.{flat_map}
use Rattle.road_base.specs.declared.event.Event.{Event}
use Rattle.road_base.specs.declared.location.Location.{Location}
use Rattle.bounded_input.specs.Streaming.{TakesMore}
use Rattle.cell_plan.specs.CountedPlaces.{HasCounted}
use Rattle.cells.specs.declared.plan.PlaceCounter.{PlaceCounter}
use Rattle.cells.specs.Made.{place_of, places_of}
use Rattle.cells.specs.Planning.{CountsPlaces}

pub places_more : (taken more : List Event) → places_of (taken ++ more) ≡ places_of taken ++ places_of more
places_more taken more = filter_map-append (λ e. place_of e.body) taken more

-- an event with a place
pub one_place : (old new : PlaceCounter) (event : Event) (place : Location) → place_of event.body ≡ Some place
    → ((places : List Location) → HasCounted places old.counts → HasCounted (places ++ place ∷ []) new.counts)
    → TakesMore (CountsPlaces old) (CountsPlaces new) (event ∷ [])
one_place old new event place is added = λ taken before.
    let one : places_of (event ∷ []) ≡ place ∷ [] = rw is refl in
    subst (λ (l : List Location). HasCounted l new.counts)
    (sym (places_more taken (event ∷ []) ∙ ap (λ (l : List Location). places_of taken ++ l) one))
    (added (places_of taken) before)

-- and one without
pub no_place : (counter : PlaceCounter) (event : Event) → place_of event.body ≡ None
    → TakesMore (CountsPlaces counter) (CountsPlaces counter) (event ∷ [])
no_place counter event is = λ taken before.
    let none : places_of (event ∷ []) ≡ [] = rw is refl in
    subst (λ (l : List Location). HasCounted l counter.counts)
    (sym (places_more taken (event ∷ []) ∙ (ap (λ (l : List Location). places_of taken ++ l) none
    ∙ append-nil (places_of taken)))) before

-- nothing was taken
pub none_taken : (counter : PlaceCounter) → TakesMore (CountsPlaces counter) (CountsPlaces counter) []
none_taken counter = λ taken before.
    subst (λ (l : List Event). CountsPlaces counter l) (sym (append-nil taken)) before

-- some events, and one more
pub one_taken : (first old new : PlaceCounter) (events : List Event) (i : ℕ) (none : Event) → i < length events
    → TakesMore (CountsPlaces first) (CountsPlaces old) (take i events)
    → TakesMore (CountsPlaces old) (CountsPlaces new) (get_or events i none ∷ [])
    → TakesMore (CountsPlaces first) (CountsPlaces new) (take (i + 1) events)
one_taken first old new events i none within some one = λ taken before.
    let front = take i events in
    let next = get_or events i none in
    let both : (taken ++ front) ++ next ∷ [] ≡ taken ++ take (i + 1) events =
    append_assoc taken front (next ∷ []) ∙ ap (λ (l : List Event). taken ++ l) (sym (take_more events i none within)) in
    subst (λ (l : List Event). CountsPlaces new l) both (one (taken ++ front) (some taken before))

-- ---- lines

-- the lines of some, and of one more
pub one_line : {A : Type 0} (line : A → List ℕ) (all : List A) (i : ℕ) (none : A) → i < length all
    → flat_map line (take (i + 1) all) ≡ flat_map line (take i all) ++ line (get_or all i none)
one_line line all i none within =
    ap (flat_map line) (take_more all i none within)
    ∙ (flat_map-append line (take i all) (get_or all i none ∷ [])
    ∙ ap (λ (l : List ℕ). flat_map line (take i all) ++ l) (append-nil (line (get_or all i none))))
