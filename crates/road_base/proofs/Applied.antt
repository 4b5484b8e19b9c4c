-- What events leave of an object map: always one map, and the same whether they come at once or in turn.
use Rattle.std.proofs.Common.{◌≡◌, ◌≤◌, ◌<◌, Bool, true, false, cond, nat_lt, List, [], ◌∷◌, ◌++◌, map, filter, Option}
use Rattle.std.proofs.Common.{Some, None, refl, sym, ap, ◌∙◌, append_assoc, arith}
use Rattle.std.specs.Cmp.{Equal-is}
use Rattle.std.specs.FinMap.{get, insert, get-insert, get_tied, same_map}
use Rattle.std.specs.Option.{option_to_list}
use Rattle.std.proofs.lemmas.Bool.Decides.{nat_tests}
use Rattle.std.proofs.lemmas.List.{map-append}
use Rattle.std.proofs.lemmas.List.Elements.{filter-append}
use Rattle.road_base.specs.declared.ids.Key.{Key}
use Rattle.road_base.specs.declared.event.Event.{Event}
use Rattle.road_base.specs.Objects.{Objects, Entry}
use Rattle.road_base.specs.Applying.{entry_of, is_of, entries_for, newer, first_greatest, IsApplied}
use Rattle.road_base.proofs.KeyOrder.{key_cmp_total, key_cmp-IsAntisymmetric}

-- two maps that the same events leave of one map are equal
pub one_map : (M N O : Objects) (events : List Event) → IsApplied M events N → IsApplied M events O → N ≡ O
one_map M N O events n o = same_map key_cmp_total key_cmp-IsAntisymmetric N O (λ k. n k ∙ sym (o k))

-- behind an entry, one whose version isn't greater changes nothing
newer-newer_older : (first e : Entry) (rest : Option Entry) → e.version ≤ first.version
    → newer first (newer e rest) ≡ newer first rest
newer-newer_older first e None le = grind (arith, nat_tests)
newer-newer_older first e (Some l) le = grind (arith, nat_tests)

-- before an entry, one whose version is less changes nothing
newer-newer_later : (first e : Entry) (rest : Option Entry) → first.version < e.version
    → newer first (newer e rest) ≡ newer e rest
newer-newer_later first e None lt = grind (arith, nat_tests)
newer-newer_later first e (Some l) lt = grind (arith, nat_tests)

-- the first greatest of two lists, from that of the first list and the second
newer-first_greatest : (e : Entry) (best : Option Entry) (es : List Entry)
    → first_greatest (option_to_list (newer e best) ++ es) ≡ newer e (first_greatest (option_to_list best ++ es))
newer-first_greatest e None es = refl
newer-first_greatest e (Some l) es = grind
    (arith, nat_tests, newer-newer_older e l (first_greatest es), newer-newer_later e l (first_greatest es))

first_greatest-append : (xs ys : List Entry)
    → first_greatest (option_to_list (first_greatest xs) ++ ys) ≡ first_greatest (xs ++ ys)
first_greatest-append [] ys = refl
first_greatest-append (x ∷ xs) ys = newer-first_greatest x (first_greatest xs) ys
    ∙ ap (newer x) (first_greatest-append xs ys)

-- the entries of a key in a map and two lists of events
entries_for-append : (M : Objects) (a b : List Event) (k : Key)
    → entries_for M (a ++ b) k ≡ entries_for M a k ++ map entry_of (filter (is_of k) b)
entries_for-append M a b k = rw (filter-append, map-append) (sym (append_assoc (option_to_list (get M k)) _ _))

-- events in turn leave what they leave together
pub applied_in_turn : (M N O : Objects) (a b : List Event) → IsApplied M a N → IsApplied N b O → IsApplied M (a ++ b) O
applied_in_turn M N O a b n o k = o k ∙ rw (n k)
    (first_greatest-append (entries_for M a k) _ ∙ ap first_greatest (sym (entries_for-append M a b k)))

-- whether an entry goes in at a key that has this one
abbrev is_newer : Entry → Option Entry → Bool
is_newer e None = true
is_newer e (Some old) = nat_lt old.version e.version

-- the map that one event leaves
abbrev with_event : Objects → Event → Objects
with_event M e = cond (is_newer (entry_of e) (get M e.key)) (insert M e.key (entry_of e)) M

get-cond : (b : Bool) (M N : Objects) (k : Key) → get (cond b M N) k ≡ cond b (get M k) (get N k)
get-cond true M N k = refl
get-cond false M N k = refl

get-with_event : (M : Objects) (e : Event) (k : Key)
    → get (with_event M e) k ≡ cond (is_newer (entry_of e) (get M e.key))
    (cond (is_of k e) (Some (entry_of e)) (get M k)) (get M k)
get-with_event M e k = get-cond (is_newer (entry_of e) (get M e.key)) (insert M e.key (entry_of e)) M k
    ∙ rw (get-insert key_cmp_total M e.key (entry_of e) k)

-- what stands at the event's own key, and at another
first_greatest-own : (e : Entry) (old : Option Entry)
    → cond (is_newer e old) (Some e) old ≡ first_greatest (option_to_list old ++ e ∷ [])
first_greatest-own e None = refl
first_greatest-own e (Some l) = grind (arith, nat_tests)

first_greatest-other : (newer_there : Bool) (old : Option Entry)
    → cond newer_there old old ≡ first_greatest (option_to_list old ++ [])
first_greatest-other true None = refl
first_greatest-other false None = refl
first_greatest-other true (Some l) = refl
first_greatest-other false (Some l) = refl

applied_one : (M : Objects) (e : Event) → IsApplied M (e ∷ []) (with_event M e)
applied_one M e k = get-with_event M e k ∙ elim (is_of k e) as
    (λ t. is_of k e ≡ t → cond (is_newer (entry_of e) (get M e.key)) (cond t (Some (entry_of e)) (get M k)) (get M k)
    ≡ first_greatest (option_to_list (get M k) ++ map entry_of (cond t (e ∷ []) []))) [
      | true ↦ λ own.
          rw (get_tied key_cmp_total M k e.key ((Equal-is _).0 own)) (first_greatest-own (entry_of e) (get M k))
      | false ↦ λ other. first_greatest-other _ (get M k)
    ] refl

-- the map that events leave, one after another
abbrev with_events : Objects → List Event → Objects
with_events M [] = M
with_events M (e ∷ events) = with_events (with_event M e) events

applied_none : (M : Objects) → IsApplied M [] M
applied_none M k = first_greatest-other true (get M k)

applied_with_events : (M : Objects) (events : List Event) → IsApplied M events (with_events M events)
applied_with_events M [] = applied_none M
applied_with_events M (e ∷ events) = applied_in_turn M (with_event M e) _ (e ∷ []) events (applied_one M e)
    (applied_with_events (with_event M e) events)

-- events always leave a map
pub applied_stands : (M : Objects) (events : List Event) → (N : Objects) × IsApplied M events N
applied_stands M events = (with_events M events, applied_with_events M events)
