-- The objects of a history.
use Rattle.std.proofs.Common.{◌≡◌, ◌+◌, List, [], ◌∷◌, ◌++◌, sym, ap, ◌∙◌, subst, arith, append_assoc, append-nil}
use Rattle.std.proofs.Common.{length-append}
use Rattle.std.specs.List.{flat_map}
use Rattle.std.specs.FinMap.{empty}
use Rattle.std.proofs.lemmas.List.Concat.{flat_map-append}
use Rattle.road_base.specs.declared.event.Event.{Event}
use Rattle.road_base.specs.Objects.{Objects}
use Rattle.road_base.specs.Applying.{IsApplied}
use Rattle.road_base.specs.History.{History, HasObjects, SameForReader, all_events, kept, with_change}
use Rattle.road_base.proofs.Applied.{one_map, applied_stands, applied_in_turn}

pub some_objects : (h : History) → (M : Objects) × HasObjects h M
some_objects h = applied_stands empty (all_events h)

pub one_objects : (h : History) (M N : Objects) → HasObjects h M → HasObjects h N → M ≡ N
one_objects h M N m n = one_map empty M N (all_events h) m n

-- the events of one more change stand behind all others
all_events-with_change : (h : History) (change : List Event) →
    all_events h ++ change ≡ all_events (with_change h change)
all_events-with_change h change =
    append_assoc h.base_events (flat_map (λ c. c) h.changes) change
    ∙ ap (λ es. h.base_events ++ es) (ap (λ es. flat_map (λ c. c) h.changes ++ es) (sym (append-nil change))
    ∙ sym (flat_map-append (λ c. c) h.changes (change ∷ [])))

pub grows : (h : History) (change : List Event) (M N : Objects) → HasObjects h M → IsApplied M change N →
    HasObjects (with_change h change) N
grows h change M N m n = subst (λ es. IsApplied empty es N) (all_events-with_change h change)
    (applied_in_turn empty M N (all_events h) change m n)

pub counts : (h : History) (change : List Event) → kept (with_change h change) ≡ kept h + 1
counts h change = let e = length-append h.changes (change ∷ []) in omega arith

pub same : (g h : History) (M : Objects) → g.profile ≡ h.profile → kept g ≡ kept h → HasObjects g M → HasObjects h M
    → SameForReader g h
same g h M p e a b = record {
  profile = p;
  number = e;
  objects = λ N. (
    (λ n. subst (HasObjects h) (one_objects g M N a n) b),
    (λ n. subst (HasObjects g) (one_objects h M N b n) a),
  );
}
