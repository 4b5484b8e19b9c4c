-- The visits with which drives begin.
use Rattle.std.proofs.Common.{◌≡◌, ◌⊎◌, inl, inr, ℕ, ◌+◌, ◌<◌, ◌≤◌, List, [], ◌∷◌, length, Some, slice_get, Contains}
use Rattle.std.proofs.Common.{refl, sym, ◌∙◌, ap, subst, take, drop, get_or}
use Rattle.std.proofs.lemmas.List.{take_more, take_all}
use Rattle.ordered_lists.proofs.ListMembers.{contains_more, contains_none}
use Rattle.context_search.specs.declared.ends.Begin.{Begin}
use Rattle.context_search.specs.declared.marks.Origin.TheVariants.{Begins}
use Rattle.context_search.specs.Marks.{At, at_of, key_of}
use Rattle.least_cost.specs.declared.visiting.CostVisit.{CostVisit}
use Rattle.least_cost.specs.CostVisits.{Visiting, IsVisiting, HaveOrigins, IsBeginning, HasBefore, AreWaiting, AreBegun}
use Rattle.least_cost.specs.CostVisits.{IsReachedFrom, IsBegunBy, names_at}
use Rattle.least_cost.specs.PlaceCosts.{places_cost}
use Rattle.least_cost.proofs.LeastVisits.{offered_stays, offered_cases, offered_waits, offered_reached}
use Rattle.least_cost.proofs.LeastVisits.{offered_visiting}
use Rattle.least_cost.proofs.LeastVisits.{before_stays, reached_stays, IsFresh}

module _ (L : List At) (s : Begin) (m n : Visiting) (is : IsBegunBy L s m n) where
  abbrev left : ℕ
  left = places_cost (drop s.first is.from.piece.now.places)

  pub start_stays : (k : ℕ) (v : CostVisit) → slice_get m.visits k ≡ Some v → slice_get n.visits k ≡ Some v
  start_stays = offered_stays is.from left (Begins s.first) m n is.offered

  pub start_visiting : IsVisiting L m → IsVisiting L n
  start_visiting v = offered_visiting is.from left (Begins s.first) m n is.offered L v is.listed

  fresh_begins : (starts : List Begin) → Contains starts s → (v : CostVisit)
      → IsFresh is.from left (Begins s.first) v → IsBeginning starts v
  fresh_begins starts has v f = record {
    first = s.first;
    is = f.origin_is;
    begins = record {
      start = s;
      is = has;
      step = refl;
      named = ap (λ t. key_of (at_of t)) f.spot_is ∙ is.named;
      cost = f.cost_is ∙ ap (λ t. places_cost (drop s.first t.piece.now.places)) (sym f.spot_is);
    };
  }

  pub start_origins : (starts : List Begin) → Contains starts s → HaveOrigins starts m.visits
      → HaveOrigins starts n.visits
  start_origins starts has old k v e =
      elim (offered_cases is.from left (Begins s.first) m n is.offered k v e) [
        | inl before ↦ elim (old k v before) [
          | inl b ↦ inl b
          | inr f ↦ inr (before_stays m.visits n.visits start_stays k v f)
        ]
        | inr last ↦ inl (fresh_begins starts has v last.1)
      ]

  pub start_waiting : AreWaiting m → AreWaiting n
  start_waiting old k v e = elim (offered_cases is.from left (Begins s.first) m n is.offered k v e) [
    | inl before ↦ offered_waits is.from left (Begins s.first) m n is.offered k (old k v before)
    | inr last ↦ last.2
  ]

  start_reached : IsReachedFrom L n.visits s
  start_reached = record {
    from = at_of is.from;
    listed = is.listed;
    named = is.named;
    reached = offered_reached is.from left (Begins s.first) m n is.offered;
  }

  begun_stays : (t : Begin) → IsReachedFrom L m.visits t → IsReachedFrom L n.visits t
  begun_stays t r = record {
    from = r.from;
    listed = r.listed;
    named = r.named;
    reached = reached_stays m.visits n.visits start_stays (key_of r.from)
        (places_cost (drop t.first r.from.piece.places)) r.reached;
  }

  pub more_begun : (starts : List Begin) (i : ℕ) (d : Begin) → i < length starts → s ≡ get_or starts i d
      → AreBegun L (take i starts) m.visits → AreBegun L (take (i + 1) starts) n.visits
  more_begun starts i d h at old t has =
      elim (contains_more (take i starts) (get_or starts i d) t
      (subst (λ l. Contains l t) (take_more starts i d h) has)) [
        | inl before ↦ begun_stays t (old t before)
        | inr same ↦ subst (λ z. IsReachedFrom L n.visits z) (at ∙ sym same) start_reached
      ]

pub all_begun : (L : List At) (starts : List Begin) (i : ℕ) (visits : List CostVisit) → length starts ≤ i
    → AreBegun L (take i starts) visits → AreBegun L starts visits
all_begun L starts i visits h b = subst (λ l. AreBegun L l visits) (take_all i starts h) b

pub nothing_at : {A : Type 0} → (xs : List A) (k : ℕ) (v : A) → xs ≡ [] → slice_get xs k ≡ Some v → ⊥
nothing_at [] k v e h = cc
nothing_at (x ∷ xs) k v e h = cc
