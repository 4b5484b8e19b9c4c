-- What is reached round by round.
use Rattle.std.proofs.Common.{◌≡◌, ℕ, zero, suc, ◌⊎◌, inl, inr, List, [], Some, Contains, refl, sym, subst}
use Rattle.std.specs.BTreeMap.{BTreeMap, get}
use Rattle.road_base.specs.declared.ids.Key.{Key}
use Rattle.road_base.specs.Objects.{Objects, key_cmp}
use Rattle.road_model.specs.Links.{IsLink, IsWithin}
use Rattle.ordered_lists.proofs.ListMembers.{contains_none}
use Rattle.cell_check.specs.declared.search.LinkSearch.{LinkSearch}
use Rattle.cell_check.specs.declared.search.Reached.{Reached}
use Rattle.cell_check.specs.Searches.{Finds, GivenFrom, IsAt, IsNew, HasCome, IsOne, IsBegun, IsNext, AreRounds}
use Rattle.cell_check.specs.Searches.{IsLinkedTo}

-- The search came to what is within n links of one of the starts, and to nothing else. What it came to is new, or the
-- search came to all that is linked to it too.
pub record IsRound (M : Objects) (starts : List Key) (n : ℕ) (s : LinkSearch) : Type 0 where
  pub sound : (k v : Key) → IsAt s k v → Contains starts v × IsWithin M n v k
  pub new : (k v : Key) → IsNew s k v → Contains starts v × IsWithin M n v k
  pub all : (k v : Key) → Contains starts v → IsWithin M n v k → HasCome s k
  pub followed : (c v k : Key) → IsAt s c v → IsLink M c k → HasCome s k ⊎ IsNew s c v

nothing_new : (e : LinkSearch) → e.frontier.items ≡ [] → (k v : Key) → IsNew e k v → ⊥
nothing_new e none k v h = contains_none (record { key = k; start = v })
    (subst (λ (l : List Reached). Contains l (record { key = k; start = v })) none h)

module _ (M : Objects) (starts : List Key) where
  given_self : (k v : Key) → GivenFrom (λ x. IsOne x x) starts k v → Contains starts v × (v ≡ k)
  given_self k v (x, has, is) = (subst (Contains starts) (sym is.1) has, subst (λ y. v ≡ y) (sym is.0) is.1)

  pub begun_round : (s : LinkSearch) → IsBegun starts s → IsRound M starts 0 s
  begun_round s (e, nowhere, none, h) = record {
    sound = λ k v i. elim (h.sound k v i) [ inl old ↦ absurd (nowhere k v old) | inr new ↦ given_self k v new ];
    new = λ k v i. elim (h.new_sound k v i)
        [ inl old ↦ absurd (nothing_new e none k v old) | inr new ↦ given_self k v new ];
    all = λ k v has same. h.complete k v (v, has, (sym same, refl));
    followed = λ c v k i link. elim (h.new_complete c v i)
        [ inl old ↦ absurd (nowhere c v old) | inr new ↦ inr new ];
  }

  module _ (n : ℕ) (s t : LinkSearch) (round : IsRound M starts n s) where
    -- what is linked to what is new is within one link more
    further : (k v : Key) → IsLinkedTo M s.frontier.items k v → Contains starts v × IsWithin M (suc n) v k
    further k v (x, has, link) =
        let near = round.new x.key x.start has in (
          subst (Contains starts) (sym link.1) near.0,
          inr (x.key, subst (λ y. IsWithin M n y x.key) (sym link.1) near.1, link.0),
        )

    module _ (e : LinkSearch) (same : e.starts ≡ s.starts) (none : e.frontier.items ≡ [])
        (h : Finds e t (IsLinkedTo M s.frontier.items)) where
      was_at : (k v : Key) → IsAt e k v → IsAt s k v
      was_at k v i = subst (λ (m : BTreeMap Key Key). get key_cmp m k ≡ Some v) same i

      stays_at : (k v : Key) → IsAt s k v → IsAt t k v
      stays_at k v i = h.keeps k v (subst (λ (m : BTreeMap Key Key). get key_cmp m k ≡ Some v) (sym same) i)

      still : (k : Key) → HasCome s k → HasCome t k
      still k (u, i) = (u, stays_at k u i)

      linked : (c v k : Key) → IsNew s c v → IsLink M c k → HasCome t k
      linked c v k new link = h.complete k v (record { key = c; start = v }, new, (link, refl))

      onward : (c v k : Key) → IsAt s c v → IsLink M c k → HasCome t k
      onward c v k i link = elim (round.followed c v k i link)
          [ inl come ↦ still k come | inr new ↦ linked c v k new link ]

      pub one_round : IsRound M starts (suc n) t
      one_round = record {
        sound = λ k v i. elim (h.sound k v i) [
          | inl old ↦ let near = round.sound k v (was_at k v old) in (near.0, inl near.1)
          | inr new ↦ further k v new
        ];
        new = λ k v i. elim (h.new_sound k v i)
            [ inl old ↦ absurd (nothing_new e none k v old) | inr new ↦ further k v new ];
        all = λ k v has near. elim near [
          | inl before ↦ still k (round.all k v has before)
          | inr (c, close, link) ↦ let come = round.all c v has close in onward c come.0 k come.1 link
        ];
        followed = λ c v k i link. elim (h.new_complete c v i)
            [ inl old ↦ inl (onward c v k (was_at c v old) link) | inr new ↦ inr new ];
      }

  pub next_round : (n : ℕ) (s t : LinkSearch) → IsRound M starts n s → IsNext M s t → IsRound M starts (suc n) t
  next_round n s t round (e, same, none, h) = one_round n s t round e same none h

  pub all_rounds : (n : ℕ) (s t : LinkSearch) → IsRound M starts 0 s → AreRounds M n s t → IsRound M starts n t
  all_rounds zero s t round same = subst (IsRound M starts 0) same round
  all_rounds (suc n) s t round (u, before, next) = next_round n u t (all_rounds n s u round before) next

-- a key is linked to something if it is within some links of another
pub leads : (M : Objects) (n : ℕ) (a b : Key) → IsWithin M n a b → (a ≡ b) ⊎ ((c : Key) × IsLink M a c)
leads M zero a b near = inl near
leads M (suc n) a b (inl near) = leads M n a b near
leads M (suc n) a b (inr (c, near, link)) = elim (leads M n a c near) [
  | inl same ↦ inr (b, subst (λ x. IsLink M x b) (sym same) link)
  | inr linked ↦ inr linked
]
