-- Ways in order.
use Rattle.std.proofs.Common.{◌≡◌, ◌↔◌, ◌+◌, ◌⊎◌, inl, inr, IsTrue, List, [], ◌∷◌, ◌++◌, length, map, refl}
use Rattle.std.proofs.Common.{sym, ap, ◌∙◌, subst, Contains, length-append}
use Rattle.std.proofs.lemmas.List.Elements.{Contains-append_left}
use Rattle.road_base.specs.declared.ids.WayId.{WayId}
use Rattle.road_base.specs.declared.ids.Key.{Key}
use Rattle.road_base.specs.Objects.{Objects}
use Rattle.ordered_lists.proofs.ListMembers.{contains_from_in, in_end, contains_more}
use Rattle.ordered_lists.specs.Orders.{Lists, rises}
use Rattle.road_model.specs.Orders.{way_cmp}
use Rattle.road_model.specs.Links.{AreChanged, AreReached, AreTouched}
use Rattle.ordered_lists.proofs.JoinedLists.{lists_same}
use Rattle.touched_ways.proofs.NumberLists.{AreAdded}

pub same : (ws : List WayId) → map (λ w. w) ws ≡ ws
same [] = refl
same (w ∷ ws) = ap (λ l. w ∷ l) (same ws)

-- ---- a list of ways with one more behind

module _ (ways next : List WayId) (way : WayId) (pushed : next ≡ ways ++ way ∷ []) where
  pub one_longer : length next ≡ length ways + 1
  one_longer = ap length pushed ∙ length-append ways (way ∷ [])

  pub was_or_last : (w : WayId) → Contains next w → Contains ways w ⊎ (w ≡ way)
  was_or_last w has = contains_more ways way w (subst (λ l. Contains l w) pushed has)

  pub still_has : (w : WayId) → Contains ways w → Contains next w
  still_has w has = subst (λ l. Contains l w) (sym pushed) (Contains-append_left ways (way ∷ []) w has)

  pub last_has : (w : WayId) → w ≡ way → Contains next w
  last_has w is = subst (λ l. Contains l w) (sym pushed)
      (subst (Contains (ways ++ way ∷ [])) (sym is) (contains_from_in (ways ++ way ∷ []) way (in_end ways way [])))

-- ---- the ways of a list, and of two lists

pub ways_of_one : (ways all one : List WayId) → all ≡ one → IsTrue (rises way_cmp ways)
    → ((w : WayId) → Contains ways w ↔ Contains all w) → Lists (λ w. w) way_cmp (λ w. Contains one w) ways
ways_of_one ways all one e up exactly = subst (λ l. Lists (λ w. w) way_cmp (λ w. Contains l w) ways) e (record {
  ascending = subst (λ l. IsTrue (rises way_cmp l)) (sym (same ways)) up;
  sound = λ w has. (exactly w).0 has;
  complete = λ w has. (exactly w).1 has;
})

pub ways_of_both : (ways all one other : List WayId) → IsTrue (rises way_cmp ways)
    → ((w : WayId) → Contains ways w ↔ Contains all w) → AreAdded one all other
    → Lists (λ w. w) way_cmp (λ w. Contains one w ⊎ Contains other w) ways
ways_of_both ways all one other up exactly are = record {
  ascending = subst (λ l. IsTrue (rises way_cmp l)) (sym (same ways)) up;
  sound = λ w has. (are w).0 ((exactly w).0 has);
  complete = λ w has. (exactly w).1 ((are w).1 has);
}

-- where those of one list were put into another, which then ascends
pub ways_with_new : (ways one new other : List WayId) → IsTrue (rises way_cmp ways) → AreAdded one ways new
    → ((w : WayId) → Contains new w ↔ Contains other w)
    → Lists (λ w. w) way_cmp (λ w. Contains one w ⊎ Contains other w) ways
ways_with_new ways one new other up are exactly = record {
  ascending = subst (λ l. IsTrue (rises way_cmp l)) (sym (same ways)) up;
  sound = λ w has. elim ((are w).0 has) [ inl here ↦ inl here | inr added ↦ inr ((exactly w).0 added) ];
  complete = λ w has. (are w).1 (elim has [ inl here ↦ inl here | inr added ↦ inr ((exactly w).1 added) ]);
}

-- ---- those reached before and after a change are those that it touches

pub touched_ways : (M N : Objects) (keys : List Key) (before after ways : List WayId) → AreChanged M N keys
    → AreReached M keys before → AreReached N keys after
    → Lists (λ w. w) way_cmp (λ w. Contains before w ⊎ Contains after w) ways → AreTouched M N ways
touched_ways M N keys before after ways changed these those lists = lists_same _ _ _ _ ways lists
    (λ w h. elim h [
      | inl i ↦ let r = these.sound w i in (r.0, changed.sound r.0 r.1, inl r.2)
      | inr i ↦ let r = those.sound w i in (r.0, changed.sound r.0 r.1, inr r.2)
    ])
    (λ w h. elim h.2 [
      | inl near ↦ inl (these.complete w (h.0, changed.complete h.0 h.1, near))
      | inr near ↦ inr (those.complete w (h.0, changed.complete h.0 h.1, near))
    ])
