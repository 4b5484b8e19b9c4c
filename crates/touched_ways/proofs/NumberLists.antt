-- Lists of numbers that a search gathers.
use Rattle.std.proofs.Common.{◌≡◌, ◌↔◌, ℕ, ◌+◌, ◌<◌, ◌⊎◌, inl, inr, List, [], ◌++◌, length, take, get_or, refl}
use Rattle.std.proofs.Common.{sym, ◌∙◌, subst, Contains}
use Rattle.std.specs.List.Sorted.{IsPermutation}
use Rattle.std.proofs.lemmas.List.Elements.{Contains-append_left, Contains-append_right, Contains-append_cases}
use Rattle.std.proofs.lemmas.List.Sorted.{Contains-permutation, IsPermutation-sym}
use Rattle.ordered_lists.proofs.ListMembers.{contains_none}
use Rattle.ordered_lists.proofs.JoinedLists.{one_more, has_last, has_before}
use Rattle.touched_ways.specs.Searches.{IsRest}

module _ {T : Type 0} where
  -- ---- numbers put behind a list's

  -- the new list has what the old one has and the numbers
  abbrev pub AreAdded : List T → List T → List T → Type 0
  AreAdded old new numbers = (x : T) → Contains new x ↔ (Contains old x ⊎ Contains numbers x)

  pub added_none : (list : List T) → AreAdded list list []
  added_none list x = (λ has. inl has, λ has. elim has [ inl here ↦ here | inr none ↦ absurd (contains_none x none) ])

  pub added_more : (old list next numbers : List T) (i : ℕ) (d x : T) → i < length numbers → x ≡ get_or numbers i d
      → AreAdded old list (take i numbers) → ((y : T) → Contains next y ↔ (Contains list y ⊎ (y ≡ x)))
      → AreAdded old next (take (i + 1) numbers)
  added_more old list next numbers i d x within same are step y = (
    λ has. elim ((step y).0 has) [
      | inl here ↦ elim ((are y).0 here) [
        | inl before ↦ inl before
        | inr new ↦ inr (has_before numbers i d y within new)
      ]
      | inr last ↦ inr (has_last numbers i d y within (last ∙ same))
    ],
    λ has. (step y).1 (elim has [
      | inl before ↦ inl ((are y).1 (inl before))
      | inr new ↦ elim (one_more numbers i d y within new) [
        | inl last ↦ inr (last ∙ sym same)
        | inr earlier ↦ inl ((are y).1 (inr earlier))
      ]
    ]),
  )

  pub added_as : (old new numbers other : List T) → numbers ≡ other → AreAdded old new numbers
      → AreAdded old new other
  added_as old new numbers other e are = subst (AreAdded old new) e are

  -- what a list has that was put behind another
  pub contains_behind : (all one more other : List T) → all ≡ one ++ more → more ≡ other
      → (x : T) → Contains all x ↔ (Contains one x ⊎ Contains other x)
  contains_behind all one more other e d x = (
    λ has. elim (Contains-append_cases one more x (subst (λ l. Contains l x) e has)) [
      | inl h ↦ inl h
      | inr h ↦ inr (subst (λ l. Contains l x) d h)
    ],
    λ has. subst (λ l. Contains l x) (sym e) (elim has [
      | inl h ↦ Contains-append_left one more x h
      | inr h ↦ Contains-append_right one more x (subst (λ l. Contains l x) (sym d) h)
    ]),
  )

  -- ---- a list without what is gone

  pub rest_none : (gone rest : List T) → rest ≡ [] → IsRest [] gone rest
  rest_none gone rest empty = record {
    sound = λ x has. subst (λ l. Contains l x) empty has;
    complete = λ x has. absurd (contains_none x has);
  }

  pub rest_more : (list gone rest next : List T) (i : ℕ) (x : T) → i < length list → x ≡ get_or list i x
      → IsRest (take i list) gone rest → ((y : T) → Contains next y → Contains rest y ⊎ (y ≡ x))
      → ((y : T) → Contains rest y → Contains next y) → Contains next x ⊎ Contains gone x
      → IsRest (take (i + 1) list) gone next
  rest_more list gone rest next i x within same is only keeps adds = record {
    sound = λ y has. elim (only y has) [
      | inl before ↦ has_before list i x y within (is.sound y before)
      | inr last ↦ has_last list i x y within (last ∙ same)
    ];
    complete = λ y has. elim (one_more list i x y within has) [
      | inl last ↦ let e : x ≡ y = same ∙ sym last in elim adds [
        | inl new ↦ inl (subst (Contains next) e new)
        | inr away ↦ inr (subst (Contains gone) e away)
      ]
      | inr earlier ↦ elim (is.complete y earlier) [ inl here ↦ inl (keeps y here) | inr away ↦ inr away ]
    ];
  }

  pub rest_as : (list gone other rest : List T) → gone ≡ other → IsRest list gone rest → IsRest list other rest
  rest_as list gone other rest e is = subst (λ (l : List T). IsRest list l rest) e is

  -- ---- what a round finds, without what had been seen

  module _ (found numbers all frontier : List T) (exactly : (x : T) → Contains numbers x ↔ Contains found x)
      (is : IsRest numbers all frontier) where
    pub taken_sound : (x : T) → Contains frontier x → Contains found x
    taken_sound x has = (exactly x).0 (is.sound x has)

    pub taken_complete : (x : T) → Contains found x → Contains frontier x ⊎ Contains all x
    taken_complete x has = is.complete x ((exactly x).1 has)

  -- what was put behind a list, and then sorted
  pub contains_sorted : (old new sorted numbers : List T) → new ≡ old ++ numbers → IsPermutation new sorted
      → AreAdded old sorted numbers
  contains_sorted old new sorted numbers e moves x =
      let behind = contains_behind new old numbers numbers e refl x in (
        λ has. behind.0 (Contains-permutation sorted new x (IsPermutation-sym new sorted moves) has),
        λ has. Contains-permutation new sorted x moves (behind.1 has),
      )

  -- what was put behind a list, of which each was then left once
  pub contains_once : (old new once numbers : List T) → new ≡ old ++ numbers
      → ((x : T) → Contains once x ↔ Contains new x) → AreAdded old once numbers
  contains_once old new once numbers e exactly x =
      let behind = contains_behind new old numbers numbers e refl x in (
        λ has. behind.0 ((exactly x).0 has),
        λ has. (exactly x).1 (behind.1 has),
      )
