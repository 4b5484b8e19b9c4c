-- Whether all members are there is seen from each of them once.
use Rattle.std.proofs.Common.{◌≡◌, ◌↔◌, Bool, true, false, ◌&&◌, ◌||◌, not, inl, inr, List, [], ◌∷◌, ◌++◌, Contains}
use Rattle.std.proofs.Common.{refl, sym, ap, ◌∙◌}
use Rattle.std.specs.List.{list_all}
use Rattle.std.proofs.lemmas.Bool.{and_parts, and_from}
use Rattle.std.proofs.lemmas.List.Folds.{list_all-append}
use Rattle.ordered_lists.proofs.ListMembers.{contains_head, contains_later, contains_cases, contains_none}

module _ {A : Type 0} (test : A → Bool) where
  all_hold : (xs : List A) → ((x : A) → Contains xs x → test x ≡ true) → list_all test xs ≡ true
  all_hold [] each = refl
  all_hold (x ∷ xs) each =
      and_from (test x) (list_all test xs) (each x (contains_head x xs))
      (all_hold xs (λ y has. each y (contains_later x y xs has)))

  holds_at : (xs : List A) (x : A) → list_all test xs ≡ true → Contains xs x → test x ≡ true
  holds_at [] x all has = absurd (contains_none x has)
  holds_at (y ∷ xs) x all has =
      let parts = and_parts (test y) (list_all test xs) all in
      elim (contains_cases y x xs has) [
        | inl is ↦ ap test is ∙ parts.0
        | inr more ↦ holds_at xs x parts.1 more
      ]

  either_way : (a b : Bool) → (a ≡ true → b ≡ true) → (b ≡ true → a ≡ true) → a ≡ b
  either_way true b there back = sym (there refl)
  either_way false true there back = back refl
  either_way false false there back = refl

  all_same : (xs ys : List A) → ((x : A) → Contains xs x ↔ Contains ys x) → list_all test xs ≡ list_all test ys
  all_same xs ys same =
      either_way (list_all test xs) (list_all test ys)
      (λ all. all_hold ys (λ y has. holds_at xs y all ((same y).1 has)))
      (λ all. all_hold xs (λ x has. holds_at ys x all ((same x).0 has)))

  pub all_once : (once keys xs ys zs : List A) → ((x : A) → Contains once x ↔ Contains keys x) → keys ≡ xs ++ (ys ++ zs)
      → list_all test once ≡ (list_all test xs && (list_all test ys && list_all test zs))
  all_once once keys xs ys zs same are =
      all_same once keys same
      ∙ (ap (λ (l : List A). list_all test l) are
      ∙ (list_all-append test xs (ys ++ zs) ∙ ap (λ b. list_all test xs && b) (list_all-append test ys zs)))

pub lacks_some : (a b c : Bool) → not (a && (b && c)) ≡ (not a || (not b || not c))
lacks_some true true c = refl
lacks_some true false c = refl
lacks_some false b c = refl
