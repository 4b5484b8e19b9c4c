-- What is found in lists that stand one before the other, and the marks of their keys.
use Rattle.std.proofs.Common.{◌≡◌, ℕ, ℤ, true, false, cond, IsTrue, List, [], ◌∷◌, ◌++◌, map}
use Rattle.std.proofs.Common.{Some, None, is_some, refl, sym, ap, ◌∙◌, subst, append_assoc, Contains}
use Rattle.std.proofs.Common.{Ordering, inl, inr}
use Rattle.std.specs.declared.cmp.Ordering.TheVariants.{Equal}
use Rattle.std.specs.Option.{option_or}
use Rattle.std.specs.Ordering.{eq_by_cmp}
use Rattle.std.specs.Cmp.{Equal-is}
use Rattle.std.specs.FinMap.{find}
use Rattle.layered_maps.specs.Filters.{IsMarked, AreMarked}
use Rattle.layered_maps.proofs.LayerPairs.{or_cond}
use Rattle.ordered_lists.proofs.ListMembers.{contains_head, contains_later, contains_more, contains_none}
use mathlib.Core.Bool.{false≢true}

-- ---- what is found in lists that stand one before the other

module _ {K V : Type 0} (R : K → K → Ordering) where
  pub find_both : (k : K) (a b : List (K × V)) → find R k (a ++ b) ≡ option_or (find R k a) (find R k b)
  find_both k [] b = refl
  find_both k (e ∷ es) b = or_cond (eq_by_cmp R k e.0) e.1 (find R k es) (find R k b) _ (find_both k es b)

  -- where the first list has it
  pub find_first : (k : K) (a b : List (K × V)) (v : V) → find R k a ≡ Some v → find R k (a ++ b) ≡ Some v
  find_first k a b v e = find_both k a b ∙ ap (λ o. option_or o (find R k b)) e

  -- where it hasn't
  pub find_second : (k : K) (a b : List (K × V)) → find R k a ≡ None → find R k (a ++ b) ≡ find R k b
  find_second k a b e = find_both k a b ∙ ap (λ o. option_or o (find R k b)) e

  -- the first two lists may stand in one
  pub find_merged : (k : K) (both later recent older : List (K × V)) → find R k both ≡ find R k (later ++ recent)
      → find R k (both ++ older) ≡ find R k (later ++ (recent ++ older))
  find_merged k both later recent older e =
      find_both k both older ∙ ap (λ o. option_or o (find R k older)) e
      ∙ sym (find_both k (later ++ recent) older) ∙ ap (find R k) (append_assoc later recent older)

-- ---- marks of keys

-- all of the keys are marked
abbrev pub KeysMarked : {K : Type 0} → (K → ℤ) → List K → List ℕ → Type 0
KeysMarked {K} number keys words = (k : K) → Contains keys k → IsMarked words (number k)

-- what was marked still is
abbrev pub StayMarked : List ℕ → List ℕ → Type 0
StayMarked old new = (number : ℤ) → IsMarked old number → IsMarked new number

module _ {K : Type 0} (number : K → ℤ) where
  pub none_marked : (words : List ℕ) → KeysMarked number [] words
  none_marked words k c = absurd (contains_none k c)

  pub more_marked : (front : List K) (key : K) (old new : List ℕ) → KeysMarked number front old
      → IsMarked new (number key) → StayMarked old new → KeysMarked number (front ++ key ∷ []) new
  more_marked front key old new are own others k c = elim (contains_more front key k c) [
    | inl before ↦ others (number k) (are k before)
    | inr is ↦ subst (λ x. IsMarked new (number x)) (sym is) own
  ]

  module _ {V : Type 0} (R : K → K → Ordering) (tied : (a b : K) → R a b ≡ Equal → number a ≡ number b) where
    pub all_marked : (pairs : List (K × V)) (words : List ℕ) → KeysMarked number (map (λ p. p.0) pairs) words
        → AreMarked R number pairs words
    all_marked [] words are q has = absurd (false≢true has)
    all_marked (e ∷ es) words are q has =
        let rest : List K = map (λ p. p.0) es in
        elim (eq_by_cmp R q e.0) as (λ b. eq_by_cmp R q e.0 ≡ b
        → IsTrue (is_some (cond b (Some e.1) (find R q es))) → IsMarked words (number q)) [
          | true ↦ λ t some. subst (IsMarked words) (sym (tied q e.0 ((Equal-is _).0 t)))
              (are e.0 (contains_head e.0 rest))
          | false ↦ λ t some. all_marked es words (λ k c. are k (contains_later e.0 k rest c)) q some
        ] refl has

    -- lists put before others, in whatever list both stand
    pub put_marked : (later below all : List (K × V)) (old new : List ℕ) → AreMarked R number below old
        → KeysMarked number (map (λ p. p.0) later) new → StayMarked old new
        → ((k : K) → find R k all ≡ find R k (later ++ below)) → AreMarked R number all new
    put_marked later below all old new are own others same q has =
        elim (find R q later) as (λ o. find R q later ≡ o
        → IsTrue (is_some (option_or o (find R q below))) → IsMarked new (number q)) [
          | None ↦ λ e some. others (number q) (are q some)
          | Some v ↦ λ e some. all_marked later new own q (subst (λ o. IsTrue (is_some o)) (sym e) refl)
        ] refl (subst (λ o. IsTrue (is_some o)) (same q ∙ find_both R q later below) has)
