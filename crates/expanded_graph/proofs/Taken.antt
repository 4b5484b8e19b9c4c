-- Lists whose items are taken one after another.
use Rattle.std.proofs.Common.{◌≡◌, ◌<◌, ◌+◌, ℕ, List, [], ◌∷◌, ◌++◌, Contains, length, map, take, get_or, inl, inr}
use Rattle.std.proofs.Common.{sym, ap, ◌∙◌, subst, append-nil, append_assoc}
use Rattle.std.proofs.lemmas.List.{take_more, map-append}
use Rattle.ordered_lists.proofs.ListMembers.{In, in_end, push_cases, in_from_contains, contains_from_in}

module _ {A : Type 0} (all front rest : List A) (cut : all ≡ front ++ rest) where
  -- one item more was taken
  pub taken_more : (e : A) (more : List A) → rest ≡ e ∷ more → all ≡ (front ++ e ∷ []) ++ more
  taken_more e more next = cut ∙ (ap (λ l. front ++ l) next ∙ sym (append_assoc front (e ∷ []) more))

  -- the next item is one of them
  pub next_among : (e : A) (more : List A) → rest ≡ e ∷ more → Contains all e
  next_among e more next = subst (λ l. Contains l e) (sym (cut ∙ ap (λ l. front ++ l) next))
      (contains_from_in (front ++ e ∷ more) e (in_end front e more))

  -- all were taken
  pub taken_all : rest ≡ [] → front ≡ all
  taken_all none = sym (cut ∙ (ap (λ l. front ++ l) none ∙ append-nil front))

-- one more was made of the next item
pub made_more : {A B : Type 0} (f : A → B) (xs more : List A) (x : A) (ys : List B) (i : ℕ) (d : B) → i < length ys
    → more ≡ xs ++ x ∷ [] → f x ≡ get_or ys i d → map f xs ≡ take i ys → map f more ≡ take (i + 1) ys
made_more f xs more x ys i d within grown is so_far =
    ap (map f) grown ∙ (map-append f xs (x ∷ []) ∙ (ap (λ l. l ++ f x ∷ []) so_far ∙ (ap (λ y. take i ys ++ y ∷ []) is
    ∙ sym (take_more ys i d within))))

-- what holds of each holds of one more
pub all_more : {A : Type 0} (Is : A → Type 0) (xs more : List A) (x : A) → more ≡ xs ++ x ∷ []
    → ((a : A) → Contains xs a → Is a) → Is x → (a : A) → Contains more a → Is a
all_more Is xs more x grown so_far is a has =
    elim (push_cases xs x a (subst (In a) grown (in_from_contains more a has)))
    [ inl i ↦ so_far a (contains_from_in xs a i) | inr same ↦ subst Is (sym same) is ]
