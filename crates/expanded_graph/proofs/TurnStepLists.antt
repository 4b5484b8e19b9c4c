-- Where lists of steps end, and their turn steps.
use Rattle.std.proofs.Common.{◌≡◌, ◌+◌, ◌≤◌, List, [], ◌∷◌, ◌++◌, length, ◌⊎◌, inl, inr, refl, sym, ap, ◌∙◌}
use Rattle.std.proofs.Common.{subst, arith, append_assoc, length-append}
use Rattle.std.proofs.lemmas.List.{same_from_push}
use Rattle.road_base.specs.declared.ids.Step.{Step}
use Rattle.road_base.specs.Objects.{Objects}
use Rattle.road_model.specs.Rules.{Rules}
use Rattle.road_model.specs.Pieces.{Span, IsPiece, spell}
use Rattle.road_model.specs.Contexts.{Every}
use Rattle.road_model.specs.Network.{spell_pieces}
use Rattle.road_model.specs.Turning.{HasTurnSteps}
use Rattle.road_model.proofs.WalkLists.{spell_pieces-push}
use Rattle.road_model.proofs.LongestContext.{Every-tail}
use Rattle.expanded_graph.proofs.Ends.{spell_begins}

pub nil_right : {A : Type 0} (a u : List A) → [] ≡ a ++ u → u ≡ []
nil_right [] u e = sym e
nil_right (x ∷ a) u e = cc

-- u is the end of d that stands behind a, and x behind it
pub record EndsBy {A : Type 0} (d a u : List A) (x : A) : Type 0 where
  pub rest : List A
  pub is : u ≡ rest ++ x ∷ []
  pub front : d ≡ a ++ rest

pub cut_last : {A : Type 0} (d a u : List A) (x : A) → d ++ x ∷ [] ≡ a ++ u → (u ≡ []) ⊎ EndsBy d a u x
cut_last [] [] u x e = inr (record { rest = []; is = sym e; front = refl })
cut_last [] (y ∷ a) u x e = inl (nil_right a u (cc))
cut_last (z ∷ d) [] u x e = inr (record { rest = z ∷ d; is = sym e; front = refl })
cut_last (z ∷ d) (y ∷ a) u x e =
    let head : z ≡ y = cc in
    elim (cut_last d a u x (cc)) [
      | inl n ↦ inl n
      | inr r
          ↦ inr (record { rest = r.rest; is = r.is; front = let f = r.front in cc })
    ]

pub nil_or_cons : {A : Type 0} (xs : List A) → (xs ≡ []) ⊎ ((x : A) × (ys : List A) × (xs ≡ x ∷ ys))
nil_or_cons [] = inl refl
nil_or_cons (x ∷ xs) = inr (x, xs, refl)

-- a list that isn't empty has a last member
pub nil_or_last : {A : Type 0} (xs : List A) → (xs ≡ []) ⊎ ((ys : List A) × (x : A) × (xs ≡ ys ++ x ∷ []))
nil_or_last [] = inl refl
nil_or_last (x ∷ xs) = inr (elim (nil_or_last xs) [
  | inl n ↦ ([], x, ap (λ l. x ∷ l) n)
  | inr r ↦ (x ∷ r.0, r.1, ap (λ l. x ∷ l) r.2)
])

-- ---- members with a property

-- ---- turn steps

-- turn steps end with the last step of the last piece, and are two or more where there are other pieces before
pub turn_ends_long : (before : List Span) (p : Span) (q front : List Step) (last : Step) → (before ≡ [] → ⊥)
    → HasTurnSteps (before ++ p ∷ []) q → spell p ≡ front ++ last ∷ []
    → (s : Step) × (middle : List Step) × (q ≡ s ∷ (middle ++ last ∷ []))
turn_ends_long [] p q front last some h e = absurd (some refl)
turn_ends_long (x ∷ before) p q front last some h e =
    let others : h.others ≡ before ++ p ∷ [] = let k = h.is in cc in (
      h.last,
      spell_pieces before ++ front,
      h.steps
          ∙ ap (λ l. h.last ∷ l) (ap spell_pieces others
          ∙ (spell_pieces-push before p ∙ (ap (λ l. spell_pieces before ++ l) e
          ∙ sym (append_assoc (spell_pieces before) front (last ∷ []))))),
    )

pub turn_ends : (before : List Span) (p : Span) (q front : List Step) (last : Step)
    → HasTurnSteps (before ++ p ∷ []) q → spell p ≡ front ++ last ∷ [] → (a : List Step) × (q ≡ a ++ last ∷ [])
turn_ends [] p q front last h e =
    let first : h.first ≡ p = let k = h.is in cc in
    let none : h.others ≡ [] = let k = h.is in cc in
    let same = same_from_push h.front front h.last last (sym h.ends ∙ (ap spell first ∙ e)) in
    ([], h.steps ∙ ap (λ l. h.last ∷ spell_pieces l) none ∙ ap (λ s. s ∷ []) same.1)
turn_ends (x ∷ before) p q front last h e =
    let r = turn_ends_long (x ∷ before) p q front last (λ z. cc) h e in
    (r.0 ∷ r.1, r.2)

-- turn steps are those of one list
pub one_turn : (c : List Span) (q r : List Step) → HasTurnSteps c q → HasTurnSteps c r → q ≡ r
one_turn c q r h k =
    let first : h.first ≡ k.first = let e = h.is in let f = k.is in cc in
    let others : h.others ≡ k.others = let e = h.is in let f = k.is in cc in
    let same = same_from_push h.front k.front h.last k.last (sym h.ends ∙ (ap spell first ∙ k.ends)) in
    h.steps ∙ (ap (λ l. h.last ∷ spell_pieces l) others ∙ (ap (λ s. s ∷ spell_pieces k.others) same.1 ∙ sym k.steps))

module _ (M : Objects) (P : Rules) where
  spelled_count : (c : List Span) → Every (IsPiece M P) c → length c ≤ length (spell_pieces c)
  spelled_count [] e = omega arith
  spelled_count (p ∷ c) e =
      let b = spell_begins p e.0.ascends in
      let l : length (spell p) ≡ length b.rest + 1 = ap length b.is ∙ omega arith in
      let k = spelled_count c e.1 in
      let t = length-append (spell p) (spell_pieces c) in
      omega arith

  -- there are no more pieces than turn steps
  pub turn_count : (c : List Span) (q : List Step) → Every (IsPiece M P) c → HasTurnSteps c q → length c ≤ length q
  turn_count c q e h =
      let others = Every-tail (IsPiece M P) (h.first ∷ []) h.others (subst (Every (IsPiece M P)) h.is e) in
      let k = spelled_count h.others others in
      let a : length c ≡ length h.others + 1 = ap length h.is ∙ omega arith in
      let b : length q ≡ length (spell_pieces h.others) + 1 = ap length h.steps ∙ omega arith in
      omega arith
