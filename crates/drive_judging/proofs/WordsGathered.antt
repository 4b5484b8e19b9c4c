-- The words that begin on steps, from the restrictions of the ways of the steps.
use Rattle.std.proofs.Common.{◌≡◌, ℕ, ◌+◌, ◌<◌, ◌≤◌, ◌⊎◌, ◌↔◌, inl, inr, List, [], ◌∷◌, ◌++◌, length, get_or, take}
use Rattle.std.proofs.Common.{Contains, IsTrue, Some, None, Bool, true, false, Result, Ok, Err, Ordering, slice_get}
use Rattle.std.proofs.Common.{refl, sym, ap, subst, ◌∙◌, arith}
use Rattle.std.specs.Result.{is_ok}
use Rattle.std.specs.List.Sorted.{IsBinarySearchResult, IsSearchInRange}
use Rattle.std.specs.declared.cmp.Ordering.TheVariants.{Less, Equal, Greater}
use Rattle.std.specs.List.Retain.{IsFiltered, ReturnsInTurn}
use Rattle.std.specs.List.{items_where_true}
use Rattle.std.proofs.lemmas.Bool.{false≢true}
use Rattle.std.proofs.lemmas.Cmp.{tied_itself}
use Rattle.std.proofs.lemmas.List.Sorted.{searchable_from_sorted}
use Rattle.std.proofs.lemmas.List.Elements.{Contains-push_cases, Contains-append_left, Contains-append_right}
use Rattle.std.proofs.lemmas.List.Elements.{Contains-append_cases}
use Rattle.road_base.specs.declared.ids.WayId.{WayId}
use Rattle.road_base.specs.declared.ids.RelationId.{RelationId}
use Rattle.road_base.specs.declared.ids.Step.{Step}
use Rattle.road_base.specs.declared.ids.Key.TheVariants.{Way as WayKey}
use Rattle.road_base.specs.Objects.{Objects}
use Rattle.road_base.specs.contracts.ids.StepOrd.TheImpl.{ghosts as step_order}
use Rattle.ordered_lists.proofs.ListMembers.{In, in_from_contains, contains_from_in, contains_none}
use Rattle.road_model.specs.Rules.{Rules}
use Rattle.ordered_lists.specs.Orders.{Lists}
use Rattle.road_model.specs.Orders.{relation_cmp}
use Rattle.road_model.specs.Words.{IsWord}
use Rattle.road_model.specs.Links.{HasMember}
use Rattle.restrictions.specs.declared.word_list.Word.{Word}
use Rattle.restrictions.specs.Words.{IsRestriction, IsWordOf}
use Rattle.drive_judging.proofs.WordOrder.{step_total, step_ties}
use Rattle.drive_judging.specs.Tables.{BeginsOn, AreDriveWords}
use Rattle.drive_judging.specs.DriveWords.{AreInOrder, LiesOn, IsMemberOf, GainsWords, AreWordsOn}
use Rattle.ordered_lists.proofs.ListFronts.{among_more, among_before, among_last}
use Rattle.ordered_lists.proofs.Splits.{same_head}

-- ---- ways and their relations

pub ways_more : (steps : List Step) (i : ℕ) (d : Step) (old : List WayId) → i < length steps
    → ((w : WayId) → Contains old w ↔ LiesOn (take i steps) w)
    → (w : WayId) → Contains (old ++ (get_or steps i d).way ∷ []) w ↔ LiesOn (take (i + 1) steps) w
ways_more steps i d old l are w = (
  λ c. elim (Contains-push_cases old (get_or steps i d).way w c) [
    | inl o ↦
        let on = (are w).0 o in
        record { step = on.step; among = among_before steps i d l on.step on.among; on = on.on }
    | inr e ↦ record { step = get_or steps i d; among = among_last steps i d l; on = e }
  ],
  λ on. elim (among_more steps i d l on.step on.among) [
    | inl o ↦ Contains-append_left old _ w ((are w).1 (record { step = on.step; among = o; on = on.on }))
    | inr e ↦
        let is : (get_or steps i d).way ≡ w = ap (λ (s : Step). s.way) e ∙ on.on in
        subst (Contains (old ++ (get_or steps i d).way ∷ [])) is
        (Contains-append_right old ((get_or steps i d).way ∷ []) (get_or steps i d).way (0, omega arith, refl))
  ],
)

pub relations_more : (M : Objects) (ways : List WayId) (i : ℕ) (d : WayId) (its old : List RelationId)
    → i < length ways → Lists (λ r. r) relation_cmp (λ r. HasMember M r (WayKey (get_or ways i d))) its
    → ((r : RelationId) → Contains old r ↔ IsMemberOf M (take i ways) r)
    → (r : RelationId) → Contains (old ++ its) r ↔ IsMemberOf M (take (i + 1) ways) r
relations_more M ways i d its old l are so r = (
  λ c. elim (Contains-append_cases old its r c) [
    | inl o ↦
        let on = (so r).0 o in
        record { way = on.way; among = among_before ways i d l on.way on.among; member = on.member }
    | inr h ↦ record { way = get_or ways i d; among = among_last ways i d l; member = are.sound r h }
  ],
  λ on. elim (among_more ways i d l on.way on.among) [
    | inl o ↦ Contains-append_left old its r ((so r).1 (record { way = on.way; among = o; member = on.member }))
    | inr e ↦ Contains-append_right old its r
        (are.complete r (subst (λ w. HasMember M r (WayKey w)) (sym e) on.member))
  ],
)

-- ---- what a test keeps

module _ {X F : Type 0} (R : F → X → Bool → F → Type 0) (P : X → Type 0) (f : F)
    (h : (x : X) (b : Bool) (g : F) → R f x b g → ((b ≡ true) ↔ P x) × (g ≡ f)) where
  kept_in : (bs : List Bool) (xs : List X) (q : F) → length bs ≡ length xs → ReturnsInTurn R f bs xs q → (x : X)
      → In x (items_where_true bs xs) ↔ (In x xs × P x)
  kept_in [] [] q l r x = (λ i. absurd i, λ p. p.0)
  kept_in (b ∷ bs) [] q l r x = absurd (omega arith)
  kept_in [] (y ∷ xs) q l r x = absurd (omega arith)
  kept_in (true ∷ bs) (y ∷ xs) q l r x =
      let says = h y true r.0 r.1 in
      let has = says.0.0 refl in
      let rest = kept_in bs xs q (omega arith) (subst (λ g. ReturnsInTurn R g bs xs q) says.1 r.2) x in (
        λ i. elim i [
          | inl e ↦ (inl e, subst P (sym e) has)
          | inr j ↦ let k = rest.0 j in (inr k.0, k.1)
        ],
        λ p. elim p.0 [ inl e ↦ inl e | inr j ↦ inr (rest.1 (j, p.1)) ],
      )
  kept_in (false ∷ bs) (y ∷ xs) q l r x =
      let says = h y false r.0 r.1 in
      let rest = kept_in bs xs q (omega arith) (subst (λ g. ReturnsInTurn R g bs xs q) says.1 r.2) x in (
        λ i. let k = rest.0 i in (inr k.0, k.1),
        λ p. elim p.0 [
          | inl e ↦ absurd (false≢true (says.0.1 (subst P e p.1)))
          | inr j ↦ rest.1 (j, p.1)
        ],
      )

  pub kept : (xs ys : List X) → IsFiltered R f xs ys → (x : X) → Contains ys x ↔ (Contains xs x × P x)
  kept xs ys (bs, q, l, r, e) x =
      let k = kept_in bs xs q l r x in (
        λ c. let p = k.0 (subst (In x) e (in_from_contains ys x c)) in (contains_from_in xs x p.0, p.1),
        λ p. contains_from_in ys x (subst (In x) (sym e) (k.1 (in_from_contains xs x p.0, p.1))),
      )

-- ---- words

pub first_is : (steps : List Step) (a : Step) (rest : List Step) → Contains steps a → BeginsOn steps (a ∷ rest)
first_is steps a rest c = record { first = a; rest = rest; is = refl; driven = c }

before_or_behind : (k i : ℕ) → (k < i) ⊎ (i ≤ k)
before_or_behind k i = grind arith

module _ (M : Objects) (P : Rules) where
  -- the words of one restriction more
  pub words_more : (steps : List Step) (rs : List RelationId) (i : ℕ) (d : RelationId) (old new : List Word)
      → i < length rs → AreWordsOn M P steps (take i rs) old → GainsWords M P steps (get_or rs i d) old new
      → AreWordsOn M P steps (take (i + 1) rs) new
  words_more steps rs i d old new l h g = record {
    each = λ u c. elim (Contains-append_cases old g.more u (subst (λ v. Contains v u) g.appended c)) [
      | inl o ↦ h.each u o
      | inr m ↦
          let s = (g.exactly u).0 m in
          (subst (λ r. IsWordOf M P r u) (sym s.0.of) s.0, s.1)
    ];
    all = λ u c w. subst (λ v. Contains v u) (sym g.appended) (elim (among_more rs i d l u.relation c) [
      | inl o ↦ Contains-append_left old g.more u (h.all u o w)
      | inr e ↦ Contains-append_right old g.more u
          ((g.exactly u).1 (subst (λ r. IsWordOf M P r u) (sym e) w.0, w.1))
    ]);
  }

  -- no restrictions have no words
  pub words_none : (steps : List Step) → AreWordsOn M P steps [] []
  words_none steps = record {
    each = λ u c. absurd (contains_none u c);
    all = λ u c w. absurd (contains_none u.relation c);
  }

  pub restrict : (ways : List WayId) (r : RelationId) → IsMemberOf M ways r → IsRestriction M r
  restrict ways r h =
      let m = h.member in record { body = m.body; visible = m.is; restriction = m.restriction }

  module _ (members : (r : RelationId) (only : Bool) (binding : ℕ) (u : List Step) (s : Step)
      → IsWord M P r only binding u → Contains u s → HasMember M r (WayKey s.way)) where
    -- the words that begin on steps are those of the restrictions of the steps' ways
    pub table : (drive sorted : List Step) (ways : List WayId) (rs : List RelationId) (words : List Word)
        → ((w : WayId) → Contains ways w ↔ LiesOn drive w)
        → ((r : RelationId) → Contains rs r ↔ IsMemberOf M ways r)
        → ((s : Step) → Contains sorted s ↔ Contains drive s)
        → AreWordsOn M P sorted rs words → AreDriveWords M P drive words
    table drive sorted ways rs words lies on same are = record {
      each = λ u c.
          let h = are.each u c in
          let b = h.1 in
          (h.0, record { first = b.first; rest = b.rest; is = b.is; driven = (same b.first).0 b.driven });
      all = λ u w b.
          let here : Contains u.steps b.first =
          subst (λ l. Contains l b.first) (sym b.is) (0, omega arith, refl) in
          let member = members u.relation u.only u.binding u.steps b.first w.is here in
          let way = (lies b.first.way).1 (record { step = b.first; among = b.driven; on = refl }) in
          let has = (on u.relation).1 (record { way = b.first.way; among = way; member = member }) in
          are.all u has
          (w, record { first = b.first; rest = b.rest; is = b.is; driven = (same b.first).1 b.driven });
    }

  -- the same words in another order
  pub table_again : (drive : List Step) (words other : List Word)
      → ((w : Word) → Contains other w ↔ Contains words w) → AreDriveWords M P drive words
      → AreDriveWords M P drive other
  table_again drive words other same t = record {
    each = λ w c. t.each w ((same w).0 c);
    all = λ w is b. (same w).1 (t.all w is b);
  }

-- ---- the first step of a word

below : (r : Ordering) → r ≡ Less → r ≡ Equal → ⊥
below r h k = cc

above : (r : Ordering) → r ≡ Greater → r ≡ Equal → ⊥
above r h k = cc

-- what a search in sorted steps answers
searched : (steps : List Step) (s : Step) → AreInOrder steps → (r : Result ℕ ℕ) → IsSearchInRange r (length steps)
    → IsBinarySearchResult (λ y. step_order.cmp y s) steps r → IsTrue (is_ok r) ↔ Contains steps s
searched steps s sorted (Ok i) bound found = (λ h. (i, bound, step_ties _ _ (found s)), λ c. refl)
searched steps s sorted (Err i) bound found = (
  λ h. absurd (false≢true h),
  λ (k, l, is).
      let cut = found (searchable_from_sorted step_total (λ (x : Step). x) steps s sorted) in
      let same : step_order.cmp (get_or steps k s) s ≡ Equal =
      subst (λ x. step_order.cmp x s ≡ Equal) (sym is) (tied_itself step_total s) in
      elim (before_or_behind k i) [
        | inl b ↦ absurd (below _ (cut.0 k s (omega arith) b) same)
        | inr b ↦ absurd (above _ (cut.1 k s b l) same)
      ],
)

pub found : (steps : List Step) (s : Step) → AreInOrder steps → (r : Result ℕ ℕ) → IsSearchInRange r (length steps)
    → IsBinarySearchResult (λ y. step_order.cmp y s) steps r → (b : Bool) → b ≡ is_ok r → IsTrue b ↔ Contains steps s
found steps s sorted r bound position b same =
    let f = searched steps s sorted r bound position in (λ h. f.0 (sym same ∙ h), λ c. same ∙ f.1 c)

pub first_on : (steps word : List Step) (s : Step) → slice_get word 0 ≡ Some s
    → Contains steps s ↔ BeginsOn steps word
first_on steps [] s e = cc
first_on steps (x ∷ word) s e =
    let is : x ≡ s = cc in (
      λ c. record { first = x; rest = word; is = refl; driven = subst (Contains steps) (sym is) c },
      λ b. subst (Contains steps) (same_head b.first x b.rest word (sym b.is) ∙ is) b.driven,
    )

pub none_first : (steps word : List Step) → slice_get word 0 ≡ None → BeginsOn steps word → ⊥
none_first steps [] e b = let f = b.is in cc
none_first steps (x ∷ word) e b = cc
