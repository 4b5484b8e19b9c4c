-- The visits of all steps of all words, each followed by that of the step behind.
use Rattle.std.proofs.Common.{◌≡◌, ℕ, zero, suc, ◌+◌, ◌-◌, ◌<◌, ◌≤◌, ◌⊎◌, ◌↔◌, inl, inr, List, [], ◌∷◌, ◌++◌, length}
use Rattle.std.proofs.Common.{drop, slice_get, Some, Contains, refl, sym, ap, subst, ◌∙◌, arith, append_assoc}
use Rattle.std.proofs.Common.{length-append}
use Rattle.std.proofs.lemmas.Option.{slice_get_within}
use Rattle.std.proofs.lemmas.List.{drop-append-le}
use Rattle.std.proofs.lemmas.List.Elements.{Contains-append_left, Contains-push, Contains-push_cases}
use Rattle.road_base.specs.declared.ids.Step.{Step}
use Rattle.restrictions.specs.declared.word_list.Word.{Word}
use Rattle.turn_automata.specs.declared.visits.Visit.{Visit}
use Rattle.turn_automata.specs.Trees.{Stands, IsGrownBy, IsClosed, Rises}
use Rattle.turn_automata.specs.Watched.{IsWatchable}
use Rattle.turn_automata.specs.Visits.{IsVisit, Reaches, AreVisits, IsLast, IsNext, AreFirst, AreFollowed}
use Rattle.turn_automata.specs.Work.{steps_of, work}
use Rattle.ordered_lists.proofs.ListPlaces.{stands_left, stands_cases, one_stands, contains_at, at_contains}

module _ {X : Type 0} where
  pub at_cut : (a : List X) (x : X) (b : List X) → slice_get (a ++ x ∷ b) (length a) ≡ Some x
  at_cut [] x b = refl
  at_cut (z ∷ a) x b = at_cut a x b

  pub same_cut : (a b c d : List X) → a ++ b ≡ c ++ d → length a ≡ length c → a ≡ c
  same_cut [] b [] d e l = refl
  same_cut [] b (y ∷ c) d e l = absurd (omega arith)
  same_cut (x ∷ a) b [] d e l = absurd (omega arith)
  same_cut (x ∷ a) b (y ∷ c) d e l = let r : a ≡ c = same_cut a b c d (cc) (omega arith) in cc

  pub drop_at : (xs : List X) (n : ℕ) (x : X) → slice_get xs n ≡ Some x → drop n xs ≡ x ∷ drop (n + 1) xs
  drop_at [] n x h = cc
  drop_at (z ∷ xs) zero x h = cc
  drop_at (z ∷ xs) (suc n) x h =
      let e : suc (n + 1) ≡ suc n + 1 = omega arith in
      drop_at xs n x h ∙ ap (λ m. x ∷ drop m (z ∷ xs)) e

grows_left : (ps qs : List (List Step)) (q : List Step) → IsGrownBy ps q qs → (m : ℕ) (p : List Step) → Stands ps m p
    → Stands qs m p
grows_left ps qs q (inl e) m p h = subst (λ v. Stands v m p) (sym e) h
grows_left ps qs q (inr e) m p h = subst (λ v. Stands v m p) (sym e) (stands_left ps (q ∷ []) m p h)

grown_cases : (ps qs : List (List Step)) (q : List Step) → IsGrownBy ps q qs → (m : ℕ) (p : List Step) → Stands qs m p
    → (Stands ps m p) ⊎ ((m ≡ length ps) × (p ≡ q))
grown_cases ps qs q (inl e) m p h = inl (subst (λ v. Stands v m p) e h)
grown_cases ps qs q (inr e) m p h = stands_cases ps q m p (subst (λ v. Stands v m p) e h)

pub visit_left : (W : List Word) (ps qs : List (List Step)) (q : List Step) → IsGrownBy ps q qs → (v : Visit)
    → IsVisit W ps v → IsVisit W qs v
visit_left W ps qs q g v is = record {
  word = is.word;
  of = is.of;
  before = is.before;
  next = is.next;
  rest = is.rest;
  steps = is.steps;
  depth = is.depth;
  at = grows_left ps qs q g v.state is.before is.at;
}

pub visit_length : (W : List Word) (ps : List (List Step)) (v : Visit) (is : IsVisit W ps v)
    → length is.word.steps ≡ v.depth + 1 + length is.rest
visit_length W ps v is =
    let l : length is.word.steps ≡ length is.before + suc (length is.rest) = ap length is.steps
    ∙ length-append is.before (is.next ∷ is.rest) in
    let d = is.depth in
    omega arith

-- the list of a visit is what stands before its step in the word
pub visit_list : (W : List Word) (ps : List (List Step)) (v : Visit) → IsVisit W ps v
    → (w : Word) (p : List Step) (x : Step) (rest : List Step) → slice_get W v.word ≡ Some w → w.steps ≡ p ++ x ∷ rest
    → v.depth ≡ length p → Stands ps v.state p
visit_list W ps v is w p x rest of e d =
    let same : is.word ≡ w = one_stands W v.word is.word w is.of of in
    let cut : is.before ≡ p = same_cut is.before (is.next ∷ is.rest) p (x ∷ rest)
    (sym is.steps ∙ ap (λ (z : Word). z.steps) same ∙ e) (is.depth ∙ d) in
    subst (Stands ps v.state) cut is.at

module _ (W : List Word) (ps qs : List (List Step)) (v : Visit) (is : IsVisit W ps v) (m : ℕ) (s : Step)
    (step : slice_get is.word.steps v.depth ≡ Some s)
    (number : (p : List Step) → Stands ps v.state p → Stands qs m (p ++ s ∷ []))
    (grown : (p : List Step) → Stands ps v.state p → IsGrownBy ps (p ++ s ∷ []) qs)
    (more : length is.word.steps ≡ v.depth + 1 → ⊥) where
  same_step : s ≡ is.next
  same_step =
      let here : slice_get is.word.steps v.depth ≡ Some is.next = ap (λ xs. slice_get xs v.depth) is.steps
      ∙ ap (slice_get (is.before ++ is.next ∷ is.rest)) (sym is.depth) ∙ at_cut is.before is.next is.rest in
      one_stands is.word.steps v.depth s is.next step here

  pub next_visit : IsNext W ps v qs (record { word = v.word; depth = v.depth + 1; state = m })
  next_visit = by is.rest refl
    where
      by : (r : List Step) → is.rest ≡ r → IsNext W ps v qs (record { word = v.word; depth = v.depth + 1; state = m })
      by [] e = absurd (more (visit_length W ps v is ∙ ap (λ r. v.depth + 1 + length r) e ∙ (omega arith)))
      by (y ∷ r) e = record {
        of = refl;
        depth = refl;
        is = record {
          word = is.word;
          of = is.of;
          before = is.before ++ is.next ∷ [];
          next = y;
          rest = r;
          steps = is.steps ∙ ap (λ z. is.before ++ is.next ∷ z) e ∙ sym (append_assoc is.before (is.next ∷ []) (y ∷ r));
          depth = length-append is.before (is.next ∷ []) ∙ ap (λ n. n + 1) is.depth;
          at = subst (λ z. Stands qs m (is.before ++ z ∷ [])) same_step (number is.before is.at);
        };
        grown = λ p st. subst (λ z. IsGrownBy ps z qs)
            (one_stands qs m (is.before ++ s ∷ []) p (number is.before is.at) st) (grown is.before is.at);
      }

below_cases : (j n : ℕ) → j < n + 1 → (j < n) ⊎ (j ≡ n)
below_cases j n h = grind arith

module _ (W : List Word) (ps : List (List Step)) (vs : List Visit) (n : ℕ) (old : AreFollowed W ps vs n) (v : Visit)
    (at : slice_get vs n ≡ Some v) where
  -- the visit was of a last step
  pub follow_last : IsLast W v → AreFollowed W ps vs (n + 1)
  follow_last last = record {
    sound = old.sound;
    begun = old.begun;
    followed = λ j x less here w of more. elim (below_cases j n less) [
      | inl l ↦ old.followed j x l here w of more
      | inr e ↦
          let same : x ≡ v = one_stands vs n x v (subst (λ i. slice_get vs i ≡ Some x) e here) at in
          let l : length w.steps ≡ v.depth + 1 = last w (subst (λ (y : Visit). slice_get W y.word ≡ Some w) same of) in
          let d : x.depth ≡ v.depth = ap (λ (y : Visit). y.depth) same in
          absurd (omega arith)
    ];
    watched = old.watched;
    rises = old.rises;
    order = old.order;
    near = λ x here u has.
        let a : u.depth ≤ v.depth + 1 = old.near v at u has in
        let b : v.depth ≤ x.depth = old.order n (n + 1) v x at here (omega arith) in
        omega arith;
    short = λ x here p has.
        let a : length p ≤ v.depth + 1 = old.short v at p has in
        let b : v.depth ≤ x.depth = old.order n (n + 1) v x at here (omega arith) in
        omega arith;
  }

  -- the step behind was visited too
  module _ (qs : List (List Step)) (u : Visit) (next : IsNext W ps v qs u) where
    grown : IsGrownBy ps next.is.before qs
    grown = next.grown next.is.before next.is.at

    list_length : length next.is.before ≡ v.depth + 1
    list_length = next.is.depth ∙ next.depth

    there : (p : List Step) → Contains qs p → (Contains ps p) ⊎ (p ≡ next.is.before)
    there p has =
        let i = at_contains qs p has in
        elim (grown_cases ps qs next.is.before grown i.0 p i.1)
        [ inl h ↦ inl (contains_at ps i.0 p h) | inr h ↦ inr h.1 ]

    reaches : (i k : ℕ) → Reaches vs i k → Reaches (vs ++ u ∷ []) i k
    reaches i k r = record {
      visit = r.visit;
      among = Contains-append_left vs (u ∷ []) r.visit r.among;
      of = r.of;
      at
          = r.at;
    }

    within : n < length vs
    within = slice_get_within vs n v at

    sound_more : (x : Visit) → Contains (vs ++ u ∷ []) x → IsVisit W qs x
    sound_more x has = elim (Contains-push_cases vs u x has) [
      | inl h ↦ visit_left W ps qs next.is.before grown x (old.sound x h)
      | inr e ↦ subst (IsVisit W qs) e next.is
    ]

    followed_more : (j : ℕ) (x : Visit) → j < n + 1 → slice_get (vs ++ u ∷ []) j ≡ Some x → (w : Word)
        → slice_get W x.word ≡ Some w → x.depth + 1 < length w.steps → Reaches (vs ++ u ∷ []) x.word (x.depth + 1)
    followed_more j x less here w of more = elim (stands_cases vs u j x here) [
      | inl h ↦ elim (below_cases j n less) [
        | inl l ↦ reaches x.word (x.depth + 1) (old.followed j x l h w of more)
        | inr e ↦
            let same : x ≡ v = one_stands vs n x v (subst (λ i. slice_get vs i ≡ Some x) e h) at in
            record {
              visit = u;
              among = Contains-push vs u;
              of = next.of ∙ ap (λ (y : Visit). y.word) (sym same);
              at = next.depth ∙ ap (λ (y : Visit). y.depth + 1) (sym same);
            }
      ]
      | inr h ↦ let e : j ≡ length vs = h.0 in let l = within in absurd (omega arith)
    ]

    watched_more : (p : List Step) → Contains qs p → IsWatchable W p
    watched_more p has = elim (there p has) [
      | inl h ↦ old.watched p h
      | inr e ↦ subst (IsWatchable W) (sym e) (inl
          (record {
            word = next.is.word;
            among = contains_at W u.word next.is.word next.is.of;
            next = next.is.next;
            rest
                = next.is.rest;
            is = next.is.steps;
          }))
    ]

    rises_more : Rises qs
    rises_more i j p q a b le = elim (grown_cases ps qs next.is.before grown i p a) [
      | inl h ↦ elim (grown_cases ps qs next.is.before grown j q b) [
        | inl k ↦ old.rises i j p q h k le
        | inr k ↦
            let low : length p ≤ v.depth + 1 = old.short v at p (contains_at ps i p h) in
            let l : length q ≡ length next.is.before = ap length k.1 in
            let m = list_length in
            omega arith
      ]
      | inr h ↦ elim (grown_cases ps qs next.is.before grown j q b) [
        | inl k ↦ let e : i ≡ length ps = h.0 in let l : j < length ps = slice_get_within ps j q k in absurd
            (omega arith)
        | inr k ↦ let l : length p ≡ length q = ap length (h.1 ∙ sym k.1) in omega arith
      ]
    ]

    order_more : (j k : ℕ) (x y : Visit) → slice_get (vs ++ u ∷ []) j ≡ Some x → slice_get (vs ++ u ∷ []) k ≡ Some y
        → j ≤ k → x.depth ≤ y.depth
    order_more j k x y a b le = elim (stands_cases vs u j x a) [
      | inl h ↦ elim (stands_cases vs u k y b) [
        | inl i ↦ old.order j k x y h i le
        | inr i ↦
            let near : x.depth ≤ v.depth + 1 = old.near v at x (contains_at vs j x h) in
            let d : y.depth ≡ u.depth = ap (λ (z : Visit). z.depth) i.1 in
            let m = next.depth in
            omega arith
      ]
      | inr h ↦ elim (stands_cases vs u k y b) [
        | inl i ↦ let e : j ≡ length vs = h.0 in let l : k < length vs = slice_get_within vs k y i in absurd
            (omega arith)
        | inr i ↦ let d : x.depth ≡ y.depth = ap (λ (z : Visit). z.depth) (h.1 ∙ sym i.1) in omega arith
      ]
    ]

    later : (x : Visit) → slice_get (vs ++ u ∷ []) (n + 1) ≡ Some x → v.depth ≤ x.depth
    later x here = order_more n (n + 1) v x (stands_left vs (u ∷ []) n v at) here (omega arith)

    near_more : (x : Visit) → slice_get (vs ++ u ∷ []) (n + 1) ≡ Some x → (y : Visit) → Contains (vs ++ u ∷ []) y
        → y.depth ≤ x.depth + 1
    near_more x here y has = elim (Contains-push_cases vs u y has) [
      | inl h ↦ let a : y.depth ≤ v.depth + 1 = old.near v at y h in let b = later x here in omega arith
      | inr e ↦ let d : u.depth ≡ y.depth = ap (λ (z : Visit). z.depth) e in let m = next.depth in let b = later x here
          in omega arith
    ]

    short_more : (x : Visit) → slice_get (vs ++ u ∷ []) (n + 1) ≡ Some x → (p : List Step) → Contains qs p
        → length p ≤ x.depth + 1
    short_more x here p has = elim (there p has) [
      | inl h ↦ let a : length p ≤ v.depth + 1 = old.short v at p h in let b = later x here in omega arith
      | inr e ↦ let l : length p ≡ length next.is.before = ap length e in let m = list_length in let b = later x here
          in omega arith
    ]

    pub follow_next : AreFollowed W qs (vs ++ u ∷ []) (n + 1)
    follow_next = record {
      sound = sound_more;
      begun = λ i w of some. reaches i 0 (old.begun i w of some);
      followed = followed_more;
      watched = watched_more;
      rises = rises_more;
      order = order_more;
      near = near_more;
      short = short_more;
    }

work-append : (W : List Word) (vs us : List Visit) → work W (vs ++ us) ≡ work W vs + work W us
work-append W [] us = omega arith
work-append W (v ∷ vs) us = let i = work-append W vs us in omega arith

steps_left : (W : List Word) (ps : List (List Step)) (v : Visit) (is : IsVisit W ps v)
    → steps_of (slice_get W v.word) ≡ v.depth + 1 + length is.rest
steps_left W ps v is = ap steps_of is.of ∙ visit_length W ps v is

module _ (W : List Word) (ps : List (List Step)) (vs : List Visit) (n : ℕ) (v : Visit) (at : slice_get vs n ≡ Some v)
    (is : IsVisit W ps v) where
  work_here : work W (drop n vs) ≡ steps_of (slice_get W v.word) - v.depth + work W (drop (n + 1) vs)
  work_here = ap (work W) (drop_at vs n v at)

  pub less_work : work W (drop (n + 1) vs) < work W (drop n vs)
  less_work = let h = work_here in let l = steps_left W ps v is in omega arith

  pub less_work_next : (us : List Visit) (u : Visit) → us ≡ vs ++ u ∷ [] → u.word ≡ v.word → u.depth ≡ v.depth + 1
      → work W (drop (n + 1) us) < work W (drop n vs)
  less_work_next us u e of depth =
      let h = work_here in
      let l = steps_left W ps v is in
      let w : n < length vs = slice_get_within vs n v at in
      let d : work W (drop (n + 1) us) ≡ work W (drop (n + 1) vs) + (steps_of (slice_get W u.word) - u.depth + 0) = ap
      (λ z. work W (drop (n + 1) z)) e ∙ ap (work W) (drop-append-le (n + 1) vs (u ∷ []) (omega arith))
      ∙ work-append W (drop (n + 1) vs) (u ∷ []) in
      let s : steps_of (slice_get W u.word) ≡ steps_of (slice_get W v.word) = ap (λ i. steps_of (slice_get W i)) of in
      omega arith

reaches_more : (vs : List Visit) (u : Visit) (i k : ℕ) → Reaches vs i k → Reaches (vs ++ u ∷ []) i k
reaches_more vs u i k r = record {
  visit = r.visit;
  among = Contains-append_left vs (u ∷ []) r.visit r.among;
  of = r.of;
  at = r.at;
}

-- the first step of one more word
pub first_more : (W : List Word) (vs us : List Visit) (n : ℕ) (w : Word) → AreFirst W vs n → slice_get W n ≡ Some w
    → 0 < length w.steps → us ≡ vs ++ record { word = n; depth = 0; state = 0 } ∷ [] → AreFirst W us (n + 1)
first_more W vs us n w old of some e = subst (λ z. AreFirst W z (n + 1)) (sym e) (record {
  sound = λ v has. elim (Contains-push_cases vs new v has) [
    | inl h ↦ old.sound v h
    | inr q ↦ subst (λ (z : Visit). (y : Word) × (slice_get W z.word ≡ Some y) × (0 < length y.steps) × (z.depth ≡ 0)
        × (z.state ≡ 0)) q (w, of, some, refl, refl)
  ];
  complete = λ i y less at more. elim (below_cases i n less) [
    | inl l ↦ reaches_more vs new i 0 (old.complete i y l at more)
    | inr q ↦ record { visit = new; among = Contains-push vs new; of = sym q; at = refl }
  ];
})
  where
    new : Visit
    new = record { word = n; depth = 0; state = 0 }

first_step : (xs : List Step) → 0 < length xs → (x : Step) × (r : List Step) × (xs ≡ x ∷ r)
first_step [] h = absurd (omega arith)
first_step (x ∷ r) h = (x, r, refl)

module _ (W : List Word) (ps : List (List Step)) (alone : ps ≡ [] ∷ []) (vs : List Visit)
    (first : AreFirst W vs (length W)) where
  only_empty : (m : ℕ) (p : List Step) → Stands ps m p → p ≡ []
  only_empty m p st = by m (subst (λ v. Stands v m p) alone st)
    where
      by : (i : ℕ) → Stands ([] ∷ []) i p → p ≡ []
      by zero h = cc
      by (suc i) h = cc

  start_sound : (v : Visit) → Contains vs v → IsVisit W ps v
  start_sound v has =
      let f = first.sound v has in
      let s = first_step f.0.steps f.2 in
      record {
        word = f.0;
        of = f.1;
        before = [];
        next = s.0;
        rest = s.1;
        steps = s.2;
        depth = sym f.3;
        at = subst (λ i. Stands ps i []) (sym f.4) (subst (λ v. Stands v 0 []) (sym alone) refl);
      }

  no_depth : (v : Visit) → Contains vs v → v.depth ≡ 0
  no_depth v has = (first.sound v has).3

  pub starts : AreFollowed W ps vs 0
  starts = record {
    sound = start_sound;
    begun = λ i w of some. first.complete i w (slice_get_within W i w of) of some;
    followed = λ j x less. absurd (omega arith);
    watched = λ p has. let i = at_contains ps p has in inr (only_empty i.0 p i.1);
    rises = λ i j p q a b le. let l : length p ≡ 0 = ap length (only_empty i p a) in omega arith;
    order = λ j k x y a b le. let d : x.depth ≡ 0 = no_depth x (contains_at vs j x a) in omega arith;
    near = λ x here y has. let d : y.depth ≡ 0 = no_depth y has in omega arith;
    short = λ x here p has. let i = at_contains ps p has in let l : length p
        ≡ 0 = ap length (only_empty i.0 p i.1) in omega arith;
  }

module _ (W : List Word) (ps : List (List Step)) (closed : IsClosed ps) (vs : List Visit) (n : ℕ)
    (all : AreFollowed W ps vs n) (done : length vs ≤ n) where
  one_more : (i k word depth : ℕ) → word ≡ i → depth ≡ k → Reaches vs word (depth + 1) → Reaches vs i (suc k)
  one_more i k word depth of at r =
      let e : depth + 1 ≡ suc k = omega arith in
      record { visit = r.visit; among = r.among; of = r.of ∙ of; at = r.at ∙ e }

  behind : (i : ℕ) (w : Word) (k : ℕ) → slice_get W i ≡ Some w → suc k < length w.steps → Reaches vs i k
      → Reaches vs i (suc k)
  behind i w k of h r =
      let at = at_contains vs r.visit r.among in
      let low : at.0 < length vs = slice_get_within vs at.0 r.visit at.1 in
      let d : r.visit.depth ≡ k = r.at in
      one_more i k r.visit.word r.visit.depth r.of d
      (all.followed at.0 r.visit (omega arith) at.1 w (ap (slice_get W) r.of ∙ of) (omega arith))

  reached : (i : ℕ) (w : Word) (k : ℕ) → slice_get W i ≡ Some w → k < length w.steps → Reaches vs i k
  reached i w zero of h = all.begun i w of h
  reached i w (suc k) of h = behind i w k of h (reached i w k of (omega arith))

  pub all_visits : AreVisits W ps vs
  all_visits = record { sound = all.sound; complete = reached }

  there_if : (p : List Step) → IsWatchable W p → Contains ps p
  there_if p (inr e) = subst (Contains ps) (sym e) (contains_at ps 0 [] closed.empty)
  there_if p (inl k) =
      let i = at_contains W k.word k.among in
      let l : length k.word.steps ≡ length p + suc (length k.rest) = ap length k.is
      ∙ length-append p (k.next ∷ k.rest) in
      let r = reached i.0 k.word (length p) i.1 (omega arith) in
      let v = r.visit in
      contains_at ps v.state p (visit_list W ps v (all.sound v r.among) k.word p k.next k.rest
      (ap (slice_get W) r.of ∙ i.1) k.is r.at)

  pub all_lists : (p : List Step) → Contains ps p ↔ IsWatchable W p
  all_lists p = (all.watched p, there_if p)
