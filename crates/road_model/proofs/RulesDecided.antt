-- Whether a rule applies to a step is decided, since an object map is finite.
use Rattle.std.proofs.Common.{◌≡◌, ◌≢◌, ℕ, suc, zero, ◌+◌, ◌<◌, ◌≤◌, List, [], ◌∷◌, ◌++◌, length, ◌⊎◌, inl, inr, refl}
use Rattle.std.proofs.Common.{sym, ap, ◌∙◌, subst, arith, true, false, Option, Some, None, Ordering, IsTrue, IsFalse}
use Rattle.std.specs.declared.cmp.Ordering.TheVariants.{Less, Equal, Greater}
use Rattle.std.specs.Ordering.{is_le, is_gt, ordering_reverse}
use Rattle.std.specs.FinMap.{entries}
use Rattle.std.proofs.lemmas.Bool.{false≢true}
use Rattle.std.proofs.lemmas.Cmp.{upto, tied_itself}
use Rattle.road_base.specs.declared.ids.NodeId.{NodeId}
use Rattle.road_base.specs.declared.ids.RelationId.{RelationId}
use Rattle.road_base.specs.declared.ids.Step.{Step}
use Rattle.road_base.specs.declared.ids.Dir.{Dir}
use Rattle.road_base.specs.declared.ids.Dir.TheVariants.{Forward, Backward}
use Rattle.road_base.specs.declared.objects.Way.{Way}
use Rattle.road_base.specs.Objects.{Objects, way_of}
use Rattle.road_model.specs.declared.answers.ClosedBy.{ClosedBy}
use Rattle.road_model.specs.declared.answers.Access.{Access}
use Rattle.road_model.specs.declared.answers.Access.TheVariants.{Free, Closed as ClosedAccess}
use Rattle.road_model.specs.declared.answers.Access.TheVariants.{WrongWay as WrongWayAccess}
use Rattle.road_model.specs.Rules.{Rules}
use Rattle.road_model.specs.Lines.{line_of, tail_of, head_of}
use Rattle.road_model.specs.Driving.{located, shut, turning_place, Leaves, MayTurn, AtPlace, AtShut, AtDeadEnd}
use Rattle.road_model.specs.Words.{IsWord}
use Rattle.road_model.specs.Network.{Must}
use Rattle.road_model.specs.Orders.{relation_cmp}
use Rattle.road_model.specs.Broken.{LacksNode, AtTail, AtHead, IsAnswered, IsBehind, Meets, IsApart, PassesBarrier}
use Rattle.road_model.specs.Broken.{TurnsBack, EndsNoWord, LeavesOnlyWord, IsLeast}
use Rattle.ordered_lists.proofs.ListMembers.{In}
use Rattle.ordered_lists.proofs.Splits.{Ends, Nil, Last, ends, cons_not_nil}
use Rattle.ordered_lists.proofs.Decided.{Decided, decided_both, decided_not, decided_like, decided_true, decided_false}
use Rattle.ordered_lists.proofs.Decided.{some_in}
use Rattle.road_model.proofs.Positions.{decided_option, open_in, at_within, ways_in}
use Rattle.road_model.proofs.StepPlaces.{step}
use Rattle.road_model.proofs.OnePiece.{parts}
use Rattle.road_model.proofs.StepEnds.{some_located}
use Rattle.road_model.proofs.TotalOrders.{relation_cmp_total}
use Rattle.ordered_lists.proofs.Enumerated.{Finite, fin_none, fin_one, fin_or, fin_by, fin_if, fin_bind, fin_list}
use Rattle.ordered_lists.proofs.Enumerated.{fin_some, search_finite}
use Rattle.road_model.proofs.FiniteWords.{fin_pass, relations_in, visible_in, fin_words_of, More, more_decided}
use Rattle.road_model.proofs.FiniteWords.{decided_step}
use Rattle.road_model.proofs.BrokenRules.{one_answer, one_before}

decided_or : {A B : Type 0} → Decided A → Decided B → Decided (A ⊎ B)
decided_or (inl a) d = inl (inl a)
decided_or (inr n) (inl b) = inl (inr b)
decided_or (inr n) (inr m) = inr (λ h. elim h [ inl a ↦ n a | inr b ↦ m b ])

pub decided_upto : (a b : ℕ) → Decided (a ≤ b)
decided_upto a b = grind arith

-- whether nothing has the property
none_listed : {X : Type 0} {Q : X → Type 0} (l : List X) → ((x : X) → In x l → Q x) → ((x : X) → Q x → In x l)
    → Decided ((x : X) → Q x → ⊥)
none_listed [] sound complete = inl (λ x q. complete x q)
none_listed (a ∷ l) sound complete = inr (λ n. n a (sound a (inl refl)))

none_decided : {X : Type 0} {Q : X → Type 0} → Finite Q → Decided ((x : X) → Q x → ⊥)
none_decided f = none_listed f.list f.sound f.complete

pub fin_below : (n : ℕ) → Finite (λ i. i < n)
fin_below zero = fin_none (λ i l. omega arith)
fin_below (suc n) = fin_by (fin_or (fin_one n) (fin_below n))
    (λ i q. elim q [ inl e ↦ omega arith | inr l ↦ omega arith ]) (λ i l. grind arith)

-- ---- cuts of a list

no_parts : {X : Type 0} (a b : List X) → [] ≡ a ++ b → ◌≡◌ {A = List X × List X} (a, b) ([], [])
no_parts [] b e = ap (λ v. ([], v)) (sym e)
no_parts (x ∷ a) b e = cc

first_part : {X : Type 0} (x : X) (d a b : List X) → x ∷ d ≡ a ++ b
    → (◌≡◌ {A = List X × List X} (a, b) ([], x ∷ d))
    ⊎ ((z : List X × List X) × (d ≡ z.0 ++ z.1) × (◌≡◌ {A = List X × List X} (a, b) (x ∷ z.0, z.1)))
first_part x d [] b e = inl (ap (λ v. ([], v)) (sym e))
first_part x d (y ∷ a) b e = let f : y ≡ x = cc in inr ((a, b), cc, ap (λ v. (v ∷ a, b)) f)

fin_cuts : {X : Type 0} (d : List X) → Finite (λ (z : List X × List X). d ≡ z.0 ++ z.1)
fin_cuts [] = fin_by (fin_one ([], [])) (λ z e. sym (ap (λ y. y.0 ++ y.1) e)) (λ z e. no_parts z.0 z.1 e)
fin_cuts (x ∷ d) = fin_by (fin_or (fin_one ([], x ∷ d)) (fin_bind (fin_cuts d) (λ z. fin_one (x ∷ z.0, z.1))))
    (λ z h. elim h [
      | inl e ↦ sym (ap (λ y. y.0 ++ y.1) e)
      | inr r ↦ ap (λ v. x ∷ v) r.1
          ∙ sym (ap (λ y. y.0 ++ y.1) r.2)
    ])
    (λ z e. first_part x d z.0 z.1 e)

steps_more : (s : Step) (v : List Step) (t : Step) (u : List Step) → Decided (s ≡ t) → Decided (v ≡ u)
    → Decided (s ∷ v ≡ t ∷ u)
steps_more s v t u (inl e) (inl f) = inl (cc)
steps_more s v t u (inl e) (inr n) = inr (λ f. n (cc))
steps_more s v t u (inr n) d = inr (λ f. n (cc))

decided_steps : (v u : List Step) → Decided (v ≡ u)
decided_steps [] [] = inl refl
decided_steps [] (t ∷ u) = inr (λ e. cc)
decided_steps (s ∷ v) [] = inr (λ e. cc)
decided_steps (s ∷ v) (t ∷ u) = steps_more s v t u (decided_step s t) (decided_steps v u)

-- whether u goes on from v with x
GoesBy : List Step → Step → List Step → Type 0
GoesBy v x u = (rest : List Step) × (u ≡ v ++ x ∷ rest)

goes_more : (s : Step) (v : List Step) (x t : Step) (u : List Step) → Decided (s ≡ t) → Decided (GoesBy v x u)
    → Decided (GoesBy (s ∷ v) x (t ∷ u))
unfolding GoesBy
goes_more s v x t u (inl e) (inl m) = let f = m.1 in inl (m.0, cc (e, f))
goes_more s v x t u (inl e) (inr n) = inr (λ m. let f = m.1 in n (m.0, cc (f)))
goes_more s v x t u (inr n) d = inr (λ m. let f = m.1 in n (cc (f)))

goes_decided : (v : List Step) (x : Step) (u : List Step) → Decided (GoesBy v x u)
unfolding GoesBy
goes_decided [] x [] = inr (λ m. let f = m.1 in cc (f))
goes_decided [] x (t ∷ u) = decided_like (λ e. (u, ap (λ v. v ∷ u) (sym e))) (λ m. let f = m.1 in cc (f))
    (decided_step x t)
goes_decided (s ∷ v) x [] = inr (λ m. let f = m.1 in cc (f))
goes_decided (s ∷ v) x (t ∷ u) = goes_more s v x t u (decided_step s t) (goes_decided v x u)

-- ---- the least relation

unfoldable pub Upto : RelationId → RelationId → Type 0
Upto a b = IsTrue (is_le (relation_cmp a b))

-- of two relations one isn't above the other
either : (a b : RelationId) (r s : Ordering) → relation_cmp a b ≡ r → relation_cmp b a ≡ s → r ≡ ordering_reverse s
    → Upto a b ⊎ Upto b a
unfolding Upto
either a b Less s e f g = inl (ap is_le e)
either a b Equal s e f g = inl (ap is_le e)
either a b Greater Less e f g = inr (ap is_le f)
either a b Greater Equal e f g = inr (ap is_le f)
either a b Greater Greater e f g = cc

not_above : (r : Ordering) → IsTrue (is_le r) → is_gt r ≡ false
not_above Less h = refl
not_above Equal h = refl
not_above Greater h = absurd (false≢true h)

from_not_above : (r : Ordering) → is_gt r ≡ false → IsTrue (is_le r)
from_not_above Less h = refl
from_not_above Equal h = refl
from_not_above Greater h = absurd (false≢true (sym h))

pub through : (a b c : RelationId) → Upto a b → Upto b c → Upto a c
unfolding Upto
through a b c h k = from_not_above _ (upto relation_cmp_total a b c (not_above _ h) (not_above _ k))

pub itself : (a : RelationId) → Upto a a
unfolding Upto
itself a = ap is_le (tied_itself relation_cmp_total a)

module _ (Q : RelationId → Type 0) (each : (r : RelationId) → Decided (Q r)) where
  -- the least one of a list that has the property
  record LeastIn (xs : List RelationId) : Type 0 where
    r : RelationId
    has : Q r
    low : (q : RelationId) → In q xs → Q q → Upto r q

  NoneIn : List RelationId → Type 0
  NoneIn xs = (q : RelationId) → In q xs → Q q → ⊥

  least_of_two : (x : RelationId) (xs : List RelationId) → Q x → (l : LeastIn xs) → Upto x l.r ⊎ Upto l.r x
      → LeastIn (x ∷ xs)
  least_of_two x xs q l (inl h) = record {
    r = x;
    has = q;
    low = λ z i k. elim i
        [ inl e ↦ subst (Upto x) (sym e) (itself x) | inr j ↦ through x l.r z h (l.low z j k) ];
  }
  least_of_two x xs q l (inr h) = record {
    r = l.r;
    has = l.has;
    low = λ z i k. elim i
        [ inl e ↦ subst (Upto l.r) (sym e) h | inr j ↦ l.low z j k ];
  }

  least_more : (x : RelationId) (xs : List RelationId) → Decided (Q x) → LeastIn xs ⊎ NoneIn xs
      → LeastIn (x ∷ xs) ⊎ NoneIn (x ∷ xs)
  unfolding NoneIn
  least_more x xs (inl q) (inl l) = inl (least_of_two x xs q l
      (either x l.r _ _ refl refl (relation_cmp_total.antisymm x l.r)))
  least_more x xs (inl q) (inr n) = inl (record {
    r = x;
    has = q;
    low = λ z i k. elim i [
      | inl e ↦ subst (Upto x) (sym e) (itself x)
      | inr j
          ↦ absurd (n z j k)
    ];
  })
  least_more x xs (inr m) (inl l) = inl (record
      { r = l.r; has = l.has; low = λ z i k. elim i [ inl e ↦ absurd (m (subst Q e k)) | inr j ↦ l.low z j k ] })
  least_more x xs (inr m) (inr n) = inr (λ z i k. elim i [ inl e ↦ m (subst Q e k) | inr j ↦ n z j k ])

  least_in : (xs : List RelationId) → LeastIn xs ⊎ NoneIn xs
  unfolding NoneIn
  least_in [] = inr (λ q i k. i)
  least_in (x ∷ xs) = least_more x xs (each x) (least_in xs)

  -- where some relation of a list that has all has the property, one is the least of them
  least_decided : (xs : List RelationId) → ((r : RelationId) → Q r → In r xs)
      → ((r : RelationId) × IsLeast Q r) ⊎ ((r : RelationId) → Q r → ⊥)
  unfolding NoneIn Upto
  least_decided xs all = elim (least_in xs) [
    | inl l ↦ inl (l.r, record { holds = l.has; least = λ q k. l.low q (all q k) k })
    | inr n ↦ inr (λ r k. n r (all r k) k)
  ]

pub in_dirs : (d : Dir) → In d (Forward ∷ Backward ∷ [])
in_dirs Forward = inl refl
in_dirs Backward = inr (inl refl)

module _ (M : Objects) (P : Rules) where
  -- ---- nodes and ways

  pub lacks_decided : (s : Step) → Decided ((v : NodeId) × LacksNode M s v)
  lacks_decided s = decided_like
      (λ h. elim h [ inl t ↦ (t.0, AtTail t.1 t.2) | inr u ↦ (u.1.0, AtHead u.0 u.1.1 u.1.2) ])
      (λ h. lacking s h.0 h.1)
      (decided_or
      (search_finite (λ v. IsFalse (located M (Some v))) (fin_some (tail_of M s)) (λ v. decided_false _))
      (decided_both (decided_true _) (search_finite (λ v. IsFalse (located M (Some v))) (fin_some (head_of M s))
      (λ v. decided_false _))))
    where
      lacking : (s : Step) (v : NodeId) → LacksNode M s v
          → ((v : NodeId) × (tail_of M s ≡ Some v) × IsFalse (located M (Some v)))
          ⊎ (IsTrue (located M (tail_of M s)) × ((v : NodeId) × (head_of M s ≡ Some v) × IsFalse (located M (Some v))))
      lacking s v (AtTail e f) = inl (v, e, f)
      lacking s v (AtHead l e f) = inr (l, (v, e, f))

  answer_by : (s : Step) (o : Option Way) → way_of M s.way ≡ o
      → ((a : Access) × IsAnswered M P s a) ⊎ ((a : Access) → IsAnswered M P s a → ⊥)
  answer_by s None e = inr (λ a h. let f = h.visible in cc (e, f))
  answer_by s (Some w) e = inl (P.direction w.tags s.dir, record { way = w; visible = e; says = refl })

  -- what the profile answers of a step's way, if that is visible
  pub answer_of : (s : Step) → ((a : Access) × IsAnswered M P s a) ⊎ ((a : Access) → IsAnswered M P s a → ⊥)
  answer_of s = answer_by s (way_of M s.way) refl

  closed_by : (s : Step) (a : Access) → IsAnswered M P s a
      → Decided ((by : ClosedBy) × IsAnswered M P s (ClosedAccess by))
  closed_by s Free h = inr (λ k. let e = one_answer M P s _ _ h k.1 in cc (e))
  closed_by s (ClosedAccess by) h = inl (by, h)
  closed_by s WrongWayAccess h = inr (λ k. let e = one_answer M P s _ _ h k.1 in cc (e))

  pub closed_decided : (s : Step) → Decided ((by : ClosedBy) × IsAnswered M P s (ClosedAccess by))
  closed_decided s = elim (answer_of s) [ inl h ↦ closed_by s h.0 h.1 | inr n ↦ inr (λ k. n _ k.1) ]

  wrong_by : (s : Step) (a : Access) → IsAnswered M P s a → Decided (IsAnswered M P s WrongWayAccess)
  wrong_by s Free h = inr (λ k. let e = one_answer M P s _ _ h k in cc (e))
  wrong_by s (ClosedAccess by) h = inr (λ k. let e = one_answer M P s _ _ h k in cc (e))
  wrong_by s WrongWayAccess h = inl h

  pub wrong_decided : (s : Step) → Decided (IsAnswered M P s WrongWayAccess)
  wrong_decided s = elim (answer_of s) [ inl h ↦ wrong_by s h.0 h.1 | inr n ↦ inr (λ k. n _ k) ]

  -- ---- the step before

  fin_behind_of : (before : List Step) → Ends before → Finite (IsBehind before)
  fin_behind_of before (Nil n) = fin_none (λ x h. cons_not_nil h.0 x [] (sym h.1 ∙ n))
  fin_behind_of before (Last front y e) = fin_by (fin_one y) (λ x f. (front, e ∙ ap (λ v. front ++ v ∷ []) (sym f)))
      (λ x h. one_before before x y h (front, e))

  fin_behind : (before : List Step) → Finite (IsBehind before)
  fin_behind before = fin_behind_of before (ends before)

  fin_meets : (x s : Step) → Finite (Meets M x s)
  fin_meets x s = fin_by (fin_pass (λ v. tail_of M s ≡ Some v) (λ v. decided_option _ _) (fin_some (head_of M x)))
      (λ v h. record { from = h.1; to = h.0 }) (λ v m. (m.to, m.from))

  pub apart_decided : (before : List Step) (s : Step) → Decided (IsApart M before s)
  apart_decided before s = decided_like
      (λ h. record { last = h.0; behind = h.1; apart = h.2 })
      (λ h. (h.last, h.behind, h.apart))
      (search_finite (λ x. (v : NodeId) → Meets M x s v → ⊥) (fin_behind before) (λ x. none_decided (fin_meets x s)))

  pub barrier_decided : (before : List Step) (s : Step) → Decided ((v : NodeId) × PassesBarrier M P before s v)
  barrier_decided before s = decided_like
      (λ h. (h.2.0, record { last = h.0; behind = h.1; meets = h.2.1; on = h.2.2.0; barrier = h.2.2.1 }))
      (λ h. (h.1.last, h.1.behind, (h.0, h.1.meets, (h.1.on, h.1.barrier))))
      (search_finite (λ x. (v : NodeId) × Meets M x s v × ((head_of M s ≢ tail_of M x) × IsTrue (shut M P v)))
      (fin_behind before)
      (λ x. search_finite (λ v. (head_of M s ≢ tail_of M x) × IsTrue (shut M P v)) (fin_meets x s)
      (λ v. decided_both (decided_not (decided_option _ _)) (decided_true _))))

  -- ---- turning round

  leaves_decided : (v : NodeId) (s : Step) → Decided (Leaves M P v s)
  leaves_decided v s = decided_like (λ h. record { drives = h.0; tail = h.1 }) (λ h. (h.drives, h.tail))
      (decided_both (decided_true _) (decided_option _ _))

  fin_leaves : (v : NodeId) → Finite (Leaves M P v)
  fin_leaves v = fin_by
      (fin_bind (fin_list (ways_in (entries M)))
      (λ w. fin_bind (fin_list (Forward ∷ Backward ∷ []))
      (λ d. fin_bind (fin_below (length (line_of M w)))
      (λ i. fin_if (leaves_decided v (step w d i)) (λ l. fin_one (step w d i))))))
      (λ s h. subst (Leaves M P v) (sym h.2.2.2.1) h.2.2.2.0)
      (λ s l. let p = parts M P s.way s.dir s.index l.drives in
      let n = some_located M _ p.next in
      let within = at_within M s.way (s.index + 1) n.0 n.1 in
      (s.way, open_in M P s.way s.dir p.is_free, (s.dir, in_dirs s.dir, (s.index, omega arith, (l, refl)))))

  only_leaves : (v : NodeId) (s : Step) → Decided ((u : Step) → Leaves M P v u → u ≡ s)
  only_leaves v s = elim (search_finite (λ u. u ≡ s → ⊥) (fin_leaves v) (λ u. decided_not (decided_step u s))) [
    | inl h ↦ inr (λ all. h.2 (all h.0 h.1))
    | inr n ↦ inl (λ u l. elim (decided_step u s) [ inl e ↦ e | inr m ↦ absurd (n (u, l, m)) ])
  ]

  turns_by : (v : NodeId) (s : Step) → MayTurn M P v s
      → IsTrue (turning_place M P v) ⊎ (IsTrue (shut M P v) ⊎ (Leaves M P v s × ((u : Step) → Leaves M P v u → u ≡ s)))
  turns_by v s (AtPlace h) = inl h
  turns_by v s (AtShut h) = inr (inl h)
  turns_by v s (AtDeadEnd l h) = inr (inr (l, h))

  pub may_turn_decided : (v : NodeId) (s : Step) → Decided (MayTurn M P v s)
  may_turn_decided v s = decided_like
      (λ h. elim h [ inl a ↦ AtPlace a | inr k ↦ elim k [ inl b ↦ AtShut b | inr c ↦ AtDeadEnd c.0 c.1 ] ])
      (turns_by v s)
      (decided_or (decided_true _) (decided_or (decided_true _) (decided_both (leaves_decided v s) (only_leaves v s))))

  pub back_decided : (before : List Step) (s : Step) → Decided ((v : NodeId) × TurnsBack M P before s v)
  back_decided before s = decided_like
      (λ h. (h.2.0, record { last = h.0; behind = h.1; meets = h.2.1; back = h.2.2.0; may_not = h.2.2.1 }))
      (λ h. (h.1.last, h.1.behind, (h.0, h.1.meets, (h.1.back, h.1.may_not))))
      (search_finite (λ x. (v : NodeId) × Meets M x s v × ((head_of M s ≡ tail_of M x) × (MayTurn M P v s → ⊥)))
      (fin_behind before)
      (λ x. search_finite (λ v. (head_of M s ≡ tail_of M x) × (MayTurn M P v s → ⊥)) (fin_meets x s)
      (λ v. decided_both (decided_option _ _) (decided_not (may_turn_decided v s)))))

  -- ---- words

  ends_no_decided : (d : List Step) (r : RelationId) → Decided (EndsNoWord M P d r)
  ends_no_decided d r = decided_like
      (λ h. record {
        front = h.0.0;
        word = h.0.1;
        ends = h.1;
        binding = h.2.0.0;
        is = subst (IsWord M P r false h.2.0.0)
            h.2.2 h.2.1;
      })
      (λ e. ((e.front, e.word), e.ends, ((e.binding, e.word), e.is, refl)))
      (search_finite (λ z. (y : ℕ × List Step) × IsWord M P r false y.0 y.1 × (y.1 ≡ z.1)) (fin_cuts d)
      (λ z. search_finite (λ y. y.1 ≡ z.1) (fin_words_of M P r false) (λ y. decided_steps y.1 z.1)))

  -- the least relation with a No word that ends the drive
  pub least_no : (d : List Step) → ((r : RelationId) × IsLeast (EndsNoWord M P d) r)
      ⊎ ((r : RelationId) → EndsNoWord M P d r → ⊥)
  least_no d = least_decided (EndsNoWord M P d) (ends_no_decided d) (relations_in (entries M))
      (λ r e. visible_in M r e.is.body e.is.visible)

  Demands : List Step → Step → RelationId → Type 0
  Demands p x r = (y : ℕ × List Step) × IsWord M P r true y.0 y.1 × (GoesBy p x y.1 × (y.0 ≤ length p))

  demands_decided : (p : List Step) (x : Step) (r : RelationId) → Decided (Demands p x r)
  unfolding Demands
  demands_decided p x r = search_finite (λ y. GoesBy p x y.1 × (y.0 ≤ length p)) (fin_words_of M P r true)
      (λ y. decided_both (goes_decided p x y.1) (decided_upto _ _))

  pub must_decided : (p : List Step) (x : Step) → Decided (Must M P p x)
  unfolding Demands GoesBy
  must_decided p x = elim (some_in (Demands p x) (demands_decided p x) (relations_in (entries M))) [
    | inl h ↦ let y = h.2 in inl (record {
      binding = y.0.0;
      rest = y.2.0.0;
      word = record
          { relation = h.0; word = subst (IsWord M P h.0 true y.0.0) y.2.0.1 y.1 };
      bound = y.2.1;
    })
    | inr n ↦ inr (λ m. n m.word.relation (visible_in M m.word.relation m.word.word.body m.word.word.visible)
        ((m.binding, p ++ x ∷ m.rest), m.word.word, ((m.rest, refl), m.bound)))
  ]

  leaves_only_decided : (before : List Step) (s : Step) (r : RelationId) → Decided (LeavesOnlyWord M P before s r)
  leaves_only_decided before s r = decided_like
      (λ h. let y = h.2.1 in record {
        front = h.0.0;
        driven = h.0.1;
        ends = h.1;
        lacks = h.2.0;
        next = y.2.0.next;
        rest
            = y.2.0.rest;
        binding = y.0.0;
        word = subst (IsWord M P r true y.0.0) y.2.0.is y.1;
        bound = y.2.1;
      })
      (λ e. (
        (e.front, e.driven),
        e.ends,
        (
          e.lacks,
          (
            (e.binding, e.driven ++ e.next ∷ e.rest),
            e.word,
            (record { next = e.next; rest = e.rest; is = refl }, e.bound),
          ),
        ),
      ))
      (search_finite (λ z. (Must M P z.1 s → ⊥)
      × ((y : ℕ × List Step) × IsWord M P r true y.0 y.1 × (More z.1 y.1 × (y.0 ≤ length z.1)))) (fin_cuts before)
      (λ z. decided_both (decided_not (must_decided z.1 s))
      (search_finite (λ y. More z.1 y.1 × (y.0 ≤ length z.1)) (fin_words_of M P r true)
      (λ y. decided_both (more_decided z.1 y.1) (decided_upto _ _)))))

  -- the least relation with an Only word that the step leaves
  pub least_only : (before : List Step) (s : Step)
      → ((r : RelationId) × IsLeast (LeavesOnlyWord M P before s) r)
      ⊎ ((r : RelationId) → LeavesOnlyWord M P before s r → ⊥)
  least_only before s = least_decided (LeavesOnlyWord M P before s) (leaves_only_decided before s)
      (relations_in (entries M)) (λ r e. visible_in M r e.word.body e.word.visible)
