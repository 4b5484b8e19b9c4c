-- A drive that isn't legal breaks some rule first.
use Rattle.std.proofs.Common.{◌≡◌, ℕ, suc, ◌+◌, ◌<◌, ◌≤◌, List, [], ◌∷◌, ◌++◌, length, ◌⊎◌, inl, inr, refl, sym, ap}
use Rattle.std.proofs.Common.{◌∙◌, subst, arith, Option, Some, None, IsTrue, IsFalse, append_assoc, append-nil}
use Rattle.std.proofs.lemmas.Bool.{false≢true, false_from_ne_true, true_from_ne_false, ltb-true}
use Rattle.std.proofs.lemmas.Option.{slice_get_cases}
use Rattle.road_base.specs.declared.ids.NodeId.{NodeId}
use Rattle.road_base.specs.declared.ids.WayId.{WayId}
use Rattle.road_base.specs.declared.ids.RelationId.{RelationId}
use Rattle.road_base.specs.declared.ids.Step.{Step}
use Rattle.road_base.specs.declared.ids.Dir.{Dir}
use Rattle.road_base.specs.declared.ids.Dir.TheVariants.{Forward, Backward}
use Rattle.road_base.specs.declared.objects.Way.{Way}
use Rattle.road_base.specs.Objects.{Objects, way_of}
use Rattle.road_model.specs.declared.answers.ClosedBy.{ClosedBy}
use Rattle.road_model.specs.declared.answers.Access.{Access}
use Rattle.road_model.specs.declared.answers.Access.TheVariants.{Free, Closed as ClosedAccess}
use Rattle.road_model.specs.declared.answers.Access.TheVariants.{WrongWay as WrongWayAccess}
use Rattle.road_model.specs.Rules.{Rules, is_free}
use Rattle.road_model.specs.Lines.{line_of, node_at, names_pair, end_at, tail_of, head_of, changes, refs_of}
use Rattle.road_model.specs.Lines.{tail_position, head_position}
use Rattle.road_model.specs.Driving.{is_open, open_way, located, shut, MayTurn, Passes}
use Rattle.road_model.specs.Network.{Drives, Legal, GoesOn}
use Rattle.road_model.specs.Broken.{BrokenRule, NoStep, NoNode, Closed, WrongWay, Apart, Barrier, Reversal, No, Only}
use Rattle.road_model.specs.Broken.{place, LacksNode, AtTail, AtHead, IsAnswered, IsBehind, Meets, IsApart}
use Rattle.road_model.specs.Broken.{PassesBarrier, TurnsBack, EndsNoWord, LeavesOnlyWord, IsLeast, Applies, Broken}
use Rattle.ordered_lists.proofs.Decided.{Decided, decided_false, decided_like}
use Rattle.road_model.proofs.Positions.{decided_option, decided_number}
use Rattle.road_model.proofs.OnePiece.{parts, from_parts}
use Rattle.road_model.proofs.WalkLists.{inner_legal, step_legal}
use Rattle.road_model.proofs.JoinedPieces.{one_more}
use Rattle.road_model.proofs.StepEnds.{named_end, drives_named}
use Rattle.road_model.proofs.BrokenRules.{broken_illegal}
use Rattle.road_model.proofs.RulesDecided.{lacks_decided, closed_decided, wrong_decided, apart_decided, barrier_decided}
use Rattle.road_model.proofs.RulesDecided.{may_turn_decided, back_decided, least_no, must_decided, least_only}

decided_least : {Q : RelationId → Type 0} → ((r : RelationId) × IsLeast Q r) ⊎ ((r : RelationId) → Q r → ⊥)
    → Decided ((r : RelationId) × IsLeast Q r)
decided_least (inl h) = inl h
decided_least (inr n) = inr (λ h. n h.0 h.1.holds)

places : (o : BrokenRule) → (1 ≤ place o) × (place o ≤ 9)
places NoStep = (omega arith, omega arith)
places (NoNode v) = (omega arith, omega arith)
places (Closed by) = (omega arith, omega arith)
places WrongWay = (omega arith, omega arith)
places Apart = (omega arith, omega arith)
places (Barrier v) = (omega arith, omega arith)
places (Reversal v) = (omega arith, omega arith)
places (No r) = (omega arith, omega arith)
places (Only r) = (omega arith, omega arith)

-- ---- what holds of a drivable step

some_at : (M : Objects) (w : WayId) (k : ℕ) → k < length (line_of M w) → (v : NodeId) × (node_at M w k ≡ Some v)
unfolding node_at
some_at M w k l = elim ((slice_get_cases (line_of M w) k).1)
    [ inl r ↦ (r.0, r.2) | inr n ↦ absurd (let f = n.0 in omega arith) ]

module _ (M : Objects) (P : Rules) where
  tail_within : (d : Dir) (k n : ℕ) → k + 1 < n → tail_position d k < n
  tail_within Forward k n l = omega arith
  tail_within Backward k n l = l

  head_within : (d : Dir) (k n : ℕ) → k + 1 < n → head_position d k < n
  head_within Forward k n l = l
  head_within Backward k n l = omega arith

  end_within : (s : Step) (i : ℕ) → IsTrue (names_pair M s) → i < length (line_of M s.way)
      → (v : NodeId) × (end_at M s i ≡ Some v)
  end_within s i h l = let n = some_at M s.way i l in (n.0, named_end M s i h ∙ n.1)

  -- a step that names a pair has both nodes
  ends_of_pair : (s : Step) → IsTrue (names_pair M s)
      → ((v : NodeId) × (tail_of M s ≡ Some v)) × ((w : NodeId) × (head_of M s ≡ Some w))
  unfolding names_pair
  ends_of_pair s h =
      let l = ltb-true _ _ h in (
        end_within s (tail_position s.dir s.index) h (tail_within s.dir s.index _ l),
        end_within s (head_position s.dir s.index) h (head_within s.dir s.index _ l),
      )

  both_located : (w : WayId) (d : Dir) (k : ℕ) → IsTrue (located M (node_at M w k))
      → IsTrue (located M (node_at M w (k + 1)))
      → IsTrue (located M (node_at M w (tail_position d k))) × IsTrue (located M (node_at M w (head_position d k)))
  both_located w Forward k a b = (a, b)
  both_located w Backward k a b = (b, a)

  drives_located : (s : Step) → Drives M P s → IsTrue (located M (tail_of M s)) × IsTrue (located M (head_of M s))
  drives_located s d =
      let p = parts M P s.way s.dir s.index d in
      let n = drives_named M P s d in
      let b = both_located s.way s.dir s.index p.here p.next in
      (rw (named_end M s (tail_position s.dir s.index) n) b.0, rw (named_end M s (head_position s.dir s.index) n) b.1)

  drives_free : (s : Step) (a : Access) → Drives M P s → IsAnswered M P s a → IsTrue (is_free a)
  unfolding is_open
  drives_free s a d h = ap is_free (sym h.says) ∙ ap (λ o. open_way P o s.dir) (sym h.visible)
      ∙ (parts M P s.way s.dir s.index d).is_free

  pub lacks_none : (s : Step) (v : NodeId) → IsTrue (located M (tail_of M s)) → IsTrue (located M (head_of M s))
      → LacksNode M s v → ⊥
  lacks_none s v a b (AtTail e f) = false≢true (sym f ∙ ap (located M) (sym e) ∙ a)
  lacks_none s v a b (AtHead l e f) = false≢true (sym f ∙ ap (located M) (sym e) ∙ b)

  same_node_of : (o : Option NodeId) (v w : NodeId) → o ≡ Some v → o ≡ Some w → v ≡ w
  same_node_of o v w e f = cc

  -- ---- no rule applies to the last step of a legal drive
  module _ (before : List Step) (s : Step) (l : Legal M P (before ++ s ∷ [])) where
    drives_last : Drives M P s
    drives_last = l.drives before s [] refl

    passes_last : (x : Step) → IsBehind before x → Passes M P x s
    passes_last x b = l.follows b.0 x s [] (ap (λ v. v ++ s ∷ []) b.1 ∙ append_assoc b.0 (x ∷ []) (s ∷ []))

    pub none_applies : (a : BrokenRule) → Applies M P before s a → ⊥
    none_applies NoStep h = false≢true (sym h ∙ drives_named M P s drives_last)
    none_applies (NoNode v) h = let d = drives_located s drives_last in lacks_none s v d.0 d.1 h
    none_applies (Closed by) h = false≢true (drives_free s (ClosedAccess by) drives_last h)
    none_applies WrongWay h = false≢true (drives_free s WrongWayAccess drives_last h)
    none_applies Apart h = let p = passes_last h.last h.behind in h.apart p.node (record { from = p.from; to = p.to })
    none_applies (Barrier v) h =
        let p = passes_last h.last h.behind in
        let e = same_node_of _ p.node v p.to h.meets.to in
        false≢true (sym (p.on h.on) ∙ ap (shut M P) e ∙ h.barrier)
    none_applies (Reversal v) h =
        let p = passes_last h.last h.behind in
        let e = same_node_of _ p.node v p.to h.meets.to in
        h.may_not (subst (λ w. MayTurn M P w s) e (p.back h.back))
    none_applies (No r) h =
        let w = h.holds in
        l.no w.front w.word [] (w.ends ∙ ap (λ v. w.front ++ v) (sym (append-nil w.word)))
        (record { relation = r; binding = w.binding; word = w.is })
    none_applies (Only r) h =
        let w = h.holds in
        w.lacks (l.only w.front w.driven s [] (ap (λ v. v ++ s ∷ []) w.ends ∙ append_assoc w.front w.driven (s ∷ []))
        w.next (record {
          binding = w.binding;
          rest = w.rest;
          word = record { relation = r; word = w.word };
          bound
              = w.bound;
        }))

  free_by : (s : Step) (w : Way) (a : Access) → way_of M s.way ≡ Some w → P.direction w.tags s.dir ≡ a
      → ((by : ClosedBy) → IsAnswered M P s (ClosedAccess by) → ⊥) → (IsAnswered M P s WrongWayAccess → ⊥)
      → IsTrue (is_free a)
  free_by s w Free e f c n = refl
  free_by s w (ClosedAccess by) e f c n = absurd (c by (record { way = w; visible = e; says = f }))
  free_by s w WrongWayAccess e f c n = absurd (n (record { way = w; visible = e; says = f }))

  open_by : (s : Step) (o : Option Way) → way_of M s.way ≡ o → s.index + 1 < length (changes (refs_of o))
      → ((by : ClosedBy) → IsAnswered M P s (ClosedAccess by) → ⊥) → (IsAnswered M P s WrongWayAccess → ⊥)
      → IsTrue (open_way P o s.dir)
  open_by s None e l c n = absurd (omega arith)
  open_by s (Some w) e l c n = free_by s w _ e refl c n

  open_of_pair : (s : Step) → IsTrue (names_pair M s) → ((by : ClosedBy) → IsAnswered M P s (ClosedAccess by) → ⊥)
      → (IsAnswered M P s WrongWayAccess → ⊥) → IsTrue (is_open M P s.way s.dir)
  unfolding names_pair line_of is_open
  open_of_pair s h c n = open_by s (way_of M s.way) refl (ltb-true _ _ h) c n

  along : (w : WayId) (d : Dir) (k : ℕ) → IsTrue (located M (node_at M w (tail_position d k)))
      → IsTrue (located M (node_at M w (head_position d k)))
      → IsTrue (located M (node_at M w k)) × IsTrue (located M (node_at M w (k + 1)))
  along w Forward k a b = (a, b)
  along w Backward k a b = (b, a)

  -- ---- a step to which no rule applies may be driven
  module _ (before : List Step) (s : Step) (none : (a : BrokenRule) → Applies M P before s a → ⊥) where
    pair : IsTrue (names_pair M s)
    pair = true_from_ne_false _ (λ e. none NoStep e)

    tail_located : IsTrue (located M (tail_of M s))
    tail_located = let t = (ends_of_pair s pair).0 in true_from_ne_false _
        (λ f. none (NoNode t.0) (AtTail t.1 (ap (located M) (sym t.1) ∙ f)))

    head_located : IsTrue (located M (head_of M s))
    head_located = let t = (ends_of_pair s pair).1 in true_from_ne_false _
        (λ f. none (NoNode t.0) (AtHead tail_located t.1 (ap (located M) (sym t.1) ∙ f)))

    drives : Drives M P s
    drives =
        let t = subst (λ o. IsTrue (located M o)) (named_end M s (tail_position s.dir s.index) pair) tail_located in
        let h = subst (λ o. IsTrue (located M o)) (named_end M s (head_position s.dir s.index) pair) head_located in
        let a = along s.way s.dir s.index t h in
        from_parts M P s.way s.dir s.index (open_of_pair s pair (λ by h. none (Closed by) h) (λ h. none WrongWay h)) a.0
        a.1

    passes : (x : Step) (front : List Step) → before ≡ front ++ x ∷ [] → Passes M P x s
    passes x front e =
        let t = (ends_of_pair s pair).0 in
        elim (decided_option (head_of M x) (tail_of M s)) [
          | inl q ↦ let m : Meets M x s t.0 = record { from = q ∙ t.1; to = t.1 } in record {
            node = t.0;
            from = m.from;
            to = m.to;
            back = λ b. elim (may_turn_decided M P t.0 s) [
              | inl k ↦ k
              | inr n ↦ absurd (none (Reversal t.0)
                  (record { last = x; behind = (front, e); meets = m; back = b; may_not = n }))
            ];
            on = λ o. false_from_ne_true _ (λ k. none (Barrier t.0)
                (record { last = x; behind = (front, e); meets = m; on = o; barrier = k }));
          }
          | inr n ↦ absurd (none Apart (record { last = x; behind = (front, e); apart = λ v m. n (m.from ∙ sym m.to) }))
        ]

    goes : GoesOn M P before s
    goes = record {
      passes = λ a x e. passes x a e;
      no = λ a u e w. elim (least_no M P (before ++ s ∷ [])) [
        | inl r ↦ none (No r.0) r.1
        | inr n ↦ n w.relation (record { front = a; word = u; ends = e; binding = w.binding; is = w.word })
      ];
      only = λ a p e x m. elim (must_decided M P p s) [
        | inl k ↦ k
        | inr l ↦ absurd (elim (least_only M P before s) [
          | inl r ↦ none (Only r.0) r.1
          | inr n ↦ n m.word.relation (record {
            front = a;
            driven = p;
            ends = e;
            lacks = l;
            next = x;
            rest = m.rest;
            binding = m.binding;
            word = m.word.word;
            bound = m.bound;
          })
        ])
      ];
    }

  -- ---- the rules are looked at in their order
  module _ (before : List Step) (s : Step) where
    record First : Type 0 where
      rule : BrokenRule
      is : Applies M P before s rule
      low : (o : BrokenRule) → Applies M P before s o → place rule ≤ place o

    -- none before the i-th applies
    From : ℕ → Type 0
    From i = (o : BrokenRule) → Applies M P before s o → i ≤ place o

    -- the i-th applies
    record At (i : ℕ) : Type 0 where
      rule : BrokenRule
      at : place rule ≡ i
      is : Applies M P before s rule

    next : (i : ℕ) → From i → Decided (At i) → First ⊎ From (suc i)
    unfolding From
    next i f (inl h) = inl (record {
      rule = h.rule;
      is = h.is;
      low = λ o k. let l = f o k in let e = h.at in omega
          arith;
    })
    next i f (inr n) = inr (λ o k. let l = f o k in elim (decided_number (place o) i)
        [ inl e ↦ absurd (n (record { rule = o; at = e; is = k })) | inr m ↦ grind arith ])

    or_next : (i : ℕ) → First ⊎ From i → Decided (At i) → First ⊎ From (suc i)
    or_next i (inl h) d = inl h
    or_next i (inr f) d = next i f d

    what_one : (o : BrokenRule) → place o ≡ 1 → Applies M P before s o → IsFalse (names_pair M s)
    what_one NoStep e h = h
    what_one o e h = absurd (omega arith)

    at_one : Decided (At 1)
    at_one = decided_like (λ h. record { rule = NoStep; at = refl; is = h }) (λ a. what_one a.rule a.at a.is)
        (decided_false _)

    what_two : (o : BrokenRule) → place o ≡ 2 → Applies M P before s o → (v : NodeId) × LacksNode M s v
    what_two (NoNode v) e h = (v, h)
    what_two o e h = absurd (omega arith)

    at_two : Decided (At 2)
    at_two = decided_like (λ h. record { rule = NoNode h.0; at = refl; is = h.1 }) (λ a. what_two a.rule a.at a.is)
        (lacks_decided M P s)

    what_three : (o : BrokenRule) → place o ≡ 3 → Applies M P before s o
        → (by : ClosedBy) × IsAnswered M P s (ClosedAccess by)
    what_three (Closed by) e h = (by, h)
    what_three o e h = absurd (omega arith)

    at_three : Decided (At 3)
    at_three = decided_like (λ h. record { rule = Closed h.0; at = refl; is = h.1 }) (λ a. what_three a.rule a.at a.is)
        (closed_decided M P s)

    what_four : (o : BrokenRule) → place o ≡ 4 → Applies M P before s o → IsAnswered M P s WrongWayAccess
    what_four WrongWay e h = h
    what_four o e h = absurd (omega arith)

    at_four : Decided (At 4)
    at_four = decided_like (λ h. record { rule = WrongWay; at = refl; is = h }) (λ a. what_four a.rule a.at a.is)
        (wrong_decided M P s)

    what_five : (o : BrokenRule) → place o ≡ 5 → Applies M P before s o → IsApart M before s
    what_five Apart e h = h
    what_five o e h = absurd (omega arith)

    at_five : Decided (At 5)
    at_five = decided_like (λ h. record { rule = Apart; at = refl; is = h }) (λ a. what_five a.rule a.at a.is)
        (apart_decided M P before s)

    what_six : (o : BrokenRule) → place o ≡ 6 → Applies M P before s o → (v : NodeId) × PassesBarrier M P before s v
    what_six (Barrier v) e h = (v, h)
    what_six o e h = absurd (omega arith)

    at_six : Decided (At 6)
    at_six = decided_like (λ h. record { rule = Barrier h.0; at = refl; is = h.1 }) (λ a. what_six a.rule a.at a.is)
        (barrier_decided M P before s)

    what_seven : (o : BrokenRule) → place o ≡ 7 → Applies M P before s o → (v : NodeId) × TurnsBack M P before s v
    what_seven (Reversal v) e h = (v, h)
    what_seven o e h = absurd (omega arith)

    at_seven : Decided (At 7)
    at_seven = decided_like (λ h. record { rule = Reversal h.0; at = refl; is = h.1 })
        (λ a. what_seven a.rule a.at a.is) (back_decided M P before s)

    what_eight : (o : BrokenRule) → place o ≡ 8 → Applies M P before s o
        → (r : RelationId) × IsLeast (EndsNoWord M P (before ++ s ∷ [])) r
    what_eight (No r) e h = (r, h)
    what_eight o e h = absurd (omega arith)

    at_eight : Decided (At 8)
    at_eight = decided_like (λ h. record { rule = No h.0; at = refl; is = h.1 }) (λ a. what_eight a.rule a.at a.is)
        (decided_least (least_no M P (before ++ s ∷ [])))

    what_nine : (o : BrokenRule) → place o ≡ 9 → Applies M P before s o
        → (r : RelationId) × IsLeast (LeavesOnlyWord M P before s) r
    what_nine (Only r) e h = (r, h)
    what_nine o e h = absurd (omega arith)

    at_nine : Decided (At 9)
    at_nine = decided_like (λ h. record { rule = Only h.0; at = refl; is = h.1 }) (λ a. what_nine a.rule a.at a.is)
        (decided_least (least_only M P before s))

    from_one : From 1
    unfolding From
    from_one o h = (places o).0

    all_nine : First ⊎ From 10
    all_nine = or_next 9 (or_next 8 (or_next 7
        (or_next 6 (or_next 5 (or_next 4 (or_next 3 (or_next 2 (or_next 1 (inr from_one) at_one) at_two) at_three)
        at_four) at_five) at_six) at_seven) at_eight) at_nine

    nothing : From 10 → (o : BrokenRule) → Applies M P before s o → ⊥
    unfolding From
    nothing f o h = let l = f o h in let k = (places o).1 in omega arith

    -- the first rule that applies, or that none does
    some_first : First ⊎ ((o : BrokenRule) → Applies M P before s o → ⊥)
    some_first = elim all_nine [ inl h ↦ inl h | inr f ↦ inr (nothing f) ]

  -- the steps before are legal, if there are any
  Begun : List Step → Type 0
  Begun before = (before ≡ []) ⊎ Legal M P before

  longer : (before : List Step) (s : Step) → Begun before → ((a : BrokenRule) → Applies M P before s a → ⊥)
      → Legal M P (before ++ s ∷ [])
  unfolding Begun
  longer before s (inl e) n = subst (λ v. Legal M P (v ++ s ∷ [])) (sym e) (step_legal M P s (drives before s n))
  longer before s (inr l) n = one_more M P before s l (drives before s n) (goes before s n)

  fronts : (before : List Step) → Begun before → (a b : List Step) → before ≡ a ++ b → (a ≡ [] → ⊥) → Legal M P a
  unfolding Begun
  fronts before (inl e) [] b f n = absurd (n refl)
  fronts before (inl e) (x ∷ a) b f n = cc
  fronts before (inr l) a b f n = inner_legal M P [] a b n (subst (Legal M P) f l)

  LegalOrBroken : List Step → Type 0
  LegalOrBroken d = Legal M P d ⊎ ((k : ℕ) × (a : BrokenRule) × Broken M P d k a)

  search_rest : (d before behind : List Step) → d ≡ before ++ behind → Begun before → (d ≡ [] → ⊥) → LegalOrBroken d
  unfolding Begun LegalOrBroken
  search_rest d before [] e (inl f) some = absurd (some (e ∙ append-nil before ∙ f))
  search_rest d before [] e (inr l) some = inl (subst (Legal M P) (sym (e ∙ append-nil before)) l)
  search_rest d before (s ∷ behind) e b some = elim (some_first before s) [
    | inl h ↦ inr (
      length before + 1,
      h.rule,
      record {
        before = before;
        step = s;
        behind = behind;
        is = e;
        counted = refl;
        legal = fronts before b;
        illegal = λ l. none_applies before s l h.rule h.is;
        applies = h.is;
        first = h.low;
      },
    )
    | inr m ↦ search_rest d (before ++ s ∷ []) behind (e
        ∙ sym (append_assoc before (s ∷ []) behind)) (inr (longer before s b m)) some
  ]

  pub some_broken : (d : List Step) → (d ≡ [] → ⊥) → (Legal M P d → ⊥) → (k : ℕ) × (a : BrokenRule) × Broken M P d k a
  unfolding Begun LegalOrBroken
  some_broken d some n = elim (search_rest d [] d refl (inl refl) some) [ inl l ↦ absurd (n l) | inr b ↦ b ]

  -- whether a list of steps is legal is decided
  pub legal_decided : (d : List Step) → Decided (Legal M P d)
  unfolding Begun LegalOrBroken
  legal_decided [] = inr (λ l. l.not_empty refl)
  legal_decided (s ∷ d) = elim (search_rest (s ∷ d) [] (s ∷ d) refl (inl refl) (λ e. cc)) [
    | inl l ↦ inl l
    | inr b ↦ inr (λ l. broken_illegal M P (s ∷ d) b.0 b.1 b.2 l)
  ]
