-- The first rule that a step alone, or behind the one before it, breaks.
use Rattle.std.proofs.Common.{◌≡◌, ℕ, ◌+◌, ◌<◌, List, [], ◌∷◌, ◌++◌, length, refl, sym, ap}
use Rattle.std.proofs.Common.{◌∙◌, subst, arith, Option, Some, None, IfSome, IfNone, Bool, true, false, IsTrue, IsFalse}
use Rattle.std.proofs.Common.{cond, not, int_eq, append_assoc}
use Rattle.std.proofs.lemmas.Bool.{false≢true, true_from_ne_false, and_parts, and_from, ltb-true, lt-ltb}
use Rattle.std.proofs.lemmas.Bool.Decides.{Decides-int_eq}
use Rattle.std.proofs.lemmas.Option.{slice_get_within}
use Rattle.road_base.specs.declared.ids.NodeId.{NodeId}
use Rattle.road_base.specs.declared.ids.WayId.{WayId}
use Rattle.road_base.specs.declared.ids.Step.{Step}
use Rattle.road_base.specs.declared.ids.Dir.{Dir}
use Rattle.road_base.specs.declared.ids.Dir.TheVariants.{Forward, Backward}
use Rattle.road_base.specs.declared.objects.Way.{Way}
use Rattle.road_base.specs.Objects.{Objects, way_of}
use Rattle.road_model.specs.declared.answers.Access.{Access}
use Rattle.road_model.specs.declared.answers.Access.TheVariants.{Free, Closed as ClosedAccess}
use Rattle.road_model.specs.declared.answers.Access.TheVariants.{WrongWay as WrongWayAccess}
use Rattle.road_model.specs.Rules.{Rules, is_free}
use Rattle.road_model.specs.Lines.{line_of, node_at, names_pair, end_at, tail_of, head_of, changes, refs_of}
use Rattle.road_model.specs.Lines.{tail_position, head_position}
use Rattle.road_model.specs.Driving.{is_open, open_way, located, drivable, shut, MayTurn, Passes}
use Rattle.road_model.specs.Network.{Legal}
use Rattle.road_model.specs.Broken.{NoStep, NoNode, Closed, WrongWay, Apart, Barrier, Reversal}
use Rattle.road_model.specs.Broken.{AtTail, AtHead, IsAnswered, IsBehind, Meets}
use Rattle.drive_judging.specs.Verdicts.{broken_rule}
use Rattle.drive_judging.specs.Judging.{From, Breaks, Follows, closing}
use Rattle.road_model.proofs.StepEnds.{some_located}
use Rattle.road_model.proofs.BrokenRules.{one_before, one_answer}
use Rattle.road_model.proofs.BrokenSteps.{one_or_more}
use Rattle.road_model.proofs.FirstBroken.{lacks_none}

not_true : (b : Bool) → not b ≡ false → b ≡ true
not_true true h = refl
not_true false h = absurd (false≢true (sym h))

not_false : (b : Bool) → not b ≡ true → b ≡ true → ⊥
not_false true h k = false≢true h
not_false false h k = false≢true k

pub node_is : (a b : NodeId) → a.0 ≡ b.0 → a ≡ b
node_is a b e = λ i. record { 0 = e i }

pub same_node : (a b : NodeId) → not (int_eq a.0 b.0) ≡ false → a ≡ b
same_node a b h = node_is a b ((Decides-int_eq a.0 b.0).0 (not_true _ h))

pub other_node : (a b : NodeId) → not (int_eq a.0 b.0) ≡ true → a ≡ b → ⊥
other_node a b h e = not_false _ h ((Decides-int_eq a.0 b.0).1 (ap (λ (n : NodeId). n.0) e))

pub both_some : (o p : Option NodeId) (a b v : NodeId) → o ≡ Some a → p ≡ Some b → o ≡ Some v → p ≡ Some v → a ≡ b
both_some o p a b v e f h k = cc

if_named : (b : Bool) (o : Option NodeId) (v : NodeId) → cond b o None ≡ Some v → IsTrue b
if_named true o v e = refl
if_named false o v e = cc

-- ---- the parts of a step that may be driven

module _ (M : Objects) (s : Step) where
  pub at_named : (i : ℕ) → IsTrue (names_pair M s) → end_at M s i ≡ node_at M s.way i
  unfolding end_at
  at_named i named = ap (λ b. cond b (node_at M s.way i) None) named

  pub end_named : (i : ℕ) (v : NodeId) → end_at M s i ≡ Some v → IsTrue (names_pair M s)
  unfolding end_at
  end_named i v e = if_named (names_pair M s) (node_at M s.way i) v e

  named_by_next : (v : NodeId) → node_at M s.way (s.index + 1) ≡ Some v → IsTrue (names_pair M s)
  unfolding names_pair node_at
  named_by_next v e = lt-ltb _ _ (slice_get_within (line_of M s.way) (s.index + 1) v e)

  -- a step that names no pair begins and ends nowhere
  pub begins_nowhere : IsFalse (names_pair M s) → (v : NodeId) → tail_of M s ≡ Some v → ⊥
  begins_nowhere none v e = false≢true (sym none ∙ end_named (tail_position s.dir s.index) v e)

  pub ends_nowhere : IsFalse (names_pair M s) → (v : NodeId) → head_of M s ≡ Some v → ⊥
  ends_nowhere none v e = false≢true (sym none ∙ end_named (head_position s.dir s.index) v e)

-- whether a step goes back to where the one before began, by the nodes
module _ (M : Objects) (last s : Step) (from to : NodeId) (is_from : tail_of M last ≡ Some from)
    (is_to : head_of M s ≡ Some to) where
  pub goes_back : int_eq to.0 from.0 ≡ true → head_of M s ≡ tail_of M last
  goes_back h = is_to ∙ ap Some (node_is to from ((Decides-int_eq to.0 from.0).0 h)) ∙ sym is_from

  pub goes_elsewhere : int_eq to.0 from.0 ≡ false → head_of M s ≡ tail_of M last → ⊥
  goes_elsewhere h e =
      let both : Some to ≡ Some from = sym is_to ∙ e ∙ is_from in
      let same : to ≡ from = cc in
      false≢true (sym h ∙ (Decides-int_eq to.0 from.0).1 (ap (λ (n : NodeId). n.0) same))

-- a step that goes on follows the one before exactly where the node between them isn't shut
module _ (M : Objects) (P : Rules) (last s : Step) (v : NodeId) (to : tail_of M s ≡ Some v)
    (on : head_of M s ≡ tail_of M last → ⊥) where
  pub shut_stops : IsTrue (shut M P v) → Passes M P last s → ⊥
  shut_stops h p =
      let both : Some p.node ≡ Some v = sym p.to ∙ to in
      let same : p.node ≡ v = cc in
      false≢true (sym (p.on on) ∙ ap (shut M P) same ∙ h)

pub open_passes : (M : Objects) (P : Rules) (last s : Step) (v : NodeId) → head_of M last ≡ Some v
    → tail_of M s ≡ Some v → (head_of M s ≡ tail_of M last → ⊥) → IsFalse (shut M P v) → Passes M P last s
open_passes M P last s v from to on h = record
    { node = v; from = from; to = to; back = λ e. absurd (on e); on = λ n. h }

both_located : (M : Objects) (w : WayId) (d : Dir) (k : ℕ) → IsTrue (located M (node_at M w k))
    → IsTrue (located M (node_at M w (k + 1)))
    → IsTrue (located M (node_at M w (tail_position d k))) × IsTrue (located M (node_at M w (head_position d k)))
both_located M w Forward k a b = (a, b)
both_located M w Backward k a b = (b, a)

both_along : (M : Objects) (w : WayId) (d : Dir) (k : ℕ) → IsTrue (located M (node_at M w (tail_position d k)))
    → IsTrue (located M (node_at M w (head_position d k)))
    → IsTrue (located M (node_at M w k)) × IsTrue (located M (node_at M w (k + 1)))
both_along M w Forward k a b = (a, b)
both_along M w Backward k a b = (b, a)

-- the step names a pair, both its nodes are located, and its way is open in its direction
record HasParts (M : Objects) (P : Rules) (s : Step) : Type 0 where
  named : IsTrue (names_pair M s)
  tail : IsTrue (located M (tail_of M s))
  head : IsTrue (located M (head_of M s))
  opens : IsTrue (is_open M P s.way s.dir)

module _ (M : Objects) (P : Rules) where
  parts_of : (s : Step) → IsTrue (drivable M P s) → HasParts M P s
  unfolding drivable
  parts_of s d =
      let p = and_parts _ _ d in
      let q = and_parts _ _ p.1 in
      let next = some_located M _ q.1 in
      let n = named_by_next M s next.0 next.1 in
      let b = both_located M s.way s.dir s.index q.0 q.1 in
      record {
        named = n;
        tail = subst (λ o. IsTrue (located M o)) (sym (at_named M s (tail_position s.dir s.index) n)) b.0;
        head = subst (λ o. IsTrue (located M o)) (sym (at_named M s (head_position s.dir s.index) n)) b.1;
        opens = p.0;
      }

  drives_by : (s : Step) → HasParts M P s → IsTrue (drivable M P s)
  unfolding drivable
  drives_by s h =
      let t = subst (λ o. IsTrue (located M o)) (at_named M s (tail_position s.dir s.index) h.named) h.tail in
      let u = subst (λ o. IsTrue (located M o)) (at_named M s (head_position s.dir s.index) h.named) h.head in
      let b = both_along M s.way s.dir s.index t u in
      and_from _ _ h.opens (and_from _ _ b.0 b.1)

  answer_by : (s : Step) (o : Option Way) → way_of M s.way ≡ o → s.index + 1 < length (changes (refs_of o))
      → (a : Access) × IsAnswered M P s a
  answer_by s None e l = absurd (omega arith)
  answer_by s (Some w) e l = (P.direction w.tags s.dir, record { way = w; visible = e; says = refl })

  -- a step that names a pair lies on a visible way
  pub answer_of : (s : Step) → IsTrue (names_pair M s) → (a : Access) × IsAnswered M P s a
  unfolding names_pair line_of
  answer_of s h = answer_by s (way_of M s.way) refl (ltb-true _ _ h)

  open_by : (s : Step) (a : Access) → IsAnswered M P s a → is_open M P s.way s.dir ≡ is_free a
  unfolding is_open
  open_by s a h = ap (λ o. open_way P o s.dir) h.visible ∙ ap is_free h.says

  -- ---- which rules don't apply

  from_two : (before : List Step) (s : Step) → IsTrue (names_pair M s) → From M P before s 2
  from_two before s named NoStep h = absurd (false≢true (sym h ∙ named))
  from_two before s named o h = omega arith

  module _ (before : List Step) (s : Step) where
    from_three : IsTrue (names_pair M s) → IsTrue (located M (tail_of M s)) → IsTrue (located M (head_of M s))
        → From M P before s 3
    from_three named tail head NoStep h = absurd (false≢true (sym h ∙ named))
    from_three named tail head (NoNode v) h = absurd (lacks_none M P s v tail head h)
    from_three named tail head o h = omega arith

    from_four : IsTrue (names_pair M s) → IsTrue (located M (tail_of M s)) → IsTrue (located M (head_of M s))
        → IsAnswered M P s WrongWayAccess → From M P before s 4
    from_four named tail head a NoStep h = absurd (false≢true (sym h ∙ named))
    from_four named tail head a (NoNode v) h = absurd (lacks_none M P s v tail head h)
    from_four named tail head a (Closed by) h = let e = one_answer M P s _ _ h a in cc (e)
    from_four named tail head a o h = omega arith

    not_free : (a : Access) → is_free a ≡ false → IsTrue (drivable M P s) → IsAnswered M P s a → ⊥
    not_free a f d h = false≢true (sym f ∙ sym (open_by s a h) ∙ (parts_of s d).opens)

    pub from_five : IsTrue (drivable M P s) → From M P before s 5
    from_five d NoStep h = absurd (false≢true (sym h ∙ (parts_of s d).named))
    from_five d (NoNode v) h = let p = parts_of s d in absurd (lacks_none M P s v p.tail p.head h)
    from_five d (Closed by) h = absurd (not_free (ClosedAccess by) refl d h)
    from_five d WrongWay h = absurd (not_free WrongWayAccess refl d h)
    from_five d o h = omega arith

    last_drives : Legal M P (before ++ s ∷ []) → IsTrue (drivable M P s)
    last_drives l = l.drives before s [] refl

    -- ---- the rules on a step alone

    pub breaks_no_step : IsFalse (names_pair M s) → Breaks M P before s NoStep
    breaks_no_step h = record {
      applies = h;
      first = λ o k. one_or_more o;
      illegal = λ l. false≢true (sym h ∙ (parts_of s (last_drives l)).named);
    }

    pub breaks_tail : (v : NodeId) → tail_of M s ≡ Some v → IsFalse (located M (Some v))
        → Breaks M P before s (NoNode v)
    breaks_tail v e f = record {
      applies = AtTail e f;
      first = from_two before s (end_named M s (tail_position s.dir s.index) v e);
      illegal = λ l. false≢true (sym f ∙ ap (located M) (sym e) ∙ (parts_of s (last_drives l)).tail);
    }

    pub breaks_head : (v w : NodeId) → tail_of M s ≡ Some v → IsTrue (located M (Some v)) → head_of M s ≡ Some w
        → IsFalse (located M (Some w)) → Breaks M P before s (NoNode w)
    breaks_head v w t l e f = record {
      applies = AtHead (ap (located M) t ∙ l) e f;
      first = from_two before s (end_named M s (head_position s.dir s.index) w e);
      illegal = λ k. false≢true (sym f ∙ ap (located M) (sym e) ∙ (parts_of s (last_drives k)).head);
    }

  module _ (s : Step) (v w : NodeId) (is_tail : tail_of M s ≡ Some v) (is_head : head_of M s ≡ Some w)
      (tail_at : IsTrue (located M (Some v))) (head_at : IsTrue (located M (Some w))) where
    named_here : IsTrue (names_pair M s)
    named_here = end_named M s (tail_position s.dir s.index) v is_tail

    tail_here : IsTrue (located M (tail_of M s))
    tail_here = ap (located M) is_tail ∙ tail_at

    head_here : IsTrue (located M (head_of M s))
    head_here = ap (located M) is_head ∙ head_at

    closing_some : (a : Access) → IsAnswered M P s a
        → IfSome (closing a) (λ rule. (before : List Step) → Breaks M P before s (broken_rule rule))
    closing_some Free h = tt
    closing_some (ClosedAccess by) h = λ before. record {
      applies = h;
      first = from_three before s named_here tail_here head_here;
      illegal = λ l. not_free before s (ClosedAccess by) refl (last_drives before s l) h;
    }
    closing_some WrongWayAccess h = λ before. record {
      applies = h;
      first = from_four before s named_here tail_here head_here h;
      illegal = λ l. not_free before s WrongWayAccess refl (last_drives before s l) h;
    }

    closing_none : (a : Access) → IsAnswered M P s a → IfNone (closing a) (IsTrue (drivable M P s))
    closing_none Free h = drives_by s
        (record { named = named_here; tail = tail_here; head = head_here; opens = open_by s Free h })
    closing_none (ClosedAccess by) h = tt
    closing_none WrongWayAccess h = tt

    -- ---- what the profile answers of a step with both nodes
    pub closes : (r : Option _) → ((a : Access) → IsAnswered M P s a → r ≡ closing a)
        → IfSome r (λ rule. (before : List Step) → Breaks M P before s (broken_rule rule))
        × IfNone r (IsTrue (drivable M P s))
    closes r says =
        let a = answer_of s named_here in
        let e = says a.0 a.1 in (
          subst (λ o. IfSome o (λ rule. (before : List Step) → Breaks M P before s (broken_rule rule))) (sym e)
              (closing_some a.0 a.1),
          subst (λ o. IfNone o (IsTrue (drivable M P s))) (sym e) (closing_none a.0 a.1),
        )

  -- ---- the rules on a step and the one before it

  module _ (before : List Step) (last s : Step) (drives : IsTrue (drivable M P s)) (behind : IsBehind before last) where
    follows_last : Legal M P (before ++ s ∷ []) → Passes M P last s
    follows_last l = l.follows behind.0 last s []
        (ap (λ v. v ++ s ∷ []) behind.1 ∙ append_assoc behind.0 (last ∷ []) (s ∷ []))

    pub breaks_apart : ((v : NodeId) → Meets M last s v → ⊥) → Breaks M P before s Apart
    breaks_apart n = record {
      applies = record { last = last; behind = behind; apart = n };
      first = from_five before s drives;
      illegal = λ l. let p = follows_last l in n p.node (record { from = p.from; to = p.to });
    }

    module _ (v : NodeId) (meets : Meets M last s v) (stops : Passes M P last s → ⊥) where
      from_six : From M P before s 6
      from_six Apart h = absurd (h.apart v
          (subst (λ y. Meets M y s v) (one_before before last h.last behind h.behind) meets))
      from_six o h = let l = from_five before s drives o h in omega arith

      from_seven : head_of M s ≡ tail_of M last → From M P before s 7
      from_seven back (Barrier w) h = absurd (h.on
          (back ∙ ap (λ y. tail_of M y) (one_before before last h.last behind h.behind)))
      from_seven back o h = let l = from_six o h in omega arith

      pub breaks_back : head_of M s ≡ tail_of M last → Breaks M P before s (Reversal v)
      breaks_back back = record {
        applies = record {
          last = last;
          behind = behind;
          meets = meets;
          back = back;
          may_not = λ t. stops (record
              { node = v; from = meets.from; to = meets.to; back = λ e. t; on = λ o. absurd (o back) });
        };
        first = from_seven back;
        illegal = λ l. stops (follows_last l);
      }

      pub breaks_on : (head_of M s ≡ tail_of M last → ⊥) → Breaks M P before s (Barrier v)
      breaks_on on = record {
        applies = record {
          last = last;
          behind = behind;
          meets = meets;
          on = on;
          barrier = true_from_ne_false _ (λ f. stops (record
              { node = v; from = meets.from; to = meets.to; back = λ e. absurd (on e); on = λ o. f }));
        };
        first = from_six;
        illegal = λ l. stops (follows_last l);
      }

  met : (x y s : Step) (p : Passes M P x s) (w : NodeId) → Meets M y s w → p.node ≡ w
  met x y s p w m = let f = p.to in let g = m.to in cc

  -- the first seven rules don't apply to a step that may be driven and may follow the one before
  pub from_eight : (before : List Step) (s : Step) → Follows M P before s → From M P before s 8
  from_eight before s f Apart h =
      let p = f.passes h.last h.behind in absurd (h.apart p.node (record { from = p.from; to = p.to }))
  from_eight before s f (Barrier w) h =
      let p = f.passes h.last h.behind in
      absurd (false≢true (sym (p.on h.on) ∙ ap (shut M P) (met h.last h.last s p w h.meets) ∙ h.barrier))
  from_eight before s f (Reversal w) h =
      let p = f.passes h.last h.behind in
      absurd (h.may_not (subst (λ v. MayTurn M P v s) (met h.last h.last s p w h.meets) (p.back h.back)))
  from_eight before s f o h = let l = from_five before s f.drives o h in omega arith
