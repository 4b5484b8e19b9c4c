-- Which rules don't apply to a step, and a drive that breaks a rule at its last step, for maps worked out by hand.
use Rattle.std.proofs.Common.{◌≡◌, ℕ, ◌+◌, ◌≤◌, List, [], ◌∷◌, ◌++◌, length, refl, sym, ap, ◌∙◌, subst, arith, IsTrue}
use Rattle.std.proofs.lemmas.Bool.{false≢true}
use Rattle.road_base.specs.declared.ids.NodeId.{NodeId}
use Rattle.road_base.specs.declared.ids.RelationId.{RelationId}
use Rattle.road_base.specs.declared.ids.Step.{Step}
use Rattle.road_base.specs.Objects.{Objects}
use Rattle.road_model.specs.declared.answers.Access.TheVariants.{WrongWay as WrongWayAccess}
use Rattle.road_model.specs.Rules.{Rules}
use Rattle.road_model.specs.Lines.{names_pair, tail_of, head_of}
use Rattle.road_model.specs.Driving.{located, shut, MayTurn, Passes}
use Rattle.road_model.specs.Network.{Drives, Legal}
use Rattle.road_model.specs.Broken.{BrokenRule, NoStep, NoNode, Closed, WrongWay, Apart, Barrier, Reversal, No, place}
use Rattle.road_model.specs.Broken.{IsAnswered, IsBehind, Meets, EndsNoWord, Applies, Broken}
use Rattle.road_model.proofs.WalkLists.{inner_legal, step_legal}
use Rattle.road_model.proofs.BrokenRules.{one_answer, one_before}
use Rattle.road_model.proofs.FirstBroken.{lacks_none, none_applies}

pub one_or_more : (o : BrokenRule) → 1 ≤ place o
one_or_more NoStep = omega arith
one_or_more o = omega arith

module _ (M : Objects) (P : Rules) where
  -- the steps before, none or one, are legal
  pub none_before : (a b : List Step) → [] ≡ a ++ b → (a ≡ [] → ⊥) → Legal M P a
  none_before [] b e some = absurd (some refl)
  none_before (x ∷ a) b e some = cc

  pub one_before_legal : (x : Step) → Drives M P x → (a b : List Step) → x ∷ [] ≡ a ++ b → (a ≡ [] → ⊥) → Legal M P a
  one_before_legal x d a b e some = inner_legal M P [] a b some (subst (Legal M P) e (step_legal M P x d))

  module _ (before : List Step) (s : Step) where
    -- no rule with a place below n applies
    abbrev pub From : ℕ → Type 0
    From n = (o : BrokenRule) → Applies M P before s o → n ≤ place o

    pub broken : (rule : BrokenRule) → ((a b : List Step) → before ≡ a ++ b → (a ≡ [] → ⊥) → Legal M P a) →
        Applies M P before s rule → From (place rule) → Broken M P (before ++ s ∷ []) (length before + 1) rule
    broken rule legal applies first = record {
      before = before;
      step = s;
      behind = [];
      is = refl;
      counted = refl;
      legal = legal;
      illegal = λ l. none_applies M P before s l rule applies;
      applies = applies;
      first = first;
    }

    pub from_one : From 1
    from_one o h = one_or_more o

    pub from_two : IsTrue (names_pair M s) → From 2
    from_two named NoStep h = absurd (false≢true (sym h ∙ named))
    from_two named o h = omega arith

    module _ (named : IsTrue (names_pair M s)) (tail : IsTrue (located M (tail_of M s)))
        (head : IsTrue (located M (head_of M s))) where
      pub from_three : From 3
      from_three NoStep h = absurd (false≢true (sym h ∙ named))
      from_three (NoNode v) h = absurd (lacks_none M P s v tail head h)
      from_three o h = omega arith

      pub from_four : IsAnswered M P s WrongWayAccess → From 4
      from_four a NoStep h = absurd (false≢true (sym h ∙ named))
      from_four a (NoNode v) h = absurd (lacks_none M P s v tail head h)
      from_four a (Closed by) h = let e = one_answer M P s _ _ h a in cc (e)
      from_four a o h = omega arith

    module _ (drives : Drives M P s) where
      -- the first four rules apply to no step that may be driven
      pub from_five : From 5
      from_five NoStep h = absurd (none_applies M P [] s (step_legal M P s drives) NoStep h)
      from_five (NoNode v) h = absurd (none_applies M P [] s (step_legal M P s drives) (NoNode v) h)
      from_five (Closed by) h = absurd (none_applies M P [] s (step_legal M P s drives) (Closed by) h)
      from_five WrongWay h = absurd (none_applies M P [] s (step_legal M P s drives) WrongWay h)
      from_five o h = omega arith

      module _ (x : Step) (behind : IsBehind before x) where
        last_is : (y : Step) → IsBehind before y → x ≡ y
        last_is y b = one_before before x y behind b

        pub from_six : (v : NodeId) → Meets M x s v → From 6
        from_six v m Apart h = absurd (h.apart v (subst (λ y. Meets M y s v) (last_is h.last h.behind) m))
        from_six v m o h = let l = from_five o h in omega arith

        -- a reversal passes no barrier
        pub from_seven : (v : NodeId) → Meets M x s v → head_of M s ≡ tail_of M x → From 7
        from_seven v m back (Barrier w) h = absurd (h.on (back ∙ ap (λ y. tail_of M y) (last_is h.last h.behind)))
        from_seven v m back o h = let l = from_six v m o h in omega arith

        met : (p : Passes M P x s) (w : NodeId) (y : Step) → Meets M y s w → p.node ≡ w
        met p w y m = let f = p.to in let g = m.to in cc

        pub from_eight : Passes M P x s → From 8
        from_eight p (Barrier w) h =
            let on = p.on (λ e. h.on (e ∙ ap (λ y. tail_of M y) (last_is h.last h.behind))) in
            absurd (false≢true (sym on ∙ ap (shut M P) (met p w h.last h.meets) ∙ h.barrier))
        from_eight p (Reversal w) h =
            let turns = p.back (h.back ∙ sym (ap (λ y. tail_of M y) (last_is h.last h.behind))) in
            absurd (h.may_not (subst (λ v. MayTurn M P v s) (met p w h.last h.meets) turns))
        from_eight p o h = let l = from_six p.node (record { from = p.from; to = p.to }) o h in omega arith

        pub from_nine : Passes M P x s → ((r : RelationId) → EndsNoWord M P (before ++ s ∷ []) r → ⊥) → From 9
        from_nine p none (No r) h = absurd (none r h.holds)
        from_nine p none o h = let l = from_eight p o h in omega arith
