-- Whether a state's steps may be driven is told by those of the state before, and by what the words near a way stop.
use Rattle.std.proofs.Common.{◌≡◌, ◌↔◌, List, [], ◌∷◌, ◌++◌, refl, sym, ap, ◌∙◌, subst, true, false, IsTrue, Option}
use Rattle.std.proofs.Common.{Some, None, Contains}
use Rattle.std.specs.Prelude.{is_some}
use Rattle.std.proofs.lemmas.Bool.{false≢true}
use Rattle.std.proofs.lemmas.List.Elements.{Contains-append_left}
use Rattle.road_base.specs.declared.ids.WayId.{WayId}
use Rattle.road_base.specs.declared.ids.Step.{Step}
use Rattle.road_base.specs.Objects.{Objects}
use Rattle.road_model.specs.Rules.{Rules}
use Rattle.road_model.specs.Driving.{drivable, Passes}
use Rattle.road_model.specs.Network.{Legal, GoesOn}
use Rattle.restrictions.specs.declared.word_list.Word.{Word}
use Rattle.turn_automata.specs.declared.automaton.State.{State}
use Rattle.turn_automata.specs.Watched.{Stops}
use Rattle.expanded_graph.specs.Near.{IsStepNear}
use Rattle.expanded_graph.specs.Known.{IsDriven}
use Rattle.ordered_lists.proofs.Splits.{cons_not_nil}
use Rattle.expanded_graph.proofs.StopsNear.{LongWords, tells_near, goes_on_near}

is_some_from : (o : Option State) → (o ≡ None → ⊥) → IsTrue (is_some o)
is_some_from None n = absurd (n refl)
is_some_from (Some s) n = refl

not_none : (o : Option State) → IsTrue (is_some o) → o ≡ None → ⊥
not_none o t e = false≢true (sym (ap is_some e) ∙ t)

module _ (M : Objects) (P : Rules) where
  -- the laws of legal drives
  pub record DriveLaws : Type 0 where
    pub alone : (s : Step) → IsTrue (drivable M P s) → Legal M P (s ∷ [])
    pub grows : (d : List Step) (t : Step) → Legal M P d → IsTrue (drivable M P t)
        → GoesOn M P d t ↔ Legal M P (d ++ t ∷ [])
    pub parts : (before d behind : List Step) → (d ≡ [] → ⊥) → Legal M P (before ++ (d ++ behind)) → Legal M P d
    pub long : LongWords M P

  module _ (W : List Word) (p : List Step) (x : Step) where
    -- a step that may not be driven
    pub shut_step : drivable M P x ≡ false → IsDriven M P W (p ++ x ∷ []) false
    shut_step shut w near all = (λ e. absurd (false≢true e), λ l. absurd (false≢true (sym shut ∙ l.drives p x [] refl)))

    module _ (laws : DriveLaws) where
      -- one step alone
      pub first_step : p ≡ [] → IsTrue (drivable M P x) → IsDriven M P W (p ++ x ∷ []) true
      first_step e d w near all = (λ t. subst (λ v. Legal M P (v ++ x ∷ [])) (sym e) (laws.alone x d), λ l. refl)

      module _ (front : List Step) (last : Step) (ends : p ≡ front ++ last ∷ []) where
        some_before : p ≡ [] → ⊥
        some_before e = cons_not_nil front last [] (sym ends ∙ e)

        before_legal : Legal M P (p ++ x ∷ []) → Legal M P p
        before_legal l = laws.parts [] p (x ∷ []) some_before l

        all_before : (w : WayId) → ((s : Step) → Contains (p ++ x ∷ []) s → IsStepNear M P w s) → (s : Step)
            → Contains p s → IsStepNear M P w s
        all_before w all s c = all s (Contains-append_left p (x ∷ []) s c)

        -- behind steps that may not be driven
        pub undriven_before : IsDriven M P W p false → IsDriven M P W (p ++ x ∷ []) false
        undriven_before h w near all =
            (λ e. absurd (false≢true e), λ l. absurd (false≢true ((h w near (all_before w all)).1 (before_legal l))))

        module _ (drives : IsTrue (drivable M P x)) where
          goes : Legal M P (p ++ x ∷ []) → GoesOn M P p x
          goes l = (laws.grows p x (before_legal l) drives).1 l

          -- a step that may not follow the last one
          pub not_passing : (Passes M P last x → ⊥) → IsDriven M P W (p ++ x ∷ []) false
          not_passing parted w near all = (
            λ e. absurd (false≢true e),
            λ l. absurd (parted ((goes l).passes front last ends)),
          )

          -- a step that the words stop or don't
          pub next_step : IsDriven M P W p true → Passes M P last x → (go : Option State) → (go ≡ None) ↔ Stops W p x
              → IsDriven M P W (p ++ x ∷ []) (is_some go)
          next_step h passes go stop w near all =
              let decides = goes_on_near M P w W near laws.long p front last x ends
              (tells_near M P w W near p (all_before w all)) in
              let legal : Legal M P p = (h w near (all_before w all)).0 refl in (
                λ t. (laws.grows p x legal drives).0 (decides.1 (passes, λ s. not_none go t (stop.1 s))),
                λ l. is_some_from go (λ e. (decides.0 (goes l)).1 (stop.0 e)),
              )
