-- A piece of which the words near its way say nothing.
use Rattle.std.proofs.Common.{◌≡◌, ℕ, ◌↔◌, List, [], ◌∷◌, ◌++◌, map, inl, inr, subst, IsTrue, Contains}
use Rattle.road_base.specs.declared.ids.Step.{Step}
use Rattle.road_base.specs.Objects.{Objects}
use Rattle.road_model.specs.Rules.{Rules}
use Rattle.road_model.specs.Driving.{drivable}
use Rattle.road_model.specs.Pieces.{Span, IsPiece, spell}
use Rattle.road_model.specs.Network.{Legal, IsContext}
use Rattle.road_model.specs.Blocks.{name_of}
use Rattle.turn_automata.specs.Trees.{IsClosed}
use Rattle.turn_automata.specs.Watched.{IsWatchable}
use Rattle.turn_automata.specs.Machines.{Machine, Watches}
use Rattle.expanded_graph.specs.declared.endings.Ending.{Ending}
use Rattle.expanded_graph.specs.declared.states.StateFacts.{StateFacts}
use Rattle.expanded_graph.specs.States.{AreStates}
use Rattle.expanded_graph.specs.Watched.{IsPlainPiece}
use Rattle.ordered_lists.proofs.ListMembers.{contains_none}
use Rattle.expanded_graph.proofs.ContextStates.{StepLaws, ends_in, reached_alone}
use Rattle.expanded_graph.proofs.EndingStates.{AreHere}
use Rattle.expanded_graph.proofs.TurnStepLists.{nil_or_last}
use Rattle.ordered_lists.proofs.Splits.{cons_not_nil}

module _ (M : Objects) (P : Rules) (laws : StepLaws M P)
    (drives_alone : (s : Step) → IsTrue (drivable M P s) → Legal M P (s ∷ [])) (m : Machine) (facts : List StateFacts)
    (closed : IsClosed m.states) (lists : (q : List Step) → Contains m.states q ↔ IsWatchable m.words q) (p : Span)
    (piece : IsPiece M P p) (known : AreStates M P p.way m.words m.states facts) where
  -- no context of two pieces or more ends with it where none of the states in which contexts end does
  no_front : (here : List Ending) → AreHere m facts (name_of p) here → here ≡ [] → (front : List Span)
      → IsContext M P (front ++ p ∷ []) → front ≡ []
  no_front here are none front context = elim (nil_or_last front) [
    | inl is ↦ is
    | inr last ↦
        let s = ends_in M P laws m facts closed lists p piece known front
        (λ z. cons_not_nil last.0 last.1 [] (subst (λ l. l ≡ []) last.2 z)) context in
        let has = (are.each s.number).1 (s.ending, s.named) in
        absurd (contains_none s.number
        (subst (λ (l : List Ending). Contains (map (λ e. e.state) l) s.number) none has))
  ]

  pub plain : (front : List Step) (last : Step) → spell p ≡ front ++ last ∷ [] → (n : ℕ) → Watches m n (last ∷ [])
      → n ≡ 0 → (here : List Ending) → AreHere m facts (name_of p) here → here ≡ [] → IsPlainPiece M P m facts p
  plain front last ends n to first here are none = record {
    reached = reached_alone M P drives_alone m facts p piece known front last ends 0
        (subst (λ k. Watches m k (last ∷ [])) first to);
    alone = no_front here are none;
  }
