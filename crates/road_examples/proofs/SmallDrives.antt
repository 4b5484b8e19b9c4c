-- Drives of two steps, for maps that are worked out by hand.
use Rattle.std.proofs.Common.{◌≡◌, ◌≢◌, ℕ, List, [], ◌∷◌, ◌++◌, length, ◌⊎◌, inl, inr, sym, ◌∙◌, subst, arith, Some}
use Rattle.std.proofs.Common.{IsTrue, IsFalse}
use Rattle.road_base.specs.declared.ids.WayId.{WayId}
use Rattle.road_base.specs.declared.ids.Dir.{Dir}
use Rattle.road_base.specs.declared.ids.Step.{Step}
use Rattle.road_base.specs.Objects.{Objects}
use Rattle.road_model.specs.Rules.{Rules}
use Rattle.road_model.specs.Lines.{line_of, tail_of, head_of}
use Rattle.road_model.specs.Driving.{shut, drivable, Passes}
use Rattle.road_model.specs.Pieces.{IsPiece}
use Rattle.road_model.specs.Network.{Drives, NoWord, Legal, Must}
use Rattle.ordered_lists.proofs.Splits.{same_last}
use Rattle.road_model.proofs.StepPlaces.{step}
use Rattle.road_model.proofs.Shapes.{bound_positive}
use Rattle.road_model.proofs.WalkLists.{step_legal}
use Rattle.road_model.proofs.JoinedPieces.{one_more}
use Rattle.road_examples.proofs.ExampleMaps.{node, same_node_number}

ends_one : (s : Step) (a p : List Step) → s ∷ [] ≡ a ++ p → (p ≡ []) ⊎ (p ≡ s ∷ [])
ends_one s [] p e = inr (sym e)
ends_one s (x ∷ []) p e = inl (cc)
ends_one s (x ∷ y ∷ a) p e = cc

module _ (M : Objects) (P : Rules) where
  -- a way of two nodes is a piece, each way that it may be driven
  pub short_piece : (w : WayId) (d : Dir) → length (line_of M w) ≡ 2 → Drives M P (step w d 0) →
      IsPiece M P (record { way = w; index = 0; end = 1; dir = d })
  short_piece w d two drives = record {
    ascends = omega arith;
    first = λ h. let l = h.not_first in omega arith;
    last = λ h. let l = h.not_last in omega arith;
    inner = λ k a b. absurd (omega arith);
    drives = λ k a b. let e : k ≡ 0 = omega arith in subst (λ i. IsTrue (drivable M P (step w d i))) (sym e) drives;
  }

  -- no Only word binds before a step was driven
  pub unbound : (x : Step) → Must M P [] x → ⊥
  unbound x m = let b = bound_positive M P m.binding _ m.word in let l = m.bound in omega arith

  -- step t goes on over an open node: from node a over node b to node c
  pub goes_straight : (s t : Step) (a b c : ℕ) → tail_of M s ≡ Some (node a) → head_of M s ≡ Some (node b) →
      tail_of M t ≡ Some (node b) → head_of M t ≡ Some (node c) → a ≢ c → IsFalse (shut M P (node b)) →
      Passes M P s t
  goes_straight s t a b c begins comes goes ends apart free = record {
    node = node b;
    from = comes;
    to = goes;
    back = λ e. absurd (apart (same_node_number a c (sym begins ∙ sym e ∙ ends)));
    on = λ n. free;
  }

  pub two_legal : (s t : Step) → Drives M P s → Drives M P t → Passes M P s t →
      ((a u : List Step) → s ∷ t ∷ [] ≡ a ++ u → NoWord M P u → ⊥) →
      ((x : Step) → Must M P (s ∷ []) x → Must M P (s ∷ []) t) → Legal M P (s ∷ t ∷ [])
  two_legal s t first second passes none only = one_more M P (s ∷ []) t (step_legal M P s first) second (record {
    passes = λ a x e. subst (λ y. Passes M P y t) (same_last [] s a x e).last passes;
    no = none;
    only = λ a p e x m. elim (ends_one s a p e) [
      | inl k ↦ absurd (unbound x (subst (λ v. Must M P v x) k m))
      | inr k ↦ subst (λ v. Must M P v t) (sym k) (only x (subst (λ v. Must M P v x) k m))
    ];
  })
