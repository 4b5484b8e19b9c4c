-- What is met by one arc more.
use Rattle.std.proofs.Common.{◌≡◌, inl, inr, ℕ, ◌+◌, ◌<◌, ◌≤◌, List, [], ◌∷◌, length, Option, Contains, refl}
use Rattle.std.proofs.Common.{sym, subst}
use Rattle.std.proofs.Common.{take, get_or, Some}
use Rattle.std.specs.BTreeMap.{BTreeMap}
use Rattle.std.proofs.lemmas.List.{take_more, take_all}
use Rattle.ordered_lists.proofs.ListMembers.{contains_more, contains_none, contains_head}
use Rattle.road_model.specs.declared.lists.PieceName.{PieceName}
use Rattle.road_model.specs.declared.lists.TurnArc.{TurnArc}
use Rattle.context_search.specs.declared.ends.Begin.{Begin}
use Rattle.context_search.specs.declared.ends.Goal.{Goal}
use Rattle.least_cost.specs.declared.candidates.Candidate.{Candidate}
use Rattle.least_cost.specs.declared.visiting.CostVisit.{CostVisit}
use Rattle.least_cost.specs.Certified.{AtMost}
use Rattle.least_cost.specs.CostVisits.{AreMet, IsMetBy, IsFoundAfter, cost_in, goal_cost, IsWithinBy, AreWithin}
use Rattle.least_cost.specs.CostVisits.{within_cost, IsFoundBy}
use Rattle.least_cost.proofs.LawCosts.{at_most_trans}
use Rattle.least_cost.proofs.LeastVisits.{at_most_same, found_again}

module _ (goals : BTreeMap PieceName Goal) (visits : List CostVisit) (n : ℕ) where
  pub met_none : (best : Option Candidate) → IsMetBy goals visits n [] best best
  met_none best = record {
    less = at_most_same (cost_in best);
    met = λ a g has. absurd (contains_none a has);
    from = inl refl;
  }

  pub met_more : (arcs : List TurnArc) (i : ℕ) (d : TurnArc) (best a b : Option Candidate) → i < length arcs
      → IsMetBy goals visits n (take i arcs) best a → IsMetBy goals visits n (get_or arcs i d ∷ []) a b
      → IsMetBy goals visits n (take (i + 1) arcs) best b
  met_more arcs i d best a b h old now = record {
    less = at_most_trans (cost_in b) (cost_in a) (cost_in best) now.less old.less;
    met = λ arc g has at. elim (contains_more (take i arcs) (get_or arcs i d) arc
        (subst (λ l. Contains l arc) (take_more arcs i d h) has)) [
          | inl before ↦ at_most_trans (cost_in b) (cost_in a) (Some (n + goal_cost g)) now.less (old.met arc g
              before at)
          | inr same ↦ now.met arc g (subst (λ z. Contains (z ∷ []) arc) same (contains_head arc [])) at
        ];
    from = found_again goals visits best a b old.from now.from;
  }

  pub met_all : (arcs : List TurnArc) (i : ℕ) (best a : Option Candidate) → length arcs ≤ i
      → IsMetBy goals visits n (take i arcs) best a → IsMetBy goals visits n arcs best a
  met_all arcs i best a h m = subst (λ l. IsMetBy goals visits n l best a) (take_all i arcs h) m

module _ (goals : BTreeMap PieceName Goal) where
  -- with the piece of one start more
  pub more_within : (starts : List Begin) (i : ℕ) (d : Begin) (a b : Option Candidate) → i < length starts
      → IsWithinBy goals (get_or starts i d) a b → AreWithin (take i starts) goals (cost_in a)
      → AreWithin (take (i + 1) starts) goals (cost_in b)
  more_within starts i d a b h now old s g has met rises =
      elim (contains_more (take i starts) (get_or starts i d) s
      (subst (λ l. Contains l s) (take_more starts i d h) has)) [
        | inl before ↦
            at_most_trans (cost_in b) (cost_in a) (Some (within_cost s g)) now.less (old s g before met rises)
        | inr same ↦
            let w = subst (λ z. IsWithinBy goals z a b) (sym same) now in
            w.within g met rises
      ]

  pub all_within : (starts : List Begin) (i : ℕ) (a : Option Candidate) → length starts ≤ i
      → AreWithin (take i starts) goals (cost_in a) → AreWithin starts goals (cost_in a)
  all_within starts i a h w = subst (λ l. AreWithin l goals (cost_in a)) (take_all i starts h) w
