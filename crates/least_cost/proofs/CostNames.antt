-- Visits of equal names.
use Rattle.std.proofs.Common.{rules, ◌≡◌, ◌<◌, ◌∙◌, ℕ, List, Some, slice_get, subst, arith}
use Rattle.std.specs.Bool.{Decides}
use Rattle.ordered_lists.proofs.ListPlaces.{one_stands}
use Rattle.road_model.specs.declared.lists.PieceName.{PieceName}
use Rattle.road_model.specs.contracts.lists.PieceNamePartialEq.TheImpl as name
use Rattle.least_cost.specs.declared.visiting.CostVisit.{CostVisit}
use Rattle.least_cost.specs.CostVisits.{ContextNames, names_at, StandsAs, IsBettered}

pub names_decide : (a b : PieceName) → Decides (name.eq-value.it a b) (a ≡ b)
names_decide a b = search rules

-- what stands there costs less, and is of the same context
pub betters_is : (visits : List CostVisit) (v w : CostVisit) (q : ContextNames) (k : ℕ) → StandsAs visits q k
    → q ≡ names_at v → slice_get visits k ≡ Some w → w.cost < v.cost → IsBettered visits v
betters_is visits v w q k s same at less = (
  w.cost,
  less,
  record {
    place = k;
    visit = w;
    at = at;
    named = subst (λ (u : CostVisit). names_at u ≡ names_at v) (one_stands visits k s.visit w s.at at)
        (s.named ∙ same);
    cost = omega arith;
  },
)
