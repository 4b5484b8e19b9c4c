-- How many arcs contexts have.
use Rattle.std.specs.Prelude.{ℕ, List, length, sum_by}
use Rattle.road_model.specs.declared.lists.Context.{Context}

abbrev pub arcs_at : List Context → ℕ
arcs_at contexts = sum_by (λ c. length c.arcs) contexts
