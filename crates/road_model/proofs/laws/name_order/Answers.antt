use Rattle.std.proofs.Common.{inl, inr, refl}
use Rattle.road_model.proofs.TotalOrders.{dir_cases, way_cmp_total, way_cmp_exact, name_cmp_total, name_cmp_exact}
use Rattle.road_model.proofs.TotalOrders.{names_cmp_total, names_cmp_exact}
use Rattle.road_model.proofs.laws.name_order.Goals as goal

pub returns-clause-ways : goal.returns-clause-ways
returns-clause-ways c = way_cmp_total

pub returns-clause-way_ties : goal.returns-clause-way_ties
returns-clause-way_ties c = way_cmp_exact

pub returns-clause-names : goal.returns-clause-names
returns-clause-names c = name_cmp_total

pub returns-clause-name_ties : goal.returns-clause-name_ties
returns-clause-name_ties c = name_cmp_exact

pub returns-clause-lists : goal.returns-clause-lists
returns-clause-lists c = names_cmp_total

pub returns-clause-list_ties : goal.returns-clause-list_ties
returns-clause-list_ties c = names_cmp_exact

pub returns-clause-by_cmp : goal.returns-clause-by_cmp
returns-clause-by_cmp c = λ a b.
    elim (dir_cases a.dir) [
      | inl e ↦ elim (dir_cases b.dir) [ inl f ↦ rw (e, f) refl | inr f ↦ rw (e, f) refl ]
      | inr e ↦ elim (dir_cases b.dir) [ inl f ↦ rw (e, f) refl | inr f ↦ rw (e, f) refl ]
    ]
