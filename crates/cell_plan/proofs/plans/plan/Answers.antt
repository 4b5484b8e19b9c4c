use Rattle.std.proofs.Common.{◌≡◌, ◌∙◌, ◌||◌, ap, sym, subst, false, List, [], Contains}
use Rattle.std.proofs.lemmas.Bool.{or_right, false≢true}
use Rattle.ordered_lists.proofs.ListMembers.{contains_none}
use Rattle.road_base.specs.declared.location.Location.{Location}
use Rattle.cell_plan.specs.declared.cells.PlannedCell.{PlannedCell}
use Rattle.cell_plan.specs.Grids.{in_squares}
use Rattle.cell_plan.specs.Sums.{tallied}
use Rattle.cell_plan.specs.CellPlans.{IsCounted}
use Rattle.cell_plan.specs.CountedPlaces.{HasCounted}
use Rattle.cell_plan.specs.Dividing.{Covers, AreFarIn}
use Rattle.cell_plan.proofs.CoveredParts.{covers_none}
use Rattle.cell_plan.proofs.PlannedCells.{far_in_world}
use Rattle.cell_plan.proofs.PlannedWorlds.{covers_world}
use Rattle.cell_plan.proofs.plans.plan.Goals as goal

none_among : (cells : List PlannedCell) → cells ≡ [] → (d : PlannedCell) → Contains cells d → ⊥
none_among cells is d has = contains_none d (subst (λ (l : List PlannedCell). Contains l d) is has)

pub returns-clause-cover : goal.returns-clause-cover
returns-clause-cover c =
    let side = c.args.counts.grid.side in
    let root = c.root-root.result in
    let none : Covers (λ p. false) c.new-cells.result.items
    = subst (Covers (λ p. false)) (sym c.new-cells.ensures.items) covers_none in
    covers_world (λ p. false || in_squares side root p) c.divide.new.cells.items
    (λ p. or_right false (in_squares side root p) (c.root-root.ensures p))
    (c.in_ok-divide.ensures.cover (λ p. false) none (λ p h k. false≢true h))

told : (c : goal.After-drop-counts-2) (places : List Location) → HasCounted places c.args.counts → (d : PlannedCell)
    → Contains c.divide.new.cells.items d → IsCounted c.args.rule c.args.counts.grid.side places d
told c places had = c.in_ok-divide.ensures.counted places
    (record { each = λ wanted near. ap (tallied wanted) c.as_slice.ensures.value ∙ had.each wanted })
    (λ d has. absurd (none_among c.new-cells.result.items c.new-cells.ensures.items d has))

pub returns-clause-counts : goal.returns-clause-counts
returns-clause-counts c = λ places had d has. (told c places had d has).count

pub returns-clause-grown : goal.returns-clause-grown
returns-clause-grown c =
    let margin = c.args.rule.margin in
    let side = c.args.counts.grid.side in
    let root = c.root-root.result in
    c.in_ok-divide.ensures.grown
    (subst (AreFarIn margin side root) (sym c.world.ensures) (far_in_world margin side root))
    (λ d has. absurd (none_among c.new-cells.result.items c.new-cells.ensures.items d has))

pub returns-clause-small : goal.returns-clause-small
returns-clause-small c = λ places had d has. (told c places had d has).small
