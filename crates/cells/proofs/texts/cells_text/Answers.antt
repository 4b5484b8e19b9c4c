use Rattle.std.proofs.Common.{◌≡◌, ◌++◌, ℕ, List, take, pos, rules, sym, ap, ◌∙◌}
use Rattle.std.specs.List.{flat_map}
use Rattle.std.specs.String.{string_bytes}
use Rattle.map_cells.specs.declared.area.Area.{Area}
use Rattle.cell_plan.specs.declared.cells.PlannedCell.{PlannedCell}
use Rattle.cells.specs.Texts.{cell_line}
use Rattle.cells.proofs.PlacesCounted.{one_line}
use Rattle.cells.proofs.texts.cells_text.Goals as goal

pub loop-planned-preserved : goal.loop-planned-preserved
loop-planned-preserved c =
    let all = c.args.cells.now in
    let i = c.loop-planned.planned-index in
    let area : Area = record { west = pos 0; south = pos 0; east = pos 0; north = pos 0 } in
    let none : PlannedCell = record { cell = area; grown = area; count = 0 } in
    let old = c.loop-planned.out.items in
    let line = string_bytes c.in_ok-line.line in
    let pushed : c.extend_from_slice.new.self.items ≡ old ++ line = search rules in
    pushed
    ∙ (ap (λ (l : List ℕ). l ++ line) c.loop-planned.invariant
    ∙ (ap (λ (l : List ℕ). flat_map cell_line (take i all) ++ l) c.in_ok-line.ensures
    ∙ sym (one_line cell_line all i none c.loop-planned-test.true)))
