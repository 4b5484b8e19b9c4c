use Rattle.std.proofs.Common.{◌≡◌, ◌++◌, ℕ, List, take, pos, rules, sym, ap, ◌∙◌}
use Rattle.std.specs.List.{flat_map}
use Rattle.std.specs.String.{string_bytes}
use Rattle.road_base.specs.declared.ids.WayId.{WayId}
use Rattle.cells.specs.Texts.{passing_line}
use Rattle.cells.proofs.PlacesCounted.{one_line}
use Rattle.cells.proofs.texts.passing_lines.Goals as goal

pub loop-way-preserved : goal.loop-way-preserved
loop-way-preserved c =
    let all = c.args.passing.now in
    let i = c.loop-way.way-index in
    let none : WayId = record { 0 = pos 0 } in
    let old = c.loop-way.out.items in
    let line = string_bytes c.in_ok-line.line in
    let pushed : c.extend_from_slice.new.self.items ≡ old ++ line = search rules in
    pushed
    ∙ (ap (λ (l : List ℕ). l ++ line) c.loop-way.invariant
    ∙ (ap (λ (l : List ℕ). flat_map passing_line (take i all) ++ l) c.in_ok-line.ensures
    ∙ sym (one_line passing_line all i none c.loop-way-test.true)))
