use Rattle.std.proofs.Common.{◌≡◌, ◌++◌, ℕ, List, take, pos, rules, sym, ap, ◌∙◌}
use Rattle.std.specs.List.{flat_map}
use Rattle.std.specs.String.{string_bytes}
use Rattle.road_base.specs.declared.ids.Key.TheVariants.{Node}
use Rattle.cell_check.specs.declared.checking.Failing.{Failing}
use Rattle.cells.specs.Texts.{failing_line}
use Rattle.cells.proofs.PlacesCounted.{one_line}
use Rattle.cells.proofs.texts.rest_text.Goals as goal

pub loop-one-preserved : goal.loop-one-preserved
loop-one-preserved c =
    let all = c.args.failing.now in
    let i = c.loop-one.one-index in
    let none : Failing = record { way = record { 0 = pos 0 }; key = Node (record { 0 = pos 0 }) } in
    let old = c.loop-one.out.items in
    let line = string_bytes c.in_ok-line.line in
    let pushed : c.extend_from_slice.new.self.items ≡ old ++ line = search rules in
    pushed
    ∙ (ap (λ (l : List ℕ). l ++ line) c.loop-one.invariant
    ∙ (ap (λ (l : List ℕ). flat_map failing_line (take i all) ++ l) c.in_ok-line.ensures
    ∙ sym (one_line failing_line all i none c.loop-one-test.true)))
