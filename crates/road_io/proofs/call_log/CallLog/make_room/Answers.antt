use Rattle.std.proofs.Common.{◌≡◌, ◌↔◌, ℕ, List, true, Contains, length, ap, subst, ◌∙◌}
use Rattle.road_io.specs.Memory.{LogState}
use Rattle.road_io.proofs.call_log.CallLog.make_room.Goals as goal

pub returns-clause-fails : goal.returns-clause-fails
returns-clause-fails c =
    let fails : c.deref.result.now ≡ c.args.self.now.fails =
    c.deref.ensures.value ∙ ap (λ (l : LogState). l.fails) c.self.view_is in
    let number : c.len.result ≡ length c.args.self.now.calls =
    c.len.ensures ∙ c.self.inside.calls.ok.0 ∙ ap (λ (l : LogState). length l.calls) c.self.view_is in
    subst (λ (n : ℕ). c.is_among-is_to_fail.result ≡ true ↔ Contains c.args.self.now.fails n) number
    (subst (λ (l : List ℕ). c.is_among-is_to_fail.result ≡ true ↔ Contains l c.len.result) fails
    c.is_among-is_to_fail.ensures)
