-- Equality of edges is that of values, so a look-up in a list of edges finds the edge itself, or it isn't there.
use Rattle.std.proofs.Common.{◌≡◌, ℕ, ◌<◌, true, false, List, length, get_or, slice_get, position, Some, nat_eq}
use Rattle.std.proofs.Common.{refl, sym, ap, ◌∙◌}
use Rattle.std.specs.List.{list_any}
use Rattle.std.proofs.lemmas.Bool.{false≢true, and_parts, and_from}
use Rattle.std.proofs.lemmas.Bool.Decides.{Decides-eqb}
use Rattle.std.proofs.lemmas.Option.{slice_get_within, slice_get-get_or, get_or_from_slice_get}
use Rattle.std.proofs.lemmas.List.Folds.{list_any_at}
use Rattle.std.proofs.lemmas.List.Quantifiers.{position-Some}
use Rattle.road_base.specs.contracts.ids.StepPartialEq.TheImpl.{ghosts as step_equality}
use Rattle.road_base.proofs.EqualSteps.{step_same, step_itself}
use Rattle.turn_automata.specs.declared.edges.Edge.{Edge}
use Rattle.turn_automata.specs.contracts.edges.EdgePartialEq.TheImpl.{ghosts as edge_equality}

pub edge_same : (a b : Edge) → edge_equality.eq a b ≡ true → a ≡ b
edge_same a b h =
    let p = and_parts (nat_eq a.from b.from) (step_equality.eq a.step b.step) h in
    let n = (Decides-eqb a.from b.from).0 p.0 in
    let s = step_same a.step b.step p.1 in
    λ j. record { from = n j; step = s j }

edge_itself : (a : Edge) → edge_equality.eq a a ≡ true
edge_itself a = and_from _ _ ((Decides-eqb a.from a.from).1 refl) (step_itself a.step)

-- an edge that a look-up doesn't find stands nowhere
pub not_among : (es : List Edge) (e : Edge) → list_any (edge_equality.eq e) es ≡ false → (k : ℕ)
    → slice_get es k ≡ Some e → ⊥
not_among es e h k at =
    let within : k < length es = slice_get_within es k e at in
    let there : get_or es k e ≡ e = get_or_from_slice_get es k e e at in
    absurd (false≢true (sym h ∙ list_any_at (edge_equality.eq e) es k e within
    (ap (edge_equality.eq e) there ∙ edge_itself e)))

-- an edge stands where a look-up finds it
pub found : (es : List Edge) (e : Edge) (k : ℕ) → position (edge_equality.eq e) es ≡ Some k → slice_get es k ≡ Some e
found es e k h =
    let f = position-Some (edge_equality.eq e) es k e h in
    slice_get-get_or es k e f.0 ∙ ap Some (sym (edge_same e (get_or es k e) f.1))
