use Rattle.std.proofs.Common.{◌⊎◌, inl, inr, List, Contains, IsTrue, sym, subst}
use Rattle.std.proofs.lemmas.Result.{IfOk-weaker}
use Rattle.road_base.specs.declared.ids.WayId.{WayId}
use Rattle.road_model.specs.declared.lists.Piece.{Piece}
use Rattle.ordered_lists.specs.Orders.{Lists, rises}
use Rattle.ordered_lists.proofs.ListMembers.{contains_none}
use Rattle.road_model.specs.Orders.{way_cmp}
use Rattle.graph_blocks.specs.Lent.{map_of}
use Rattle.touched_ways.specs.Altering.{ListSameArcs}
use Rattle.touched_ways.proofs.WayLists.{same}
use Rattle.change_apply.specs.Rebuilding.{pieces_at}
use Rattle.change_apply.specs.Sourcing.{IsLedFrom}
use Rattle.change_apply.specs.Standing.{built_in}
use Rattle.change_apply.proofs.sources.led_to.Goals as goal

-- those of a list that aren't among others
abbrev Apart : List WayId → List WayId → List WayId → Type 0
Apart ways others led = Lists (λ w. w) way_cmp (λ w. Contains ways w × (Contains others w → ⊥)) led

pub apart_from-requires-clause-ways : goal.apart_from-requires-clause-ways
apart_from-requires-clause-ways c = subst (λ (l : List WayId). IsTrue (rises way_cmp l)) (sym c.from_list-all.ensures)
    c.leave_once.ensures.ascending

pub apart_from-requires-2-clause-ways : goal.apart_from-requires-2-clause-ways
apart_from-requires-2-clause-ways c = subst (λ (l : List WayId). IsTrue (rises way_cmp l)) (same c.in_ok-others.others)
    c.in_ok-others.ensures.ascending

pub returns-clause-ascending : goal.returns-clause-ascending
returns-clause-ascending c =
    IfOk-weaker c.apart_from-2.result (Apart c.in_ok-others.others c.args.met_ways.now) (λ l. IsTrue (rises way_cmp l))
    (λ l are. subst (λ (x : List WayId). IsTrue (rises way_cmp x)) (same l) are.ascending) c.apart_from-2.ensures

pub returns-clause-apart : goal.returns-clause-apart
returns-clause-apart c =
    let near = c.args.near_ways.now in
    let met = c.args.met_ways.now in
    IfOk-weaker c.apart_from-2.result (Apart c.in_ok-others.others met)
    (λ l. (w : WayId) → Contains l w → (Contains near w → ⊥) × (Contains met w → ⊥))
    (λ l are w has. let is = are.sound w has in ((c.in_ok-others.ensures.sound w is.0).1, is.1)) c.apart_from-2.ensures

pub returns-clause-only : goal.returns-clause-only
returns-clause-only c =
    let near = c.args.near_ways.now in
    let met = c.args.met_ways.now in
    let before : WayId → List Piece = pieces_at (built_in c.args.before.now) (map_of c.args.before.now.blocks.now) in
    let first : WayId → List Piece = pieces_at (built_in c.args.near.now) (map_of c.args.near.now.blocks.now) in
    let second : WayId → List Piece = pieces_at (built_in c.args.met.now) (map_of c.args.met.now.blocks.now) in
    IfOk-weaker c.apart_from-2.result (Apart c.in_ok-others.others met)
    (λ l. (w : WayId) → Contains l w → IsLedFrom before first near w ⊎ IsLedFrom before second met w)
    (λ l are w has.
    let there = (c.in_ok-others.ensures.sound w (are.sound w has).0).0 in
    let all = (c.leave_once.ensures.exactly w).0 (subst (λ (x : List WayId). Contains x w) c.from_list-all.ensures
    there) in
    elim (c.in_ok-add_led-2.ensures.only w all) [
      | inl earlier ↦ elim (c.in_ok-add_led.ensures.only w earlier) [
        | inl none ↦ absurd (contains_none w (subst (λ (x : List WayId). Contains x w) c.new-led.ensures.items none))
        | inr led ↦ inl (subst (λ (x : List WayId). IsLedFrom before first x w) c.items.ensures led)
      ]
      | inr led ↦ inr (subst (λ (x : List WayId). IsLedFrom before second x w) c.items-2.ensures led)
    ]) c.apart_from-2.ensures

pub returns-clause-near : goal.returns-clause-near
returns-clause-near c =
    let near = c.args.near_ways.now in
    let met = c.args.met_ways.now in
    let before : WayId → List Piece = pieces_at (built_in c.args.before.now) (map_of c.args.before.now.blocks.now) in
    let first : WayId → List Piece = pieces_at (built_in c.args.near.now) (map_of c.args.near.now.blocks.now) in
    IfOk-weaker c.apart_from-2.result (Apart c.in_ok-others.others met)
    (λ l. (v w : WayId) → Contains near v → (Contains l w → ⊥) → (Contains near w → ⊥) → (Contains met w → ⊥)
    → ListSameArcs w (before v) (first v))
    (λ l are v w has not notnear notmet.
    c.in_ok-add_led.ensures.alike v w (subst (λ (x : List WayId). Contains x v) (sym c.items.ensures) has)
    (λ i.
    let all = (c.leave_once.ensures.exactly w).1 (c.in_ok-add_led-2.ensures.keeps w i) in
    let there = subst (λ (x : List WayId). Contains x w) (sym c.from_list-all.ensures) all in
    not (are.complete w (c.in_ok-others.ensures.complete w (there, notnear), notmet)))) c.apart_from-2.ensures

pub returns-clause-met : goal.returns-clause-met
returns-clause-met c =
    let near = c.args.near_ways.now in
    let met = c.args.met_ways.now in
    let before : WayId → List Piece = pieces_at (built_in c.args.before.now) (map_of c.args.before.now.blocks.now) in
    let second : WayId → List Piece = pieces_at (built_in c.args.met.now) (map_of c.args.met.now.blocks.now) in
    IfOk-weaker c.apart_from-2.result (Apart c.in_ok-others.others met)
    (λ l. (v w : WayId) → Contains met v → (Contains l w → ⊥) → (Contains near w → ⊥) → (Contains met w → ⊥)
    → ListSameArcs w (before v) (second v))
    (λ l are v w has not notnear notmet.
    c.in_ok-add_led-2.ensures.alike v w (subst (λ (x : List WayId). Contains x v) (sym c.items-2.ensures) has)
    (λ i.
    let all = (c.leave_once.ensures.exactly w).1 i in
    let there = subst (λ (x : List WayId). Contains x w) (sym c.from_list-all.ensures) all in
    not (are.complete w (c.in_ok-others.ensures.complete w (there, notnear), notmet)))) c.apart_from-2.ensures
