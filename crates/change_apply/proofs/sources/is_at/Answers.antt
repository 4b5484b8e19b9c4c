use Rattle.std.proofs.Common.{◌≡◌, Contains, get_or, pos, sym, subst, ◌∙◌}
use Rattle.road_base.specs.declared.ids.Dir.TheVariants.{Forward}
use Rattle.road_model.specs.declared.lists.TurnArc.{TurnArc}
use Rattle.ordered_lists.proofs.ListMembers.{contains_from_in, in_get}
use Rattle.change_apply.proofs.EqualBlocks.{arcs_decide}
use Rattle.change_apply.proofs.sources.is_at.Goals as goal

pub returns-then-at-arcs : goal.returns-then-at-arcs
returns-then-at-arcs c is =
    let arcs = c.args.arcs.now in
    let none : TurnArc = record
    { piece = record { way = record { 0 = pos 0 }; index = 0; dir = Forward }; length = 0 } in
    let there = get_or arcs c.args.at none in
    let same : there ≡ c.args.arc = (arcs_decide there c.args.arc).0 (sym c.eq.ensures ∙ is) in
    subst (Contains arcs) same (contains_from_in arcs there (in_get arcs c.args.at none c.if-at-arcs.true))
