use Rattle.std.proofs.Common.{sym, refl, ◌∙◌}
use Rattle.road_model.specs.declared.lists.Context.{Context}
use Rattle.road_model.specs.Orders.{names_cmp}
use Rattle.graph_file.proofs.Ascents.{named}
use Rattle.graph_file.proofs.parts.are_of_a_piece.Goals as goal

pub returns-then-begin_alone : goal.returns-then-begin_alone
returns-then-begin_alone c =
    let ascend = named names_cmp (λ (x : Context). x.before) c.args.contexts.now c.args.contexts.now c.do_ascend.result
    c.do_ascend.ensures refl in
    (λ yes. (c.begin_alone.ensures.0 c.if-begin_alone.true, sym ascend ∙ yes), λ both. ascend ∙ both.1)
