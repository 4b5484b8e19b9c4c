use Rattle.std.proofs.Common.{ap, ◌∙◌}
use Rattle.std.specs.FinMap.{get}
use Rattle.road_base.specs.Objects.{Objects}
use Rattle.road_base.specs.Applying.{entry_of}
use Rattle.cell_check.proofs.ClosedKeys.{seen_where, seen_nowhere}
use Rattle.cell_check.proofs.closing.is_visible.Goals as goal

pub returns-in-Some : goal.returns-in-Some
returns-in-Some c =
    seen_where c.args.world.now c.args.key (entry_of c.in-Some.event.now) c.is_shown.result
    (c.in-Some.ensures.entry ∙ ap (λ (M : Objects). get M c.args.key) c.objects.ensures) c.is_shown.ensures

pub returns-in-None : goal.returns-in-None
returns-in-None c =
    seen_nowhere c.args.world.now c.args.key
    (c.in-None.ensures.entry ∙ ap (λ (M : Objects). get M c.args.key) c.objects.ensures)
