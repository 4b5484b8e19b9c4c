use Rattle.std.proofs.Common.{sym, ap, ◌∙◌}
use Rattle.layered_maps.specs.Lists.{list_or_none}
use Rattle.layered_maps.proofs.KeyedLists.{found_first, found_behind}
use Rattle.layered_maps.proofs.list_run.ListRun.newest.Goals as goal

pub returns-in-Some : goal.returns-in-Some
returns-in-Some g c =
    sym (ap list_or_none (found_first g.K.Ord.cmp c.args.later.now c.args.self.now c.args.key c.in-Some.list.now
    (sym c.in-Some.ensures)))

pub returns-in-Some-get_near : goal.returns-in-Some-get_near
returns-in-Some-get_near g c =
    sym (ap list_or_none (found_behind g.K.Ord.cmp c.args.later.now c.args.self.now c.args.key (sym c.in-None.ensures)
    ∙ sym c.in-Some-get_near.ensures))

pub returns-in-None-get_near : goal.returns-in-None-get_near
returns-in-None-get_near g c =
    sym (ap list_or_none (found_behind g.K.Ord.cmp c.args.later.now c.args.self.now c.args.key (sym c.in-None.ensures)
    ∙ sym c.in-None-get_near.ensures))
