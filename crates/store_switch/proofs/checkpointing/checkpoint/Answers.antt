use Rattle.std.proofs.Common.{◌+◌, ◌∙◌, sym, ap, arith}
use Rattle.road_io.specs.declared.outside.Which.{Which}
use Rattle.road_io.specs.Outside.{other}
use Rattle.road_io.proofs.ToldCalls.{told_weaker}
use Rattle.store_switch.proofs.CheckpointedStores.{checkpoint_done, checkpoint_refused}
use Rattle.store_switch.proofs.checkpointing.checkpoint.Goals as goal

pub returns-in-Ok-clause-told : goal.returns-in-Ok-clause-told
returns-in-Ok-clause-told g c =
    told_weaker _ _ _ _ c.in-Ok.ensures.told
    (λ w v. checkpoint_done c.args.journal.now c.args.profile c.args.events.now c.other_file-file.result
    (c.generation-generation.result + 1) c.kept.result
    (c.other_file-file.ensures ∙ ap (λ (f : Which). other f) c.file.ensures)
    (omega (arith, c.generation-generation.ensures)) c.kept.ensures c.in-Ok.next tt w v)

pub returns-in-Err-clause-told : goal.returns-in-Err-clause-told
returns-in-Err-clause-told g c =
    told_weaker _ _ _ _ c.in-Err.ensures.told
    (λ w v. checkpoint_refused c.args.journal.now c.args.profile c.args.events.now c.other_file-file.result
    (c.generation-generation.result + 1) c.kept.result
    (c.other_file-file.ensures ∙ ap (λ (f : Which). other f) c.file.ensures)
    (omega (arith, c.generation-generation.ensures)) c.kept.ensures c.in-Err.error c.close_on_fault.new.journal w v
    (sym c.closed.ensures ∙ c.if-closed.false))
