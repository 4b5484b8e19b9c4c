use Rattle.std.proofs.Common.{◌≡◌, [], length, Ok, refl, ap}
use Rattle.road_io.specs.Disk.{Disk, IsDurable}
use Rattle.road_io.specs.Outside.{disk}
use Rattle.sequence_journal.specs.Ends.{Repairs}
use Rattle.road_io.proofs.ToldCalls.{told_then, told_weaker, told_if}
use Rattle.sequence_journal.proofs.Replacements.{base_failed, based}
use Rattle.sequence_journal.proofs.ends.replace.Goals as goal

pub returns-in_err-repair_end-clause-told : goal.returns-in_err-repair_end-clause-told
returns-in_err-repair_end-clause-told g c = told_weaker _ _ _ _ c.repair_end.ensures.told
    (λ w u. base_failed c.args.file c.args.chunk.now w c.from_residual.result _ c.from_residual.ensures.0 u)

pub returns-clause-told : goal.returns-clause-told
returns-clause-told g c = told_then _ _ _ _ _ _ c.in_ok-repair_end.ensures.told c.open_behind.ensures.told
    (λ w u v. based c.args.file c.args.chunk.now w c.open_behind.result _ u v)

pub open_behind-requires-clause-place : goal.open_behind-requires-clause-place
open_behind-requires-clause-place g c =
    told_if (g.W.Site.outside c.args.site.now) (g.W.Site.outside c.repair_end.new.site)
    (Repairs c.args.file 0 (Ok c.in_ok-repair_end.field-0)) (λ w. IsDurable (disk w c.args.file))
    (λ w. length (disk w c.args.file).reads ≡ 1)
    c.in_ok-repair_end.ensures.told c.requires (λ w v durable repairs. ap (λ (d : Disk). length d.reads)
    (repairs [] (disk w c.args.file).reads refl refl durable).done)
