use Rattle.std.proofs.Common.{◌≡◌, ◌↔◌, ℕ, List}
use Rattle.road_io.specs.Disk.{IsImage, IsDurable}
use Rattle.road_io.specs.Outside.{IsSound, disk}
use Rattle.road_io.proofs.ToldCalls.{some_weaker}
use Rattle.road_io.proofs.OnlyImages.{durable_exactly, sound_disk}
use Rattle.road_io.proofs.laws.nothing_pending.Goals as goal

pub returns : goal.returns
returns g c =
    some_weaker _ IsSound
    (λ o. IsDurable (disk o c.args.file)
    ↔ ((bytes : List ℕ) → IsImage (disk o c.args.file) bytes → bytes ≡ (disk o c.args.file).reads))
    (g.met.W.Site.sound c.args.site.now)
    (λ o sound. durable_exactly (disk o c.args.file) (sound_disk c.args.file o sound))
