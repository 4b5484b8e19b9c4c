use Rattle.std.proofs.Common.{Some, refl}
use Rattle.road_io.specs.Memory.{outside_of}
use Rattle.osmroad.proofs.ServedSessions.{store_opens}
use Rattle.osmroad.proofs.counting_tests.asked_by.Goals as goal

pub serve-requires-clause-known : goal.serve-requires-clause-known
serve-requires-clause-known g c = refl

pub serve-requires-clause-opens : goal.serve-requires-clause-opens
serve-requires-clause-opens g c = store_opens c.in-Ok.loaded (Some (outside_of c.args.site.now))
    (Some (outside_of c.load_store.new.site)) c.in-Ok.ensures.told
