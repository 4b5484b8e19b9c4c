use Rattle.road_io.proofs.ToldCalls.{told_then}
use Rattle.store_switch.proofs.LiveFiles.{found_live}
use Rattle.store_switch.proofs.live.find_live.Goals as goal

pub returns-clause-told : goal.returns-clause-told
returns-clause-told g c = told_then _ _ _ _ _ _ c.in_ok-a.ensures.told c.in_ok-b.ensures.told
    (λ w u v. found_live c.in_ok-a.a c.in_ok-b.b c.chosen.result w u v c.chosen.ensures)
