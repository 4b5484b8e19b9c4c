use Rattle.road_io.specs.Outside.{image_of}
use Rattle.store_switch.specs.LiveFile.{reads_of}
use Rattle.store_switch.proofs.IntactStores.{left_there, still_for}
use Rattle.store_switch.proofs.laws.still_there.Goals as goal

pub returns-clause-files : goal.returns-clause-files
returns-clause-files c = left_there

pub returns-clause-store : goal.returns-clause-store
returns-clause-store c w left h durable l =
    still_for (reads_of w) (image_of left) (λ f. left_there w left f durable l) h
