use Rattle.store_switch.proofs.LiveFiles.{live_once, stands_live}
use Rattle.store_switch.proofs.laws.one_live.Goals as goal

pub returns-clause-once : goal.returns-clause-once
returns-clause-once g = live_once

pub returns-clause-stands : goal.returns-clause-stands
returns-clause-stands g = stands_live
