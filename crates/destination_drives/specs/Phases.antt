-- How far a drive is between the zone where it begins and the one where it ends.
use Rattle.std.specs.Prelude.{Option, Some, None, Bool, true, false}
use Rattle.destination_drives.specs.declared.phases.Phase.{Phase}
use Rattle.destination_drives.specs.declared.phases.Phase.TheVariants.{Before, Open, After}

-- the phase on the first step or piece, by whether it is marked
abbrev pub started : Bool → Phase
started true = Before
started false = Open

-- the phase on the next one, by whether it is marked; none where the way leads out of a zone that was driven into
abbrev pub gone : Phase → Bool → Option Phase
gone Before true = Some Before
gone Before false = Some Open
gone Open false = Some Open
gone Open true = Some After
gone After true = Some After
gone After false = None
