-- The numbers that a process ends with.
use Rattle.std.specs.Prelude.{ℕ}
use Rattle.last_words.specs.declared.status.Status.{Status}
use Rattle.last_words.specs.declared.status.Status.TheVariants.{Done, Usage, ReadFault, SiteFault, Refused, Limit}
use Rattle.last_words.specs.declared.status.Status.TheVariants.{NoMemory, OutOfSequence, NoStore, StoreExists, Damaged}

abbrev pub status_code : Status → ℕ
status_code Done = 0
status_code Usage = 1
status_code ReadFault = 2
status_code SiteFault = 3
status_code Refused = 4
status_code OutOfSequence = 5
status_code NoStore = 6
status_code StoreExists = 7
status_code Damaged = 8
status_code Limit = 9
status_code NoMemory = 10
