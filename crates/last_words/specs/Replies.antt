-- What is last put, and why nothing is.
use Rattle.std.specs.Prelude.{◌≡◌, ℕ, List, Result, Ok, Err}
use Rattle.opl_objects.specs.StreamLines.{fault_at}
use Rattle.bounded_input.specs.declared.input.InputError.{InputError}
use Rattle.bounded_input.specs.declared.input.InputError.TheVariants.{Failed, TooLong, Refused as RefusedInput}
use Rattle.bounded_input.specs.declared.input.InputError.TheVariants.{NoMemory as NoMemoryInput}
use Rattle.last_words.specs.declared.words.LastWords.{LastWords}
use Rattle.last_words.specs.declared.words.Failure.{Failure}
use Rattle.last_words.specs.declared.words.Failure.TheVariants.{ReadFault, SiteFault, NoMemory}
use Rattle.last_words.specs.declared.status.Status.{Status}
use Rattle.last_words.specs.declared.status.Status.TheVariants.{Refused, Limit}
use Rattle.last_words.specs.declared.status.Status.TheVariants.{ReadFault as ReadFaultStatus}
use Rattle.last_words.specs.declared.status.Status.TheVariants.{SiteFault as SiteFaultStatus}
use Rattle.last_words.specs.declared.status.Status.TheVariants.{NoMemory as NoMemoryStatus}
use Rattle.last_words.specs.Texts.{limit_line, refused_line}

-- the status of a failure
abbrev pub failure_status : Failure → Status
failure_status ReadFault = ReadFaultStatus
failure_status SiteFault = SiteFaultStatus
failure_status NoMemory = NoMemoryStatus

-- this status and these bytes
abbrev pub Says : Status → List ℕ → LastWords → Type 0
Says status out r = (r.status ≡ status) × (r.out.items ≡ out)

-- a reply of this status and these bytes; memory may end before it is made
abbrev pub Replies : Status → List ℕ → Result LastWords Failure → Type 0
Replies status out (Ok r) = Says status out r
Replies status out (Err failure) = failure ≡ NoMemory

-- how an input is refused
abbrev pub RefusesInput : InputError → Result LastWords Failure → Type 0
RefusesInput Failed result = result ≡ Err ReadFault
RefusesInput TooLong result = Replies Limit limit_line result
RefusesInput (RefusedInput fault) result = Replies Refused (refused_line (fault_at fault)) result
RefusesInput NoMemoryInput result = result ≡ Err NoMemory
