-- How a run ends, for whatever the words ask.
use Rattle.std.specs.Prelude.{◌⊎◌, ℕ, List, Option, None, Some}
use Rattle.road_io.specs.Outside.{Outside}
use Rattle.osmroad.specs.declared.command.Request.{Request}
use Rattle.osmroad.specs.declared.command.Request.TheVariants.{Session, Command as CommandRequest}
use Rattle.last_words.specs.declared.status.Status.{Status}
use Rattle.osmroad.specs.Opening.{Files}
use Rattle.osmroad.specs.Run.{IsStored, MayEnd, Ends, IsReadable, CanBeDone, Builds}
use Rattle.osmroad.specs.Sessions.{IsServed, IsNotServed, EndsSession, EndsWell, SessionRunBuilds}

-- what is read and put, for what the files then stand, and what a stop leaves
abbrev pub RunEnds : Option Request → Status → Option (List ℕ) → Option (List ℕ) → Option Outside → Option Outside
    → Type 0
RunEnds None status held remaining before now = Ends None status held remaining before now
RunEnds (Some (CommandRequest command)) status held remaining before now =
    Ends (Some command) status held remaining before now
RunEnds (Some Session) status held remaining before now = EndsSession status held remaining before now

-- each status that there may be, whatever source and site
abbrev pub RunMayEnd : Option Request → Status → Type 0
RunMayEnd None status = MayEnd None status
RunMayEnd (Some (CommandRequest command)) status = MayEnd (Some command) status
RunMayEnd (Some Session) status = IsServed status ⊎ IsNotServed status

-- it works on a store; anything else touches no file
abbrev pub RunIsStored : Option Request → Type 0
RunIsStored None = ⊥
RunIsStored (Some (CommandRequest command)) = IsStored (Some command)
RunIsStored (Some Session) = Unit {0}

-- what must be done
abbrev pub RunCanBeDone : Option Request → Option Files → List ℕ → Type 0
RunCanBeDone None files bytes = ⊥
RunCanBeDone (Some (CommandRequest command)) files bytes = CanBeDone (Some command) files bytes
RunCanBeDone (Some Session) None bytes = ⊥
RunCanBeDone (Some Session) (Some files) bytes = IsReadable files × EndsWell files bytes

-- how many blocks are built
abbrev pub RunBuilds : Option Request → Status → Option (List ℕ) → Option (List ℕ) → Option Outside → ℕ → ℕ → Type 0
RunBuilds None status held remaining before old new = Builds None held before old new
RunBuilds (Some (CommandRequest command)) status held remaining before old new =
    Builds (Some command) held before old new
RunBuilds (Some Session) status held remaining before old new = SessionRunBuilds status held remaining before old new
