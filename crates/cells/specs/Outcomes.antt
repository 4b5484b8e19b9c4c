-- What a command gives for the bytes of an input: the status, and the output.
use Rattle.std.specs.Prelude.{◌≡◌, ◌⊎◌, ℕ, List, Option, Some, None}
use Rattle.road_base.specs.declared.event.Event.{Event}
use Rattle.opl_lexer.specs.declared.mode.Mode.TheVariants.{Extract}
use Rattle.opl_lexer.specs.Reading.{FaultAt, ReadAll, input_fault}
use Rattle.access_profile.specs.Profiles.{rules_of}
use Rattle.bounded_input.specs.Limits.{PassesLimit, PassesStreamLimit, HasTooManyBytes}
use Rattle.last_words.specs.declared.status.Status.{Status}
use Rattle.last_words.specs.declared.status.Status.TheVariants.{Done, Usage, Refused, Limit}
use Rattle.last_words.specs.Texts.{limit_line, refused_line}
use Rattle.graph_merge.specs.declared.faults.MergeFault.{MergeFault}
use Rattle.graph_merge.specs.declared.faults.MergeFault.TheVariants.{Graph, Twice}
use Rattle.graph_merge.specs.Merging.{IsMerged, IsRefusedFor}
use Rattle.graph_merge.specs.Ranges.{IsRange, IsNoGraph}
use Rattle.cell_plan.specs.declared.cells.PlanRule.{PlanRule}
use Rattle.cells.specs.declared.command.MapCommand.{MapCommand}
use Rattle.cells.specs.declared.command.MapCommand.TheVariants.{Part, Rest, Cell, Ways}
use Rattle.cells.specs.declared.command.GraphCommand.{GraphCommand}
use Rattle.cells.specs.declared.command.GraphCommand.TheVariants.{Range, Merge}
use Rattle.cells.specs.declared.command.Command.{Command}
use Rattle.cells.specs.declared.command.Command.TheVariants.{Plan, Map, Graphs}
use Rattle.cells.specs.Commands.{number_of}
use Rattle.cells.specs.Texts.{usage_line, refused_graph_line, refused_way_line}
use Rattle.cells.specs.Made.{IsPart, IsRestOf, IsReport, IsOfWays, IsPlan}

-- ---- texts that are refused

-- Why a text isn't taken, with the status and the line that say so: it passes its limit, or this is its first fault. A
-- text that is read as a stream is left at its first fault, and may go on past the limit then.
pub data TextRefusal (Passes : List ℕ → Type 0) (MayGoOn : Type 0) (bytes : List ℕ) (status : Status) (out : List ℕ)
    : Type 0 where
  OfTooMuch : Passes bytes → status ≡ Limit → out ≡ limit_line → TextRefusal Passes MayGoOn bytes status out
  OfFault : MayGoOn ⊎ (Passes bytes → ⊥) → (fault : FaultAt) → input_fault Extract bytes ≡ Some fault
      → status ≡ Refused → out ≡ refused_line fault → TextRefusal Passes MayGoOn bytes status out

-- the line that says why graphs aren't merged or cut
abbrev pub fault_line : MergeFault → List ℕ
fault_line (Graph k) = refused_graph_line k
fault_line (Twice w) = refused_way_line w

-- ---- the commands

-- `plan NODES [METRES]`: the cells of the nodes that the text holds
pub data PlanGives (rule : PlanRule) (bytes : List ℕ) (status : Status) (out : List ℕ) : Type 0 where
  OfText : TextRefusal PassesStreamLimit (Unit {0}) bytes status out → PlanGives rule bytes status out
  OfNodes : (PassesStreamLimit bytes → ⊥) → (events : List Event) → ReadAll Extract bytes events
      → IsPlan rule events out → status ≡ Done → PlanGives rule bytes status out

-- what a command makes of the objects that events leave
abbrev pub IsMade : MapCommand → List Event → List ℕ → Type 0
IsMade (Part cut profile) events out = IsPart cut (rules_of (number_of profile)) events out
IsMade (Rest cut) events out = IsRestOf cut events out
IsMade (Cell cut profile) events out = IsReport cut (rules_of (number_of profile)) events out
IsMade (Ways profile ways) events out = IsOfWays (rules_of (number_of profile)) ways events out

-- `part BOX CELL [2]`, `rest BOX CELL`, `cell BOX CELL [2]` and `ways PROFILE WAY..`
pub data MapGives (command : MapCommand) (bytes : List ℕ) (status : Status) (out : List ℕ) : Type 0 where
  OfText : TextRefusal PassesLimit ⊥ bytes status out → MapGives command bytes status out
  OfMap : (PassesLimit bytes → ⊥) → (events : List Event) → ReadAll Extract bytes events
      → IsMade command events out → status ≡ Done → MapGives command bytes status out

-- what a command makes of graphs, and why it doesn't
abbrev pub IsMadeOfGraphs : GraphCommand → List ℕ → List ℕ → Type 0
IsMadeOfGraphs (Range from to) bytes out = IsRange from to bytes out
IsMadeOfGraphs Merge bytes out = IsMerged bytes out

abbrev pub IsRefusedGraph : GraphCommand → List ℕ → MergeFault → Type 0
IsRefusedGraph (Range from to) bytes fault = IsNoGraph bytes fault
IsRefusedGraph Merge bytes fault = IsRefusedFor fault bytes

-- `range FROM TO` and `merge`
pub data GraphsGive (command : GraphCommand) (bytes : List ℕ) (status : Status) (out : List ℕ) : Type 0 where
  OfTooMuch : HasTooManyBytes bytes → status ≡ Limit → out ≡ limit_line → GraphsGive command bytes status out
  OfFault : (HasTooManyBytes bytes → ⊥) → (fault : MergeFault) → IsRefusedGraph command bytes fault
      → status ≡ Refused → out ≡ fault_line fault → GraphsGive command bytes status out
  OfGraphs : (HasTooManyBytes bytes → ⊥) → IsMadeOfGraphs command bytes out → status ≡ Done
      → GraphsGive command bytes status out

-- the status and the output, where the source holds these bytes and nothing fails
abbrev pub Gives : Option Command → List ℕ → Status → List ℕ → Type 0
Gives None bytes status out = (status ≡ Usage) × (out ≡ usage_line)
Gives (Some (Plan rule)) bytes status out = PlanGives rule bytes status out
Gives (Some (Map command)) bytes status out = MapGives command bytes status out
Gives (Some (Graphs command)) bytes status out = GraphsGive command bytes status out
