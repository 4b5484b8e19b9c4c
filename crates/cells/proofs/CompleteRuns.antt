-- What must be done is done.
use Rattle.std.proofs.Common.{◌≡◌, ℕ, List, Option, Some, Ok, subst}
use Rattle.road_base.specs.declared.event.Event.{Event}
use Rattle.opl_lexer.specs.declared.mode.Mode.TheVariants.{Extract}
use Rattle.opl_lexer.specs.Reading.{FaultAt, ReadAll, input_fault}
use Rattle.last_words.specs.declared.words.LastWords.{LastWords}
use Rattle.last_words.specs.declared.status.Status.{Status}
use Rattle.last_words.specs.declared.status.Status.TheVariants.{Done}
use Rattle.graph_merge.specs.declared.faults.MergeFault.{MergeFault}
use Rattle.graph_merge.specs.Merging.{IsMergeable, IsRefusedFor}
use Rattle.cells.specs.declared.command.GraphCommand.{GraphCommand}
use Rattle.cells.specs.declared.command.GraphCommand.TheVariants.{Range, Merge}
use Rattle.cells.specs.declared.command.Command.{Command}
use Rattle.cells.specs.declared.command.Command.TheVariants.{Plan, Map, Graphs}
use Rattle.cells.specs.Outcomes.{TextRefusal, PlanGives, MapGives, GraphsGive, Gives}
use Rattle.cells.specs.Run.{CanBeDone}
use Rattle.cells.specs.Replies.{WillPut, Prepares}
use Rattle.cells.proofs.HeldSource.{same_held}

-- a mergeable input is never refused
abbrev pub NoMergeFault : Type 0
NoMergeFault = (bytes : List ℕ) (fault : MergeFault) → IsMergeable bytes → IsRefusedFor fault bytes → ⊥

no_fault : (bytes : List ℕ) (events : List Event) (fault : FaultAt) → ReadAll Extract bytes events
    → input_fault Extract bytes ≡ Some fault → ⊥
no_fault bytes events fault r is = let good = r.good in cc

not_refused : (Passes : List ℕ → Type 0) (MayGoOn : Type 0) (bytes : List ℕ) (status : Status) (out : List ℕ)
    (events : List Event) → (Passes bytes → ⊥) → ReadAll Extract bytes events
    → TextRefusal Passes MayGoOn bytes status out → ⊥
not_refused Passes MayGoOn bytes status out events within read (TextRefusal.OfTooMuch passes e o) = within passes
not_refused Passes MayGoOn bytes status out events within read (TextRefusal.OfFault may fault is e o) =
    no_fault bytes events fault read is

graphs_done : NoMergeFault → (command : GraphCommand) (bytes : List ℕ) (status : Status) (out : List ℕ)
    → CanBeDone (Some (Graphs command)) bytes → GraphsGive command bytes status out → status ≡ Done
graphs_done never (Range from to) bytes status out can (GraphsGive.OfTooMuch more e o) = absurd (can.0 more)
graphs_done never (Range from to) bytes status out can (GraphsGive.OfFault few fault is e o) = absurd (is.0 can.1)
graphs_done never (Range from to) bytes status out can (GraphsGive.OfGraphs few made e) = e
graphs_done never Merge bytes status out can (GraphsGive.OfTooMuch more e o) = absurd (can.0 more)
graphs_done never Merge bytes status out can (GraphsGive.OfFault few fault is e o) =
    absurd (never bytes fault can.1 is)
graphs_done never Merge bytes status out can (GraphsGive.OfGraphs few made e) = e

can_done : NoMergeFault → (command : Command) (bytes : List ℕ) (status : Status) (out : List ℕ)
    → CanBeDone (Some command) bytes → Gives (Some command) bytes status out → status ≡ Done
can_done never (Plan rule) bytes status out can (PlanGives.OfText refusal) = absurd
    (not_refused _ _ bytes status out can.1 can.0 can.2 refusal)
can_done never (Plan rule) bytes status out can (PlanGives.OfNodes within events read made e) = e
can_done never (Map command) bytes status out can (MapGives.OfText refusal) = absurd
    (not_refused _ _ bytes status out can.1 can.0 can.2 refusal)
can_done never (Map command) bytes status out can (MapGives.OfMap within events read made e) = e
can_done never (Graphs command) bytes status out can gives = graphs_done never command bytes status out can gives

-- where the source tells bytes with which the command can be done, what is put says so
pub done : NoMergeFault → (command : Command) (held left : Option (List ℕ)) (bytes : List ℕ) → held ≡ Some bytes
    → CanBeDone (Some command) bytes → (reply : LastWords) → Prepares command (Ok reply) held left
    → reply.status ≡ Done
done never command held left bytes is can reply p =
    let will : WillPut command p.bytes p.read reply = p.answer in
    can_done never command p.bytes reply.status reply.out.items
    (subst (λ (l : List ℕ). CanBeDone (Some command) l) (same_held bytes p.bytes p.behind held left is p.holds) can)
    will.gives
