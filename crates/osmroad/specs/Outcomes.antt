-- What a command gives for the files of a store and the bytes of an input: the status, the output, and for what the
-- files then stand.
use Rattle.std.specs.Prelude.{◌≡◌, ◌≢◌, ℕ, ◌+◌, ◌<◌, ◌≤◌, ◌^◌, List, Option, None, Some, IfSome}
use Rattle.road_base.specs.declared.event.Event.{Event}
use Rattle.road_base.specs.History.{History, all_events, kept, with_change}
use Rattle.road_base.specs.Profiles.{IsProfile}
use Rattle.opl_lexer.specs.declared.mode.Mode.{Mode}
use Rattle.opl_lexer.specs.declared.mode.Mode.TheVariants.{Extract, Change}
use Rattle.opl_lexer.specs.Reading.{FaultAt, input_fault, ReadAll}
use Rattle.road_model.specs.declared.blocks.Block.{Block}
use Rattle.road_model.specs.Format.{IsGraphFile}
use Rattle.graph_file.specs.GraphReading.{IsFile}
use Rattle.access_profile.specs.Profiles.{rules_of}
use Rattle.drive_queries.specs.Counting.{totals_of}
use Rattle.road_io.specs.declared.outside.Which.{Which}
use Rattle.sequence_journal.specs.Layout.{HasBase}
use Rattle.sequence_journal.specs.Basing.{base_alone}
use Rattle.store_switch.specs.LiveFile.{NoBases}
use Rattle.osmroad.specs.declared.command.Command.{Command}
use Rattle.osmroad.specs.declared.command.Command.TheVariants.{Compile, Inspect, Sample, Create, Apply}
use Rattle.osmroad.specs.declared.command.Command.TheVariants.{Graph, Audit, Checkpoint}
use Rattle.last_words.specs.declared.status.Status.{Status}
use Rattle.last_words.specs.declared.status.Status.TheVariants.{Done, Usage, Refused, OutOfSequence, StoreExists, Limit}
use Rattle.bounded_input.specs.Limits.{PassesLimit, HasTooManyBytes}
use Rattle.last_words.specs.Texts.{limit_line}
use Rattle.osmroad.specs.Texts.{usage_line, store_exists_line, created_line, applied_line}
use Rattle.last_words.specs.Texts.{refused_line}
use Rattle.osmroad.specs.Texts.{sequence_line, refused_graph_line, counts_line}
use Rattle.compiled_graph.specs.Compiled.{IsGraphOf}
use Rattle.osmroad.specs.Shown.{rules_shown}
use Rattle.osmroad.specs.Audited.{IsAuditOf}
use Rattle.osmroad.specs.Sampling.{IsSample}
use Rattle.osmroad.specs.Checkpoints.{CheckpointGives}
use Rattle.osmroad.specs.Opening.{Files, IsStore, StoreRefusal, size_with_change}

-- ---- an input

abbrev pub IsWithinLimits : List ℕ → Type 0
IsWithinLimits bytes = PassesLimit bytes → ⊥

-- the bytes pass no limit, no line is in fault, and these are their events
pub record AreInput (mode : Mode) (bytes : List ℕ) (events : List Event) : Type 0 where
  pub within : IsWithinLimits bytes
  pub read : ReadAll mode bytes events

-- why an input isn't taken, with the status and the line that say so
pub data InputRefusal (mode : Mode) (bytes : List ℕ) (status : Status) (out : List ℕ) : Type 0 where
  OfTooMuch : PassesLimit bytes → status ≡ Limit → out ≡ limit_line → InputRefusal mode bytes status out
  OfFault : IsWithinLimits bytes → (fault : FaultAt) → input_fault mode bytes ≡ Some fault
      → status ≡ Refused → out ≡ refused_line fault → InputRefusal mode bytes status out

-- ---- the commands

-- no line is in fault, and `out` is the graph of the objects that the events leave, of this known profile
pub record IsCompiled (profile : ℕ) (bytes out : List ℕ) : Type 0 where
  pub known : IsProfile profile
  pub events : List Event
  pub read : ReadAll Extract bytes events
  pub graph : IsGraphOf (rules_of profile) events out

-- `- compile` and `- compile 2`, under this profile
pub data CompileGives (profile : ℕ) (bytes : List ℕ) (status : Status) (out : List ℕ) : Type 0 where
  OfInput : InputRefusal Extract bytes status out → CompileGives profile bytes status out
  OfExtract : IsWithinLimits bytes → IsCompiled profile bytes out → status ≡ Done
      → CompileGives profile bytes status out

-- `- inspect`: the bytes are a graph file, of either version and any known profile, of which `out` says how large it is
pub data InspectGives (bytes : List ℕ) (status : Status) (out : List ℕ) : Type 0 where
  OfTooMuch : HasTooManyBytes bytes → status ≡ Limit → out ≡ limit_line → InspectGives bytes status out
  OfNoGraph : (HasTooManyBytes bytes → ⊥) → (IsGraphFile bytes → ⊥)
      → status ≡ Refused → out ≡ refused_graph_line → InspectGives bytes status out
  OfGraph : (HasTooManyBytes bytes → ⊥) → IsGraphFile bytes
      → (version profile : ℕ) (blocks : List Block) → IsFile version profile bytes blocks
      → status ≡ Done → out ≡ counts_line (totals_of blocks) → InspectGives bytes status out

-- `STORE create N`: where no file has an open base, the files then stand for base N, of profile 1, with the events of
-- the extract
pub data CreateGives (number : ℕ) (files : Files) (bytes : List ℕ) (status : Status) (out : List ℕ)
    (after : Option History) : Type 0 where
  OfOldStore : (file : Which) → HasBase (files file)
      → status ≡ StoreExists → out ≡ store_exists_line → after ≡ None
      → CreateGives number files bytes status out after
  OfInput : NoBases files → InputRefusal Extract bytes status out → after ≡ None
      → CreateGives number files bytes status out after
  OfExtract : NoBases files → (events : List Event) → AreInput Extract bytes events
      → status ≡ Done → out ≡ created_line number → after ≡ Some (base_alone 1 number events)
      → CreateGives number files bytes status out after

-- `STORE apply N`: the files then stand for their history with the change, or as before, in the order of the refusals
pub data ApplyGives (number : ℕ) (files : Files) (bytes : List ℕ) (status : Status) (out : List ℕ)
    (after : Option History) : Type 0 where
  OfStore : StoreRefusal files status out → after ≡ None → ApplyGives number files bytes status out after
  OfTooMuch : (s : IsStore files) → PassesLimit bytes
      → status ≡ Limit → out ≡ limit_line → after ≡ Some s.history
      → ApplyGives number files bytes status out after
  OfSequence : (s : IsStore files) → IsWithinLimits bytes → number ≢ kept s.history + 1
      → status ≡ OutOfSequence → out ≡ sequence_line number (kept s.history) → after ≡ Some s.history
      → ApplyGives number files bytes status out after
  OfFault : (s : IsStore files) → IsWithinLimits bytes → number ≡ kept s.history + 1
      → (fault : FaultAt) → input_fault Change bytes ≡ Some fault
      → status ≡ Refused → out ≡ refused_line fault → after ≡ Some s.history
      → ApplyGives number files bytes status out after
  OfFullFile : (s : IsStore files) → number ≡ kept s.history + 1
      → (events : List Event) → AreInput Change bytes events
      → 2 ^ 40 < size_with_change s.generation s.history events
      → status ≡ Limit → out ≡ limit_line → after ≡ Some s.history
      → ApplyGives number files bytes status out after
  OfChange : (s : IsStore files) → number ≡ kept s.history + 1
      → (events : List Event) → AreInput Change bytes events
      → size_with_change s.generation s.history events ≤ 2 ^ 40
      → status ≡ Done → out ≡ applied_line number → after ≡ Some (with_change s.history events)
      → ApplyGives number files bytes status out after

-- `STORE graph`, with a moment or without, and `STORE audit`: what is shown of all events of the store's history, for
-- the number of its profile
pub data ShowGives (Shows : ℕ → List Event → List ℕ → Type 0) (files : Files) (status : Status) (out : List ℕ)
    (after : Option History) : Type 0 where
  OfStore : StoreRefusal files status out → after ≡ None → ShowGives Shows files status out after
  OfHistory : (s : IsStore files) → Shows s.history.profile (all_events s.history) out
      → status ≡ Done → after ≡ Some s.history
      → ShowGives Shows files status out after

-- ---- all of them

-- The status and the output of a command, where the files and the source's bytes are these and nothing fails; and for
-- which history the files then stand, where that is said, else they read as before. Of a store whose files aren't told
-- nothing is said here. Command, files and bytes determine all three: the law `one_answer`.
abbrev pub Gives : Option Command → Option Files → List ℕ → Status → List ℕ → Option History → Type 0
Gives None files bytes status out after = (status ≡ Usage) × (out ≡ usage_line) × (after ≡ None)
Gives (Some (Compile n)) files bytes status out after = CompileGives n bytes status out × (after ≡ None)
Gives (Some Inspect) files bytes status out after = InspectGives bytes status out × (after ≡ None)
Gives (Some (Sample n)) files bytes status out after = (status ≡ Done) × IsSample (rules_of 1) n out × (after ≡ None)
Gives (Some (Create n)) files bytes status out after = IfSome files (λ f. CreateGives n.0 f bytes status out after)
Gives (Some (Apply n)) files bytes status out after = IfSome files (λ f. ApplyGives n.0 f bytes status out after)
Gives (Some (Graph moment)) files bytes status out after =
    IfSome files (λ f. ShowGives (λ n. IsGraphOf (rules_shown moment n)) f status out after)
Gives (Some Audit) files bytes status out after =
    IfSome files (λ f. ShowGives (λ n. IsAuditOf (rules_of n)) f status out after)
Gives (Some (Checkpoint base)) files bytes status out after =
    IfSome files (λ f. CheckpointGives base f status out after)
