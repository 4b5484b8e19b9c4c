-- What must be done is done.
use Rattle.std.proofs.Common.{◌≡◌, ℕ, ◌<◌, ◌^◌, List, Option, None, Some, Ok, subst, arith}
use Rattle.road_base.specs.declared.event.Event.{Event}
use Rattle.road_base.specs.History.{History}
use Rattle.opl_lexer.specs.declared.mode.Mode.TheVariants.{Extract, Change}
use Rattle.road_io.specs.Outside.{Outside}
use Rattle.osmroad.specs.declared.command.BaseProfile.{BaseProfile}
use Rattle.osmroad.specs.declared.command.Command.{Command}
use Rattle.osmroad.specs.declared.command.Command.TheVariants.{Compile, Inspect, Sample, Create, Apply}
use Rattle.osmroad.specs.declared.command.Command.TheVariants.{Graph, Audit, Checkpoint}
use Rattle.last_words.specs.declared.status.Status.{Status}
use Rattle.last_words.specs.declared.status.Status.TheVariants.{Done}
use Rattle.last_words.specs.declared.words.LastWords.{LastWords}
use Rattle.store_switch.specs.LiveFile.{NoBases}
use Rattle.osmroad.specs.Opening.{Files, IsStore, size_with_change}
use Rattle.road_model.specs.Format.{IsGraphFile}
use Rattle.bounded_input.specs.Limits.{HasTooManyBytes}
use Rattle.osmroad.specs.Outcomes.{AreInput, CompileGives, InspectGives, CreateGives, ApplyGives, ShowGives, Gives}
use Rattle.osmroad.specs.Checkpoints.{CheckpointGives}
use Rattle.osmroad.specs.Run.{IsReadable, CanBeAdded, CanBeCheckpointed, CanBeDone, files_of}
use Rattle.osmroad.specs.Replies.{WillPut, Prepares}
use Rattle.osmroad.proofs.HeldSource.{same_held}
use Rattle.osmroad.specs.StoreLaws.{OneLive}
use Rattle.osmroad.proofs.CitedLaws.{OneReading}
use Rattle.osmroad.proofs.Refusals.{not_refused, no_fault, readable_not_refused}

-- ---- each command gives Done where it can be done

module _ (bytes : List ℕ) (status : Status) (out : List ℕ) (events : List Event) where
  compile_done : (profile : ℕ) → AreInput Extract bytes events → CompileGives profile bytes status out
      → status ≡ Done
  compile_done profile input (CompileGives.OfInput refusal) = absurd
      (not_refused Extract bytes status out events input refusal)
  compile_done profile input (CompileGives.OfExtract within is e) = e

  module _ (number : ℕ) (files : Files) (after : Option History) where
    create_done : NoBases files → AreInput Extract bytes events → CreateGives number files bytes status out after
        → status ≡ Done
    create_done none input (CreateGives.OfOldStore file has e o a) = absurd (none file has.0 has.1 has.2)
    create_done none input (CreateGives.OfInput n refusal a) = absurd
        (not_refused Extract bytes status out events input refusal)
    create_done none input (CreateGives.OfExtract n read is e o a) = e

    no_room : OneReading → (s : IsStore files) (others : List Event) → AreInput Change bytes events
        → AreInput Change bytes others → CanBeAdded number events files
        → 2 ^ 40 < size_with_change s.generation s.history others → ⊥
    no_room one s others input read can large =
        let same = one Change bytes others events read.read input.read in
        let room = (can s).1 in
        let more = subst (λ (l : List Event). 2 ^ 40 < size_with_change s.generation s.history l) same large in
        omega arith

    apply_done : OneLive → OneReading → IsReadable files → AreInput Change bytes events
        → CanBeAdded number events files → ApplyGives number files bytes status out after → status ≡ Done
    apply_done live one r input can (ApplyGives.OfStore refusal a) = absurd
        (readable_not_refused files status out live r refusal)
    apply_done live one r input can (ApplyGives.OfTooMuch s much e o a) = absurd (input.within much)
    apply_done live one r input can (ApplyGives.OfSequence s w wrong e o a) = absurd (wrong (can s).0)
    apply_done live one r input can (ApplyGives.OfFault s w next fault is e o a) = absurd
        (no_fault Change bytes events fault input.read is)
    apply_done live one r input can (ApplyGives.OfFullFile s next others read large e o a) = absurd
        (no_room one s others input read can large)
    apply_done live one r input can (ApplyGives.OfChange s next others read fits e o a) = e

show_done : OneLive → (Shows : ℕ → List Event → List ℕ → Type 0) (files : Files) (status : Status) (out : List ℕ)
    (after : Option History) → IsReadable files → ShowGives Shows files status out after → status ≡ Done
show_done live Shows files status out after r (ShowGives.OfStore refusal a) = absurd
    (readable_not_refused files status out live r refusal)
show_done live Shows files status out after r (ShowGives.OfHistory s shown e a) = e

inspect_done : (bytes : List ℕ) (status : Status) (out : List ℕ) → (HasTooManyBytes bytes → ⊥) → IsGraphFile bytes
    → InspectGives bytes status out → status ≡ Done
inspect_done bytes status out few is (InspectGives.OfTooMuch much e o) = absurd (few much)
inspect_done bytes status out few is (InspectGives.OfNoGraph w none e o) = absurd (none is)
inspect_done bytes status out few is (InspectGives.OfGraph w g version profile blocks file e o) = e

checkpoint_done : OneLive → (base : BaseProfile) (files : Files) (status : Status) (out : List ℕ)
    (after : Option History) → IsReadable files → CanBeCheckpointed files → CheckpointGives base files status out after
    → status ≡ Done
checkpoint_done live base files status out after r can (CheckpointGives.OfStore refusal a) = absurd
    (readable_not_refused files status out live r refusal)
checkpoint_done live base files status out after r can (CheckpointGives.OfNoRoom s events are none e o a) = absurd
    (can s events are none)
checkpoint_done live base files status out after r can (CheckpointGives.OfEntries s events are room e o a) = e

-- ---- a run

module _ (live : OneLive) (one : OneReading) where
  can_done : (command : Option Command) (files : Option Files) (bytes : List ℕ) (status : Status) (out : List ℕ)
      (after : Option History) → CanBeDone command files bytes → Gives command files bytes status out after
      → status ≡ Done
  can_done None files bytes status out after can gives = absurd can
  can_done (Some (Compile n)) files bytes status out after can gives =
      compile_done bytes status out can.0 n can.1 gives.0
  can_done (Some Inspect) files bytes status out after can gives =
      inspect_done bytes status out can.0 can.1 gives.0
  can_done (Some (Sample n)) files bytes status out after can gives = gives.0
  can_done (Some (Create n)) None bytes status out after can gives = absurd can
  can_done (Some (Create n)) (Some f) bytes status out after can gives =
      create_done bytes status out can.1 n.0 f after can.0 can.2 gives
  can_done (Some (Apply n)) None bytes status out after can gives = absurd can
  can_done (Some (Apply n)) (Some f) bytes status out after can gives =
      apply_done bytes status out can.1 n.0 f after live one can.0 can.2 can.3 gives
  can_done (Some (Graph moment)) None bytes status out after can gives = absurd can
  can_done (Some (Graph moment)) (Some f) bytes status out after can gives =
      show_done live _ f status out after can gives
  can_done (Some Audit) None bytes status out after can gives = absurd can
  can_done (Some Audit) (Some f) bytes status out after can gives = show_done live _ f status out after can gives
  can_done (Some (Checkpoint base)) None bytes status out after can gives = absurd can
  can_done (Some (Checkpoint base)) (Some f) bytes status out after can gives =
      checkpoint_done live base f status out after can.0 can.1 gives

  -- where the source tells bytes with which the command can be done, what is put says so
  pub done : (command : Option Command) (held left : Option (List ℕ)) (before mid : Option Outside) (bytes : List ℕ)
      → held ≡ Some bytes → CanBeDone command (files_of before) bytes
      → (reply : LastWords) → Prepares command (Ok reply) held left before mid → reply.status ≡ Done
  done command held left before mid bytes is can reply p =
      let will : WillPut command p.bytes p.read reply.status reply.out.items before mid = p.answer in
      let same = same_held bytes p.bytes p.behind held left is p.holds in
      can_done command (files_of before) p.bytes reply.status reply.out.items will.after
      (subst (λ (l : List ℕ). CanBeDone command (files_of before) l) same can) will.gives
