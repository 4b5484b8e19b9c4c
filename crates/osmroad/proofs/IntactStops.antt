-- A stop at any moment of a run leaves files that stand for a history, or that hold no store, where nothing was pending
-- on such files when the run began.
use Rattle.std.proofs.Common.{◌≡◌, ◌⊎◌, inl, inr, ⊎_elim, ℕ, ◌<◌, ◌≤◌, ◌^◌, List, length, Option, None, Some, Bool}
use Rattle.std.proofs.Common.{sym, subst, arith}
use Rattle.std.proofs.lemmas.Bool.{cases_lt}
use Rattle.road_base.specs.History.{History, with_change}
use Rattle.road_io.specs.declared.outside.Which.{Which}
use Rattle.road_io.specs.declared.outside.Which.TheVariants.{A, B}
use Rattle.road_io.specs.Told.{Told}
use Rattle.road_io.specs.Outside.{Outside, Left, LeavesOnly, image_of}
use Rattle.road_io.proofs.ToldCalls.{told_weaker}
use Rattle.road_io.proofs.CallRuns.{only_weaker}
use Rattle.sequence_journal.specs.Layout.{NoBase}
use Rattle.sequence_journal.specs.Basing.{base_alone}
use Rattle.store_switch.specs.LiveFile.{IsLive, NoBases, BothDurable, reads_of}
use Rattle.store_switch.specs.TwoFiles.{StandOn, StandFor, CanBeLoaded, AreIntact}
use Rattle.pinned_readers.specs.PinnedRuns.{Pins}
use Rattle.session.specs.Conversation.{Kept}
use Rattle.session.specs.Conversing.{LeavesSession}
use Rattle.osmroad.specs.declared.command.BaseProfile.{BaseProfile}
use Rattle.osmroad.specs.declared.command.Command.{Command}
use Rattle.osmroad.specs.declared.command.Command.TheVariants.{Compile, Inspect, Sample, Create, Apply}
use Rattle.osmroad.specs.declared.command.Command.TheVariants.{Graph, Audit, Checkpoint}
use Rattle.osmroad.specs.declared.command.Request.{Request}
use Rattle.osmroad.specs.declared.command.Request.TheVariants.{Session, Command as CommandRequest}
use Rattle.last_words.specs.declared.status.Status.{Status}
use Rattle.osmroad.specs.Opening.{IsStore}
use Rattle.osmroad.specs.Checkpoints.{checkpointed}
use Rattle.osmroad.specs.Stops.{CouldLeave, LeavesFirst, LeavesBase, LeavesChange, LeavesHistory, LeavesCheckpoint}
use Rattle.osmroad.specs.Stops.{LeavesStored, LeavesCreated, LeftBy}
use Rattle.osmroad.specs.Run.{Ends}
use Rattle.osmroad.specs.Sessions.{LeavesServed, EndsSession, SessionRuns, opening, replies_over}
use Rattle.osmroad.specs.Requests.{RunEnds}
use Rattle.osmroad.specs.StoreLaws.{StoreLaws}
use Rattle.session.proofs.KeptStores.{unput, stands_still}
use Rattle.osmroad.proofs.LoadedStores.{left_unput}

-- what a stop leaves of files on which nothing is pending, which stand for a history or hold no store
abbrev pub StaysIntact : Outside → Outside → Type 0
StaysIntact w v = BothDurable w → AreIntact (reads_of w) → LeavesOnly w v (λ left. AreIntact (image_of left))

-- files that read as intact ones are intact
intact_still : (files images : Which → List ℕ) → ((f : Which) → images f ≡ files f) → AreIntact files
    → AreIntact images
intact_still files images same (inl none) = inl (λ f. subst NoBase (sym (same f)) (none f))
intact_still files images same (inr stand) = inr (stand.0, stands_still files images same stand.0 stand.1)

-- files that stand for this history
intact_for : (left : Left) (h : History) → StandFor (image_of left) h → AreIntact (image_of left)
intact_for left h stand = inr (h, stand)

module _ (laws : StoreLaws) (w : Outside) (durable : BothDurable w) (intact : AreIntact (reads_of w)) (left : Left)
  where
    -- what a stop could leave when the run began
    could_intact : CouldLeave w left → AreIntact (image_of left)
    could_intact could = intact_still (reads_of w) (image_of left) same intact
      where
        same : (f : Which) → image_of left f ≡ reads_of w f
        same A = laws.there w (unput w left) A durable (left_unput w left could.a could.b)
        same B = laws.there w (unput w left) B durable (left_unput w left could.a could.b)

    first_intact : (h : History) → LeavesFirst w left h → AreIntact (image_of left)
    first_intact h first = intact_for left h (first.durable durable)

    -- ---- files that stand for a history, within the limit, and other files

    no_base_stands : NoBases (reads_of w) → (h : History) → StandFor (reads_of w) h → ⊥
    no_base_stands none h stand =
        let l : IsLive stand.0 (reads_of w) = laws.live (reads_of w) stand.0 stand.1 h stand.2 in
        none stand.0 l.base l.rest l.is_open

    -- a live file past the limit isn't loaded
    past_limit : (live : Which) (g : ℕ) (h : History) → StandOn live g (reads_of w) h
        → 2 ^ 40 < length (reads_of w live) → (i : History) → CanBeLoaded (reads_of w) i → ⊥
    past_limit live g h stand large i can =
        let same = laws.one_store (reads_of w) can.0 live can.1 g i h can.2 stand in
        let small = subst (λ (f : Which). length (reads_of w f) ≤ 2 ^ 40) same.0 can.3 in
        omega arith

    -- the files are a store, or none is loaded from them
    store_or_none : IsStore (reads_of w) ⊎ ((h : History) → CanBeLoaded (reads_of w) h → ⊥)
    store_or_none = ⊎_elim
        (λ none. inr (λ h can. no_base_stands none h (can.0, can.1, can.2)))
        (λ s. ⊎_elim
        (λ large. inr (past_limit s.1.0 s.1.1 s.0 s.1.2 large))
        (λ small. inl (record {
          live = s.1.0;
          generation = s.1.1;
          history = s.0;
          stands = s.1.2;
          small = small;
        }))
        (cases_lt (2 ^ 40) (length (reads_of w s.1.0)))) intact

    stored_intact : (LeavesOf : History → Type 0) → ((h : History) → LeavesOf h → AreIntact (image_of left))
        → LeavesStored LeavesOf w left → AreIntact (image_of left)
    stored_intact LeavesOf each l = ⊎_elim
        (λ s. each s.history (l.stored s.history (s.live, s.generation, s.stands, s.small)))
        (λ never. could_intact (l.otherwise never)) store_or_none

    -- ---- each command

    base_intact : (number : ℕ) (read : List ℕ) → LeavesBase number read w left → AreIntact (image_of left)
    base_intact number read (LeavesBase.Before could unsaid) = could_intact could
    base_intact number read (LeavesBase.Without none unsaid) = inl none
    base_intact number read (LeavesBase.With events input stand) = intact_for left (base_alone 1 number events) stand

    created_intact : (number : ℕ) (read : List ℕ) → LeavesCreated number read w left → AreIntact (image_of left)
    created_intact number read l = ⊎_elim
        (λ none. base_intact number read (l.created none))
        (λ s. could_intact (l.otherwise (λ none. no_base_stands none s.0 s.1))) intact

    change_intact : (number : ℕ) (read : List ℕ) (h : History) → LeavesChange number read w left h
        → AreIntact (image_of left)
    change_intact number read h (LeavesChange.Before first) = first_intact h first
    change_intact number read h (LeavesChange.Without stand unsaid) = intact_for left h stand
    change_intact number read h (LeavesChange.With next events input stand) =
        intact_for left (with_change h events) stand

    history_intact : (h : History) → LeavesHistory w left h → AreIntact (image_of left)
    history_intact h l = ⊎_elim (first_intact h) (intact_for left h) l

    checkpoint_intact : (base : BaseProfile) (h : History) → LeavesCheckpoint base w left h
        → AreIntact (image_of left)
    checkpoint_intact base h (LeavesCheckpoint.Before first) = first_intact h first
    checkpoint_intact base h (LeavesCheckpoint.Without stand unsaid) = intact_for left h stand
    checkpoint_intact base h (LeavesCheckpoint.With events are same stand) =
        intact_for left (checkpointed base h events) stand

    left_intact : (command : Option Command) (read : List ℕ) → LeftBy command read w left → AreIntact (image_of left)
    left_intact None read l = could_intact l
    left_intact (Some (Compile n)) read l = could_intact l
    left_intact (Some Inspect) read l = could_intact l
    left_intact (Some (Sample n)) read l = could_intact l
    left_intact (Some (Create n)) read l = created_intact n.0 read l
    left_intact (Some (Apply n)) read l = stored_intact (LeavesChange n.0 read w left) (change_intact n.0 read) l
    left_intact (Some (Graph moment)) read l = stored_intact (LeavesHistory w left) history_intact l
    left_intact (Some Audit) read l = stored_intact (LeavesHistory w left) history_intact l
    left_intact (Some (Checkpoint base)) read l =
        stored_intact (LeavesCheckpoint base w left) (checkpoint_intact base) l

    -- ---- a session

    served_intact : (read : List ℕ) (ended : Bool) → LeavesServed read ended w left → AreIntact (image_of left)
    served_intact read ended l = ⊎_elim
        (λ s. ⊎_elim (first_intact s.history) (λ k. session_intact (opening s) k) (l.stored s))
        (λ never. could_intact (l.otherwise (λ s. never s.history (s.live, s.generation, s.stands, s.small))))
        store_or_none
      where
        session_intact : (from : Kept Pins) → LeavesSession (replies_over from) from read ended w left
            → AreIntact (image_of left)
        session_intact from k = ⊎_elim
            (intact_for left k.from.history) (intact_for left k.to.history) k.leaves.files

-- ---- a run

module _ (laws : StoreLaws) (status : Status) (held remaining : Option (List ℕ)) (x y : Option Outside) where
  command_intact : (command : Option Command) → Ends command status held remaining x y → Told StaysIntact x y
  command_intact command e =
      told_weaker x y (λ w v. LeavesOnly w v (LeftBy command e.read w)) StaysIntact e.stops
      (λ w v only durable intact. only_weaker w v (LeftBy command e.read w) (λ left. AreIntact (image_of left)) only
      (λ left. left_intact laws w durable intact left command e.read))

  session_intact : EndsSession status held remaining x y → Told StaysIntact x y
  session_intact e = told_weaker x y (SessionRuns e.read e.ended status) StaysIntact e.runs
      (λ w v runs durable intact. only_weaker w v (LeavesServed e.read e.ended w) (λ left. AreIntact (image_of left))
      runs.stops (λ left. served_intact laws w durable intact left e.read e.ended))

  pub run_intact : (request : Option Request) → RunEnds request status held remaining x y → Told StaysIntact x y
  run_intact None e = command_intact None e
  run_intact (Some (CommandRequest command)) e = command_intact (Some command) e
  run_intact (Some Session) e = session_intact e
