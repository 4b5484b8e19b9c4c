-- What is prepared without a store: the site is as it was.
use Rattle.std.proofs.Common.{◌≡◌, ℕ, List, ◌++◌, Option, None, Some, refl, inl}
use Rattle.std.specs.Io.{StartsWith}
use Rattle.road_io.specs.Told.{Told}
use Rattle.road_io.specs.Disk.{IsImage}
use Rattle.road_io.specs.Outside.{Outside, Left, LeavesOnly}
use Rattle.road_io.proofs.CallRuns.{started}
use Rattle.road_io.proofs.ToldCalls.{told_same}
use Rattle.osmroad.specs.declared.command.Command.{Command}
use Rattle.osmroad.specs.declared.command.Command.TheVariants.{Compile, Inspect, Sample, Create, Apply}
use Rattle.osmroad.specs.declared.command.Command.TheVariants.{Graph, Audit, Checkpoint}
use Rattle.last_words.specs.declared.status.Status.{Status}
use Rattle.osmroad.specs.Outcomes.{Gives}
use Rattle.osmroad.specs.Stops.{CouldLeave, LeftBy}
use Rattle.osmroad.specs.Run.{IsStored, IsReply, Reads, StandAfter, StandAsBefore, files_of}
use Rattle.osmroad.specs.Replies.{WillPut}

-- the output is as it was
pub silent_still : (x : Option Outside) → Told (λ w v. v.output ≡ w.output) x x
silent_still x = told_same x (λ w v. v.output ≡ w.output) (λ w. refl)

-- the files read as before
pub stands_still : (x : Option Outside) → Told StandAsBefore x x
stands_still x = told_same x StandAsBefore (λ w. inl (λ file. refl))

module _ (command : Option Command) (read : List ℕ) where
  left_alone : (IsStored command → ⊥) → (w : Outside) (left : Left) → CouldLeave w left → LeftBy command read w left
  left_alone alone w left could = go command alone
    where
      go : (c : Option Command) → (IsStored c → ⊥) → LeftBy c read w left
      go None n = could
      go (Some (Compile number)) n = could
      go (Some Inspect) n = could
      go (Some (Sample number)) n = could
      go (Some (Create number)) n = absurd (n tt)
      go (Some (Apply number)) n = absurd (n tt)
      go (Some (Graph moment)) n = absurd (n tt)
      go (Some Audit) n = absurd (n tt)
      go (Some (Checkpoint base)) n = absurd (n tt)

  pub leaves_still : (IsStored command → ⊥) → (x : Option Outside)
      → Told (λ w v. LeavesOnly w v (LeftBy command read w)) x x
  leaves_still alone x = told_same x (λ w v. LeavesOnly w v (LeftBy command read w))
      (λ w. started w (LeftBy command read w)
      (λ left l. left_alone alone w left (record { a = l.a; b = l.b })))

  pub will_put_alone : (IsStored command → ⊥) → (bytes : List ℕ) (status : Status) (out : List ℕ)
      (x : Option Outside) → IsReply command status → Reads command (files_of x) status bytes read
      → Gives command (files_of x) bytes status out None → WillPut command bytes read status out x x
  will_put_alone alone bytes status out x replies reads gives = record {
    replies = replies;
    reads = reads;
    after = None;
    gives = gives;
    stand = told_same x (StandAfter command status None) (λ w file. refl);
    last = told_same x (λ w v. (left : Left) → IsImage v.a left.a → IsImage v.b left.b
        → StartsWith (v.output ++ out) left.out → LeftBy command read w left)
        (λ w left a b s. left_alone alone w left (record { a = a; b = b }));
  }
