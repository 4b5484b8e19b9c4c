-- Laws that an answer to a message rests on, as one fact.
use Rattle.std.specs.Prelude.{◌≡◌, ℕ, ◌≤◌, ◌^◌, List, length, Result, Ok}
use Rattle.road_base.specs.declared.event.Event.{Event}
use Rattle.road_base.specs.declared.ids.Sequence.{Sequence}
use Rattle.road_base.specs.History.{History, HasObjects, with_change}
use Rattle.road_base.specs.Objects.{Objects}
use Rattle.road_io.specs.declared.outside.Which.{Which}
use Rattle.road_io.specs.Outside.{Outside, Left, IsLeft, LeavesOnly, present}
use Rattle.sequence_journal.specs.declared.error.JournalError.{JournalError}
use Rattle.sequence_journal.specs.declared.journal.Journal.{Journal}
use Rattle.sequence_journal.specs.Adding.{Adds, AddAnswer}
use Rattle.store_switch.specs.LiveFile.{BothDurable, reads_of}
use Rattle.store_switch.specs.TwoFiles.{StandOn, IsOnStore, LeavesStore, LeavesEither}

pub record StoreLaws : Type 0 where
  pub stand : (j : Journal) (h : History) (w : Outside)
      → IsOnStore j h w → StandOn j.file j.generation (reads_of w) h
  pub stopped : (j : Journal) (h : History) (w : Outside) (left : Left)
      → IsOnStore j h w → IsLeft (present w) left → LeavesStore h w.output left
  pub stays : (j : Journal) (h : History) (w v : Outside)
      → IsOnStore j h w → ((file : Which) → reads_of v file ≡ reads_of w file) → BothDurable v → IsOnStore j h v
  pub added : (old new : Journal) (h : History) (change : List Event) (result : Result (Unit {0}) JournalError)
      (w v : Outside) → IsOnStore old h w → Adds old new change result w v
      → LeavesOnly w v (LeavesEither h change w.output)
  pub ok : (old new : Journal) (h : History) (seq : Sequence) (change : List Event) (x : Unit {0})
      (w v : Outside) (before now : ℕ) → IsOnStore old h w → AddAnswer old new seq change (Ok x) before now
      → Adds old new change (Ok x) w v → IsOnStore new (with_change h change) v
  pub small : (old new : Journal) (h : History) (seq : Sequence) (change : List Event) (x : Unit {0})
      (w v : Outside) (before now : ℕ) → IsOnStore old h w → AddAnswer old new seq change (Ok x) before now
      → Adds old new change (Ok x) w v → length (reads_of v new.file) ≤ 2 ^ 40
  pub objects : (h : History) → (M : Objects) × HasObjects h M
