-- A journal and the file that it stands on.
use Rattle.std.specs.Prelude.{◌≡◌, ◌⊎◌, ℕ, ◌≤◌, ◌^◌, List, [], ◌∷◌, ◌++◌, length}
use Rattle.std.specs.Prelude.{Result, IsErrOf}
use Rattle.road_base.specs.History.{History, kept}
use Rattle.road_io.specs.Told.{Rose}
use Rattle.road_io.specs.Disk.{IsDurable}
use Rattle.road_io.specs.Outside.{Outside, disk}
use Rattle.sequence_journal.specs.declared.journal.Journal.{Journal}
use Rattle.sequence_journal.specs.declared.error.JournalError.{JournalError}
use Rattle.sequence_journal.specs.declared.error.JournalError.TheVariants.{SiteFault}
use Rattle.sequence_journal.specs.Standing.{HistoryFits, history_bytes}

-- The journal stands on its file for this history, whose profile and kept number it has, and nothing is pending there.
-- Behind the records stands the next gate, closed, and nothing else; it is missing only where it would stand behind
-- 2^40 bytes.
pub record IsAt (j : Journal) (h : History) (w : Outside) : Type 0 where
  pub end : List ℕ
  pub reads : (disk w j.file).reads ≡ history_bytes j.generation h ++ end
  pub ends : (end ≡ 0 ∷ []) ⊎ ((end ≡ []) × (j.gate ≡ 2 ^ 40))
  pub gate : j.gate ≡ length (history_bytes j.generation h)
  pub last : j.kept.0 ≡ kept h
  pub profile : j.profile ≡ h.profile
  pub fits : HistoryFits j.generation h
  pub durable : IsDurable (disk w j.file)

-- it stands there for some history
abbrev pub IsReady : Journal → Outside → Type 0
IsReady j w = (h : History) × IsAt j h w

-- The count of the site's faults doesn't fall. A fault of the site is answered only where it rose, and at every other
-- answer it stays.
pub record CountsFaults {T : Type 0} (before now : ℕ) (result : Result T JournalError) : Type 0 where
  pub never_falls : before ≤ now
  pub cause : IsErrOf result SiteFault → Rose before now
  pub stays : (IsErrOf result SiteFault → ⊥) → now ≡ before
