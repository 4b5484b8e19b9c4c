-- What is kept of a drive to judge it.
use Rattle.std.specs.Prelude.{List}
use Rattle.road_base.specs.declared.ids.Step.{Step}
use Rattle.road_base.specs.Objects.{Objects}
use Rattle.road_model.specs.Rules.{Rules}
use Rattle.drive_judging.specs.declared.word_table.WordTable.{WordTable}
use Rattle.drive_judging.specs.Tables.{AreDriveWords}
use Rattle.drive_judging.specs.DriveWords.{AreInWordOrder}
use Rattle.drive_judging.specs.DriveLines.{AreLinesOn}
use Rattle.drive_judging.specs.DeadEnds.{AreLeaving}

-- the table has exactly the words whose first step is in the drive, sorted by their steps, and the lines of its
-- ways, and what it knows of the steps that leave nodes is so
pub record IsTableOf (M : Objects) (P : Rules) (drive : List Step) (table : WordTable) : Type 0 where
  pub words : AreDriveWords M P drive table.automaton.words
  pub sorted : AreInWordOrder table.automaton.words
  pub lines : AreLinesOn M table.lines drive
  pub leaving : AreLeaving M P table.leaving
