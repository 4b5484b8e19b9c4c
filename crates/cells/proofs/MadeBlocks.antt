-- How many blocks are built, of what was read.
use Rattle.std.proofs.Common.{◌≡◌, ℕ, List, Option, Some, None, refl, ◌∙◌, subst, arith}
use Rattle.road_base.specs.declared.event.Event.{Event}
use Rattle.opl_lexer.specs.declared.mode.Mode.{Mode}
use Rattle.opl_lexer.specs.declared.mode.Mode.TheVariants.{Extract}
use Rattle.opl_lexer.specs.Reading.{ReadAll}
use Rattle.bounded_input.specs.Input.{ReadWhole}
use Rattle.cells.specs.declared.command.MapCommand.{MapCommand}
use Rattle.cells.specs.declared.command.MapCommand.TheVariants.{Part, Rest, Cell, Ways}
use Rattle.cells.specs.declared.command.Command.{Command}
use Rattle.cells.specs.declared.command.Command.TheVariants.{Plan, Map, Graphs}
use Rattle.cells.specs.Run.{BuildsOf, BuildsPart, Builds}
use Rattle.cells.proofs.HeldSource.{held_by, all_read, same_held}

abbrev pub OneReading : Type 0
OneReading = (mode : Mode) (bytes : List ℕ) (events others : List Event) → ReadAll mode bytes events
    → ReadAll mode bytes others → events ≡ others

-- nothing was built
pub builds_none : (command : MapCommand) (held : Option (List ℕ)) (n : ℕ) → Builds (Some (Map command)) held n n
builds_none (Part cut profile) held n = λ bytes events is read objects ways applied listed. omega arith
builds_none (Rest cut) held n = refl
builds_none (Cell cut profile) held n = λ bytes events is read objects ways applied listed. omega arith
builds_none (Ways profile ways) held n = omega arith

pub builds_nothing : (command : Option Command) (held : Option (List ℕ)) (n : ℕ) → Builds command held n n
builds_nothing None held n = refl
builds_nothing (Some (Plan rule)) held n = refl
builds_nothing (Some (Map command)) held n = builds_none command held n
builds_nothing (Some (Graphs command)) held n = refl

module _ (one : OneReading) (held left : Option (List ℕ)) (events : List Event)
    (whole : ReadWhole Extract events held left) where
  same_events : (bytes : List ℕ) (others : List Event) → held ≡ Some bytes → ReadAll Extract bytes others
      → events ≡ others
  same_events bytes others is read =
      let same : bytes ≡ whole.bytes = same_held bytes _ _ held left is (held_by whole.bytes held left whole.took)
      ∙ all_read whole.bytes left whole.ended in
      one Extract whole.bytes events others whole.gives (subst (λ (l : List ℕ). ReadAll Extract l others) same read)

  -- all was read, and this was built of it
  pub builds_whole : (command : MapCommand) (old new : ℕ) → BuildsOf command events old new
      → Builds (Some (Map command)) held old new
  builds_whole (Part cut profile) old new built = λ bytes others is read.
      subst (λ (l : List Event). BuildsPart cut l old new) (same_events bytes others is read) built
  builds_whole (Rest cut) old new built = built
  builds_whole (Cell cut profile) old new built = λ bytes others is read.
      subst (λ (l : List Event). BuildsPart cut l old new) (same_events bytes others is read) built
  builds_whole (Ways profile ways) old new built = built
