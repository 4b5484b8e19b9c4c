-- What `cell` puts has what `part` and `rest` put.
use Rattle.std.proofs.Common.{ℕ, List, Some, subst, refl}
use Rattle.access_profile.specs.Profiles.{rules_of}
use Rattle.last_words.specs.declared.status.Status.TheVariants.{Done}
use Rattle.cells.specs.declared.command.CutCell.{CutCell}
use Rattle.cells.specs.declared.command.ProfileNumber.{ProfileNumber}
use Rattle.cells.specs.declared.command.MapCommand.TheVariants.{Rest, Cell}
use Rattle.cells.specs.declared.command.Command.TheVariants.{Map}
use Rattle.cells.specs.Commands.{number_of}
use Rattle.cells.specs.Made.{IsReport}
use Rattle.cells.specs.Outcomes.{MapGives, OfText, OfMap, Gives}
use Rattle.cells.specs.WholeGraph.{HasPartAndRest}
use Rattle.cells.proofs.WholeCells.{not_refused}

pub part_and_rest : (cut : CutCell) (profile : ProfileNumber) (text out : List ℕ)
    → MapGives (Cell cut profile) text Done out → HasPartAndRest cut profile text out
part_and_rest cut profile text out (OfText refusal) = absurd (not_refused text out refusal)
part_and_rest cut profile text out (OfMap few events read made is) =
    let report : IsReport cut (rules_of (number_of profile)) events out = made in
    record {
      graph = report.graph;
      part = OfMap few events read report.part refl;
      passing = report.part.ways;
      failing = report.rest.failing;
      rest = subst (λ (l : List ℕ). Gives (Some (Map (Rest cut))) text Done l) report.rest.spelled
          (OfMap few events read report.rest refl);
      nodes = _;
      spelled = report.spelled;
    }
