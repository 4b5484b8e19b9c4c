-- What is said of a drive.
use Rattle.std.specs.Prelude.{List}
use Rattle.road_base.specs.declared.ids.Step.{Step}
use Rattle.road_base.specs.Objects.{Objects}
use Rattle.road_model.specs.Rules.{Rules}
use Rattle.road_model.specs.Network.{Legal}
use Rattle.road_model.specs.Broken.{BrokenRule, Broken}
use Rattle.road_model.specs.Broken.{NoStep as NoStepRule, NoNode as NoNodeRule, Closed as ClosedRule}
use Rattle.road_model.specs.Broken.{WrongWay as WrongWayRule, Apart as ApartRule, Barrier as BarrierRule}
use Rattle.road_model.specs.Broken.{Reversal as ReversalRule, No as NoRule, Only as OnlyRule}
use Rattle.drive_judging.specs.declared.verdict.Rule.{Rule}
use Rattle.drive_judging.specs.declared.verdict.Rule.TheVariants.{NoStep, NoNode, Closed, WrongWay, Apart, Barrier}
use Rattle.drive_judging.specs.declared.verdict.Rule.TheVariants.{Reversal, No, Only}
use Rattle.drive_judging.specs.declared.verdict.Verdict.{Verdict}
use Rattle.drive_judging.specs.declared.verdict.Verdict.TheVariants.{Legal as LegalVerdict, Broken as BrokenVerdict}

-- the rule as `road_model` defines when it is the one that a drive breaks first
abbrev pub broken_rule : Rule → BrokenRule
broken_rule NoStep = NoStepRule
broken_rule (NoNode v) = NoNodeRule v
broken_rule (Closed by) = ClosedRule by
broken_rule WrongWay = WrongWayRule
broken_rule Apart = ApartRule
broken_rule (Barrier v) = BarrierRule v
broken_rule (Reversal v) = ReversalRule v
broken_rule (No r) = NoRule r
broken_rule (Only r) = OnlyRule r

-- The drive is legal, or this is the number of its first step with which it isn't, counted from 1, and the first rule
-- that it breaks there.
abbrev pub IsVerdict : Objects → Rules → List Step → Verdict → Type 0
IsVerdict M P d LegalVerdict = Legal M P d
IsVerdict M P d (BrokenVerdict step rule) = Broken M P d step (broken_rule rule)
