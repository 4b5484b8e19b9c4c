-- What is said of a drive that may go through no zone: through no road that is open to destination traffic alone (OSM
-- wiki, Key:access, destination).
use Rattle.std.specs.Prelude.{ℕ, ◌≤◌, ◌<◌, ◌++◌, List, [], ◌∷◌, length, take, codes}
use Rattle.std.specs.Fmt.{decimal}
use Rattle.road_base.specs.declared.ids.Step.{Step}
use Rattle.road_base.specs.Objects.{Objects}
use Rattle.road_model.specs.Rules.{Rules}
use Rattle.road_model.specs.Network.{Legal}
use Rattle.road_model.specs.Broken.{Broken}
use Rattle.opl_lexer.specs.Letters.{newline}
use Rattle.drive_judging.specs.declared.verdict.Verdict.{Verdict}
use Rattle.drive_judging.specs.declared.verdict.Verdict.TheVariants.{Legal as LegalVerdict, Broken as BrokenVerdict}
use Rattle.drive_judging.specs.Verdicts.{broken_rule}
use Rattle.destination_drives.specs.Zones.{Zoned}
use Rattle.session_replies.specs.declared.zone_verdicts.ZoneVerdict.{ZoneVerdict}
use Rattle.session_replies.specs.declared.zone_verdicts.ZoneVerdict.TheVariants.{Zoned as ZonedVerdict}
use Rattle.session_replies.specs.declared.zone_verdicts.ZoneVerdict.TheVariants.{Broken as ZoneBroken, Through}
use Rattle.session_replies.specs.Texts.{verdict_line}

-- k is the least number from 1 on such that the first k steps of the drive aren't zoned
pub record IsFirstUnzoned (M : Objects) (P : Rules) (d : List Step) (k : ℕ) : Type 0 where
  pub some : 1 ≤ k
  pub within : k ≤ length d
  pub unzoned : Zoned M P (take k d) → ⊥
  pub least : (j : ℕ) → 1 ≤ j → j < k → Zoned M P (take j d)

-- The drive is zoned; or this is the number of its first step with which it isn't, and the rule that it breaks there
-- first, or that it is legal up to there and so goes through a zone.
abbrev pub IsZoneVerdict : Objects → Rules → List Step → ZoneVerdict → Type 0
IsZoneVerdict M P d ZonedVerdict = Zoned M P d
IsZoneVerdict M P d (ZoneBroken k rule) = IsFirstUnzoned M P d k × Broken M P d k (broken_rule rule)
IsZoneVerdict M P d (Through k) = IsFirstUnzoned M P d k × Legal M P (take k d)

-- what is said where no zone is looked at, as it is said where zones are
abbrev pub judged : Verdict → ZoneVerdict
judged LegalVerdict = ZonedVerdict
judged (BrokenVerdict k rule) = ZoneBroken k rule

-- the drive breaks a rule within n steps
abbrev pub BreaksWithin : Verdict → ℕ → Type 0
BreaksWithin LegalVerdict n = ⊥
BreaksWithin (BrokenVerdict k rule) n = k ≤ n

-- `legal`, `broken K RULE` or `broken K through`
abbrev pub zone_verdict_line : ZoneVerdict → List ℕ
zone_verdict_line ZonedVerdict = verdict_line LegalVerdict
zone_verdict_line (ZoneBroken k rule) = verdict_line (BrokenVerdict k rule)
zone_verdict_line (Through k) = codes "broken " ++ (decimal k ++ (codes " through" ++ newline ∷ []))
