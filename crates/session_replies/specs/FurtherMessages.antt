-- What a line of a session asks, where it stands outside a frame and is no message of `drive_queries`.
use Rattle.std.specs.Prelude.{◌≢◌, List, [], ◌∷◌, ℕ, Option, Some, None, if◌then◌else◌, bytes_eq, codes}
use Rattle.road_base.specs.declared.ids.NodeId.{NodeId}
use Rattle.road_base.specs.declared.ids.Step.{Step}
use Rattle.opl_lexer.specs.Fields.{fields}
use Rattle.drive_queries.specs.declared.messages.Asked.{Asked}
use Rattle.drive_queries.specs.declared.messages.Asked.TheVariants.{Empty, Seq, Graph, State, Drive, Reach, Unknown}
use Rattle.drive_queries.specs.Messages.{asked_drive, asked_reach}
use Rattle.moment_rules.specs.declared.moment.Moment.{Moment}
use Rattle.moment_rules.specs.MomentTexts.{moment_of}
use Rattle.session_replies.specs.declared.further_messages.FurtherMessage.{FurtherMessage}
use Rattle.session_replies.specs.declared.further_messages.FurtherMessage.TheVariants.{DriveAt, Route, Certify}
use Rattle.session_replies.specs.declared.further_messages.FurtherMessage.TheVariants.{ZoneDrive, ZoneReach}

-- what is asked of a drive, where a drive is named
abbrev pub of_drive : (List Step → FurtherMessage) → Asked → Option FurtherMessage
of_drive asks (Drive steps) = Some (asks steps)
of_drive asks Empty = None
of_drive asks (Seq n) = None
of_drive asks Graph = None
of_drive asks State = None
of_drive asks (Reach a b) = None
of_drive asks Unknown = None

abbrev pub drive_then : Option Moment → List (List ℕ) → Option FurtherMessage
drive_then None words = None
drive_then (Some moment) words = of_drive (λ steps. DriveAt moment steps) (asked_drive words)

-- a moment, and one step at least
abbrev pub further_drive : List (List ℕ) → Option FurtherMessage
further_drive [] = None
further_drive (word ∷ words) = drive_then (moment_of word) words

-- one step at least
abbrev pub further_zone_drive : List (List ℕ) → Option FurtherMessage
further_zone_drive words = of_drive (λ steps. ZoneDrive steps) (asked_drive words)

-- what is asked of two nodes, where two nodes are named
abbrev pub of_nodes : (NodeId → NodeId → FurtherMessage) → Asked → Option FurtherMessage
of_nodes asks (Reach a b) = Some (asks a b)
of_nodes asks Empty = None
of_nodes asks (Seq n) = None
of_nodes asks Graph = None
of_nodes asks State = None
of_nodes asks (Drive steps) = None
of_nodes asks Unknown = None

-- two numbers of nodes
abbrev pub further_route : List (List ℕ) → Option FurtherMessage
further_route words = of_nodes (λ a b. Route a b) (asked_reach words)

abbrev pub further_certify : List (List ℕ) → Option FurtherMessage
further_certify words = of_nodes (λ a b. Certify a b) (asked_reach words)

abbrev pub further_zone_reach : List (List ℕ) → Option FurtherMessage
further_zone_reach words = of_nodes (λ a b. ZoneReach a b) (asked_reach words)

-- by the first word, and those behind it
abbrev pub further_by : List ℕ → List (List ℕ) → Option FurtherMessage
further_by name words =
    if bytes_eq name (codes "drive-at") then further_drive words
    else (if bytes_eq name (codes "route") then further_route words
    else (if bytes_eq name (codes "certify") then further_certify words
    else (if bytes_eq name (codes "zone-drive") then further_zone_drive words
    else (if bytes_eq name (codes "zone-reach") then further_zone_reach words else None))))

abbrev pub further_of : List (List ℕ) → Option FurtherMessage
further_of [] = None
further_of (name ∷ words) = further_by name words

-- what the line asks, if it is one of these; its words stand between spaces and tabs
abbrev pub further_message : List ℕ → Option FurtherMessage
further_message line = further_of (fields line)

-- a drive that is asked about has a step
abbrev pub HasSteps : FurtherMessage → Type 0
HasSteps (DriveAt moment steps) = steps ≢ []
HasSteps (Route a b) = Unit {0}
HasSteps (Certify a b) = Unit {0}
HasSteps (ZoneDrive steps) = steps ≢ []
HasSteps (ZoneReach a b) = Unit {0}
