-- What a session replies to a line, over the objects and the kept number that it has come to.
use Rattle.std.specs.Prelude.{◌≡◌, ℕ, List, [], ◌++◌, length, Option, Some, None}
use Rattle.std.specs.FinMap.{FinMap}
use Rattle.std.specs.Option.{option_and_then}
use Rattle.road_base.specs.Objects.{Objects}
use Rattle.road_base.specs.declared.ids.NodeId.{NodeId}
use Rattle.road_base.specs.declared.ids.Step.{Step}
use Rattle.road_base.specs.History.{History, HasObjects, kept}
use Rattle.road_model.specs.declared.blocks.Block.{Block}
use Rattle.road_model.specs.declared.follower.Question.{Question}
use Rattle.road_model.specs.declared.follower.Question.TheVariants.{Graph as OfGraph, State as OfState}
use Rattle.road_model.specs.declared.follower.Question.TheVariants.{Drive as OfDrive, Reach as OfReach}
use Rattle.road_model.specs.Rules.{Rules}
use Rattle.road_model.specs.Orders.{way_cmp}
use Rattle.road_model.specs.BlockMap.{AreBlocksOf}
use Rattle.road_model.specs.Format.{IsGraph}
use Rattle.road_model.specs.Walks.{AreWalked}
use Rattle.graph_file.specs.WalkedFiles.{IsWalkedFile}
use Rattle.zone_files.specs.ZoneFileWalks.{IsZoneFile}
use Rattle.drive_queries.specs.declared.messages.Asked.{Asked}
use Rattle.drive_queries.specs.declared.messages.Asked.TheVariants.{Empty, Seq, Graph, State, Drive, Reach, Unknown}
use Rattle.drive_judging.specs.declared.verdict.Verdict.{Verdict}
use Rattle.context_search.specs.declared.found.Found.{Found}
use Rattle.drive_judging.specs.Verdicts.{IsVerdict}
use Rattle.context_search.specs.Reaching.{IsFound}
use Rattle.drive_queries.specs.Messages.{asked}
use Rattle.drive_queries.specs.Counting.{blocks_in, totals_of}
use Rattle.change_apply.specs.Engines.{Touches}
use Rattle.least_cost.specs.declared.answers.Shortest.{Shortest}
use Rattle.least_cost.specs.declared.answers.Cheapest.{Cheapest}
use Rattle.least_cost.specs.Cheapest.{IsShortest, IsCheapest}
use Rattle.destination_drives.specs.ZoneReaching.{IsZoneFound}
use Rattle.moment_rules.specs.AtMoment.{rules_at}
use Rattle.pinned_readers.specs.PinnedRuns.{Pins}
use Rattle.session_answers.specs.Replies.{Replies, Costs}
use Rattle.session_replies.specs.declared.further_messages.FurtherMessage.{FurtherMessage}
use Rattle.session_replies.specs.declared.further_messages.FurtherMessage.TheVariants.{DriveAt, Route, Certify}
use Rattle.session_replies.specs.declared.further_messages.FurtherMessage.TheVariants.{ZoneDrive, ZoneReach}
use Rattle.session_replies.specs.declared.zone_verdicts.ZoneVerdict.{ZoneVerdict}
use Rattle.session_replies.specs.declared.pin_messages.PinMessage.{PinMessage}
use Rattle.session_replies.specs.FurtherMessages.{further_message}
use Rattle.session_replies.specs.PinMessages.{pin_message}
use Rattle.session_replies.specs.PinReplies.{IsPinReply}
use Rattle.session_replies.specs.CostTexts.{shortest_line, cheapest_said}
use Rattle.session_replies.specs.ZoneVerdicts.{IsZoneVerdict, zone_verdict_line}
use Rattle.session_replies.specs.Texts.{unknown_line, state_line, verdict_line, found_line, graph_line}

-- The graph of the objects: its walks are the drives that may be driven there, and whoever walks over its bytes by the
-- grammar makes these walks, and by the marks there those that go through no zone.
pub record IsGraphReply (M : Objects) (P : Rules) (out : List ℕ) : Type 0 where
  pub graph : List ℕ
  pub is : IsGraph M P graph
  pub walks : AreWalked M P
  pub file : IsWalkedFile M P graph
  pub zones : IsZoneFile M P graph
  pub spelled : out ≡ graph_line graph ++ graph

-- the kept number, and how large the graph of the objects is
pub record IsStateReply (M : Objects) (P : Rules) (kept : ℕ) (out : List ℕ) : Type 0 where
  pub blocks : FinMap way_cmp Block
  pub are : AreBlocksOf M P blocks
  pub spelled : out ≡ state_line kept (totals_of (blocks_in blocks))

-- whether the drive is legal, and else the first rule that it breaks
abbrev pub IsDriveReply : Objects → Rules → List Step → List ℕ → Type 0
IsDriveReply M P d out = (verdict : Verdict) × IsVerdict M P d verdict × (out ≡ verdict_line verdict)

-- a legal drive of least cost, with its cost
abbrev pub IsRouteReply : Objects → Rules → NodeId → NodeId → List ℕ → Type 0
IsRouteReply M P a b out = (found : Shortest) × IsShortest M P a b found × (out ≡ shortest_line found)

-- numbers at the contexts that show the least cost, or that there is no drive
abbrev pub IsCertifyReply : Objects → Rules → NodeId → NodeId → List ℕ → Type 0
IsCertifyReply M P a b out = (found : Cheapest) × IsCheapest M P a b found × (out ≡ cheapest_said found)

-- whether the drive is legal and goes through no zone, and else at which step and why it isn't so
abbrev pub IsZoneDriveReply : Objects → Rules → List Step → List ℕ → Type 0
IsZoneDriveReply M P d out = (verdict : ZoneVerdict) × IsZoneVerdict M P d verdict × (out ≡ zone_verdict_line verdict)

-- a legal drive that goes through no zone
abbrev pub IsZoneReachReply : Objects → Rules → NodeId → NodeId → List ℕ → Type 0
IsZoneReachReply M P a b out = (found : Found) × IsZoneFound M P a b found × (out ≡ found_line found)

-- what is answered to a line that is no message of `drive_queries`: at a moment the rules of the profile of the same
-- number decide that hold then
abbrev pub IsFurtherReply : Objects → Rules → Option FurtherMessage → List ℕ → Type 0
IsFurtherReply M P None out = out ≡ unknown_line
IsFurtherReply M P (Some (DriveAt moment d)) out = IsDriveReply M (rules_at P.number moment) d out
IsFurtherReply M P (Some (Route a b)) out = IsRouteReply M P a b out
IsFurtherReply M P (Some (Certify a b)) out = IsCertifyReply M P a b out
IsFurtherReply M P (Some (ZoneDrive d)) out = IsZoneDriveReply M P d out
IsFurtherReply M P (Some (ZoneReach a b)) out = IsZoneReachReply M P a b out

-- What a message is answered with, over the objects and the kept number. One without a word gets nothing. A line that
-- begins a frame is answered with its frame, and so doesn't come here. One that isn't known asks what is further asked.
abbrev pub IsReply : Objects → Rules → ℕ → Asked → Option FurtherMessage → List ℕ → Type 0
IsReply M P kept Empty more out = out ≡ []
IsReply M P kept (Seq n) more out = out ≡ unknown_line
IsReply M P kept Graph more out = IsGraphReply M P out
IsReply M P kept State more out = IsStateReply M P kept out
IsReply M P kept (Drive d) more out = IsDriveReply M P d out
IsReply M P kept (Reach a b) more out = (found : Found) × IsFound M P a b found × (out ≡ found_line found)
IsReply M P kept Unknown more out = IsFurtherReply M P more out

-- the message of the same name
abbrev pub message_of : Question → Asked
message_of OfGraph = Graph
message_of OfState = State
message_of (OfDrive d) = Drive d
message_of (OfReach a b) = Reach a b

-- A question is answered with what its message gets, over the objects and the kept number.
abbrev pub answers_to : Rules → Objects → ℕ → Question → List ℕ → Type 0
answers_to P M kept question out = IsReply M P kept (message_of question) None out

-- what a line with this text is answered with; one that isn't UTF-8 asks nothing that is known
abbrev pub IsLineReply : Objects → Rules → ℕ → Option (List ℕ) → List ℕ → Type 0
IsLineReply M P kept None out = out ≡ unknown_line
IsLineReply M P kept (Some text) out = IsReply M P kept (asked text) (further_message text) out

-- The reply to a line, and what is pinned then. What isn't about pins is answered over the objects of the history, with
-- its kept number, and leaves the pins.
abbrev pub IsReplyAmong : Rules → History → Pins → (about_pins : Option PinMessage) → (text : Option (List ℕ)) → List ℕ
    → (then : Pins) → Type 0
IsReplyAmong P h pins (Some asks) text out then = IsPinReply (answers_to P) h pins asks out then
IsReplyAmong P h pins None text out then =
    ((M : Objects) × HasObjects h M × IsLineReply M P (kept h) text out) × (then ≡ pins)

-- What the lines of a session are answered with under the rules of a profile. Beside the history stands what readers
-- have pinned.
abbrev pub road_replies : Rules → Replies Pins
road_replies P h pins text out then = IsReplyAmong P h pins (option_and_then pin_message text) text out then

-- for a change so many blocks are built as there are ways that it touches
abbrev pub road_costs : Costs
road_costs M events n = (touches : Touches M events) × (n ≡ length touches.ways)
