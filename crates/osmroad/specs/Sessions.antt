-- How a run ends that is asked for a session: what was read and put, for what the files then stand, and what a stop
-- leaves.
use Rattle.std.specs.Prelude.{◌≡◌, ◌≢◌, ◌⊎◌, ℕ, ◌+◌, ◌<◌, ◌≤◌, ◌^◌, List, [], ◌++◌, length, take, Option}
use Rattle.std.specs.Prelude.{Some, Bool, true}
use Rattle.std.specs.FinMap.{empty}
use Rattle.road_base.specs.History.{HasObjects, all_events}
use Rattle.road_base.specs.Objects.{Objects}
use Rattle.road_model.specs.Highways.{highways}
use Rattle.access_profile.specs.Profiles.{rules_of}
use Rattle.road_io.specs.Told.{Told, Rose}
use Rattle.road_io.specs.Outside.{Outside, Left, LeavesOnly}
use Rattle.sequence_journal.specs.declared.load.Loaded.{Loaded}
use Rattle.sequence_journal.specs.Standing.{history_bytes}
use Rattle.store_switch.specs.LiveFile.{reads_of}
use Rattle.store_switch.specs.TwoFiles.{IsOnStore}
use Rattle.store_switch.specs.StoreLoading.{StillRead, StillStands}
use Rattle.pinned_readers.specs.PinnedRuns.{Pins}
use Rattle.session_answers.specs.Replies.{Replies}
use Rattle.session_replies.specs.Replies.{road_replies, road_costs}
use Rattle.session.specs.declared.end.End.{End}
use Rattle.session.specs.declared.end.End.TheVariants.{Done as DoneEnd, Unfinished, ReadFault as ReadFaultEnd}
use Rattle.session.specs.declared.end.End.TheVariants.{SiteFault as SiteFaultEnd, Limit as LimitEnd}
use Rattle.session.specs.declared.end.End.TheVariants.{NoMemory as NoMemoryEnd}
use Rattle.session.specs.Conversation.{Kept, room_at}
use Rattle.session.specs.Conversing.{LeavesSession, EndsWith, EndsSource, Converses, HeldBytes}
use Rattle.session.specs.Endings.{SessionGives}
use Rattle.session.specs.Building.{BuildsOf}
use Rattle.last_words.specs.declared.status.Status.{Status}
use Rattle.last_words.specs.declared.status.Status.TheVariants.{Done, ReadFault, SiteFault, Refused, Limit}
use Rattle.last_words.specs.declared.status.Status.TheVariants.{NoMemory, NoStore, Damaged}
use Rattle.osmroad.specs.Opening.{Files, IsStore, StoreRefusal}
use Rattle.osmroad.specs.Stops.{CouldLeave, LeavesFirst}

-- ---- statuses

-- the status of a session that ended so; input that ends in a frame is refused
abbrev pub end_status : End → Status
end_status DoneEnd = Done
end_status Unfinished = Refused
end_status ReadFaultEnd = ReadFault
end_status SiteFaultEnd = SiteFault
end_status LimitEnd = Limit
end_status NoMemoryEnd = NoMemory

-- the statuses of a session whose store was loaded
abbrev pub IsServed : Status → Type 0
IsServed Done = Unit {0}
IsServed ReadFault = Unit {0}
IsServed SiteFault = Unit {0}
IsServed Refused = Unit {0}
IsServed Limit = Unit {0}
IsServed NoMemory = Unit {0}
IsServed status = ⊥

-- the statuses where the store isn't loaded
abbrev pub IsNotServed : Status → Type 0
IsNotServed SiteFault = Unit {0}
IsNotServed NoStore = Unit {0}
IsNotServed Damaged = Unit {0}
IsNotServed Limit = Unit {0}
IsNotServed NoMemory = Unit {0}
IsNotServed status = ⊥

-- a fault has this status, which is answered exactly where one came
pub record AnswersFaults (fault status : Status) (before now : ℕ) : Type 0 where
  pub cause : status ≡ fault → Rose before now
  pub each : before < now → status ≡ fault

-- ---- over a store that was loaded

-- What a session may open with over a store that was loaded: its events are those of a history, for which the journal
-- stands on the files, of which the live one has at most 2^40 bytes; nothing is pinned; and the room is that behind the
-- next gate.
pub record IsOpening (loaded : Loaded) (opening : Kept Pins) (w : Outside) : Type 0 where
  pub events : loaded.events.items ≡ all_events opening.history
  pub on_store : IsOnStore loaded.journal opening.history w
  pub small : length (reads_of w loaded.journal.file) ≤ 2 ^ 40
  pub pins : opening.beside ≡ empty
  pub room : opening.room ≡ room_at loaded.journal.gate

-- a session ended, and this is the status that says how
pub record Serves (R : Replies Pins) (loaded : Loaded) (status : Status) (held remaining : Option (List ℕ))
    (before now : Option Outside) : Type 0 where
  pub end : End
  pub is : status ≡ end_status end
  pub converses : Converses R (IsOpening loaded) end held remaining before now

-- It builds no more blocks than the objects of the store have visible ways with the key `highway`, and for each
-- accepted frame whole in what was read the ways that it touches. It is said where source and site tell.
abbrev pub ServesBuilding : Loaded → (no_read_failed : Type 0) → Option (List ℕ) → Option (List ℕ) → Option Outside → ℕ
    → ℕ → Type 0
ServesBuilding loaded no_read_failed held remaining before old new =
    (bytes behind : List ℕ) (w : Outside) (opening : Kept Pins) (M : Objects)
    → held ≡ Some bytes → remaining ≡ Some behind → before ≡ Some w → IsOpening loaded opening w
    → HasObjects opening.history M
    → (read : List ℕ) × (bytes ≡ read ++ behind)
    × BuildsOf road_costs opening read behind no_read_failed (old + length (highways M)) new

-- ---- over the two files

-- what is kept when the session opens: the history of the files, nothing pinned, and the room behind the next gate of
-- the live one
abbrev pub opening : {files : Files} → IsStore files → Kept Pins
opening s = record {
  history = s.history;
  beside = empty;
  room = room_at (length (history_bytes s.generation s.history));
}

-- what lines are answered with in a session that opens so: under the rules of its history's profile
abbrev pub replies_over : Kept Pins → Replies Pins
replies_over kept = road_replies (rules_of kept.history.profile)

-- The line was put that says why the files aren't loaded: all of it, under its status; or a front of it, where the site
-- failed.
abbrev pub PutsLine : List ℕ → Status → Status → Outside → Outside → Type 0
PutsLine line why status w v = ((status ≡ why) × (v.output ≡ w.output ++ line))
    ⊎ ((status ≡ SiteFault) × (n : ℕ) × (v.output ≡ w.output ++ take n line))

-- What was put, and for what the files then stand. Where they are a store, all is as the session says that opens with
-- it. Where they aren't, nothing was read, and they read as before. Nothing was read or put where the store couldn't be
-- loaded, for a fault of the site or for want of memory.
pub data SessionPuts (read : List ℕ) (ended : Bool) (status : Status) (w v : Outside) : Type 0 where
  OfStore : (s : IsStore (reads_of w)) → (end : End) → status ≡ end_status end
      → EndsWith (replies_over (opening s)) (opening s) read ended end w v → SessionPuts read ended status w v
  OfRefusal : read ≡ [] → (why : Status) (line : List ℕ) → StoreRefusal (reads_of w) why line
      → PutsLine line why status w v → StillRead w v → SessionPuts read ended status w v
  OfFault : read ≡ [] → status ≡ SiteFault → v.output ≡ w.output → StillRead w v ⊎ StillStands w v
      → SessionPuts read ended status w v
  OfMemory : read ≡ [] → status ≡ NoMemory → v.output ≡ w.output → StillRead w v → SessionPuts read ended status w v

-- A stop leaves of a store what it could leave when the run began, with nothing put, or what it leaves in the session
-- that opens with it. Other files are left as they could be when the run began.
pub record LeavesServed (read : List ℕ) (ended : Bool) (w : Outside) (left : Left) : Type 0 where
  pub stored : (s : IsStore (reads_of w))
      → LeavesFirst w left s.history ⊎ LeavesSession (replies_over (opening s)) (opening s) read ended w left
  pub otherwise : (IsStore (reads_of w) → ⊥) → CouldLeave w left

-- what was put, and what a stop at any moment of the run leaves
pub record SessionRuns (read : List ℕ) (ended : Bool) (status : Status) (w v : Outside) : Type 0 where
  pub puts : SessionPuts read ended status w v
  pub stops : LeavesOnly w v (LeavesServed read ended w)

-- All was read where the session ended with its input, and nothing where there is no store or a damaged one.
abbrev pub ReadsSession : Status → List ℕ → List ℕ → Type 0
ReadsSession Done bytes read = read ≡ bytes
ReadsSession Refused bytes read = read ≡ bytes
ReadsSession NoStore bytes read = read ≡ []
ReadsSession Damaged bytes read = read ≡ []
ReadsSession status bytes read = Unit {0}

-- How such a run ends: the bytes that the source held, those of them that were read, whether it ended behind them, what
-- was put, and what a stop leaves. Where the source tells nothing, these are some bytes that begin with those that were
-- read.
pub record EndsSession (status : Status) (held remaining : Option (List ℕ)) (before now : Option Outside) : Type 0
  where
    pub bytes : List ℕ
    pub read : List ℕ
    pub behind : List ℕ
    pub all : bytes ≡ read ++ behind
    pub holds : HeldBytes bytes behind held remaining
    pub ended : Bool
    pub source : EndsSource ended behind (status ≢ ReadFault)
    pub reads : ReadsSession status bytes read
    pub runs : Told (SessionRuns read ended status) before now

-- ---- what must be done

-- No front of the bytes passes a limit in the session that opens with the store, of which only all of them end with the
-- source, and the bytes don't end inside a frame.
pub record EndsWell (files : Files) (bytes : List ℕ) : Type 0 where
  pub within : (s : IsStore files) (read behind : List ℕ) (ended : Bool) (out : List ℕ) (to : Kept Pins)
      → bytes ≡ read ++ behind → (ended ≡ true → behind ≡ [])
      → SessionGives (replies_over (opening s)) (opening s) read ended LimitEnd out to → ⊥
  pub finished : (s : IsStore files) (out : List ℕ) (to : Kept Pins)
      → SessionGives (replies_over (opening s)) (opening s) bytes true Unfinished out to → ⊥

-- ---- how many blocks are built

-- Over a store no more than its objects have visible ways with the key `highway`, and for each accepted frame whole in
-- what was read the ways that it touches; else none. It is said where source and site tell.
abbrev pub SessionRunBuilds : Status → Option (List ℕ) → Option (List ℕ) → Option Outside → ℕ → ℕ → Type 0
SessionRunBuilds status held remaining before old new = (bytes behind : List ℕ) (w : Outside)
    → held ≡ Some bytes → remaining ≡ Some behind → before ≡ Some w
    → ((s : IsStore (reads_of w)) (M : Objects) → HasObjects s.history M
    → (read : List ℕ) × (bytes ≡ read ++ behind)
    × BuildsOf road_costs (opening s) read behind (status ≢ ReadFault) (old + length (highways M)) new)
    × ((IsStore (reads_of w) → ⊥) → new ≡ old)
