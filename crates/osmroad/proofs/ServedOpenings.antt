-- A session over a store that was loaded, from the conversation of what answers for its objects.
use Rattle.std.proofs.Common.{◌≡◌, ℕ, ◌+◌, ◌≤◌, List, [], ◌++◌, length, Option, Some, false, true}
use Rattle.std.proofs.Common.{inl, inr, ⊎_elim, refl, sym, subst, arith}
use Rattle.std.proofs.lemmas.Bool.{false≢true}
use Rattle.std.specs.FinMap.{empty}
use Rattle.road_base.specs.declared.event.Event.{Event}
use Rattle.road_base.specs.Objects.{Objects}
use Rattle.road_base.specs.Applying.{IsApplied}
use Rattle.road_base.specs.History.{History, HasObjects, kept}
use Rattle.road_model.specs.Highways.{highways}
use Rattle.road_io.specs.Outside.{Outside}
use Rattle.road_io.proofs.ToldCalls.{told_same, told_weaker}
use Rattle.sequence_journal.specs.declared.journal.Journal.{Journal}
use Rattle.sequence_journal.specs.declared.load.Loaded.{Loaded}
use Rattle.store_switch.specs.TwoFiles.{IsOnStore}
use Rattle.pinned_readers.specs.PinnedRuns.{Pins}
use Rattle.session_answers.specs.Replies.{Replies}
use Rattle.session_replies.specs.Replies.{road_costs}
use Rattle.session.specs.declared.end.End.{End}
use Rattle.session.specs.declared.end.End.TheVariants.{Done, Unfinished, NoMemory}
use Rattle.session.specs.Conversation.{Kept}
use Rattle.session.specs.Conversing.{Keeps, IsKept, Converses, SessionEnds, IsAtEnd}
use Rattle.session.specs.Building.{Start, BuildsOf, SessionBuilds}
use Rattle.session.proofs.HeldSource.{behind_of, held_still}
use Rattle.osmroad.specs.Sessions.{IsOpening, ServesBuilding}

-- the journal of a loaded store is kept, for which something answers
abbrev pub Keeping : Loaded → (History → Pins → Type 0) → Keeps Pins
Keeping l Stands = IsKept Stands l.journal

-- with nothing pinned it stands for the histories of these objects with the number of the loaded store
abbrev pub StandsOver : Loaded → Objects → (History → Pins → Type 0) → Type 0
StandsOver l M Stands = (h : History) → l.journal.kept.0 ≡ kept h → HasObjects h M → Stands h empty

-- what answers for what the events leave stands for the history with which the session opens
pub kept_for : (l : Loaded) (M : Objects) (Stands : History → Pins → Type 0) → StandsOver l M Stands
    → IsApplied empty l.events.items M → (o : Kept Pins) (w : Outside) → IsOpening l o w → Keeping l Stands o w
kept_for l M Stands stands applied o w is = record {
  on_store = is.on_store;
  small = is.small;
  stands = subst (λ (pins : Pins). Stands o.history pins) (sym is.pins)
      (stands o.history is.on_store.at.last
      (subst (λ (events : List Event). IsApplied empty events M) is.events applied));
  room = is.room;
}

pub converses_over : (R : Replies Pins) (l : Loaded) (M : Objects) (Stands : History → Pins → Type 0)
    → StandsOver l M Stands → IsApplied empty l.events.items M
    → (end : End) (held remaining : Option (List ℕ)) (x y : Option Outside)
    → Converses R (Keeping l Stands) end held remaining x y → Converses R (IsOpening l) end held remaining x y
converses_over R l M Stands stands applied end held remaining x y c = record {
  bytes = c.bytes;
  read = c.read;
  behind = c.behind;
  all = c.all;
  holds = c.holds;
  ended = c.ended;
  source = c.source;
  whole = c.whole;
  ends = told_weaker x y
      (λ w v. (o : Kept Pins) → Keeping l Stands o w → SessionEnds R o c.read c.ended end w v)
      (λ w v. (o : Kept Pins) → IsOpening l o w → SessionEnds R o c.read c.ended end w v) c.ends
      (λ w v ends o is. ends o (kept_for l M Stands stands applied o w is));
}

-- ---- no memory is found for the objects

-- memory doesn't end behind all bytes
not_at_end : IsAtEnd NoMemory → ⊥
not_at_end at = ⊎_elim
    (λ done. let e : NoMemory ≡ Done = done in cc)
    (λ unfinished. let e : NoMemory ≡ Unfinished = unfinished in cc)
    at

pub converses_nothing : (R : Replies Pins) (l : Loaded)
    → ((o : Kept Pins) (j : Journal) (w : Outside) → IsOnStore j o.history w
    → SessionEnds R o [] false NoMemory w w)
    → (held : Option (List ℕ)) (x : Option Outside) → Converses R (IsOpening l) NoMemory held held x x
converses_nothing R l law held x = record {
  bytes = behind_of held;
  read = [];
  behind = behind_of held;
  all = refl;
  holds = held_still held;
  ended = false;
  source = λ ended. absurd (false≢true ended);
  whole = λ at. absurd (not_at_end at);
  ends = told_same x (λ w v. (o : Kept Pins) → IsOpening l o w → SessionEnds R o [] false NoMemory w v)
      (λ w o is. law o l.journal w is.on_store);
}

-- ---- how many blocks are built

-- no more than the objects that the events leave have visible ways with the key `highway`
abbrev pub LoadBuilds : Loaded → ℕ → ℕ → Type 0
LoadBuilds l old new =
    (objects : Objects) → IsApplied empty l.events.items objects → new ≤ old + length (highways objects)

-- counted from more on
builds_from : (o : Kept Pins) (read behind : List ℕ) (no_read_failed : Type 0) (old more new : ℕ) → old ≤ more
    → BuildsOf road_costs o read behind no_read_failed old new
    → BuildsOf road_costs o read behind no_read_failed more new
builds_from o read behind no_read_failed old more new less (inl b) = inl (record {
  front = b.front;
  rest = b.rest;
  is = b.is;
  from = b.from;
  n = b.n;
  costed = b.costed;
  few = omega (arith, less, b.few);
})
builds_from o read behind no_read_failed old more new less (inr b) = inr (
  b.0,
  b.1,
  record {
    front = b.2.front;
    rest = b.2.rest;
    is = b.2.is;
    from = b.2.from;
    n = b.2.n;
    costed = b.2.costed;
    message = b.2.message;
    to = b.2.to;
    pending = b.2.pending;
    ends = b.2.ends;
    last = b.2.last;
    costs = b.2.costs;
    few = omega (arith, less, b.2.few);
  },
)

-- the events of the loaded store are those of the history
of_history : (l : Loaded) (o : Kept Pins) (w : Outside) → IsOpening l o w → (M : Objects)
    → HasObjects o.history M → IsApplied empty l.events.items M
of_history l o w is M has = subst (λ (events : List Event). IsApplied empty events M) (sym is.events) has

pub builds_over : (l : Loaded) (M : Objects) (Stands : History → Pins → Type 0) → StandsOver l M Stands
    → IsApplied empty l.events.items M → (no_read_failed : Type 0)
    → (held remaining : Option (List ℕ)) (x : Option Outside) (old mid new : ℕ) → LoadBuilds l old mid
    → SessionBuilds road_costs (Keeping l Stands) no_read_failed held remaining x mid new
    → ServesBuilding l no_read_failed held remaining x old new
builds_over l M Stands stands applied no_read_failed held remaining x old mid new load builds =
    λ bytes behind w o N was is tells opens has.
    let b = builds bytes behind w o was is tells (kept_for l M Stands stands applied o w opens) in (
      b.0,
      b.1,
      builds_from o b.0 behind no_read_failed mid (old + length (highways N)) new
          (load N (of_history l o w opens N has)) b.2,
    )

pub builds_nothing : (l : Loaded) (no_read_failed : Type 0) (held : Option (List ℕ)) (x : Option Outside)
    (old new : ℕ) → LoadBuilds l old new → ServesBuilding l no_read_failed held held x old new
builds_nothing l no_read_failed held x old new load = λ bytes behind w o N was is tells opens has. (
  [],
  whole bytes behind was is,
  inl (record {
    front = [];
    rest = [];
    is = refl;
    from = o;
    n = 0;
    costed = Start;
    few = omega (arith, load N (of_history l o w opens N has));
  }),
)
  where
    whole : (bytes behind : List ℕ) → held ≡ Some bytes → held ≡ Some behind → bytes ≡ [] ++ behind
    whole bytes behind was is = let same : bytes ≡ behind = cc in same
