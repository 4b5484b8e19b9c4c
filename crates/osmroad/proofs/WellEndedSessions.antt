-- A session that must be done is done.
use Rattle.std.proofs.Common.{◌≡◌, ◌⊎◌, ℕ, List, [], ◌++◌, Option, None, Some, Bool, true, length}
use Rattle.std.proofs.Common.{inl, inr, refl, subst}
use Rattle.road_io.specs.Told.{Rose}
use Rattle.road_io.specs.Outside.{Outside}
use Rattle.store_switch.specs.LiveFile.{reads_of}
use Rattle.pinned_readers.specs.PinnedRuns.{Pins}
use Rattle.session_answers.specs.Replies.{Replies}
use Rattle.session.specs.declared.end.End.{End}
use Rattle.session.specs.declared.end.End.TheVariants.{Done as DoneEnd, Unfinished, ReadFault as ReadFaultEnd}
use Rattle.session.specs.declared.end.End.TheVariants.{SiteFault as SiteFaultEnd, Limit as LimitEnd}
use Rattle.session.specs.declared.end.End.TheVariants.{NoMemory as NoMemoryEnd}
use Rattle.session.specs.Conversing.{EndsWith}
use Rattle.session.specs.Conversation.{Kept}
use Rattle.session.specs.Endings.{EndsSaying, OfEnd, OfLast, OfUnfinished, OfTooMuch, OfFull, OfFullLast, OfReadFault}
use Rattle.session.specs.Endings.{SessionGives}
use Rattle.osmroad.specs.declared.command.Request.TheVariants.{Session}
use Rattle.last_words.specs.declared.status.Status.{Status}
use Rattle.last_words.specs.declared.status.Status.TheVariants.{Done, ReadFault, SiteFault, NoMemory}
use Rattle.osmroad.specs.Opening.{IsStore}
use Rattle.osmroad.specs.Run.{IsReadable, files_of}
use Rattle.osmroad.specs.Requests.{RunCanBeDone}
use Rattle.osmroad.specs.StoreLaws.{OneLive}
use Rattle.osmroad.specs.Sessions.{AnswersFaults, ReadsSession, SessionPuts, EndsSession, EndsWell}
use Rattle.osmroad.specs.Sessions.{end_status, opening, replies_over}
use Rattle.osmroad.proofs.HeldSource.{same_held}
use Rattle.osmroad.proofs.Refusals.{readable_not_refused}

-- it is done, or memory ended
abbrev pub IsDone : Status → Type 0
IsDone status = (status ≡ Done) ⊎ (status ≡ NoMemory)

-- a session ends inside a frame only where its source ended
unfinished_saying : (R : Replies Pins) (from : Kept Pins) (before : ℕ) (rest : List ℕ) (ended : Bool)
    (end : End) (out : List ℕ) (to : Kept Pins)
    → EndsSaying R from before rest ended end out to → end ≡ Unfinished → ended ≡ true
unfinished_saying R from before rest ended end out to (OfEnd at_end none is o t) same = at_end
unfinished_saying R from before rest ended end out to (OfLast at_end p m l r is) same = at_end
unfinished_saying R from before rest ended end out to (OfUnfinished at_end p n u is o t) same = at_end
unfinished_saying R from before rest ended end out to (OfTooMuch s is o t) same = absurd (cc)
unfinished_saying R from before rest ended end out to (OfFull m taken more a b small full is o t) same = absurd (cc)
unfinished_saying R from before rest ended end out to (OfFullLast at_end p m l full is o t) same = at_end
unfinished_saying R from before rest ended end out to (OfReadFault p is o t) same = absurd (cc)

unfinished_at_end : (R : Replies Pins) (opening : Kept Pins) (read : List ℕ) (ended : Bool) (out : List ℕ)
    (to : Kept Pins)
    → SessionGives R opening read ended Unfinished out to → ended ≡ true
unfinished_at_end R opening read ended out to g =
    unfinished_saying R g.from (length g.front) g.rest ended Unfinished g.last to g.ends refl

module _ (bytes read behind : List ℕ) (all : bytes ≡ read ++ behind) (ended : Bool)
    (source : ended ≡ true → behind ≡ []) (status : Status) (reads : ReadsSession status bytes read)
    (no_read_fault : status ≡ ReadFault → ⊥) (no_site_fault : status ≡ SiteFault → ⊥) (w v : Outside) where
  -- a session over a store passes no limit, and doesn't end inside a frame
  served_done : EndsWell (reads_of w) bytes → (s : IsStore (reads_of w)) (end : End) → status ≡ end_status end
      → EndsWith (replies_over (opening s)) (opening s) read ended end w v → IsDone status
  served_done well s DoneEnd is ends = inl is
  served_done well s Unfinished is ends =
      let whole : read ≡ bytes = subst (λ (x : Status). ReadsSession x bytes read) is reads in
      let sound : ended ≡ true = unfinished_at_end (replies_over (opening s)) (opening s) read ended ends.out ends.to
      ends.gives in
      absurd (well.finished s ends.out ends.to
      (subst (λ (b : Bool). SessionGives (replies_over (opening s)) (opening s) bytes b Unfinished ends.out ends.to)
      sound
      (subst (λ (l : List ℕ). SessionGives (replies_over (opening s)) (opening s) l ended Unfinished ends.out ends.to)
      whole
      ends.gives)))
  served_done well s ReadFaultEnd is ends = absurd (no_read_fault is)
  served_done well s SiteFaultEnd is ends = absurd (no_site_fault is)
  served_done well s LimitEnd is ends = absurd (well.within s read behind ended ends.out ends.to all source ends.gives)
  served_done well s NoMemoryEnd is ends = inr is

  put_done : OneLive → IsReadable (reads_of w) → EndsWell (reads_of w) bytes → SessionPuts read ended status w v
      → IsDone status
  put_done live readable well (SessionPuts.OfStore s end is ends) = served_done well s end is ends
  put_done live readable well (SessionPuts.OfRefusal none why line refusal put still) =
      absurd (readable_not_refused (reads_of w) why line live readable refusal)
  put_done live readable well (SessionPuts.OfFault none is silent files) = absurd (no_site_fault is)
  put_done live readable well (SessionPuts.OfMemory none is silent still) = inr is

-- where the source tells bytes with which the session ends well, and nothing failed, it does
pub session_done : OneLive → (status : Status) (held remaining : Option (List ℕ)) (x y : Option Outside)
    (bytes : List ℕ) (reads_before reads_now calls_before calls_now : ℕ)
    → EndsSession status held remaining x y → AnswersFaults ReadFault status reads_before reads_now
    → AnswersFaults SiteFault status calls_before calls_now → held ≡ Some bytes
    → RunCanBeDone (Some Session) (files_of x) bytes
    → (Rose reads_before reads_now → ⊥) → (Rose calls_before calls_now → ⊥) → IsDone status
session_done live status held remaining None y bytes rb rn cb cn e reads calls is can no_read no_call = absurd can
session_done live status held remaining (Some w) None bytes rb rn cb cn e reads calls is can no_read no_call =
    absurd e.runs
session_done live status held remaining (Some w) (Some v) bytes rb rn cb cn e reads calls is can no_read no_call =
    let same : bytes ≡ e.bytes = same_held bytes e.bytes e.behind held remaining is e.holds in
    put_done e.bytes e.read e.behind e.all e.ended (λ at_end. (e.source at_end).0) status e.reads
    (λ fault. no_read (reads.cause fault))
    (λ fault. no_call (calls.cause fault)) w v live can.0
    (subst (λ (l : List ℕ). EndsWell (reads_of w) l) same can.1) e.runs.puts
