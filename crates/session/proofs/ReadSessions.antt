-- How a session ends, by what it read.
use Rattle.std.proofs.Common.{◌≡◌, ◌≢◌, ⊎_elim, ℕ, List, [], ◌++◌, length, Option, None, Some, IfSome}
use Rattle.std.proofs.Common.{Bool, true, false}
use Rattle.std.proofs.Common.{refl, sym, ◌∙◌, ap, subst, length-append, arith}
use Rattle.std.proofs.lemmas.List.{append-nil}
use Rattle.road_base.specs.History.{History}
use Rattle.road_io.specs.Told.{Told}
use Rattle.road_io.specs.Outside.{Outside}
use Rattle.road_io.proofs.CallRuns.{started}
use Rattle.road_io.proofs.ToldCalls.{told_same}
use Rattle.sequence_journal.specs.declared.journal.Journal.{Journal}
use Rattle.session_input.specs.declared.input.Input.{Input}
use Rattle.session_input.specs.Holding.{Holds}
use Rattle.session_answers.specs.Replies.{Replies}
use Rattle.session.specs.declared.end.End.{End}
use Rattle.session.specs.declared.end.End.TheVariants.{Done, Unfinished, ReadFault, SiteFault, Limit, NoMemory}
use Rattle.session.specs.StoreLaws.{StoreLaws}
use Rattle.session.specs.Conversation.{Kept, Start}
use Rattle.session.specs.Conversing.{Keeps, IsKept, IsReadyAt, SessionEnds, IsAtEnd, EndsSource, Converses}
use Rattle.session.specs.Conversing.{CountsReads, CountsCalls}
use Rattle.session.specs.Following.{LeavesStill, Talks, Since, Goes, IsHalted}
use Rattle.road_io.specs.Parts.{Took}
use Rattle.session.proofs.HeldSource.{behind_of, held_by}
use Rattle.session.proofs.OpenedSessions.{first_left}

-- ---- what was read

pub behind_nothing : (read : List ℕ) (held left : Option (List ℕ))
    → Told (λ was after. (was ≡ read) × (after ≡ [])) held left
    → behind_of left ≡ []
behind_nothing read None None t = refl
behind_nothing read None (Some y) t = absurd t
behind_nothing read (Some x) None t = absurd t
behind_nothing read (Some x) (Some y) t = t.1

pub took_whole : (read : List ℕ) (held left : Option (List ℕ))
    → Told (λ was after. (was ≡ read) × (after ≡ [])) held left
    → Took read held left
took_whole read None None t = tt
took_whole read None (Some y) t = t
took_whole read (Some x) None t = t
took_whole read (Some x) (Some y) t =
    t.0 ∙ sym (append-nil read) ∙ ap (λ (l : List ℕ). read ++ l) (sym t.1)

pub conversed : {B : Type 0} (R : Replies B) (Opens : Keeps B) (end : End) (held left : Option (List ℕ))
    (x y : Option Outside)
    (read : List ℕ) (ended : Bool) → Took read held left → EndsSource ended (behind_of left) (end ≢ ReadFault)
    → (IsAtEnd end → ended ≡ true) → Since Opens (λ opening w v. SessionEnds R opening read ended end w v) x y
    → Converses R Opens end held left x y
conversed R Opens end held left x y read ended took source whole ends = record {
  bytes = read ++ behind_of left;
  read = read;
  behind = behind_of left;
  all = refl;
  holds = held_by read held left took;
  ended = ended;
  source = source;
  whole = whole;
  ends = ends;
}

pub not_at_end : (end : End) → IsHalted end → IsAtEnd end → ⊥
not_at_end Done is at = is
not_at_end Unfinished is at = is
not_at_end ReadFault is at = is
not_at_end SiteFault is at = ⊎_elim (λ e. (cc)) (λ e. (cc)) at
not_at_end Limit is at = ⊎_elim (λ e. (cc)) (λ e. (cc)) at
not_at_end NoMemory is at = ⊎_elim (λ e. (cc)) (λ e. (cc)) at

pub not_read_fault : (end : End) → IsHalted end → end ≡ ReadFault → ⊥
not_read_fault end is e = subst IsHalted e is

-- the input holds as many bytes as were read
pub total_read : {B : Type 0} (R : Replies B) (Opens : Keeps B) (read : List ℕ) (input : Input) (Has : Keeps B)
    (x y : Option Outside) → Goes R Opens read input Has x y → input.total ≡ length read
total_read R Opens read input Has x y g =
    g.holds.total ∙ sym (ap (λ (l : List ℕ). length l) g.is ∙ length-append g.front g.pending)

-- nothing says that the source ended
pub goes_still : (behind : List ℕ) (no_read_failed : Type 0) → EndsSource false behind no_read_failed
goes_still behind no_read_failed at_end = absurd (cc)

-- ---- faults

pub reads_calm : (before now : ℕ) (end : End) → now ≡ before → (end ≡ ReadFault → ⊥) → CountsReads before now end
reads_calm before now end calm other = record {
  cause = λ e. absurd (other e);
  each = λ rises. absurd (omega (arith, calm, rises));
}

pub calls_calm : (before now : ℕ) (end : End) → now ≡ before → (end ≡ SiteFault → ⊥) → CountsCalls before now end
calls_calm before now end calm other = record {
  cause = λ e. absurd (other e);
  each = λ rises. absurd (omega (arith, calm, rises));
}

-- ---- before the first read

pub goes_first : StoreLaws → {B : Type 0} (R : Replies B) (Stands : History → B → Type 0) (journal : Journal)
    (input : Input) (x : Option Outside) → Holds 0 [] input → IfSome x (IsReadyAt (IsKept Stands journal))
    → Goes R (IsKept Stands journal) [] input (IsKept Stands journal) x x
goes_first laws {B} R Stands journal input x holds opens = record {
  front = [];
  pending = [];
  is = refl;
  holds = holds;
  opens = opens;
  talks = told_same x
      (λ w v. (opening : Kept B) → IsKept Stands journal opening w
      → Talks R opening [] [] (IsKept Stands journal) w v)
      (λ w opening o. record {
        said = [];
        from = opening;
        so_far = Start;
        kept = o;
        grows = sym (append-nil w.output);
        only = started w (LeavesStill R opening [] w)
            (λ left l more ended. first_left laws R opening journal w more ended o.on_store left l);
      });
}

pub read_fault_inside : IsAtEnd ReadFault → ⊥
read_fault_inside at = ⊎_elim (λ e. (cc)) (λ e. (cc)) at
