-- How what a command prepares is put together.
use Rattle.std.proofs.Common.{◌≡◌, ℕ, List, ◌++◌, Option, None, Some, Result, Ok, Err}
use Rattle.std.specs.Prelude.{IsErrAnd}
use Rattle.std.proofs.Common.{refl, sym, ap, subst}
use Rattle.road_io.specs.Told.{Told}
use Rattle.road_io.specs.Outside.{Outside, LeavesOnly}
use Rattle.osmroad.specs.declared.command.Command.{Command}
use Rattle.last_words.specs.declared.words.LastWords.{LastWords}
use Rattle.last_words.specs.declared.words.Failure.{Failure}
use Rattle.last_words.specs.declared.words.Failure.TheVariants.{NoMemory as NoMemoryFailure}
use Rattle.bounded_input.specs.Input.{Ended}
use Rattle.road_io.specs.Parts.{Took}
use Rattle.osmroad.specs.Stops.{LeftBy}
use Rattle.last_words.specs.declared.status.Status.{Status}
use Rattle.osmroad.specs.Outcomes.{Gives}
use Rattle.session.specs.Conversing.{HeldBytes}
use Rattle.osmroad.specs.Run.{IsReply, Reads}
use Rattle.osmroad.specs.Replies.{IsPrepared, WillPut, WillFail, Prepares}
use Rattle.session.proofs.HeldSource.{behind_of, held_by}
use Rattle.osmroad.proofs.HeldSource.{all_read}

-- ---- an answer

-- nothing will be put, for this reason
pub by_failure : (command : Option Command) (bytes read : List ℕ) (x y : Option Outside) (failure : Failure)
    (result : Result LastWords Failure) → result ≡ Err failure → WillFail command read failure x y
    → IsPrepared command bytes read result x y
by_failure command bytes read x y failure result is fails =
    subst (λ (r : Result LastWords Failure). IsPrepared command bytes read r x y) (sym is) fails

-- what will be put where the site doesn't tell, and where it does
pub will_put : (command : Option Command) (bytes read : List ℕ) (status : Status) (out : List ℕ)
    (x y : Option Outside) (R : Outside → Outside → Type 0) → Told R x y
    → IsReply command status → Reads command None status bytes read → Gives command None bytes status out None
    → ((w v : Outside) → R w v → WillPut command bytes read status out (Some w) (Some v))
    → WillPut command bytes read status out x y
will_put command bytes read status out None None R told replies reads gives put =
    record { replies = replies; reads = reads; after = None; gives = gives; stand = tt; last = tt }
will_put command bytes read status out None (Some v) R told replies reads gives put = absurd told
will_put command bytes read status out (Some w) None R told replies reads gives put = absurd told
will_put command bytes read status out (Some w) (Some v) R told replies reads gives put = put w v told

-- what a `?` hands on where memory ended
pub no_memory : (result : Result LastWords Failure) → IsErrAnd result (λ e. e ≡ NoMemoryFailure)
    → result ≡ Err NoMemoryFailure
no_memory (Ok r) is = absurd is
no_memory (Err failure) is = ap (λ (f : Failure). Err f) is

-- all of what is prepared, where some of the source was read
pub prepares : (command : Option Command) (result : Result LastWords Failure) (read : List ℕ)
    (held left : Option (List ℕ)) (x y : Option Outside) → Took read held left
    → IsPrepared command (read ++ behind_of left) read result x y
    → Told (λ w v. v.output ≡ w.output) x y
    → Told (λ w v. LeavesOnly w v (LeftBy command read w)) x y
    → Prepares command result held left x y
prepares command result read held left x y took answer silent only = record {
  bytes = read ++ behind_of left;
  read = read;
  behind = behind_of left;
  all = refl;
  holds = held_by read held left took;
  answer = answer;
  silent = silent;
  only = only;
}

-- the same where the source was read to its end
pub prepares_whole : (command : Option Command) (result : Result LastWords Failure) (read : List ℕ)
    (held left : Option (List ℕ)) (x y : Option Outside) → Took read held left → Ended left
    → IsPrepared command read read result x y
    → Told (λ w v. v.output ≡ w.output) x y
    → Told (λ w v. LeavesOnly w v (LeftBy command read w)) x y
    → Prepares command result held left x y
prepares_whole command result read held left x y took ended answer silent only =
    let whole = all_read read left ended in
    record {
      bytes = read;
      read = read;
      behind = behind_of left;
      all = sym whole;
      holds = subst (λ (b : List ℕ). HeldBytes b (behind_of left) held left) whole (held_by read held left took);
      answer = answer;
      silent = silent;
      only = only;
    }
