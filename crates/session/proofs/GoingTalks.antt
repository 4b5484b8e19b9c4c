-- A session that goes on, by what talks.
use Rattle.std.proofs.Common.{◌≡◌, ℕ, ◌+◌, ◌≤◌, ◌^◌, List, [], ◌++◌, length, Option, IfSome, Result, Ok, Err, false}
use Rattle.std.proofs.Common.{◌∙◌, subst}
use Rattle.road_io.specs.Told.{Told}
use Rattle.road_io.specs.Outside.{Outside}
use Rattle.session_input.specs.declared.input.Input.{Input}
use Rattle.session_input.specs.declared.received.Received.{Received}
use Rattle.session_input.specs.Messages.{Message}
use Rattle.session_input.specs.Limits.{IsStopped}
use Rattle.session_input.specs.Holding.{Holds}
use Rattle.session_input.specs.Reading.{Means, Receives}
use Rattle.session.specs.declared.stop.Stop.{Stop}
use Rattle.session.specs.declared.stop.Stop.TheVariants.{Limit}
use Rattle.session.specs.declared.talk.Talk.{Talk}
use Rattle.session.specs.Conversation.{Kept}
use Rattle.session.specs.Conversing.{IsReadyAt}
use Rattle.session.specs.Answering.{Answers}
use Rattle.session.specs.Following.{Since, Breaks, Halts}
use Rattle.session.specs.Talking.{IsGoing, held, replies_of, fixed_of}
use Rattle.session.proofs.FollowedMessages.{ready, goes_more, goes_on, halts, halts_long, breaks_more}

-- the answer to a message, as it is said of the talk with which the session began
pub answers_at : {A : _} {D : _} (start old new : Talk A D) → fixed_of old ≡ fixed_of start → (received : Received)
    (result : Result (Unit {0}) Stop) (y z : Option Outside)
    → Told (λ w v. (from : Kept D.Beside) (message : Message) → Means message received → held old from w
    → Answers (replies_of old) from message (held new) result w v) y z
    → Told (λ w v. (from : Kept D.Beside) (message : Message) → Means message received → held old from w
    → Answers (replies_of start) from message (held new) result w v) y z
answers_at {A} {D} start old new same received result y z told =
    subst (λ f. Told (λ w v. (from : Kept D.Beside) (message : Message) → Means message received → held old from w
    → Answers (D.replies f) from message (held new) result w v) y z) same told

module _ {A : _} {D : _} (start old : Talk A D) (read : List ℕ) (input : Input) (x y : Option Outside)
    (g : IsGoing start old read input x y) where
  pub talk_ready : IfSome y (IsReadyAt (held old))
  talk_ready =
      ready (replies_of start) (held start) read input (D.stands old.answerer) old.journal x y g.goes

  pub talk_more : (taken : List ℕ) (next : Input)
      → ((before : ℕ) (bytes : List ℕ) → Holds before bytes input → Holds before (bytes ++ taken) next)
      → IsGoing start old (read ++ taken) next x y
  talk_more taken next holds = record {
    same = g.same;
    goes = goes_more (replies_of start) (held start) read input (D.stands old.answerer) old.journal x y g.goes taken
        next
        holds;
  }

  pub talk_long : (part : List ℕ) → length part ≤ 2 ^ 16
      → ((before : ℕ) (bytes : List ℕ) → Holds before bytes input → IsStopped before (bytes ++ part))
      → Since (held start) (λ opening w v. Halts (replies_of start) opening (read ++ part) false Limit w v) x y
  talk_long =
      halts_long (replies_of start) (held start) read input (D.stands old.answerer) old.journal x y g.goes

  pub talk_breaks : (part : List ℕ)
      → Since (held start) (λ opening w v. Breaks (replies_of start) opening (read ++ part) false w v) x y
  talk_breaks =
      breaks_more (replies_of start) (held start) read input (D.stands old.answerer) old.journal x y g.goes

  module _ (taken : List ℕ) (next : Input) (received : Received)
      (receives : (before : ℕ) (bytes : List ℕ) → Holds before bytes input
      → Receives before received (bytes ++ taken) × Holds (before + length (bytes ++ taken)) [] next)
      (new : Talk A D) (z : Option Outside) where
    pub talk_on : (u : Unit {0}) → fixed_of new ≡ fixed_of old
        → Told (λ w v. (from : Kept D.Beside) (message : Message) → Means message received → held old from w
        → Answers (replies_of old) from message (held new) (Ok u) w v) y z
        → IsGoing start new (read ++ taken) next x z
    talk_on u fixed told = record {
      same = fixed ∙ g.same;
      goes = goes_on (replies_of start) (held start) read input (D.stands old.answerer) old.journal x y g.goes taken
          next
          received receives (D.stands new.answerer) new.journal z u
          (answers_at start old new g.same received (Ok u) y z told);
    }

    pub talk_halts : (stop : Stop) (more : List ℕ) → length more ≤ 2 ^ 16
        → Told (λ w v. (from : Kept D.Beside) (message : Message) → Means message received → held old from w
        → Answers (replies_of old) from message (held new) (Err stop) w v) y z
        → Since (held start) (λ opening w v. Halts (replies_of start) opening (read ++ (taken ++ more)) false stop w v)
        x
        z
    talk_halts stop more small told =
        halts (replies_of start) (held start) read input (D.stands old.answerer) old.journal x y g.goes taken next
        received receives (D.stands new.answerer) new.journal z stop more small
        (answers_at start old new g.same received (Err stop) y z told)
