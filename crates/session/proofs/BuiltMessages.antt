-- What was built while a session goes on, and where it doesn't.
use Rattle.std.proofs.Common.{◌≡◌, ◌⊎◌, inl, inr, ⊎_elim, ℕ, ◌+◌, List, [], ◌++◌, length, Result, Ok, Err}
use Rattle.std.proofs.Common.{refl, sym, ◌∙◌, ap, subst, append_assoc, length-append, arith}
use Rattle.std.proofs.lemmas.List.{append-nil}
use Rattle.road_io.specs.Outside.{Outside}
use Rattle.session_input.specs.declared.input.Input.{Input}
use Rattle.session_input.specs.declared.received.Received.{Received}
use Rattle.session_input.specs.declared.received.InputEnd.TheVariants.{Last}
use Rattle.session_input.specs.Messages.{Message}
use Rattle.session_input.specs.Holding.{Holds}
use Rattle.session_input.specs.Reading.{Receives, IsEnding}
use Rattle.session_answers.specs.Replies.{Costs}
use Rattle.session.specs.declared.stop.Stop.{Stop}
use Rattle.session.specs.Conversation.{Kept}
use Rattle.session.specs.Conversing.{Keeps}
use Rattle.session.specs.Building.{Go, BuildsFew, BuildsLast}
use Rattle.session.specs.BuildingOn.{MessageBuilds, IsBuiltFor, AnswerBuilds, BuildsOn}

-- one that was answered, too
pub message_builds : (C : Costs) {B : Type 0} (from : Kept B) (message : Message) (Has : Keeps B)
    (result : Result (Unit {0}) Stop) (old new : ℕ) (v : Outside)
    → AnswerBuilds C from message Has result old new v → MessageBuilds C from message old new
message_builds C from message Has (Ok x) old new v b = inr (b.to, b.n, b.costs, b.few)
message_builds C from message Has (Err stop) old new v b = b

module _ (C : Costs) {B : Type 0} (opening : Kept B) (read : List ℕ) (input : Input) (Has : Keeps B) (first was : ℕ)
    (w : Outside) (b : BuildsOn C opening read input Has first was w) where
  -- ---- no message ended

  pub builds_more : (taken : List ℕ) (next : Input)
      → ((before : ℕ) (bytes : List ℕ) → Holds before bytes input → Holds before (bytes ++ taken) next)
      → BuildsOn C opening (read ++ taken) next Has first was w
  builds_more taken next holds = record {
    front = b.front;
    pending = b.pending ++ taken;
    is = ap (λ (l : List ℕ). l ++ taken) b.is ∙ append_assoc b.front b.pending taken;
    holds = holds (length b.front) b.pending b.holds;
    from = b.from;
    n = b.n;
    costed = b.costed;
    few = b.few;
    kept = b.kept;
  }

  pub builds_few : (more : List ℕ) → BuildsFew C opening (read ++ more) first was
  builds_few more = record {
    front = b.front;
    rest = b.pending ++ more;
    is = ap (λ (l : List ℕ). l ++ more) b.is ∙ append_assoc b.front b.pending more;
    from = b.from;
    n = b.n;
    costed = b.costed;
    few = b.few;
  }

  pub builds_all : BuildsFew C opening read first was
  builds_all = subst (λ (l : List ℕ). BuildsFew C opening l first was) (append-nil read) (builds_few [])

  -- ---- a message ended

  module _ (taken : List ℕ) (next : Input) (received : Received)
      (receives : (before : ℕ) (bytes : List ℕ) → Holds before bytes input
      → Receives before received (bytes ++ taken) × Holds (before + length (bytes ++ taken)) [] next)
      (Then : Keeps B) (now : ℕ) where
    abbrev pub got : Receives (length b.front) received (b.pending ++ taken)
    got = (receives (length b.front) b.pending b.holds).0

    together : (more : List ℕ)
        → read ++ (taken ++ more) ≡ (b.front ++ (b.pending ++ taken)) ++ more
    together more =
        ap (λ (l : List ℕ). l ++ (taken ++ more)) b.is ∙ sym (append_assoc (b.front ++ b.pending) taken more)
        ∙ ap (λ (l : List ℕ). l ++ more) (append_assoc b.front b.pending taken)

    pub builds_on : (v : Outside) → IsBuiltFor C b.from got.message Then was now v
        → BuildsOn C opening (read ++ taken) next Then first now v
    builds_on v a = record {
      front = b.front ++ (b.pending ++ taken);
      pending = [];
      is = ap (λ (l : List ℕ). l ++ taken) b.is ∙ append_assoc b.front b.pending taken
          ∙ sym (append-nil (b.front ++ (b.pending ++ taken)));
      holds = subst (λ (n : ℕ). Holds n [] next) (sym (length-append b.front (b.pending ++ taken)))
          (receives (length b.front) b.pending b.holds).1;
      from = a.to;
      n = b.n + a.n;
      costed = Go b.front (b.pending ++ taken) (b.front ++ (b.pending ++ taken)) b.from a.to got.message b.n a.n
          b.costed got.taken a.costs refl;
      few = omega (arith, b.few, a.few);
      kept = a.kept;
    }

    pub builds_until : (more : List ℕ) → MessageBuilds C b.from got.message was now
        → BuildsFew C opening (read ++ (taken ++ more)) first now
    builds_until more builds = ⊎_elim
        (λ none. subst (λ (n : ℕ). BuildsFew C opening (read ++ (taken ++ more)) first n) (sym none)
        (builds_few (taken ++ more)))
        (λ some. record {
          front = b.front ++ (b.pending ++ taken);
          rest = more;
          is = together more;
          from = some.0;
          n = b.n + some.1;
          costed = Go b.front (b.pending ++ taken) (b.front ++ (b.pending ++ taken)) b.from some.0 got.message b.n
              some.1 b.costed got.taken some.2 refl;
          few = omega (arith, b.few, some.3);
        })
        builds

  -- ---- the last message

  pub builds_last : (received : Received) (e : IsEnding b.pending (Last received)) (now : ℕ)
      → MessageBuilds C b.from e.1.0 was now → BuildsFew C opening read first now ⊎ BuildsLast C opening read first now
  builds_last received e now builds = ⊎_elim
      (λ none. inl (subst (λ (n : ℕ). BuildsFew C opening read first n) (sym none) builds_all))
      (λ some. inr record {
        front = b.front;
        rest = b.pending;
        is = b.is;
        from = b.from;
        n = b.n;
        costed = b.costed;
        message = e.1.0;
        to = some.0;
        pending = b.holds.pending;
        ends = record { some = e.0; is = e.1.1 };
        last = some.1;
        costs = some.2;
        few = omega (arith, b.few, some.3);
      })
      builds
