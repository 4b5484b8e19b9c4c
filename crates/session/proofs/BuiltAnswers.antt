-- What an answer to a message builds, as far as the site tells.
use Rattle.std.proofs.Common.{◌≡◌, ◌⊎◌, inl, inr, ⊎_elim, ℕ, ◌+◌, ◌≤◌, ◌^◌, List, length, Option, Some, Result, Ok, Err}
use Rattle.std.proofs.Common.{OnOk, refl, sym, ◌∙◌, ap, arith}
use Rattle.road_base.specs.declared.event.Event.{Event}
use Rattle.road_base.specs.declared.ids.Sequence.{Sequence}
use Rattle.road_base.specs.History.{History, HasObjects, kept, with_change}
use Rattle.road_base.specs.Objects.{Objects}
use Rattle.object_codec.specs.Spelling.{events_bytes}
use Rattle.opl_lexer.specs.declared.mode.Mode.TheVariants.{Change}
use Rattle.opl_lexer.specs.Reading.{FaultAt, ReadAll, input_fault}
use Rattle.road_io.specs.Told.{Told}
use Rattle.road_io.specs.Outside.{Outside}
use Rattle.road_io.proofs.ToldCalls.{told_same, told_weaker, told_then}
use Rattle.sequence_journal.specs.declared.journal.Journal.{Journal}
use Rattle.sequence_journal.specs.Adding.{IsNext, Adds, AddAnswer}
use Rattle.session_input.specs.Messages.{Message, Line, Frame}
use Rattle.session_answers.specs.Replies.{Replies, Costs, CostsAtMost}
use Rattle.session_answers.specs.Texts.{applied_line, refused_sequence_line, refused_fault_line}
use Rattle.session.specs.declared.stop.Stop.{Stop}
use Rattle.session.specs.StoreLaws.{StoreLaws}
use Rattle.session.specs.Conversation.{Kept, Accepted, OutOfSequence, Faulty, with_record, with_beside}
use Rattle.session.specs.Conversing.{Keeps, IsKept}
use Rattle.session.specs.Building.{MessageCosts}
use Rattle.session.specs.BuildingOn.{CostsNothing, MessageBuilds, AnswerBuilds}
use Rattle.session.specs.Putting.{PutsOn}
use Rattle.session.proofs.KeptStores.{kept_still}
use Rattle.session.proofs.AnsweredMessages.{room_enough, kept_then}

-- ---- what costs nothing

module _ (C : Costs) (number : Sequence) (journal : Journal) (w : Outside) {B : Type 0}
    (Stands : History → B → Type 0) (from : Kept B) (k : IsKept Stands journal from w) where
  number_next : IsNext journal number → number.0 ≡ kept from.history + 1
  number_next next = next ∙ ap (λ (n : ℕ). n + 1) k.on_store.at.last

  pub number_none : (body : List ℕ) → (IsNext journal number → ⊥) → MessageCosts C from (Frame number.0 body) from 0
  number_none body other = (
    refused_sequence_line number.0 (kept from.history),
    OutOfSequence (λ e. other (e ∙ ap (λ (n : ℕ). n + 1) (sym k.on_store.at.last))) refl refl,
    refl,
  )

  pub fault_none : (body : List ℕ) (fault : FaultAt) → IsNext journal number
      → input_fault Change body ≡ Some fault → MessageCosts C from (Frame number.0 body) from 0
  fault_none body fault next is =
      (refused_fault_line number.0 fault, Faulty (number_next next) fault is refl refl, refl)

-- nothing is put
module _ (C : Costs) {B : Type 0} (Stands : History → B → Type 0) (journal : Journal) (x : Option Outside) where
  pub number_still : (number : Sequence) → (IsNext journal number → ⊥)
      → Told (λ w v. (from : Kept B) (body : List ℕ) → IsKept Stands journal from w
      → CostsNothing C from (Frame number.0 body) (IsKept Stands journal) v) x x
  number_still number other =
      told_same x (λ w v. (from : Kept B) (body : List ℕ) → IsKept Stands journal from w
      → CostsNothing C from (Frame number.0 body) (IsKept Stands journal) v)
      (λ w from body k. record {
        to = from;
        costs = number_none C number journal w Stands from k body other;
        kept = k;
      })

  pub fault_still : (number : Sequence) (fault : FaultAt) → IsNext journal number
      → Told (λ w v. (from : Kept B) (body : List ℕ) → input_fault Change body ≡ Some fault
      → IsKept Stands journal from w → CostsNothing C from (Frame number.0 body) (IsKept Stands journal) v) x x
  fault_still number fault next =
      told_same x (λ w v. (from : Kept B) (body : List ℕ) → input_fault Change body ≡ Some fault
      → IsKept Stands journal from w → CostsNothing C from (Frame number.0 body) (IsKept Stands journal) v)
      (λ w from body is k. record {
        to = from;
        costs = fault_none C number journal w Stands from k body fault next is;
        kept = k;
      })

-- a chunk is put
module _ (laws : StoreLaws) (C : Costs) {B : Type 0} (Stands : History → B → Type 0) (journal : Journal)
    (chunk : List ℕ) (result : Result (Unit {0}) Stop) (x y : Option Outside)
    (told : Told (PutsOn chunk result) x y) where
  pub line_builds : (After : History → B → Type 0) (text : Option (List ℕ)) (number : Sequence)
      → number ≡ journal.kept
      → ((h : History) (b : B) → Stands h b → number.0 ≡ kept h → (c : B) × After h c)
      → Told (λ w v. (from : Kept B) → IsKept Stands journal from w
      → CostsNothing C from (Line text) (IsKept After journal) v) x y
  line_builds After text number same is =
      told_weaker x y (PutsOn chunk result) (λ w v. (from : Kept B) → IsKept Stands journal from w
      → CostsNothing C from (Line text) (IsKept After journal) v) told
      (λ w v p from k.
      let r = is from.history from.beside k.stands (ap (λ (s : Sequence). s.0) same ∙ k.on_store.at.last) in
      record {
        to = with_beside from r.0;
        costs = (refl, r.0, refl);
        kept = kept_still w v p.same_a p.same_b laws After journal (with_beside from r.0) (record {
          on_store = k.on_store;
          small = k.small;
          stands = r.1;
          room = k.room;
        });
      })

  pub number_builds : (number : Sequence) → (IsNext journal number → ⊥)
      → Told (λ w v. (from : Kept B) (body : List ℕ) → IsKept Stands journal from w
      → CostsNothing C from (Frame number.0 body) (IsKept Stands journal) v) x y
  number_builds number other =
      told_weaker x y (PutsOn chunk result) (λ w v. (from : Kept B) (body : List ℕ) → IsKept Stands journal from w
      → CostsNothing C from (Frame number.0 body) (IsKept Stands journal) v) told
      (λ w v p from body k. record {
        to = from;
        costs = number_none C number journal w Stands from k body other;
        kept = kept_still w v p.same_a p.same_b laws Stands journal from k;
      })

  pub fault_builds : (number : Sequence) (fault : FaultAt) → IsNext journal number
      → Told (λ w v. (from : Kept B) (body : List ℕ) → input_fault Change body ≡ Some fault
      → IsKept Stands journal from w → CostsNothing C from (Frame number.0 body) (IsKept Stands journal) v) x y
  fault_builds number fault next =
      told_weaker x y (PutsOn chunk result) (λ w v. (from : Kept B) (body : List ℕ)
      → input_fault Change body ≡ Some fault → IsKept Stands journal from w
      → CostsNothing C from (Frame number.0 body) (IsKept Stands journal) v) told
      (λ w v p from body is k. record {
        to = from;
        costs = fault_none C number journal w Stands from k body fault next is;
        kept = kept_still w v p.same_a p.same_b laws Stands journal from k;
      })

none_builds : (C : Costs) {B : Type 0} (from : Kept B) (message : Message) (Then : Keeps B)
    (result : Result (Unit {0}) Stop) (count : ℕ) (v : Outside) → CostsNothing C from message Then v
    → AnswerBuilds C from message Then result count count v
none_builds C from message Then (Ok x) count v none = record {
  to = none.to;
  n = 0;
  costs = none.costs;
  few = omega arith;
  kept = none.kept;
}
none_builds C from message Then (Err stop) count v none = inl refl

-- what holds anyway
pub when_ok : {T E : Type 0} (result : Result T E) (P : Type 0) → P → OnOk result P
when_ok (Ok x) P p = p
when_ok (Err e) P p = tt

-- a line that costs nothing, where it is answered
pub line_none : (S : Outside → Outside → Type 0) (C : Costs) {B : Type 0} (text : Option (List ℕ)) (Has Then : Keeps B)
    (result : Result (Unit {0}) Stop) (count : ℕ) (x y : Option Outside) → Told S x y
    → OnOk result (Told (λ w v. (from : Kept B) → Has from w → CostsNothing C from (Line text) Then v) x y)
    → Told (λ w v. (from : Kept B) → Has from w → AnswerBuilds C from (Line text) Then result count count v) x y
line_none S C {B} text Has Then (Ok u) count x y told none =
    told_weaker x y (λ w v. (from : Kept B) → Has from w → CostsNothing C from (Line text) Then v)
    (λ w v. (from : Kept B) → Has from w → AnswerBuilds C from (Line text) Then (Ok u) count count v) none
    (λ w v n from k. none_builds C from (Line text) Then (Ok u) count v (n from k))
line_none S C {B} text Has Then (Err stop) count x y told none =
    told_weaker x y S
    (λ w v. (from : Kept B) → Has from w → AnswerBuilds C from (Line text) Then (Err stop) count count v) told
    (λ w v s from k. inl refl)

-- a frame that costs nothing
pub frame_none : (S : Outside → Outside → Type 0) (gives : List ℕ → Type 0) (C : Costs) (number : Sequence)
    {B : Type 0} (Has Then : Keeps B) (result : Result (Unit {0}) Stop) (count : ℕ) (x y : Option Outside) → Told S x y
    → ((w v : Outside) → S w v → (from : Kept B) (body : List ℕ) → gives body → Has from w
    → CostsNothing C from (Frame number.0 body) Then v)
    → Told (λ w v. (from : Kept B) (body : List ℕ) → gives body → Has from w
    → AnswerBuilds C from (Frame number.0 body) Then result count count v) x y
frame_none S gives C number {B} Has Then result count x y told none =
    told_weaker x y S (λ w v. (from : Kept B) (body : List ℕ) → gives body → Has from w
    → AnswerBuilds C from (Frame number.0 body) Then result count count v) told
    (λ w v r from body given k. none_builds C from (Frame number.0 body) Then result count v
    (none w v r from body given k))

-- ---- a change

module _ (laws : StoreLaws) (C : Costs) (number : Sequence) (events : List Event) (old new : Journal) {B : Type 0}
    (R : Replies B) (Stands After : History → B → Type 0) (was now : ℕ) (next : IsNext old number)
    (room : old.gate + (18 + length (events_bytes events)) ≤ 2 ^ 40) where
  change_costs : (from : Kept B) (body : List ℕ) (w : Outside) → IsKept Stands old from w
      → ReadAll Change body events → (M : Objects) → HasObjects from.history M → (n : ℕ) → C M events n
      → MessageCosts C from (Frame number.0 body) (with_record from events) n
  change_costs from body w k gives M has n costs = (
    applied_line number.0,
    Accepted events (record {
      next = number_next C number old w Stands from k next;
      gives = gives;
      fits = room_enough old.gate (length (events_bytes events)) from.room k.room room;
    }) refl refl,
    (M, has, costs),
  )

  change_builds : (from : Kept B) (body : List ℕ) (w : Outside) → IsKept Stands old from w
      → ReadAll Change body events
      → ((h : History) (b : B) (M : Objects) → Stands h b → number.0 ≡ kept h + 1 → HasObjects h M
      → (now ≡ was) ⊎ CostsAtMost C M events was now)
      → MessageBuilds C from (Frame number.0 body) was now
  change_builds from body w k gives builds =
      let objects = laws.objects from.history in
      ⊎_elim
      (λ none. inl none)
      (λ some. inr (
        with_record from events,
        some.0,
        change_costs from body w k gives objects.0 objects.1 some.0 some.1,
        some.2,
      ))
      (builds from.history from.beside objects.0 k.stands (number_next C number old w Stands from k next) objects.1)

  -- the change isn't followed
  pub change_builds_still : (Then : Keeps B) (stop : Stop) (x : Option Outside)
      → ((h : History) (b : B) (M : Objects) → Stands h b → number.0 ≡ kept h + 1 → HasObjects h M
      → (now ≡ was) ⊎ CostsAtMost C M events was now)
      → Told (λ w v. (from : Kept B) (body : List ℕ) → ReadAll Change body events → IsKept Stands old from w
      → AnswerBuilds C from (Frame number.0 body) Then (Err stop) was now v) x x
  change_builds_still Then stop x builds =
      told_same x (λ w v. (from : Kept B) (body : List ℕ) → ReadAll Change body events → IsKept Stands old from w
      → AnswerBuilds C from (Frame number.0 body) Then (Err stop) was now v)
      (λ w from body gives k. change_builds from body w k gives builds)

  -- the change isn't kept
  pub change_builds_only : (S : Outside → Outside → Type 0) (Then : Keeps B) (stop : Stop) (x y : Option Outside)
      → ((h : History) (b : B) (M : Objects) → Stands h b → number.0 ≡ kept h + 1 → HasObjects h M
      → (now ≡ was) ⊎ CostsAtMost C M events was now)
      → Told S x y
      → Told (λ w v. (from : Kept B) (body : List ℕ) → ReadAll Change body events → IsKept Stands old from w
      → AnswerBuilds C from (Frame number.0 body) Then (Err stop) was now v) x y
  change_builds_only S Then stop x y builds told =
      told_weaker x y S (λ w v. (from : Kept B) (body : List ℕ) → ReadAll Change body events
      → IsKept Stands old from w → AnswerBuilds C from (Frame number.0 body) Then (Err stop) was now v) told
      (λ w v r from body gives k. change_builds from body w k gives builds)

  module _ (few : (h : History) (b : B) (M : Objects) → Stands h b → number.0 ≡ kept h + 1 → HasObjects h M
      → CostsAtMost C M events was now)
      (before counted : ℕ) (u : Unit {0}) (answer : AddAnswer old new number events (Ok u) before counted)
      (follows : (h : History) (b : B) → Stands h b → number.0 ≡ kept h + 1 → After (with_change h events) b) where
    kept_builds : (result : Result (Unit {0}) Stop) (from : Kept B) (body : List ℕ) (w o v : Outside)
        → ReadAll Change body events → IsKept Stands old from w → Adds old new events (Ok u) w o
        → v.a ≡ o.a → v.b ≡ o.b → AnswerBuilds C from (Frame number.0 body) (IsKept After new) result was now v
    kept_builds (Ok x) from body w o v gives k adds same_a same_b =
        let objects = laws.objects from.history in
        let is = number_next C number old w Stands from k next in
        let most = few from.history from.beside objects.0 k.stands is objects.1 in
        record {
          to = with_record from events;
          n = most.0;
          costs = change_costs from body w k gives objects.0 objects.1 most.0 most.1;
          few = most.2;
          kept = kept_still o v same_a same_b laws After new (with_record from events)
              (kept_then laws R number body events old new Stands After from before counted u answer follows gives w o k
              adds);
        }
    kept_builds (Err stop) from body w o v gives k adds same_a same_b =
        change_builds from body w k gives (λ h b M s is has. inr (few h b M s is has))

    -- the change is kept, and then it is told so
    pub change_builds_kept : (x y z : Option Outside) (chunk : List ℕ) (result : Result (Unit {0}) Stop)
        → Told (Adds old new events (Ok u)) x y → Told (PutsOn chunk result) y z
        → Told (λ w v. (from : Kept B) (body : List ℕ) → ReadAll Change body events → IsKept Stands old from w
        → AnswerBuilds C from (Frame number.0 body) (IsKept After new) result was now v) x z
    change_builds_kept x y z chunk result adds puts =
        told_then x y z (Adds old new events (Ok u)) (PutsOn chunk result)
        (λ w v. (from : Kept B) (body : List ℕ) → ReadAll Change body events → IsKept Stands old from w
        → AnswerBuilds C from (Frame number.0 body) (IsKept After new) result was now v) adds puts
        (λ w o v a p from body gives k. kept_builds result from body w o v gives k a p.same_a p.same_b)
