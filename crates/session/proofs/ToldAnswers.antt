-- Answers to messages, as far as the site tells.
use Rattle.std.proofs.Common.{◌≡◌, ℕ, ◌+◌, ◌<◌, ◌^◌, List, ◌++◌, length, Option, Some, Result, Ok, Err, IfErr, false}
use Rattle.std.proofs.Common.{refl, sym, ◌∙◌, ap, subst}
use Rattle.road_base.specs.declared.event.Event.{Event}
use Rattle.road_base.specs.declared.ids.Sequence.{Sequence}
use Rattle.road_base.specs.History.{History, kept, with_change}
use Rattle.object_codec.specs.Spelling.{events_bytes}
use Rattle.opl_lexer.specs.declared.mode.Mode.TheVariants.{Change}
use Rattle.opl_lexer.specs.Reading.{FaultAt, ReadAll, input_fault}
use Rattle.road_io.specs.Told.{Told}
use Rattle.road_io.specs.Outside.{Outside}
use Rattle.road_io.proofs.ToldCalls.{told_same, told_weaker, told_then}
use Rattle.sequence_journal.specs.declared.error.JournalError.{JournalError}
use Rattle.sequence_journal.specs.declared.journal.Journal.{Journal}
use Rattle.sequence_journal.specs.Adding.{IsNext, Adds, AddAnswer}
use Rattle.session_input.specs.Messages.{Message, Line, Frame}
use Rattle.session_input.specs.Texts.{text_of}
use Rattle.session_input.specs.declared.line.Line.{Line as LineText}
use Rattle.session_input.specs.declared.received.Received.{Received}
use Rattle.session_input.specs.declared.received.Received.TheVariants.{Line as LineReceived, Frame as FrameReceived}
use Rattle.session_input.specs.declared.received.Change.{Change as ReceivedChange}
use Rattle.session_input.specs.Reading.{IsChange, Means, OfLine, OfFrame}
use Rattle.session_answers.specs.declared.reply.Reply.{Reply}
use Rattle.session_answers.specs.Replies.{Replies}
use Rattle.session_answers.specs.Said.{said}
use Rattle.session_answers.specs.Texts.{applied_line, refused_sequence_line, refused_fault_line}
use Rattle.session.specs.declared.stop.Stop.{Stop}
use Rattle.session.specs.declared.stop.Stop.TheVariants.{SiteFault, Limit}
use Rattle.session.specs.StoreLaws.{StoreLaws}
use Rattle.session.specs.Conversation.{Kept, OutOfSequence, Faulty, with_beside}
use Rattle.session.specs.Conversing.{Keeps, IsKept}
use Rattle.session.specs.Putting.{PutsOn}
use Rattle.session.specs.Answering.{Answers, stop_of}
use Rattle.session.proofs.AnsweredMessages.{put_answers, added_answers, added_fails, room_short}

-- ---- what changes no file

module _ (laws : StoreLaws) {B : Type 0} (R : Replies B) (Stands : History → B → Type 0) (journal : Journal)
    (result : Result (Unit {0}) Stop) (named : IfErr result (λ e. e ≡ SiteFault)) (x y : Option Outside) where
  pub line_answers : (After : History → B → Type 0) (text : Option (List ℕ)) (first second : List ℕ) (reply : Reply)
      (number : Sequence) → first ≡ reply.line.items → second ≡ reply.behind.items → number ≡ journal.kept
      → ((h : History) (b : B) → Stands h b → number.0 ≡ kept h
      → (c : B) × R h b text (said reply) c × After h c)
      → Told (PutsOn (first ++ second) result) x y
      → Told (λ w v. (from : Kept B) → IsKept Stands journal from w
      → Answers R from (Line text) (IsKept After journal) result w v) x y
  line_answers After text first second reply number one two same is told =
      told_weaker x y (PutsOn (first ++ second) result) (λ w v. (from : Kept B) → IsKept Stands journal from w
      → Answers R from (Line text) (IsKept After journal) result w v) told
      (λ w v p from k.
      let r = is from.history from.beside k.stands (ap (λ (s : Sequence). s.0) same ∙ k.on_store.at.last) in
      put_answers laws R After journal from (with_beside from r.0) (Line text) (first ++ second) result w v named p
      (record { on_store = k.on_store; small = k.small; stands = r.2; room = k.room })
      (record {
        beside = r.0;
        is = subst (λ (l : List ℕ). R from.history from.beside text (l ++ second) r.0) (sym one)
            (subst (λ (l : List ℕ). R from.history from.beside text (reply.line.items ++ l) r.0) (sym two) r.1);
        leaves = refl;
      }))

  -- how the number of a frame stands to that of what is kept
  next_kept : (number : Sequence) (w : Outside) (from : Kept B) → IsKept Stands journal from w
      → number.0 ≡ kept from.history + 1 → IsNext journal number
  next_kept number w from k e = e ∙ ap (λ (n : ℕ). n + 1) (sym k.on_store.at.last)

  pub number_answers : (number last : Sequence) (line chunk : List ℕ)
      → (IsNext journal number → ⊥) → last ≡ journal.kept
      → line ≡ refused_sequence_line number.0 last.0 → chunk ≡ line → Told (PutsOn chunk result) x y
      → Told (λ w v. (from : Kept B) (body : List ℕ) → IsKept Stands journal from w
      → Answers R from (Frame number.0 body) (IsKept Stands journal) result w v) x y
  number_answers number last line chunk other same is one told =
      told_weaker x y (PutsOn chunk result) (λ w v. (from : Kept B) (body : List ℕ) → IsKept Stands journal from w
      → Answers R from (Frame number.0 body) (IsKept Stands journal) result w v) told
      (λ w v p from body k. put_answers laws R Stands journal from from (Frame number.0 body) chunk result w v named p k
      (OutOfSequence (λ e. other (next_kept number w from k e))
      (one ∙ is ∙ ap (λ (n : ℕ). refused_sequence_line number.0 n)
      (ap (λ (s : Sequence). s.0) same ∙ k.on_store.at.last)) refl))

  pub fault_answers : (number : Sequence) (fault : FaultAt) (line chunk : List ℕ) → IsNext journal number
      → line ≡ refused_fault_line number.0 fault → chunk ≡ line → Told (PutsOn chunk result) x y
      → Told (λ w v. (from : Kept B) (body : List ℕ) → input_fault Change body ≡ Some fault
      → IsKept Stands journal from w
      → Answers R from (Frame number.0 body) (IsKept Stands journal) result w v) x y
  fault_answers number fault line chunk next is one told =
      told_weaker x y (PutsOn chunk result) (λ w v. (from : Kept B) (body : List ℕ)
      → input_fault Change body ≡ Some fault → IsKept Stands journal from w
      → Answers R from (Frame number.0 body) (IsKept Stands journal) result w v) told
      (λ w v p from body f k. put_answers laws R Stands journal from from (Frame number.0 body) chunk result w v named p
      k (Faulty (next ∙ ap (λ (n : ℕ). n + 1) k.on_store.at.last) fault f (one ∙ is) refl))

-- ---- a change

module _ (laws : StoreLaws) {B : Type 0} (R : Replies B) (number : Sequence) (events : List Event) (old new : Journal)
    (Stands After : History → B → Type 0) (before now : ℕ) where
  pub change_answers : (x y z : Option Outside) (u : Unit {0}) (line chunk : List ℕ) (result : Result (Unit {0}) Stop)
      → IfErr result (λ e. e ≡ SiteFault) → AddAnswer old new number events (Ok u) before now
      → ((h : History) (b : B) → Stands h b → number.0 ≡ kept h + 1 → After (with_change h events) b)
      → line ≡ applied_line number.0 → chunk ≡ line
      → Told (Adds old new events (Ok u)) x y → Told (PutsOn chunk result) y z
      → Told (λ w v. (from : Kept B) (body : List ℕ) → ReadAll Change body events → IsKept Stands old from w
      → Answers R from (Frame number.0 body) (IsKept After new) result w v) x z
  change_answers x y z u line chunk result named answer follows is one adds puts =
      told_then x y z (Adds old new events (Ok u)) (PutsOn chunk result)
      (λ w v. (from : Kept B) (body : List ℕ) → ReadAll Change body events → IsKept Stands old from w
      → Answers R from (Frame number.0 body) (IsKept After new) result w v) adds puts
      (λ w o v a p from body gives k. added_answers laws R number body events old new Stands After from before now u
      answer follows gives result w o v named k a
      (subst (λ (l : List ℕ). PutsOn l result o v) (one ∙ is) p))

  pub change_fails : (x y : Option Outside) (e : JournalError) (stop : Stop) → old.closed ≡ false
      → AddAnswer old new number events (Err e) before now → stop ≡ stop_of e → Told (Adds old new events (Err e)) x y
      → Told (λ w v. (from : Kept B) (body : List ℕ) → ReadAll Change body events → IsKept Stands old from w
      → Answers R from (Frame number.0 body) (IsKept After new) (Err stop) w v) x y
  change_fails x y e stop alive answer is adds =
      told_weaker x y (Adds old new events (Err e)) (λ w v. (from : Kept B) (body : List ℕ)
      → ReadAll Change body events → IsKept Stands old from w
      → Answers R from (Frame number.0 body) (IsKept After new) (Err stop) w v) adds
      (λ w v a from body gives k.
      subst (λ (s : Stop). Answers R from (Frame number.0 body) (IsKept After new) (Err s) w v) (sym is)
      (added_fails laws R number body events old new Stands After from before now e w v alive answer gives k a))

-- there is no room for the change
pub full_answers : {B : Type 0} (R : Replies B) (number : Sequence) (events : List Event) (journal : Journal)
    (Stands : History → B → Type 0) (Then : Keeps B) (x : Option Outside) → IsNext journal number
    → 2 ^ 40 < journal.gate + (18 + length (events_bytes events))
    → Told (λ w v. (from : Kept B) (body : List ℕ) → ReadAll Change body events → IsKept Stands journal from w
    → Answers R from (Frame number.0 body) Then (Err Limit) w v) x x
full_answers {B} R number events journal Stands Then x next full =
    told_same x (λ w v. (from : Kept B) (body : List ℕ) → ReadAll Change body events → IsKept Stands journal from w
    → Answers R from (Frame number.0 body) Then (Err Limit) w v)
    (λ w from body gives k. (
      record {
        next = next ∙ ap (λ (n : ℕ). n + 1) k.on_store.at.last;
        events = events;
        gives = gives;
        full = room_short journal.gate (length (events_bytes events)) from.room k.room full;
      },
      refl,
    ))

-- ---- a message, by what was received

module _ {B : Type 0} (Has : Keeps B) (S : Kept B → Message → Outside → Outside → Type 0) (x y : Option Outside) where
  of_line : (received : Received) (line : LineText) (w v : Outside) → received ≡ LineReceived line
      → ((from : Kept B) → Has from w → S from (Line (text_of line)) w v)
      → (from : Kept B) (message : Message) → Means message received → Has from w → S from message w v
  of_line received line w v is answers from message (OfLine other) k =
      let e : LineReceived other ≡ LineReceived line = is in
      let same : line ≡ other = cc in
      subst (λ (l : LineText). S from (Line (text_of l)) w v) same (answers from k)
  of_line received line w v is answers from message (OfFrame number body change gives) k =
      let e : FrameReceived number change ≡ LineReceived line = is in cc

  -- what holds of a line holds of the message
  pub told_line : (received : Received) (line : LineText) → received ≡ LineReceived line
      → Told (λ w v. (from : Kept B) → Has from w → S from (Line (text_of line)) w v) x y
      → Told (λ w v. (from : Kept B) (message : Message) → Means message received → Has from w
      → S from message w v) x y
  told_line received line is told =
      told_weaker x y (λ w v. (from : Kept B) → Has from w → S from (Line (text_of line)) w v)
      (λ w v. (from : Kept B) (message : Message) → Means message received → Has from w → S from message w v) told
      (λ w v answers. of_line received line w v is answers)

  of_frame : (received : Received) (number : Sequence) (change : ReceivedChange) (w v : Outside)
      → received ≡ FrameReceived number change
      → ((from : Kept B) (body : List ℕ) → IsChange body change → Has from w → S from (Frame number.0 body) w v)
      → (from : Kept B) (message : Message) → Means message received → Has from w → S from message w v
  of_frame received number change w v is answers from message (OfLine line) k =
      let e : LineReceived line ≡ FrameReceived number change = is in cc
  of_frame received number change w v is answers from message (OfFrame n body c gives) k =
      let e : FrameReceived n c ≡ FrameReceived number change = is in
      let same : number ≡ n = cc in
      let alike : c ≡ change = cc in
      subst (λ (m : Sequence). S from (Frame m.0 body) w v) same
      (answers from body (subst (λ (d : ReceivedChange). IsChange body d) alike gives) k)

  -- and so does what holds of a frame
  pub told_frame : (received : Received) (number : Sequence) (change : ReceivedChange)
      → received ≡ FrameReceived number change
      → Told (λ w v. (from : Kept B) (body : List ℕ) → IsChange body change → Has from w
      → S from (Frame number.0 body) w v) x y
      → Told (λ w v. (from : Kept B) (message : Message) → Means message received → Has from w
      → S from message w v) x y
  told_frame received number change is told =
      told_weaker x y (λ w v. (from : Kept B) (body : List ℕ) → IsChange body change → Has from w
      → S from (Frame number.0 body) w v)
      (λ w v. (from : Kept B) (message : Message) → Means message received → Has from w → S from message w v) told
      (λ w v answers. of_frame received number change w v is answers)
