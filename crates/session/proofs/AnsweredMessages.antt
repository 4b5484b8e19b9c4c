-- What an answer to a message leaves.
use Rattle.std.proofs.Common.{◌≡◌, inr, ⊎_elim, ℕ, ◌+◌, ◌-◌, ◌<◌, ◌≤◌, ◌^◌, List, [], ◌∷◌, ◌++◌, length}
use Rattle.std.proofs.Common.{true, false, Result, Ok, Err, IfErr, refl, sym, ◌∙◌, ap, subst, arith, codes}
use Rattle.std.proofs.Common.{◌↔◌, Option, Some, IfSome, IsSome, is_some, length-append}
use Rattle.std.proofs.lemmas.List.{append-nil}
use Rattle.std.specs.Io.{StartsWith}
use Rattle.std.specs.Fmt.{decimal}
use Rattle.road_base.specs.declared.event.Event.{Event}
use Rattle.road_base.specs.declared.ids.Sequence.{Sequence}
use Rattle.road_base.specs.History.{History, kept, with_change}
use Rattle.object_codec.specs.Spelling.{events_bytes}
use Rattle.opl_lexer.specs.declared.mode.Mode.TheVariants.{Change}
use Rattle.opl_lexer.specs.Reading.{ReadAll}
use Rattle.road_io.specs.Outside.{Outside, Left, LeavesOnly}
use Rattle.road_io.proofs.CallRuns.{then_runs, only_weaker}
use Rattle.sequence_journal.specs.declared.error.JournalError.{JournalError}
use Rattle.sequence_journal.specs.declared.error.JournalError.TheVariants.{OutOfSequence, Damaged, NoStore, StoreExists}
use Rattle.sequence_journal.specs.declared.error.JournalError.TheVariants.{SiteFault as SiteFaultError, TooLarge}
use Rattle.sequence_journal.specs.declared.error.JournalError.TheVariants.{NoMemory as NoMemoryError}
use Rattle.sequence_journal.specs.declared.append.SpelledChange.{SpelledChange}
use Rattle.sequence_journal.specs.declared.journal.Journal.{Journal}
use Rattle.sequence_journal.specs.Adding.{IsNext, Adds, AddAnswer, MayAdd, IsSpelledChange, size_with}
use Rattle.store_switch.specs.TwoFiles.{IsOnStore, LeavesEither}
use Rattle.session_input.specs.Messages.{Message, Frame}
use Rattle.session_answers.specs.Replies.{Replies}
use Rattle.session_answers.specs.Texts.{applied_line}
use Rattle.session.specs.declared.stop.Stop.{Stop}
use Rattle.session.specs.declared.stop.Stop.TheVariants.{SiteFault, Limit, NoMemory}
use Rattle.session.specs.StoreLaws.{StoreLaws}
use Rattle.session.specs.Conversation.{Kept, Replied, Accepted, room_at, with_record}
use Rattle.session.specs.Conversing.{IsKept, LeavesReply}
use Rattle.session.specs.Putting.{LeavesPut, PutsOn}
use Rattle.session.specs.Answering.{Answers, stop_of}
use Rattle.session.proofs.OutputFronts.{starts_whole, starts_front, nothing_put}
use Rattle.session.proofs.KeptStores.{images_stand, kept_still}

-- ---- a reply that changes no file

module _ (laws : StoreLaws) {B : Type 0} (R : Replies B) (Stands : History → B → Type 0) (journal : Journal)
    (from to : Kept B) (message : Message) where
  put_leaves : (chunk : List ℕ) (w : Outside) (left : Left) → IsOnStore journal to.history w → LeavesPut chunk w left
      → LeavesReply from to w.output chunk left
  put_leaves chunk w left on l =
      let stands = images_stand laws journal to.history w left on l.a l.b in
      record { begins = l.begins; within = l.within; files = inr stands; whole = λ all. stands }

  put_only : (chunk : List ℕ) (w v : Outside) → LeavesOnly w v (LeavesPut chunk w) → IsKept Stands journal to w
      → LeavesOnly w v (LeavesReply from to w.output chunk)
  put_only chunk w v only k =
      only_weaker w v (LeavesPut chunk w) (LeavesReply from to w.output chunk) only
      (λ left l. put_leaves chunk w left k.on_store l)

  -- this is kept before the reply is put
  pub put_answers : (chunk : List ℕ) (result : Result (Unit {0}) Stop) (w v : Outside)
      → IfErr result (λ e. e ≡ SiteFault) → PutsOn chunk result w v → IsKept Stands journal to w
      → Replied R from message chunk to → Answers R from message (IsKept Stands journal) result w v
  put_answers chunk (Ok x) w v named p k r = record {
    reply = chunk;
    to = to;
    replied = r;
    kept = kept_still w v p.same_a p.same_b laws Stands journal to k;
    grows = p.grows ∙ ap (λ (l : List ℕ). w.output ++ l) p.whole;
    only = put_only chunk w v p.only k;
  }
  put_answers chunk (Err SiteFault) w v named p k r = record {
    reply = chunk;
    to = to;
    replied = r;
    n = length p.put;
    grows = p.grows ∙ ap (λ (l : List ℕ). w.output ++ l) (sym p.front);
    only = put_only chunk w v p.only k;
  }
  put_answers chunk (Err Limit) w v named p k r = let e : Limit ≡ SiteFault = named in cc
  put_answers chunk (Err NoMemory) w v named p k r = let e : NoMemory ≡ SiteFault = named in cc

-- ---- a change that is spelled

module _ (journal : Journal) (number : Sequence) (events : List Event) (spelled : Option SpelledChange)
    (change : SpelledChange) (is : spelled ≡ Some change) where
  pub room_there : (IsSome spelled ↔ (size_with journal events ≤ 2 ^ 40)) → size_with journal events ≤ 2 ^ 40
  room_there room = room.0 (ap is_some is)

  pub is_spelled : IfSome spelled (λ c. IsSpelledChange c events) → IsSpelledChange change events
  is_spelled spells = subst (λ (o : Option SpelledChange). IfSome o (λ c. IsSpelledChange c events)) is spells

  -- what adding it answers, under the number that was asked for
  pub under_number : IfSome spelled (λ c. c.number ≡ number) → (new : Journal) (result : Result (Unit {0}) JournalError)
      (before now : ℕ) → AddAnswer journal new change.number events result before now
      → AddAnswer journal new number events result before now
  under_number numbered new result before now answer =
      let same : change.number ≡ number =
      subst (λ (o : Option SpelledChange). IfSome o (λ c. c.number ≡ number)) is numbered in
      subst (λ (n : Sequence). AddAnswer journal new n events result before now) same answer

-- ---- a change that is added

pub line_some : (n : ℕ) → 0 < length (applied_line n)
line_some n = omega (arith, length-append (codes "applied ") (decimal n ++ 10 ∷ []))

pub room_enough : (gate size room : ℕ) → room ≡ room_at gate → gate + (18 + size) ≤ 2 ^ 40 → 17 + size ≤ room
room_enough gate size room is fits = omega (arith, is, fits)

pub room_short : (gate size room : ℕ) → room ≡ room_at gate → 2 ^ 40 < gate + (18 + size) → room < 17 + size
room_short gate size room is full = omega (arith, is, full)

room_then : (gate size room : ℕ) → room ≡ room_at gate → room - (17 + size) ≡ room_at (gate + (17 + size))
room_then gate size room is = omega (arith, is)

module _ (laws : StoreLaws) {B : Type 0} (R : Replies B) (number : Sequence) (body : List ℕ) (events : List Event)
    (old new : Journal)
    (Stands After : History → B → Type 0) (from : Kept B) where
  abbrev line : List ℕ
  line = applied_line number.0

  abbrev to : Kept B
  to = with_record from events

  is_next : (w : Outside) → IsKept Stands old from w → IsNext old number → number.0 ≡ kept from.history + 1
  is_next w k next = next ∙ ap (λ (m : ℕ). m + 1) k.on_store.at.last

  replied : (w : Outside) → MayAdd old number events → IsKept Stands old from w → ReadAll Change body events
      → Replied R from (Frame number.0 body) line to
  replied w may k gives = Accepted events (record {
    next = is_next w k may.next;
    gives = gives;
    fits = room_enough old.gate (length (events_bytes events)) from.room k.room may.room;
  }) refl refl

  added_moments : (result : Result (Unit {0}) JournalError) (w v : Outside) → IsKept Stands old from w
      → Adds old new events result w v → LeavesOnly w v (LeavesReply from to w.output line)
  added_moments result w v k adds =
      only_weaker w v (LeavesEither from.history events w.output) (LeavesReply from to w.output line)
      (laws.added old new from.history events result w v k.on_store adds)
      (λ left e. record {
        begins = subst (λ (o : List ℕ). StartsWith o w.output) (sym e.out) (starts_whole w.output);
        within = subst (λ (o : List ℕ). StartsWith (w.output ++ line) o) (sym e.out) (starts_front w.output line);
        files = e.files;
        whole = λ all. absurd (nothing_put w.output line left.out (line_some number.0)
            (subst (λ (o : List ℕ). StartsWith w.output o) (sym e.out) (starts_whole w.output)) all);
      })

  module _ (before now : ℕ) (x : Unit {0}) (answer : AddAnswer old new number events (Ok x) before now)
      (follows : (h : History) (b : B) → Stands h b → number.0 ≡ kept h + 1
      → After (with_change h events) b)
      (gives : ReadAll Change body events) where
    pub kept_then : (w v : Outside) → IsKept Stands old from w → Adds old new events (Ok x) w v → IsKept After new to v
    kept_then w v k adds = record {
      on_store = laws.ok old new from.history number events x w v before now k.on_store answer adds;
      small = laws.small old new from.history number events x w v before now k.on_store answer adds;
      stands = follows from.history from.beside k.stands (is_next w k answer.0.next);
      room = room_then old.gate (length (events_bytes events)) from.room k.room
          ∙ ap (λ (j : Journal). room_at j.gate) (sym answer.1);
    }

    -- the change is kept, and then it is told so
    pub added_answers : (result : Result (Unit {0}) Stop) (w u v : Outside) → IfErr result (λ e. e ≡ SiteFault)
        → IsKept Stands old from w → Adds old new events (Ok x) w u → PutsOn line result u v
        → Answers R from (Frame number.0 body) (IsKept After new) result w v
    added_answers result w u v named k adds p = go result named p
      where
        stored : IsKept After new to u
        stored = kept_then w u k adds

        out : u.output ≡ w.output
        out = (adds from.history k.on_store.at).output

        moments : LeavesOnly u v (LeavesPut line u) → LeavesOnly w v (LeavesReply from to w.output line)
        moments only = then_runs w u v (LeavesReply from to w.output line) (LeavesPut line u)
            (added_moments (Ok x) w u k adds) only
            (λ left l. let stands = images_stand laws new to.history u left stored.on_store l.a l.b in record {
              begins = subst (λ (o : List ℕ). StartsWith left.out o) out l.begins;
              within = subst (λ (o : List ℕ). StartsWith (o ++ line) left.out) out l.within;
              files = inr stands;
              whole = λ all. stands;
            })

        go : (r : Result (Unit {0}) Stop) → IfErr r (λ e. e ≡ SiteFault) → PutsOn line r u v
            → Answers R from (Frame number.0 body) (IsKept After new) r w v
        go (Ok y) is q = record {
          reply = line;
          to = to;
          replied = replied w answer.0 k gives;
          kept = kept_still u v q.same_a q.same_b laws After new to stored;
          grows = q.grows ∙ ap (λ (l : List ℕ). l ++ q.put) out ∙ ap (λ (l : List ℕ). w.output ++ l) q.whole;
          only = moments q.only;
        }
        go (Err SiteFault) is q = record {
          reply = line;
          to = to;
          replied = replied w answer.0 k gives;
          n = length q.put;
          grows = q.grows ∙ ap (λ (l : List ℕ). l ++ q.put) out ∙ ap (λ (l : List ℕ). w.output ++ l) (sym q.front);
          only = moments q.only;
        }
        go (Err Limit) is q = let e : Limit ≡ SiteFault = is in cc
        go (Err NoMemory) is q = let e : NoMemory ≡ SiteFault = is in cc

  -- the change isn't added
  pub added_fails : (before now : ℕ) (e : JournalError) (w v : Outside) → old.closed ≡ false
      → AddAnswer old new number events (Err e) before now → ReadAll Change body events → IsKept Stands old from w
      → Adds old new events (Err e) w v → Answers R from (Frame number.0 body) (IsKept After new) (Err (stop_of e)) w v
  added_fails before now (OutOfSequence a b) w v alive answer gives k adds = adds
  added_fails before now TooLarge w v alive answer gives k adds = (
    record {
      next = is_next w k answer.1;
      events = events;
      gives = gives;
      full = room_short old.gate (length (events_bytes events)) from.room k.room answer.2;
    },
    adds,
  )
  added_fails before now NoMemoryError w v alive answer gives k adds = adds
  added_fails before now SiteFaultError w v alive answer gives k adds = record {
    reply = line;
    to = to;
    replied = replied w may k gives;
    n = 0;
    grows = out ∙ sym (append-nil w.output);
    only = added_moments (Err SiteFaultError) w v k adds;
  }
    where
      may : MayAdd old number events
      may = ⊎_elim (λ closed. let e : false ≡ true = sym alive ∙ closed.0 in cc) (λ m. m.0) answer.0

      out : v.output ≡ w.output
      out = ⊎_elim (λ closed. let e : false ≡ true = sym alive ∙ closed.0 in cc)
          (λ a. (a.1 from.history k.on_store.at).output) adds
  added_fails before now (Damaged file offset) w v alive answer gives k adds = absurd answer
  added_fails before now NoStore w v alive answer gives k adds = absurd answer
  added_fails before now StoreExists w v alive answer gives k adds = absurd answer
