-- One message more, and what stands where the session doesn't go on.
use Rattle.std.proofs.Common.{◌≡◌, ℕ, ◌+◌, ◌≤◌, ◌^◌, List, [], ◌++◌, length, take, Option, Bool, false, IfSome, Ok, Err}
use Rattle.std.proofs.Common.{refl, sym, ◌∙◌, ap, subst, append_assoc, length-append}
use Rattle.std.proofs.lemmas.List.{append-nil}
use Rattle.road_base.specs.History.{History}
use Rattle.road_io.specs.Told.{Told}
use Rattle.road_io.specs.Outside.{Outside, Left, LeavesOnly}
use Rattle.road_io.proofs.CallRuns.{then_runs, only_weaker}
use Rattle.road_io.proofs.ToldCalls.{told_if, told_weaker, told_then}
use Rattle.sequence_journal.specs.declared.journal.Journal.{Journal}
use Rattle.session_input.specs.declared.input.Input.{Input}
use Rattle.session_input.specs.declared.received.Received.{Received}
use Rattle.session_input.specs.Messages.{Message}
use Rattle.session_input.specs.Limits.{IsTaken, IsStopped}
use Rattle.session_input.specs.Holding.{Holds}
use Rattle.session_input.specs.Reading.{Means, Receives}
use Rattle.session_answers.specs.Replies.{Replies}
use Rattle.session.specs.declared.end.End.TheVariants.{Limit as LimitEnd}
use Rattle.session.specs.declared.stop.Stop.{Stop}
use Rattle.session.specs.declared.stop.Stop.TheVariants.{SiteFault, Limit, NoMemory}
use Rattle.session.specs.Conversation.{Kept, Replied, Go}
use Rattle.session.specs.Endings.{Comes, EndsSaying, OfTooMuch, OfFull, OfMessage, OfNothing, limit_line}
use Rattle.session.specs.Conversing.{Keeps, IsKept, IsReadyAt, LeavesReply, LeavesSession}
use Rattle.session.specs.Answering.{IsAnswered, IsCutShort, Answers}
use Rattle.session.specs.Following.{LeavesStill, Talks, Since, Goes, Closes, Breaks, Halts}

-- ---- more bytes

pub wider : {B : Type 0} (R : Replies B) (opening : Kept B) (front read more : List ℕ)
    (Stands : History → B → Type 0) (journal : Journal)
    (w v : Outside) → Talks R opening front read (IsKept Stands journal) w v
    → Talks R opening front (read ++ more) (IsKept Stands journal) w v
wider R opening front read more Stands journal w v k = record {
  said = k.said;
  from = k.from;
  so_far = k.so_far;
  kept = k.kept;
  grows = k.grows;
  only = only_weaker w v (LeavesStill R opening read w) (LeavesStill R opening (read ++ more) w) k.only
      (λ left still rest ended. subst (λ (l : List ℕ). LeavesSession R opening l ended w left)
      (sym (append_assoc read more rest)) (still (more ++ rest) ended));
}

still_session : {B : Type 0} (R : Replies B) (opening : Kept B) (read more : List ℕ) (w v : Outside)
    → LeavesOnly w v (LeavesStill R opening read w) → LeavesOnly w v (LeavesSession R opening (read ++ more) false w)
still_session R opening read more w v only =
    only_weaker w v (LeavesStill R opening read w) (LeavesSession R opening (read ++ more) false w) only
    (λ left still. still more false)

-- ---- nothing more is said

module _ {B : Type 0} (R : Replies B) (opening : Kept B) (front pending read more : List ℕ)
    (is : read ≡ front ++ pending)
    (Stands : History → B → Type 0) (journal : Journal) (w v : Outside)
    (k : Talks R opening front read (IsKept Stands journal) w v) where
  all_is : read ++ more ≡ front ++ (pending ++ more)
  all_is = ap (λ (l : List ℕ). l ++ more) is ∙ append_assoc front pending more

  pub breaks_here : Breaks R opening (read ++ more) false w v
  breaks_here = record {
    puts = record {
      said = k.said;
      reply = [];
      from = k.from;
      to = k.from;
      comes = record {
        front = front;
        rest = pending ++ more;
        is = all_is;
        so_far = k.so_far;
        next = OfNothing refl refl;
      };
      n = 0;
      grows = k.grows ∙ ap (λ (l : List ℕ). w.output ++ l) (sym (append-nil k.said));
    };
    only = still_session R opening read more w v k.only;
  }

  pub closes_with : EndsSaying R k.from (length front) (pending ++ more) false LimitEnd limit_line k.from
      → Closes R opening (read ++ more) false LimitEnd limit_line w v
  closes_with ends = record {
    front = front;
    rest = pending ++ more;
    is = all_is;
    said = k.said;
    from = k.from;
    so_far = k.so_far;
    ends = ends;
    journal = journal;
    on_store = k.kept.on_store;
    small = k.kept.small;
    grows = k.grows;
    only = still_session R opening read more w v k.only;
  }

-- ---- one message

module _ {B : Type 0} (R : Replies B) (opening : Kept B) (front pending read taken : List ℕ)
    (is : read ≡ front ++ pending)
    (Stands : History → B → Type 0) (journal : Journal) (message : Message)
    (whole : IsTaken (length front) message (pending ++ taken)) where
  abbrev then_front : List ℕ
  then_front = front ++ (pending ++ taken)

  rest_is : (more : List ℕ) → (read ++ taken) ++ more ≡ front ++ ((pending ++ taken) ++ more)
  rest_is more =
      ap (λ (l : List ℕ). (l ++ taken) ++ more) is
      ∙ ap (λ (l : List ℕ). l ++ more) (append_assoc front pending taken)
      ∙ append_assoc front (pending ++ taken) more

  module _ (w u : Outside) (k : Talks R opening front read (IsKept Stands journal) w u) where
    comes_next : (more : List ℕ) (ended : Bool) (reply : List ℕ) (to : Kept B) → Replied R k.from message reply to
        → Comes R opening ((read ++ taken) ++ more) ended k.said k.from reply to
    comes_next more ended reply to replied = record {
      front = front;
      rest = (pending ++ taken) ++ more;
      is = rest_is more;
      so_far = k.so_far;
      next = OfMessage message (pending ++ taken) more refl whole replied;
    }

    left_next : (more : List ℕ) (ended : Bool) (reply : List ℕ) (to : Kept B) → Replied R k.from message reply to
        → (left : Left) → LeavesReply k.from to u.output reply left
        → LeavesSession R opening ((read ++ taken) ++ more) ended w left
    left_next more ended reply to replied left l = record {
      said = k.said;
      reply = reply;
      from = k.from;
      to = to;
      comes = comes_next more ended reply to replied;
      leaves = subst (λ (o : List ℕ). LeavesReply k.from to o reply left) k.grows l;
    }

    only_next : (reply : List ℕ) (to : Kept B) (v : Outside) → Replied R k.from message reply to
        → LeavesOnly u v (LeavesReply k.from to u.output reply)
        → LeavesOnly w v (LeavesStill R opening (read ++ taken) w)
    only_next reply to v replied only =
        then_runs w u v (LeavesStill R opening (read ++ taken) w) (LeavesReply k.from to u.output reply)
        (wider R opening front read taken Stands journal w u k).only only
        (λ left l more ended. left_next more ended reply to replied left l)

    pub talks_on : (After : History → B → Type 0) (new : Journal) (v : Outside)
        → IsAnswered R k.from message (IsKept After new) u v
        → Talks R opening then_front (read ++ taken) (IsKept After new) w v
    talks_on After new v a = record {
      said = k.said ++ a.reply;
      from = a.to;
      so_far = Go front k.said k.from message (pending ++ taken) a.reply then_front (k.said ++ a.reply) a.to k.so_far
          whole a.replied refl refl;
      kept = a.kept;
      grows = a.grows ∙ ap (λ (l : List ℕ). l ++ a.reply) k.grows ∙ append_assoc w.output k.said a.reply;
      only = only_next a.reply a.to v a.replied a.only;
    }

    cut_short : (more : List ℕ) (v : Outside) → IsCutShort R k.from message u v
        → Breaks R opening ((read ++ taken) ++ more) false w v
    cut_short more v a = record {
      puts = record {
        said = k.said;
        reply = a.reply;
        from = k.from;
        to = a.to;
        comes = comes_next more false a.reply a.to a.replied;
        n = a.n;
        grows = a.grows ∙ ap (λ (l : List ℕ). l ++ take a.n a.reply) k.grows
            ∙ append_assoc w.output k.said (take a.n a.reply);
      };
      only = still_session R opening (read ++ taken) more w v (only_next a.reply a.to v a.replied a.only);
    }

    together : (more : List ℕ) → (read ++ taken) ++ more ≡ read ++ (taken ++ more)
    together more = append_assoc read taken more

    pub halts_at : (stop : Stop) (more : List ℕ) → length more ≤ 2 ^ 16 → (After : History → B → Type 0) (new : Journal)
        (v : Outside) → Answers R k.from message (IsKept After new) (Err stop) u v
        → Halts R opening (read ++ (taken ++ more)) false stop w v
    halts_at SiteFault more small After new v a =
        subst (λ (l : List ℕ). Breaks R opening l false w v) (together more) (cut_short more v a)
    halts_at Limit more small After new v a =
        subst (λ (o : Outside). Closes R opening (read ++ (taken ++ more)) false LimitEnd limit_line w o) (sym a.1)
        (closes_with R opening front pending read (taken ++ more) is Stands journal w u k
        (OfFull message (pending ++ taken) more (sym (append_assoc pending taken more)) whole small a.0 refl refl refl))
    halts_at NoMemory more small After new v a =
        subst (λ (o : Outside). Breaks R opening (read ++ (taken ++ more)) false w o) (sym a)
        (breaks_here R opening front pending read (taken ++ more) is Stands journal w u k)

-- ---- as far as the site tells

module _ {B : Type 0} (R : Replies B) (Opens : Keeps B) (read : List ℕ) (input : Input)
    (Stands : History → B → Type 0) (journal : Journal)
    (x y : Option Outside) (g : Goes R Opens read input (IsKept Stands journal) x y) where
  pub ready : IfSome y (IsReadyAt (IsKept Stands journal))
  ready = told_if x y
      (λ w v. (opening : Kept B) → Opens opening w
      → Talks R opening g.front read (IsKept Stands journal) w v)
      (IsReadyAt Opens) (IsReadyAt (IsKept Stands journal)) g.talks g.opens
      (λ w v o t. let k = t o.0 o.1 in (k.from, k.kept))

  pub goes_more : (taken : List ℕ) (next : Input)
      → ((before : ℕ) (bytes : List ℕ) → Holds before bytes input → Holds before (bytes ++ taken) next)
      → Goes R Opens (read ++ taken) next (IsKept Stands journal) x y
  goes_more taken next holds = record {
    front = g.front;
    pending = g.pending ++ taken;
    is = ap (λ (l : List ℕ). l ++ taken) g.is ∙ append_assoc g.front g.pending taken;
    holds = holds (length g.front) g.pending g.holds;
    opens = g.opens;
    talks = told_weaker x y
        (λ w v. (opening : Kept B) → Opens opening w
        → Talks R opening g.front read (IsKept Stands journal) w v)
        (λ w v. (opening : Kept B) → Opens opening w
        → Talks R opening g.front (read ++ taken) (IsKept Stands journal) w v) g.talks
        (λ w v k opening o. wider R opening g.front read taken Stands journal w v (k opening o));
  }

  pub halts_long : (part : List ℕ) → length part ≤ 2 ^ 16
      → ((before : ℕ) (bytes : List ℕ) → Holds before bytes input → IsStopped before (bytes ++ part))
      → Since Opens (λ opening w v. Halts R opening (read ++ part) false Limit w v) x y
  halts_long part small stopped = told_weaker x y
      (λ w v. (opening : Kept B) → Opens opening w
      → Talks R opening g.front read (IsKept Stands journal) w v)
      (λ w v. (opening : Kept B) → Opens opening w → Halts R opening (read ++ part) false Limit w v)
      g.talks
      (λ w v k opening o. closes_with R opening g.front g.pending read part g.is Stands journal w v (k opening o)
      (OfTooMuch (record {
        pending = g.pending;
        part = part;
        is = refl;
        open_bytes = g.holds.pending;
        small = small;
        stopped = stopped (length g.front) g.pending g.holds;
      }) refl refl refl))

  pub breaks_more : (part : List ℕ) → Since Opens (λ opening w v. Breaks R opening (read ++ part) false w v) x y
  breaks_more part = told_weaker x y
      (λ w v. (opening : Kept B) → Opens opening w
      → Talks R opening g.front read (IsKept Stands journal) w v)
      (λ w v. (opening : Kept B) → Opens opening w → Breaks R opening (read ++ part) false w v) g.talks
      (λ w v k opening o. breaks_here R opening g.front g.pending read part g.is Stands journal w v (k opening o))

  -- a message that was received is answered, or isn't
  module _ (taken : List ℕ) (next : Input) (received : Received)
      (receives : (before : ℕ) (bytes : List ℕ) → Holds before bytes input
      → Receives before received (bytes ++ taken) × Holds (before + length (bytes ++ taken)) [] next)
      (After : History → B → Type 0) (new : Journal) (z : Option Outside) where
    got : Receives (length g.front) received (g.pending ++ taken)
    got = (receives (length g.front) g.pending g.holds).0

    pub goes_on : (u : Unit {0})
        → Told (λ w v. (from : Kept B) (message : Message) → Means message received → IsKept Stands journal from w
        → Answers R from message (IsKept After new) (Ok u) w v) y z
        → Goes R Opens (read ++ taken) next (IsKept After new) x z
    goes_on u answers = record {
      front = g.front ++ (g.pending ++ taken);
      pending = [];
      is = ap (λ (l : List ℕ). l ++ taken) g.is ∙ append_assoc g.front g.pending taken
          ∙ sym (append-nil (g.front ++ (g.pending ++ taken)));
      holds = subst (λ (n : ℕ). Holds n [] next) (sym (length-append g.front (g.pending ++ taken)))
          (receives (length g.front) g.pending g.holds).1;
      opens = g.opens;
      talks = told_then x y z
          (λ w v. (opening : Kept B) → Opens opening w
          → Talks R opening g.front read (IsKept Stands journal) w v)
          (λ w v. (from : Kept B) (message : Message) → Means message received → IsKept Stands journal from w
          → Answers R from message (IsKept After new) (Ok u) w v)
          (λ w v. (opening : Kept B) → Opens opening w
          → Talks R opening (g.front ++ (g.pending ++ taken)) (read ++ taken) (IsKept After new) w v)
          g.talks answers
          (λ w o v k a opening opens. let t = k opening opens in
          talks_on R opening g.front g.pending read taken g.is Stands journal got.message got.taken w o t
          After new v (a t.from got.message got.means t.kept));
    }

    pub halts : (stop : Stop) (more : List ℕ) → length more ≤ 2 ^ 16
        → Told (λ w v. (from : Kept B) (message : Message) → Means message received → IsKept Stands journal from w
        → Answers R from message (IsKept After new) (Err stop) w v) y z
        → Since Opens (λ opening w v. Halts R opening (read ++ (taken ++ more)) false stop w v) x z
    halts stop more small answers = told_then x y z
        (λ w v. (opening : Kept B) → Opens opening w
        → Talks R opening g.front read (IsKept Stands journal) w v)
        (λ w v. (from : Kept B) (message : Message) → Means message received → IsKept Stands journal from w
        → Answers R from message (IsKept After new) (Err stop) w v)
        (λ w v. (opening : Kept B) → Opens opening w
        → Halts R opening (read ++ (taken ++ more)) false stop w v)
        g.talks answers
        (λ w o v k a opening opens. let t = k opening opens in
        halts_at R opening g.front g.pending read taken g.is Stands journal got.message got.taken w o t
        stop more small After new v (a t.from got.message got.means t.kept))
