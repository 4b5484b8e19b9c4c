-- How a session ends, by what it says last.
use Rattle.std.proofs.Common.{◌≡◌, ◌⊎◌, inl, inr, ℕ, List, [], ◌++◌, length, take, Option, Bool, true, Ok, Err}
use Rattle.std.proofs.Common.{refl, sym, ◌∙◌, ap, subst, append_assoc}
use Rattle.std.proofs.lemmas.List.{append-nil}
use Rattle.std.specs.Io.{StartsWith}
use Rattle.road_base.specs.History.{History}
use Rattle.road_base.specs.declared.ids.Sequence.{Sequence}
use Rattle.road_io.specs.Told.{Told}
use Rattle.road_io.specs.Outside.{Outside, LeavesOnly}
use Rattle.road_io.proofs.CallRuns.{then_runs, only_weaker}
use Rattle.road_io.proofs.ToldCalls.{told_weaker, told_then}
use Rattle.sequence_journal.specs.declared.journal.Journal.{Journal}
use Rattle.session_input.specs.declared.input.Input.{Input}
use Rattle.session_input.specs.declared.received.Received.{Received}
use Rattle.session_input.specs.declared.received.InputEnd.TheVariants.{Done as DoneEnding, Last}
use Rattle.session_input.specs.declared.received.InputEnd.TheVariants.{Unfinished as UnfinishedEnding}
use Rattle.session_input.specs.Messages.{Message}
use Rattle.session_input.specs.Limits.{IsPending}
use Rattle.session_input.specs.Reading.{Means, IsEnding}
use Rattle.session_answers.specs.Replies.{Replies}
use Rattle.session_answers.specs.Texts.{unfinished_line}
use Rattle.session.specs.declared.end.End.{End}
use Rattle.session.specs.declared.end.End.TheVariants.{Done, Unfinished, ReadFault, SiteFault, Limit, NoMemory}
use Rattle.session.specs.declared.stop.Stop.{Stop}
use Rattle.session.specs.declared.stop.Stop.TheVariants.{SiteFault as SiteFaultStop, Limit as LimitStop}
use Rattle.session.specs.declared.stop.Stop.TheVariants.{NoMemory as NoMemoryStop}
use Rattle.session.specs.StoreLaws.{StoreLaws}
use Rattle.session.specs.Conversation.{Kept, Replied}
use Rattle.session.specs.Endings.{EndsSaying, OfEnd, OfLast, OfUnfinished, OfFullLast, OfReadFault, OfEnding, OfNothing}
use Rattle.session.specs.Endings.{IsLast, Comes, limit_line}
use Rattle.session.specs.Conversing.{Keeps, IsKept, LeavesReply, LeavesSession, PutsAll, EndsWith, SessionEnds}
use Rattle.session.specs.Putting.{LeavesPut, PutsOn}
use Rattle.session.specs.Answering.{IsAnswered, Answers}
use Rattle.session.specs.Following.{LeavesStill, Talks, Since, Goes, Closes, Breaks, Halts}
use Rattle.session.proofs.PutChunks.{puts_nothing}
use Rattle.session.proofs.KeptStores.{images_stand, on_still, small_still, can_be_loaded}

-- ---- what is said last is put

-- an end at which all that is given was put
abbrev pub IsWhole : End → Type 0
IsWhole Done = Unit {0}
IsWhole Unfinished = Unit {0}
IsWhole ReadFault = Unit {0}
IsWhole SiteFault = ⊥
IsWhole Limit = Unit {0}
IsWhole NoMemory = ⊥

pub all_put : {B : Type 0} (R : Replies B) (opening : Kept B) (read : List ℕ) (ended : Bool) (end : End)
    (w v : Outside) → IsWhole end
    → PutsAll R opening read ended end w v → EndsWith R opening read ended end w v
all_put R opening read ended Done w v is p = p
all_put R opening read ended Unfinished w v is p = p
all_put R opening read ended ReadFault w v is p = p
all_put R opening read ended SiteFault w v is p = absurd is
all_put R opening read ended Limit w v is p = p
all_put R opening read ended NoMemory w v is p = absurd is

module _ {B : Type 0} (laws : StoreLaws) (R : Replies B) (opening : Kept B) (read : List ℕ) (ended : Bool)
    (end : End) (last : List ℕ)
    (w u v : Outside) (c : Closes R opening read ended end last w u) where
  comes_last : Comes R opening read ended c.said c.from last c.from
  comes_last = record {
    front = c.front;
    rest = c.rest;
    is = c.is;
    so_far = c.so_far;
    next = OfEnding end c.ends;
  }

  moments : LeavesOnly u v (LeavesPut last u) → LeavesOnly w v (LeavesSession R opening read ended w)
  moments only = then_runs w u v (LeavesSession R opening read ended w) (LeavesPut last u) c.only only
      (λ left l. let stands = images_stand laws c.journal c.from.history u left c.on_store l.a l.b in record {
        said = c.said;
        reply = last;
        from = c.from;
        to = c.from;
        comes = comes_last;
        leaves = record {
          begins = subst (λ (o : List ℕ). StartsWith left.out o) c.grows l.begins;
          within = subst (λ (o : List ℕ). StartsWith (o ++ last) left.out) c.grows l.within;
          files = inl stands;
          whole = λ all. stands;
        };
      })

  grown : (put : List ℕ) → v.output ≡ u.output ++ put → v.output ≡ w.output ++ (c.said ++ put)
  grown put is = is ∙ ap (λ (l : List ℕ). l ++ put) c.grows ∙ append_assoc w.output c.said put

  pub said_all : (x : Unit {0}) → IsWhole end → PutsOn {E = Stop} last (Ok x) u v
      → SessionEnds R opening read ended end w v
  said_all x is p = record {
    puts = all_put R opening read ended end w v is (record {
      out = c.said ++ last;
      to = c.from;
      gives = record {
        front = c.front;
        rest = c.rest;
        is = c.is;
        said = c.said;
        from = c.from;
        so_far = c.so_far;
        last = last;
        ends = c.ends;
        all = refl;
      };
      grows = grown last (p.grows ∙ ap (λ (l : List ℕ). u.output ++ l) p.whole);
      stand = can_be_loaded laws c.journal c.from.history v
          (on_still u v p.same_a p.same_b laws c.journal c.from.history c.on_store)
          (small_still u v p.same_a p.same_b c.journal c.small);
    });
    stops = moments p.only;
  }

  pub said_part : (e : Stop) → PutsOn last (Err e) u v → SessionEnds R opening read ended SiteFault w v
  said_part e p = record {
    puts = record {
      said = c.said;
      reply = last;
      from = c.from;
      to = c.from;
      comes = comes_last;
      n = length p.put;
      grows = grown (take (length p.put) last) (p.grows ∙ ap (λ (l : List ℕ). u.output ++ l) (sym p.front));
    };
    stops = moments p.only;
  }

-- nothing is said last
pub closed_silently : StoreLaws → {B : Type 0} (R : Replies B) (opening : Kept B) (read : List ℕ) (ended : Bool)
    (end : End)
    (w v : Outside) → IsWhole end → Closes R opening read ended end [] w v → SessionEnds R opening read ended end w v
closed_silently laws R opening read ended end w v is c =
    said_all laws R opening read ended end [] w v v c tt is (puts_nothing [] (Ok tt) v refl)

pub broken : {B : Type 0} (R : Replies B) (opening : Kept B) (read : List ℕ) (ended : Bool) (w v : Outside)
    → Breaks R opening read ended w v → SessionEnds R opening read ended SiteFault w v
broken R opening read ended w v b = record { puts = b.puts; stops = b.only }

pub out_of_memory : {B : Type 0} (R : Replies B) (opening : Kept B) (read : List ℕ) (ended : Bool) (w v : Outside)
    → Breaks R opening read ended w v → SessionEnds R opening read ended NoMemory w v
out_of_memory R opening read ended w v b = record { puts = b.puts; stops = b.only }

-- ---- the last message

session_now : {B : Type 0} (R : Replies B) (opening : Kept B) (read : List ℕ) (ended : Bool) (w v : Outside)
    → LeavesOnly w v (LeavesStill R opening read w) → LeavesOnly w v (LeavesSession R opening read ended w)
session_now R opening read ended w v only =
    only_weaker w v (LeavesStill R opening read w) (LeavesSession R opening read ended w) only
    (λ left still. subst (λ (l : List ℕ). LeavesSession R opening l ended w left) (append-nil read) (still [] ended))

module _ {B : Type 0} (R : Replies B) (opening : Kept B) (front pending read : List ℕ) (is : read ≡ front ++ pending)
    (ended : Bool)
    (Stands : History → B → Type 0) (journal : Journal) (w u : Outside)
    (k : Talks R opening front read (IsKept Stands journal) w u) where
  pub closes_now : (end : End) (last : List ℕ) → EndsSaying R k.from (length front) pending ended end last k.from
      → Closes R opening read ended end last w u
  closes_now end last ends = record {
    front = front;
    rest = pending;
    is = is;
    said = k.said;
    from = k.from;
    so_far = k.so_far;
    ends = ends;
    journal = journal;
    on_store = k.kept.on_store;
    small = k.kept.small;
    grows = k.grows;
    only = session_now R opening read ended w u k.only;
  }

  breaks_now : Breaks R opening read ended w u
  breaks_now = record {
    puts = record {
      said = k.said;
      reply = [];
      from = k.from;
      to = k.from;
      comes = record { front = front; rest = pending; is = is; so_far = k.so_far; next = OfNothing refl refl };
      n = 0;
      grows = k.grows ∙ ap (λ (l : List ℕ). w.output ++ l) (sym (append-nil k.said));
    };
    only = session_now R opening read ended w u k.only;
  }

  module _ (laws : StoreLaws) (at_end : ended ≡ true) (open_bytes : IsPending (length front) pending)
      (message : Message) (last : IsLast message pending) where
    last_comes : (reply : List ℕ) (to : Kept B) → Replied R k.from message reply to
        → Comes R opening read ended k.said k.from reply to
    last_comes reply to replied = record {
      front = front;
      rest = pending;
      is = is;
      so_far = k.so_far;
      next = OfEnding Done (OfLast at_end open_bytes message last replied refl);
    }

    last_moments : (reply : List ℕ) (to : Kept B) (v : Outside) → Replied R k.from message reply to
        → LeavesOnly u v (LeavesReply k.from to u.output reply)
        → LeavesOnly w v (LeavesSession R opening read ended w)
    last_moments reply to v replied only =
        then_runs w u v (LeavesSession R opening read ended w) (LeavesReply k.from to u.output reply)
        (session_now R opening read ended w u k.only) only
        (λ left l. record {
          said = k.said;
          reply = reply;
          from = k.from;
          to = to;
          comes = last_comes reply to replied;
          leaves = subst (λ (o : List ℕ). LeavesReply k.from to o reply left) k.grows l;
        })

    last_answered : (After : History → B → Type 0) (new : Journal) (v : Outside)
        → IsAnswered R k.from message (IsKept After new) u v
        → SessionEnds R opening read ended Done w v
    last_answered After new v a = record {
      puts = record {
        out = k.said ++ a.reply;
        to = a.to;
        gives = record {
          front = front;
          rest = pending;
          is = is;
          said = k.said;
          from = k.from;
          so_far = k.so_far;
          last = a.reply;
          ends = OfLast at_end open_bytes message last a.replied refl;
          all = refl;
        };
        grows = a.grows ∙ ap (λ (l : List ℕ). l ++ a.reply) k.grows ∙ append_assoc w.output k.said a.reply;
        stand = can_be_loaded laws new a.to.history v a.kept.on_store a.kept.small;
      };
      stops = last_moments a.reply a.to v a.replied a.only;
    }

    last_halts : (stop : Stop) (After : History → B → Type 0) (new : Journal) (v : Outside)
        → Answers R k.from message (IsKept After new) (Err stop) u v → Halts R opening read ended stop w v
    last_halts SiteFaultStop After new v a = record {
      puts = record {
        said = k.said;
        reply = a.reply;
        from = k.from;
        to = a.to;
        comes = last_comes a.reply a.to a.replied;
        n = a.n;
        grows = a.grows ∙ ap (λ (l : List ℕ). l ++ take a.n a.reply) k.grows
            ∙ append_assoc w.output k.said (take a.n a.reply);
      };
      only = last_moments a.reply a.to v a.replied a.only;
    }
    last_halts LimitStop After new v a =
        subst (λ (o : Outside). Closes R opening read ended Limit limit_line w o) (sym a.1)
        (closes_now Limit limit_line (OfFullLast at_end open_bytes message last a.0 refl refl refl))
    last_halts NoMemoryStop After new v a = subst (λ (o : Outside). Breaks R opening read ended w o) (sym a) breaks_now

-- ---- as far as the site tells

-- what stands in a session gives how it ends
pub since_weaker : {B : Type 0} (Opens : Keeps B) (S T : Kept B → Outside → Outside → Type 0) (x y : Option Outside)
    → Since Opens S x y → ((opening : Kept B) (w v : Outside) → S opening w v → T opening w v) → Since Opens T x y
since_weaker {B} Opens S T x y told f = told_weaker x y
    (λ w v. (opening : Kept B) → Opens opening w → S opening w v)
    (λ w v. (opening : Kept B) → Opens opening w → T opening w v) told
    (λ w v r opening o. f opening w v (r opening o))

-- and so does what stands before a call, and what the call does
pub since_then : {B : Type 0} (Opens : Keeps B) (S T : Kept B → Outside → Outside → Type 0)
    (U : Outside → Outside → Type 0) (x y z : Option Outside) → Since Opens S x y → Told U y z
    → ((opening : Kept B) (w u v : Outside) → S opening w u → U u v → T opening w v) → Since Opens T x z
since_then {B} Opens S T U x y z told next f = told_then x y z
    (λ w v. (opening : Kept B) → Opens opening w → S opening w v) U
    (λ w v. (opening : Kept B) → Opens opening w → T opening w v) told next
    (λ w u v r t opening o. f opening w u v (r opening o) t)

module _ {B : Type 0} (laws : StoreLaws) (R : Replies B) (Opens : Keeps B) (read : List ℕ) (ended : Bool)
    (input : Input)
    (Stands : History → B → Type 0) (journal : Journal) (x y : Option Outside)
    (g : Goes R Opens read input (IsKept Stands journal) x y) where
  pub ends_silently : (end : End) → IsWhole end
      → ((from : Kept B) → EndsSaying R from (length g.front) g.pending ended end [] from)
      → Since Opens (λ opening w v. SessionEnds R opening read ended end w v) x y
  ends_silently end is ends =
      since_weaker Opens (λ opening w v. Talks R opening g.front read (IsKept Stands journal) w v)
      (λ opening w v. SessionEnds R opening read ended end w v) x y g.talks
      (λ opening w v k. closed_silently laws R opening read ended end w v is
      (closes_now R opening g.front g.pending read g.is ended Stands journal w v k end [] (ends k.from)))

  pub ends_read : Since Opens (λ opening w v. SessionEnds R opening read ended ReadFault w v) x y
  ends_read = ends_silently ReadFault tt (λ from. OfReadFault g.holds.pending refl refl refl)

  pub ends_done : ended ≡ true → IsEnding g.pending DoneEnding
      → Since Opens (λ opening w v. SessionEnds R opening read ended Done w v) x y
  ends_done at_end none = ends_silently Done tt (λ from. OfEnd at_end none refl refl refl)

  pub ends_memory : Since Opens (λ opening w v. SessionEnds R opening read ended NoMemory w v) x y
  ends_memory = since_weaker Opens (λ opening w v. Talks R opening g.front read (IsKept Stands journal) w v)
      (λ opening w v. SessionEnds R opening read ended NoMemory w v) x y g.talks
      (λ opening w v k. out_of_memory R opening read ended w v
      (breaks_now R opening g.front g.pending read g.is ended Stands journal w v k))

  pub closes_unfinished : ended ≡ true → (number : Sequence) (line : List ℕ)
      → IsEnding g.pending (UnfinishedEnding number)
      → line ≡ unfinished_line number.0
      → Since Opens (λ opening w v. Closes R opening read ended Unfinished line w v) x y
  closes_unfinished at_end number line e is =
      since_weaker Opens (λ opening w v. Talks R opening g.front read (IsKept Stands journal) w v)
      (λ opening w v. Closes R opening read ended Unfinished line w v) x y g.talks
      (λ opening w v k. closes_now R opening g.front g.pending read g.is ended Stands journal w v k Unfinished line
      (OfUnfinished at_end g.holds.pending number.0 (record { body = e.0; front = e.1; begins = e.2; all = e.3 })
      refl is refl))

  module _ (at_end : ended ≡ true) (received : Received) (e : IsEnding g.pending (Last received))
      (After : History → B → Type 0)
      (new : Journal) (z : Option Outside) where
    pub ends_answered : (n : Unit {0})
        → Told (λ w v. (from : Kept B) (message : Message) → Means message received → IsKept Stands journal from w
        → Answers R from message (IsKept After new) (Ok n) w v) y z
        → Since Opens (λ opening w v. SessionEnds R opening read ended Done w v) x z
    ends_answered n answers =
        since_then Opens (λ opening w v. Talks R opening g.front read (IsKept Stands journal) w v)
        (λ opening w v. SessionEnds R opening read ended Done w v)
        (λ w v. (from : Kept B) (message : Message) → Means message received → IsKept Stands journal from w
        → Answers R from message (IsKept After new) (Ok n) w v) x y z g.talks answers
        (λ opening w u v k a. last_answered R opening g.front g.pending read g.is ended Stands journal w u k
        laws at_end g.holds.pending e.1.0 (record { some = e.0; is = e.1.1 }) After new v (a k.from e.1.0 e.1.2 k.kept))

    pub halts_last : (stop : Stop)
        → Told (λ w v. (from : Kept B) (message : Message) → Means message received → IsKept Stands journal from w
        → Answers R from message (IsKept After new) (Err stop) w v) y z
        → Since Opens (λ opening w v. Halts R opening read ended stop w v) x z
    halts_last stop answers =
        since_then Opens (λ opening w v. Talks R opening g.front read (IsKept Stands journal) w v)
        (λ opening w v. Halts R opening read ended stop w v)
        (λ w v. (from : Kept B) (message : Message) → Means message received → IsKept Stands journal from w
        → Answers R from message (IsKept After new) (Err stop) w v) x y z g.talks answers
        (λ opening w u v k a. last_halts R opening g.front g.pending read g.is ended Stands journal w u k laws
        at_end g.holds.pending e.1.0 (record { some = e.0; is = e.1.1 }) stop After new v (a k.from e.1.0 e.1.2 k.kept))

-- ---- a line that is said last

pub ends_said : StoreLaws → {B : Type 0} (R : Replies B) (Opens : Keeps B) (read : List ℕ) (ended : Bool) (end : End)
    (line : List ℕ)
    (n : Unit {0}) (x y z : Option Outside) → IsWhole end
    → Since Opens (λ opening w v. Closes R opening read ended end line w v) x y
    → Told (PutsOn {E = Stop} line (Ok n)) y z
    → Since Opens (λ opening w v. SessionEnds R opening read ended end w v) x z
ends_said laws R Opens read ended end line n x y z is closes put =
    since_then Opens (λ opening w v. Closes R opening read ended end line w v)
    (λ opening w v. SessionEnds R opening read ended end w v) (PutsOn {E = Stop} line (Ok n)) x y z closes put
    (λ opening w u v c p. said_all laws R opening read ended end line w u v c n is p)

pub ends_unsaid : StoreLaws → {B : Type 0} (R : Replies B) (Opens : Keeps B) (read : List ℕ) (ended : Bool)
    (end : End) (line : List ℕ)
    (e : Stop) (x y z : Option Outside)
    → Since Opens (λ opening w v. Closes R opening read ended end line w v) x y → Told (PutsOn line (Err e)) y z
    → Since Opens (λ opening w v. SessionEnds R opening read ended SiteFault w v) x z
ends_unsaid laws R Opens read ended end line e x y z closes put =
    since_then Opens (λ opening w v. Closes R opening read ended end line w v)
    (λ opening w v. SessionEnds R opening read ended SiteFault w v) (PutsOn line (Err e)) x y z closes put
    (λ opening w u v c p. said_part laws R opening read ended end line w u v c e p)

pub is_whole : (end : End) → (end ≡ Unfinished) ⊎ (end ≡ Limit) → IsWhole end
is_whole end (inl is) = subst IsWhole (sym is) tt
is_whole end (inr is) = subst IsWhole (sym is) tt
