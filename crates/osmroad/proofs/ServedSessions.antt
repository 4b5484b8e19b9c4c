-- A session over the two files: how it ends, and what a stop leaves.
use Rattle.std.proofs.Common.{◌≡◌, ◌⊎◌, inl, inr, ℕ, List, [], ◌++◌, length, take, Option, Bool, IfSome}
use Rattle.std.proofs.Common.{Ok, refl, sym, ◌∙◌, ap, subst}
use Rattle.std.proofs.lemmas.List.{append-nil}
use Rattle.std.specs.FinMap.{empty}
use Rattle.std.specs.Io.{StartsWith}
use Rattle.road_base.specs.History.{History}
use Rattle.access_profile.specs.Profiles.{rules_of}
use Rattle.road_io.specs.Told.{Told}
use Rattle.road_io.specs.Outside.{Outside, Left, IsLeft, LeavesOnly, present}
use Rattle.road_io.proofs.ToldCalls.{told_then, told_gives}
use Rattle.road_io.proofs.CallRuns.{then_runs, only_weaker}
use Rattle.sequence_journal.specs.declared.load.Loaded.{Loaded}
use Rattle.sequence_journal.specs.Standing.{history_bytes}
use Rattle.store_switch.specs.LiveFile.{reads_of}
use Rattle.store_switch.specs.TwoFiles.{LeavesStore}
use Rattle.store_switch.specs.StoreLoading.{StoreLoaded, LeavesAlike, LoadsStore}
use Rattle.pinned_readers.specs.PinnedRuns.{Pins}
use Rattle.session_answers.specs.Replies.{Replies}
use Rattle.session_replies.specs.Replies.{road_replies}
use Rattle.session.specs.declared.end.End.{End}
use Rattle.session.specs.declared.end.End.TheVariants.{Done as DoneEnd, Unfinished, ReadFault as ReadFaultEnd}
use Rattle.session.specs.declared.end.End.TheVariants.{SiteFault as SiteFaultEnd, Limit as LimitEnd}
use Rattle.session.specs.declared.end.End.TheVariants.{NoMemory as NoMemoryEnd}
use Rattle.session.specs.Conversation.{Kept, Start, room_at}
use Rattle.session.specs.Endings.{OfNothing}
use Rattle.session.specs.Conversing.{IsReadyAt, LeavesReply, LeavesSession, PutsAll, PutsFront, EndsWith}
use Rattle.session.specs.Conversing.{SessionEnds, IsAtEnd, CountsReads, CountsCalls}
use Rattle.last_words.specs.declared.status.Status.{Status}
use Rattle.last_words.specs.declared.status.Status.TheVariants.{ReadFault, SiteFault}
use Rattle.osmroad.specs.Opening.{Files, IsStore}
use Rattle.osmroad.specs.StoreLaws.{StoreLaws}
use Rattle.osmroad.specs.Sessions.{end_status, IsServed, AnswersFaults, IsOpening, Serves, opening, replies_over}
use Rattle.osmroad.specs.Sessions.{OfStore, LeavesServed}
use Rattle.osmroad.specs.Sessions.{SessionRuns, ReadsSession, EndsSession}
use Rattle.session.proofs.OutputFronts.{starts_whole}
use Rattle.osmroad.proofs.LoadedStores.{same_history, loaded_store}

-- ---- statuses

ended_reading : (end : End) → end_status end ≡ ReadFault → end ≡ ReadFaultEnd
ended_reading DoneEnd is = (cc)
ended_reading Unfinished is = (cc)
ended_reading ReadFaultEnd is = refl
ended_reading SiteFaultEnd is = (cc)
ended_reading LimitEnd is = (cc)
ended_reading NoMemoryEnd is = (cc)

ended_calling : (end : End) → end_status end ≡ SiteFault → end ≡ SiteFaultEnd
ended_calling DoneEnd is = (cc)
ended_calling Unfinished is = (cc)
ended_calling ReadFaultEnd is = (cc)
ended_calling SiteFaultEnd is = refl
ended_calling LimitEnd is = (cc)
ended_calling NoMemoryEnd is = (cc)

module _ (end : End) (status : Status) (is : status ≡ end_status end) (before now : ℕ) where
  pub served_reads : CountsReads before now end → AnswersFaults ReadFault status before now
  served_reads counts = record {
    cause = λ fault. counts.cause (ended_reading end (sym is ∙ fault));
    each = λ rises. is ∙ ap end_status (counts.each rises);
  }

  pub served_calls : CountsCalls before now end → AnswersFaults SiteFault status before now
  served_calls counts = record {
    cause = λ fault. counts.cause (ended_calling end (sym is ∙ fault));
    each = λ rises. is ∙ ap end_status (counts.each rises);
  }

ended_served : (end : End) → IsServed (end_status end)
ended_served DoneEnd = tt
ended_served Unfinished = tt
ended_served ReadFaultEnd = tt
ended_served SiteFaultEnd = tt
ended_served LimitEnd = tt
ended_served NoMemoryEnd = tt

pub is_served : (end : End) (status : Status) → status ≡ end_status end → IsServed status
is_served end status is = subst IsServed (sym is) (ended_served end)

-- ---- what was put by a session, since the run began

module _ (R : Replies Pins) (from : Kept Pins) (read : List ℕ) (ended : Bool) (w u : Outside) (same :
    u.output ≡ w.output) where
  all_put_since : (end : End) (v : Outside) → PutsAll R from read ended end u v → PutsAll R from read ended end w v
  all_put_since end v p = record {
    out = p.out;
    to = p.to;
    gives = p.gives;
    grows = p.grows ∙ ap (λ (l : List ℕ). l ++ p.out) same;
    stand = p.stand;
  }

  front_put_since : (v : Outside) → PutsFront R from read ended u v → PutsFront R from read ended w v
  front_put_since v p = record {
    said = p.said;
    reply = p.reply;
    from = p.from;
    to = p.to;
    comes = p.comes;
    n = p.n;
    grows = p.grows ∙ ap (λ (l : List ℕ). l ++ (p.said ++ take p.n p.reply)) same;
  }

  ends_since : (end : End) (v : Outside) → EndsWith R from read ended end u v → EndsWith R from read ended end w v
  ends_since DoneEnd v p = all_put_since DoneEnd v p
  ends_since Unfinished v p = all_put_since Unfinished v p
  ends_since ReadFaultEnd v p = all_put_since ReadFaultEnd v p
  ends_since SiteFaultEnd v p = front_put_since v p
  ends_since LimitEnd v p = all_put_since LimitEnd v p
  ends_since NoMemoryEnd v p = front_put_since v p

  leaves_since : (left : Left) → LeavesSession R from read ended u left → LeavesSession R from read ended w left
  leaves_since left l = record {
    said = l.said;
    reply = l.reply;
    from = l.from;
    to = l.to;
    comes = l.comes;
    leaves = subst (λ (out : List ℕ). LeavesReply l.from l.to (out ++ l.said) l.reply left) same l.leaves;
  }

-- ---- each moment of the load

-- a session that has said nothing yet
silent_session : (R : Replies Pins) (from : Kept Pins) (read : List ℕ) (ended : Bool) (w : Outside) (left
    : Left)
    → LeavesStore from.history w.output left → LeavesSession R from read ended w left
silent_session R from read ended w left store =
    let one : w.output ++ [] ≡ w.output = append-nil w.output in
    let two : (w.output ++ []) ++ [] ≡ w.output = append-nil (w.output ++ []) ∙ one in
    record {
      said = [];
      reply = [];
      from = from;
      to = from;
      comes = record { front = []; rest = read; is = refl; so_far = Start; next = OfNothing refl refl };
      leaves = record {
        begins = subst (λ (l : List ℕ). StartsWith left.out l) (sym one)
            (subst (λ (l : List ℕ). StartsWith l w.output) (sym store.out) (starts_whole w.output));
        within = subst (λ (l : List ℕ). StartsWith l left.out) (sym two)
            (subst (λ (l : List ℕ). StartsWith w.output l) (sym store.out) (starts_whole w.output));
        files = inl store.files;
        whole = λ all. store.files;
      };
    }

module _ (laws : StoreLaws) where
  load_served : (read : List ℕ) (ended : Bool) (w : Outside) (left : Left)
      → IsLeft (present w) left ⊎ LeavesAlike w left
      → LeavesServed read ended w left
  load_served read ended w left (inl there) = record {
    stored = λ s. inl (record {
      could = there;
      durable = λ d. laws.still w left s.history d there (s.live, s.generation, s.stands);
    });
    otherwise = λ never. record { a = there.a; b = there.b };
  }
  load_served read ended w left (inr alike) = record {
    stored = λ s. inr (silent_session (replies_over (opening s)) (opening s) read ended w left
        (subst (λ (h : History). LeavesStore h w.output left)
        (same_history laws (reads_of w) alike.0 s.history alike.1 (s.live, s.generation, s.stands, s.small)) alike.2));
    otherwise = λ never. absurd (never (record {
      live = alike.1.0;
      generation = alike.1.1;
      history = alike.0;
      stands = alike.1.2;
      small = alike.1.3;
    }));
  }

  pub load_leaves : (read : List ℕ) (ended : Bool) (w v : Outside)
      → LeavesOnly w v (λ left. IsLeft (present w) left ⊎ LeavesAlike w left)
      → LeavesOnly w v (LeavesServed read ended w)
  load_leaves read ended w v only = only_weaker w v (λ left. IsLeft (present w) left ⊎ LeavesAlike w left)
      (LeavesServed read ended w) only (load_served read ended w)

-- ---- the session behind it

pub opened : (l : Loaded) (w u : Outside) → (k : StoreLoaded l w u) → IsOpening l (opening (loaded_store l w u k)) u
opened l w u k = record {
  events = k.events;
  on_store = k.ready;
  small = k.kept_small;
  pins = refl;
  room = ap room_at (sym k.ready.at.gate);
}

abbrev pub opening_at : ℕ → History → Kept Pins
opening_at generation h = record {
  history = h;
  beside = empty;
  room = room_at (length (history_bytes generation h));
}

module _ (laws : StoreLaws) where
  pub same_opening : (files : Files) (s t : IsStore files) → opening s ≡ opening t
  same_opening files s t =
      let same = laws.one_store files s.live t.live s.generation t.generation s.history t.history s.stands t.stands in
      ap (λ (g : ℕ). opening_at g s.history) same.1 ∙ ap (λ (h : History). opening_at t.generation h) same.2

  session_leaves : (read : List ℕ) (ended : Bool) (w u : Outside) → u.output ≡ w.output → (s : IsStore (reads_of w))
      → (left : Left)
      → LeavesSession (replies_over (opening s)) (opening s) read ended u left → LeavesServed read ended w left
  session_leaves read ended w u same s left l = record {
    stored = λ t. inr (subst (λ (o : Kept Pins). LeavesSession (replies_over o) o read ended w left)
        (same_opening (reads_of w) s t)
        (leaves_since (replies_over (opening s)) (opening s) read ended w u same left l));
    otherwise = λ never. absurd (never s);
  }

  module _ (l : Loaded) (read : List ℕ) (ended : Bool) (end : End) (status : Status) (is : status ≡ end_status end)
    where
      session_runs : (w u v : Outside) → LoadsStore (Ok l) w u
          → ((o : Kept Pins) → IsOpening l o u
          → SessionEnds (road_replies (rules_of l.journal.profile)) o read ended end u v)
          → SessionRuns read ended status w v
      session_runs w u v load ends =
          let k : StoreLoaded l w u = load.answer in
          let s = loaded_store l w u k in
          let e : SessionEnds (replies_over (opening s)) (opening s) read ended end u v =
          subst (λ (n : ℕ). SessionEnds (road_replies (rules_of n)) (opening s) read ended end u v)
          k.ready.at.profile (ends (opening s) (opened l w u k)) in
          record {
            puts = OfStore s end is (ends_since (replies_over (opening s)) (opening s) read ended w u load.output
                end v e.puts);
            stops = then_runs w u v (LeavesServed read ended w)
                (LeavesSession (replies_over (opening s)) (opening s) read ended u)
                (load_leaves laws read ended w u load.any_moment) e.stops
                (λ left. session_leaves read ended w u load.output s left);
          }

  reads_whole : (bytes read behind : List ℕ) → bytes ≡ read ++ behind → behind ≡ [] → read ≡ bytes
  reads_whole bytes read behind all none =
      sym (all ∙ ap (λ (l : List ℕ). read ++ l) none ∙ append-nil read)

  session_reads : (end : End) (bytes read behind : List ℕ) → bytes ≡ read ++ behind → (IsAtEnd end → behind ≡ [])
      → ReadsSession (end_status end) bytes read
  session_reads DoneEnd bytes read behind all whole = reads_whole bytes read behind all (whole (inl refl))
  session_reads Unfinished bytes read behind all whole = reads_whole bytes read behind all (whole (inr refl))
  session_reads ReadFaultEnd bytes read behind all whole = tt
  session_reads SiteFaultEnd bytes read behind all whole = tt
  session_reads LimitEnd bytes read behind all whole = tt
  session_reads NoMemoryEnd bytes read behind all whole = tt

  pub store_is_served : (l : Loaded) (status : Status) (held remaining : Option (List ℕ)) (x y z : Option Outside)
      → Told (LoadsStore (Ok l)) x y
      → Serves (road_replies (rules_of l.journal.profile)) l status held remaining y z
      → EndsSession status held remaining x z
  store_is_served l status held remaining x y z told serves =
      let c = serves.converses in
      record {
        bytes = c.bytes;
        read = c.read;
        behind = c.behind;
        all = c.all;
        holds = c.holds;
        ended = c.ended;
        source = λ at_end. (
          (c.source at_end).0,
          λ fault. (c.source at_end).1 (ended_reading serves.end
              (sym serves.is ∙ fault)),
        );
        reads = subst (λ (s : Status). ReadsSession s c.bytes c.read) (sym serves.is)
            (session_reads serves.end c.bytes c.read c.behind c.all (λ at. (c.source (c.whole at)).0));
        runs = told_then x y z (LoadsStore (Ok l))
            (λ u v. (o : Kept Pins) → IsOpening l o u
            → SessionEnds (road_replies (rules_of l.journal.profile)) o c.read c.ended serves.end u v)
            (SessionRuns c.read c.ended status) told c.ends
            (λ w u v load ends. session_runs l c.read c.ended serves.end status serves.is w u v load ends);
      }

pub store_opens : (l : Loaded) (x y : Option Outside) → Told (LoadsStore (Ok l)) x y
    → IfSome y (IsReadyAt (IsOpening l))
store_opens l x y told = told_gives x y (LoadsStore (Ok l)) (IsReadyAt (IsOpening l)) told
    (λ w u load. (opening (loaded_store l w u load.answer), opened l w u load.answer))
