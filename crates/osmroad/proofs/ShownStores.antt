-- What is prepared to show a store: its graph, or its audit.
use Rattle.std.proofs.Common.{◌≡◌, ◌⊎◌, inl, inr, ℕ, ◌+◌, ◌≤◌, List, [], length, Option, None, Some, IfSome}
use Rattle.std.proofs.Common.{Result, Ok, Err}
use Rattle.std.proofs.Common.{refl, sym, ◌∙◌, ap, subst}
use Rattle.std.specs.FinMap.{empty}
use Rattle.road_base.specs.declared.event.Event.{Event}
use Rattle.road_base.specs.History.{History, all_events}
use Rattle.road_base.specs.Objects.{Objects}
use Rattle.road_base.specs.Applying.{IsApplied}
use Rattle.road_io.specs.Told.{Told}
use Rattle.road_io.specs.Outside.{Outside, Left, LeavesOnly, image_of}
use Rattle.road_io.proofs.ToldCalls.{told_weaker}
use Rattle.road_io.proofs.CallRuns.{only_weaker}
use Rattle.sequence_journal.specs.declared.error.JournalError.{JournalError}
use Rattle.sequence_journal.specs.declared.load.Loaded.{Loaded}
use Rattle.store_switch.specs.LiveFile.{reads_of}
use Rattle.store_switch.specs.TwoFiles.{StandFor, CanBeLoaded}
use Rattle.store_switch.specs.StoreLoading.{StoreLoaded, LoadsStore, IsLoadError}
use Rattle.osmroad.specs.declared.command.Command.{Command}
use Rattle.osmroad.specs.declared.command.Command.TheVariants.{Graph, Audit}
use Rattle.last_words.specs.declared.words.LastWords.{LastWords}
use Rattle.last_words.specs.declared.words.Failure.{Failure}
use Rattle.last_words.specs.declared.words.Failure.TheVariants.{NoMemory as NoMemoryFailure}
use Rattle.last_words.specs.declared.status.Status.{Status}
use Rattle.last_words.specs.declared.status.Status.TheVariants.{Done, NoStore, Damaged, Limit}
use Rattle.road_model.specs.Highways.{highways}
use Rattle.access_profile.specs.Profiles.{rules_of}
use Rattle.moment_rules.specs.declared.moment.Moment.{Moment}
use Rattle.osmroad.specs.Opening.{Files}
use Rattle.osmroad.specs.Outcomes.{Gives, ShowGives}
use Rattle.osmroad.specs.Outcomes.{OfStore, OfHistory}
use Rattle.compiled_graph.specs.Compiled.{IsGraphOf}
use Rattle.osmroad.specs.Shown.{rules_shown}
use Rattle.osmroad.specs.Audited.{IsAuditOf}
use Rattle.osmroad.specs.Stops.{LeavesStored, LeavesHistory, LeftBy}
use Rattle.osmroad.specs.Run.{IsReply, IsStored, Reads, StandAfter, StandAsBefore, Builds, files_of}
use Rattle.last_words.specs.Replies.{Says}
use Rattle.osmroad.specs.Replies.{RefusesStore, IsPrepared, WillPut, Prepares}
use Rattle.session.proofs.HeldSource.{behind_of}
use Rattle.osmroad.proofs.Replied.{replied}
use Rattle.road_io.proofs.SourceParts.{took_nothing}
use Rattle.osmroad.specs.StoreLaws.{StoreLaws}
use Rattle.osmroad.proofs.Prepared.{will_put, by_failure, prepares}
use Rattle.osmroad.proofs.LoadedStores.{LeavesKept, stored_weaker, same_history, load_moments, loaded_before}
use Rattle.osmroad.proofs.LoadedStores.{loaded_now, loaded_store, loaded_as_before, left_unput, stand_unput}
use Rattle.session.proofs.KeptStores.{unput}
use Rattle.osmroad.proofs.LoadedStores.{NotLoaded, could_leave, IsRefusal, load_refused}

-- a command that reads nothing, and shows something of all events of a store
pub record ShowsStore (command : Option Command) (Shows : ℕ → List Event → List ℕ → Type 0) : Type 0 where
  pub stored : IsStored command
  pub replies : (status : Status)
      → (status ≡ Done) ⊎ (status ≡ NoStore) ⊎ (status ≡ Damaged) ⊎ (status ≡ Limit) → IsReply command status
  pub reads : (files : Option Files) (status : Status) (bytes : List ℕ) → Reads command files status bytes []
  pub gives : (files : Option Files) (bytes : List ℕ) (status : Status) (out : List ℕ) (after : Option History)
      → IfSome files (λ f. ShowGives Shows f status out after) → Gives command files bytes status out after
  pub leaves : (w : Outside) (left : Left) → LeavesStored (LeavesHistory w left) w left → LeftBy command [] w left
  pub stand : (w v : Outside) (h : History) → CanBeLoaded (reads_of v) h → StandAfter command Done (Some h) w v

pub graph_shows : (moment : Option Moment)
    → ShowsStore (Some (Graph moment)) (λ n. IsGraphOf (rules_shown moment n))
graph_shows moment = record {
  stored = tt;
  replies = λ status is. is;
  reads = λ files status bytes. refl;
  gives = λ files bytes status out after g. g;
  leaves = λ w left l. l;
  stand = λ w v h c. c;
}

pub audit_shows : ShowsStore (Some Audit) (λ n. IsAuditOf (rules_of n))
audit_shows = record {
  stored = tt;
  replies = λ status is. is;
  reads = λ files status bytes. refl;
  gives = λ files bytes status out after g. g;
  leaves = λ w left l. l;
  stand = λ w v h c. c;
}

module _ (laws : StoreLaws) (command : Option Command) (Shows : ℕ → List Event → List ℕ → Type 0)
    (shows : ShowsStore command Shows) where
  show_moments : (result : Result Loaded JournalError) (w v : Outside) → LoadsStore result w v
      → LeavesOnly w v (LeftBy command [] w)
  show_moments result w v l = only_weaker w v (λ left. LeavesStored (LeavesKept w left) w left)
      (LeftBy command [] w) (load_moments laws result w v l)
      (λ left kept. shows.leaves w left
      (stored_weaker (LeavesKept w left) (LeavesHistory w left) w left (λ h. weaker w left h) kept))
    where
      weaker : (w : Outside) (left : Left) (h : History) → LeavesKept w left h → LeavesHistory w left h
      weaker w left h (inl first) = inl first
      weaker w left h (inr store) = inr store.files

  show_prepares : (held : Option (List ℕ)) (x y : Option Outside) (loaded : Result Loaded JournalError)
      (result : Result LastWords Failure) → Told (LoadsStore loaded) x y
      → IsPrepared command (behind_of held) [] result x y → Prepares command result held held x y
  show_prepares held x y loaded result told answer =
      prepares command result [] held held x y (took_nothing held) answer
      (told_weaker x y (LoadsStore loaded) (λ w v. v.output ≡ w.output) told (λ w v l. l.output))
      (told_weaker x y (LoadsStore loaded) (λ w v. LeavesOnly w v (LeftBy command [] w)) told (show_moments loaded))

  not_loaded : (bytes : List ℕ) (status : Status) (out : List ℕ) (x y : Option Outside) → IsRefusal status
      → Told (λ w v. NotLoaded w v status out) x y → WillPut command bytes [] status out x y
  not_loaded bytes status out x y is told =
      will_put command bytes [] status out x y (λ w v. NotLoaded w v status out) told
      (shows.replies status (inr is)) (shows.reads None status bytes) (shows.gives None bytes status out None tt)
      (λ w v n. record {
        replies = shows.replies status (inr is);
        reads = shows.reads (files_of (Some w)) status bytes;
        after = None;
        gives = shows.gives (files_of (Some w)) bytes status out None (OfStore n.refusal refl);
        stand = n.still;
        last = λ left a b front. shows.leaves w left (record {
          stored = λ h c. absurd (n.never h c);
          otherwise = λ never. could_leave w v status out n left a b;
        });
      })

  -- the store isn't loaded
  pub show_refused : (held : Option (List ℕ)) (x y : Option Outside) (e : JournalError)
      (result : Result LastWords Failure) → IsLoadError e → RefusesStore e result → Told (LoadsStore (Err e)) x y
      → Prepares command result held held x y
  show_refused held x y e result named refuses told =
      let bytes = behind_of held in
      show_prepares held x y (Err e) result told
      (load_refused laws command bytes x y e result named refuses told shows.stored
      (λ status out is n. not_loaded bytes status out x y is n))

  -- memory ends when it is loaded
  pub show_failed : (held : Option (List ℕ)) (x y : Option Outside) (l : Loaded) (result : Result LastWords Failure)
      → result ≡ Err NoMemoryFailure → Told (LoadsStore (Ok l)) x y → Prepares command result held held x y
  show_failed held x y l result is told = show_prepares held x y (Ok l) result told
      (by_failure command (behind_of held) [] x y NoMemoryFailure result is
      (told_weaker x y (LoadsStore (Ok l)) StandAsBefore told (λ w v k. loaded_as_before laws l w v k.answer)))

  shown : (bytes out : List ℕ) (l : Loaded) (w v : Outside) → StoreLoaded l w v
      → Shows l.journal.profile l.events.items out
      → WillPut command bytes [] Done out (Some w) (Some v)
  shown bytes out l w v k is = record {
    replies = shows.replies Done (inl refl);
    reads = shows.reads (files_of (Some w)) Done bytes;
    after = Some k.history;
    gives = shows.gives (files_of (Some w)) bytes Done out (Some k.history) (OfHistory (loaded_store l w v k)
        (subst (λ (n : ℕ). Shows n (all_events k.history) out) k.ready.at.profile
        (subst (λ (events : List Event). Shows l.journal.profile events out) k.events is)) refl refl);
    stand = shows.stand w v k.history (loaded_now laws l w v k);
    last = λ left a b front. shows.leaves w left (record {
      stored = λ h c. inr (subst (λ (i : History). StandFor (image_of left) i)
          (same_history laws (reads_of w) k.history h (loaded_before l w v k) c)
          (stand_unput v left k.history
          (laws.stopped l.journal k.history v (unput v left) k.ready (left_unput v left a b)).files));
      otherwise = λ never. absurd (never k.history (loaded_before l w v k));
    });
  }

  -- what is shown of its events is made
  pub show_done : (held : Option (List ℕ)) (x y : Option Outside) (l : Loaded) (out : List ℕ) (r : LastWords)
      → Says Done out r → Told (LoadsStore (Ok l)) x y
      → Shows l.journal.profile l.events.items out
      → Prepares command (Ok r) held held x y
  show_done held x y l out r says told is =
      let bytes = behind_of held in
      show_prepares held x y (Ok l) (Ok r) told
      (replied command bytes [] Done out (Ok r) x y says
      (will_put command bytes [] Done out x y (LoadsStore (Ok l)) told
      (shows.replies Done (inl refl)) (shows.reads None Done bytes) (shows.gives None bytes Done out None tt)
      (λ w v k. shown bytes out l w v k.answer is))
      (told_weaker x y (LoadsStore (Ok l)) StandAsBefore told (λ w v k. loaded_as_before laws l w v k.answer)))

-- a graph of the events that were loaded has no more blocks than that of the store's objects
pub graph_built : (moment : Option Moment) → StoreLaws → (held : Option (List ℕ)) (x y : Option Outside) (l : Loaded)
    (old new : ℕ) → Told (LoadsStore (Ok l)) x y
    → ((objects : Objects) → IsApplied empty l.events.items objects → new ≤ old + length (highways objects))
    → Builds (Some (Graph moment)) held x old new
graph_built moment laws held None None l old new told built = λ w h objects same loads has. absurd (cc)
graph_built moment laws held None (Some v) l old new told built = absurd told
graph_built moment laws held (Some u) None l old new told built = absurd told
graph_built moment laws held (Some u) (Some v) l old new told built = λ w h objects same loads has.
    let here : u ≡ w = cc in
    let k = told.answer in
    let one : k.history ≡ h = same_history laws (reads_of u) k.history h (loaded_before l u v k)
    (subst (λ (o : Outside). CanBeLoaded (reads_of o) h) (sym here) loads) in
    built objects (subst (λ (events : List Event). IsApplied empty events objects)
    (sym (k.events ∙ ap (λ (i : History). all_events i) one)) has)
