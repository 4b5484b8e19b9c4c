-- What loading a store leaves, in the words of the commands that load one.
use Rattle.std.proofs.Common.{◌≡◌, ◌⊎◌, inl, inr, ⊎_elim, ℕ, ◌<◌, ◌≤◌, ◌^◌, List, [], length, Option}
use Rattle.std.proofs.Common.{Result, Err, refl, sym, subst, arith}
use Rattle.road_base.specs.History.{History}
use Rattle.road_io.specs.declared.outside.Which.{Which}
use Rattle.road_io.specs.declared.outside.Which.TheVariants.{A, B}
use Rattle.road_io.specs.Disk.{IsImage}
use Rattle.road_io.specs.Told.{Told}
use Rattle.road_io.specs.Outside.{Outside, Left, IsLeft, LeavesOnly, present, image_of}
use Rattle.road_io.proofs.ToldCalls.{told_weaker}
use Rattle.road_io.proofs.CallRuns.{only_weaker}
use Rattle.sequence_journal.specs.declared.error.JournalError.{JournalError}
use Rattle.sequence_journal.specs.declared.error.JournalError.TheVariants.{OutOfSequence, SiteFault, Damaged, NoStore}
use Rattle.sequence_journal.specs.declared.error.JournalError.TheVariants.{StoreExists, TooLarge, NoMemory}
use Rattle.sequence_journal.specs.declared.load.Loaded.{Loaded}
use Rattle.sequence_journal.specs.Standing.{DamagedAt}
use Rattle.store_switch.specs.LiveFile.{IsLive, NoBases, reads_of}
use Rattle.store_switch.specs.TwoFiles.{StandFor, CanBeLoaded, LeavesStore}
use Rattle.store_switch.specs.StoreLoading.{StoreLoaded, StillRead, LeavesAlike, LoadsStore, IsLoadError}
use Rattle.osmroad.specs.declared.command.Command.{Command}
use Rattle.last_words.specs.declared.words.LastWords.{LastWords}
use Rattle.last_words.specs.declared.words.Failure.{Failure}
use Rattle.last_words.specs.declared.words.Failure.TheVariants.{SiteFault as SiteFailure, NoMemory as NoMemoryFailure}
use Rattle.last_words.specs.declared.status.Status.{Status}
use Rattle.last_words.specs.declared.status.Status.TheVariants.{NoStore as NoStoreStatus, Damaged as DamagedStatus, Limit}
use Rattle.last_words.specs.Texts.{limit_line}
use Rattle.osmroad.specs.Texts.{no_store_line, damaged_line}
use Rattle.osmroad.specs.Opening.{IsStore, StoreRefusal}
use Rattle.osmroad.specs.Opening.{OfNoStore, OfTooLarge, OfDamage}
use Rattle.osmroad.specs.Stops.{CouldLeave, LeavesFirst, LeavesStored}
use Rattle.osmroad.specs.Run.{IsStored, StandAsBefore}
use Rattle.osmroad.specs.Replies.{RefusesStore, IsPrepared, WillPut}
use Rattle.session.proofs.OutputFronts.{starts_whole}
use Rattle.session.proofs.KeptStores.{unput, stands_still}
use Rattle.osmroad.specs.StoreLaws.{StoreLaws}
use Rattle.osmroad.proofs.Replied.{replied}
use Rattle.osmroad.proofs.Prepared.{by_failure}

-- ---- the last moment

pub left_unput : (v : Outside) (left : Left) → IsImage v.a left.a → IsImage v.b left.b
    → IsLeft (present v) (unput v left)
left_unput v left a b =
    record { a = a; b = b; no_less = starts_whole v.output; no_more = starts_whole v.output }

-- what holds of each stop up to now holds of one now
pub at_last : (w v : Outside) (P : Left → Type 0) → LeavesOnly w v P → (left : Left) → IsImage v.a left.a
    → IsImage v.b left.b → P (unput v left)
at_last w v P only left a b = only.each (unput v left) (inl (only.later, left_unput v left a b))

-- files that stand for a history do so whatever is put
pub stand_unput : (v : Outside) (left : Left) (h : History) → StandFor (image_of (unput v left)) h
    → StandFor (image_of left) h
stand_unput v left = stands_still (image_of (unput v left)) (image_of left) same
  where
    same : (f : Which) → image_of left f ≡ image_of (unput v left) f
    same A = refl
    same B = refl

-- ---- what is loaded

-- the files are a store, whose history is the one that was loaded
abbrev pub loaded_store : (l : Loaded) (w v : Outside) → StoreLoaded l w v → IsStore (reads_of w)
loaded_store l w v k = record {
  live = l.journal.file;
  generation = l.journal.generation;
  history = k.history;
  stands = k.stood;
  small = k.small;
}

-- the files that were loaded
pub loaded_before : (l : Loaded) (w v : Outside) → (k : StoreLoaded l w v) → CanBeLoaded (reads_of w) k.history
loaded_before l w v k = (l.journal.file, l.journal.generation, k.stood, k.small)

-- ---- each moment of a load

-- what loading leaves of files that stand for a history
abbrev pub LeavesKept : Outside → Left → History → Type 0
LeavesKept w left h = LeavesFirst w left h ⊎ LeavesStore h w.output left

pub stored_weaker : (P Q : History → Type 0) (w : Outside) (left : Left) → ((h : History) → P h → Q h)
    → LeavesStored P w left → LeavesStored Q w left
stored_weaker P Q w left f s = record { stored = λ h c. f h (s.stored h c); otherwise = s.otherwise }

module _ (laws : StoreLaws) where
  pub same_history : (files : Which → List ℕ) (h i : History) → CanBeLoaded files h → CanBeLoaded files i → h ≡ i
  same_history files h i s t = (laws.one_store files s.0 t.0 s.1 t.1 h i s.2 t.2).2

  kept_moment : (w : Outside) (left : Left) → IsLeft (present w) left ⊎ LeavesAlike w left
      → LeavesStored (LeavesKept w left) w left
  kept_moment w left (inl l) = record {
    stored = λ h c. inl (record { could = l; durable = λ d. laws.still w left h d l (c.0, c.1, c.2) });
    otherwise = λ never. record { a = l.a; b = l.b };
  }
  kept_moment w left (inr alike) = record {
    stored = λ h c. inr (subst (λ (i : History). LeavesStore i w.output left)
        (same_history (reads_of w) alike.0 h alike.1 c) alike.2);
    otherwise = λ never. absurd (never alike.0 alike.1);
  }

  pub load_moments : (result : Result Loaded JournalError) (w v : Outside) → LoadsStore result w v
      → LeavesOnly w v (λ left. LeavesStored (LeavesKept w left) w left)
  load_moments result w v l = only_weaker w v (λ left. IsLeft (present w) left ⊎ LeavesAlike w left)
      (λ left. LeavesStored (LeavesKept w left) w left) l.any_moment (kept_moment w)

  pub loaded_now : (l : Loaded) (w v : Outside) → (k : StoreLoaded l w v) → CanBeLoaded (reads_of v) k.history
  loaded_now l w v k =
      (l.journal.file, l.journal.generation, laws.stand l.journal k.history v k.ready, k.kept_small)

  pub loaded_as_before : (l : Loaded) (w v : Outside) → StoreLoaded l w v → StandAsBefore w v
  loaded_as_before l w v k = inr (k.history, loaded_before l w v k, loaded_now l w v k)

-- ---- what isn't loaded for what it says

-- Why it isn't, and that the files then read as before and stand for no history. A stop leaves nothing new of them.
pub record NotLoaded (w v : Outside) (status : Status) (out : List ℕ) : Type 0 where
  pub refusal : StoreRefusal (reads_of w) status out
  pub still : StillRead w v
  pub never : (h : History) → CanBeLoaded (reads_of w) h → ⊥
  pub only : LeavesOnly w v (λ left. IsLeft (present w) left ⊎ LeavesAlike w left)

pub could_leave : (w v : Outside) (status : Status) (out : List ℕ) → NotLoaded w v status out → (left : Left)
    → IsImage v.a left.a → IsImage v.b left.b → CouldLeave w left
could_leave w v status out n left a b = ⊎_elim
    (λ there. record { a = there.a; b = there.b })
    (λ alike. absurd (n.never alike.0 alike.1))
    (at_last w v (λ k. IsLeft (present w) k ⊎ LeavesAlike w k) n.only left a b)

-- the statuses of such a refusal
abbrev pub IsRefusal : Status → Type 0
IsRefusal status = (status ≡ NoStoreStatus) ⊎ (status ≡ DamagedStatus) ⊎ (status ≡ Limit)

module _ (laws : StoreLaws) where
  live_of : (files : Which → List ℕ) (h : History) → (c : CanBeLoaded files h) → IsLive c.0 files
  live_of files h c = laws.live files c.0 c.1 h c.2

  not_none : (files : Which → List ℕ) → NoBases files → (h : History) → CanBeLoaded files h → ⊥
  not_none files none h c = let l : IsLive c.0 files = live_of files h c in none c.0 l.base l.rest l.is_open

  not_large : (files : Which → List ℕ) (live : Which) → IsLive live files → 2 ^ 40 < length (files live)
      → (h : History) → CanBeLoaded files h → ⊥
  not_large files live l large h c =
      let small : length (files live) ≤ 2 ^ 40 = subst (λ (f : Which). length (files f) ≤ 2 ^ 40)
      (laws.one_live files c.0 live (live_of files h c) l) c.3 in
      omega arith

  not_damaged : (files : Which → List ℕ) (live : Which) (offset : ℕ) → IsLive live files
      → DamagedAt (files live) offset → (h : History) → CanBeLoaded files h → ⊥
  not_damaged files live offset l damage h c =
      laws.no_damage files live offset (inr (h, (c.0, c.1, c.2))) l damage

  pub none_loaded : (w v : Outside) → LoadsStore (Err NoStore) w v → NotLoaded w v NoStoreStatus no_store_line
  none_loaded w v l = record {
    refusal = OfNoStore l.answer.0 refl refl;
    still = l.answer.1;
    never = not_none (reads_of w) l.answer.0;
    only = l.any_moment;
  }

  pub large_loaded : (w v : Outside) → LoadsStore (Err TooLarge) w v → NotLoaded w v Limit limit_line
  large_loaded w v l =
      let r = l.answer in
      record {
        refusal = OfTooLarge (record { live = r.live; is_live = r.is_live; large = r.refused.1 }) refl refl;
        still = r.still;
        never = not_large (reads_of w) r.live r.is_live r.refused.1;
        only = l.any_moment;
      }

  pub damaged_loaded : (file : Which) (offset : ℕ) (w v : Outside) → LoadsStore (Err (Damaged file offset)) w v
      → NotLoaded w v DamagedStatus (damaged_line file offset)
  damaged_loaded file offset w v l =
      let r = l.answer in
      let is : IsLive file (reads_of w) = subst (λ (f : Which). IsLive f (reads_of w)) (sym r.refused.0) r.is_live in
      let at : DamagedAt (reads_of w file) offset =
      subst (λ (f : Which). DamagedAt (reads_of w f) offset) (sym r.refused.0) r.refused.1 in
      record {
        refusal = OfDamage file offset (record {
          is_live = is;
          small = subst (λ (f : Which). length (reads_of w f) ≤ 2 ^ 40) (sym r.refused.0) r.refused.2;
          damage = at;
        }) refl refl;
        still = r.still;
        never = not_damaged (reads_of w) file offset is at;
        only = l.any_moment;
      }

  -- a command that loads its store first, where the store isn't loaded
  pub load_refused : (command : Option Command) (bytes : List ℕ) (x y : Option Outside) (e : JournalError)
      (result : Result LastWords Failure) → IsLoadError e → RefusesStore e result → Told (LoadsStore (Err e)) x y
      → IsStored command
      → ((status : Status) (out : List ℕ) → IsRefusal status → Told (λ w v. NotLoaded w v status out) x y
      → WillPut command bytes [] status out x y)
      → IsPrepared command bytes [] result x y
  load_refused command bytes x y SiteFault result named is told stored put =
      by_failure command bytes [] x y SiteFailure result is stored
  load_refused command bytes x y NoMemory result named is told stored put =
      by_failure command bytes [] x y NoMemoryFailure result is (told_weaker x y (LoadsStore (Err NoMemory))
      StandAsBefore told (λ w v l. inl l.answer.still))
  load_refused command bytes x y NoStore result named says told stored put =
      replied command bytes [] NoStoreStatus no_store_line result x y says
      (put NoStoreStatus no_store_line (inl refl)
      (told_weaker x y (LoadsStore (Err NoStore)) (λ w v. NotLoaded w v NoStoreStatus no_store_line) told none_loaded))
      (told_weaker x y (LoadsStore (Err NoStore)) StandAsBefore told (λ w v l. inl l.answer.1))
  load_refused command bytes x y TooLarge result named says told stored put =
      replied command bytes [] Limit limit_line result x y says
      (put Limit limit_line (inr (inr refl))
      (told_weaker x y (LoadsStore (Err TooLarge)) (λ w v. NotLoaded w v Limit limit_line) told large_loaded))
      (told_weaker x y (LoadsStore (Err TooLarge)) StandAsBefore told (λ w v l. inl l.answer.still))
  load_refused command bytes x y (Damaged file offset) result named says told stored put =
      replied command bytes [] DamagedStatus (damaged_line file offset) result x y says
      (put DamagedStatus (damaged_line file offset) (inr (inl refl))
      (told_weaker x y (LoadsStore (Err (Damaged file offset)))
      (λ w v. NotLoaded w v DamagedStatus (damaged_line file offset)) told (damaged_loaded file offset)))
      (told_weaker x y (LoadsStore (Err (Damaged file offset))) StandAsBefore told (λ w v l. inl l.answer.still))
  load_refused command bytes x y StoreExists result named says told stored put = absurd named
  load_refused command bytes x y (OutOfSequence kept got) result named says told stored put = absurd named
