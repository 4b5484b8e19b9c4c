-- What loading both files leaves, from what loading the live one leaves.
use Rattle.std.proofs.Common.{◌≡◌, ◌⊎◌, inl, inr, ⊎_elim, ℕ, ◌≤◌, ◌^◌, List, length, Option, None, Some}
use Rattle.std.proofs.Common.{Result, Ok, Err, refl, sym, ◌∙◌, ap, subst}
use Rattle.std.specs.Io.{StartsWith}
use Rattle.road_base.specs.History.{History}
use Rattle.road_io.specs.declared.outside.Failed.{Failed}
use Rattle.road_io.specs.declared.outside.Which.{Which}
use Rattle.road_io.specs.declared.outside.Which.TheVariants.{A, B}
use Rattle.road_io.specs.Disk.{Disk, IsImage, IsDurable}
use Rattle.road_io.specs.Outside.{Outside, Left, IsLeft, LeavesOnly, LeavesFile, disk, other, present, image_of}
use Rattle.road_io.proofs.PendingImages.{only_image}
use Rattle.road_io.proofs.CallRuns.{then_runs, only_weaker}
use Rattle.sequence_journal.specs.declared.error.JournalError.{JournalError}
use Rattle.sequence_journal.specs.declared.error.JournalError.TheVariants.{OutOfSequence, SiteFault, Damaged, NoStore}
use Rattle.sequence_journal.specs.declared.error.JournalError.TheVariants.{StoreExists, TooLarge, NoMemory}
use Rattle.sequence_journal.specs.declared.load.Loaded.{Loaded}
use Rattle.sequence_journal.specs.Layout.{BaseIsOpen}
use Rattle.sequence_journal.specs.Standing.{Stands}
use Rattle.sequence_journal.specs.Reading.{IsRefused}
use Rattle.sequence_journal.specs.Loading.{Calm, StandAlike, IsAlike, IsEnded, Mended, Mends, LoadAnswer}
use Rattle.sequence_journal.specs.Loading.{IsLoaded}
use Rattle.sequence_journal.proofs.SettledFile.{calm_quiet, calm_left, calm_then}
use Rattle.sequence_journal.proofs.MendedFile.{durable_image}
use Rattle.store_switch.specs.LiveFile.{IsOver, IsLive, LiveAnswer, FindsLive, SettlesBoth, BothDurable, reads_of}
use Rattle.store_switch.specs.TwoFiles.{StandOn}
use Rattle.store_switch.specs.StoreLoading.{StoreLoaded, StoreRefused, StoreAnswer, StillRead, StillStands}
use Rattle.store_switch.specs.StoreLoading.{LeavesAlike, LoadsStore}
use Rattle.sequence_journal.proofs.SoundEnds.{starts_all}
use Rattle.store_switch.proofs.CalmRuns.{Found}
use Rattle.store_switch.proofs.LiveFiles.{stands_over, live_once}

pub each_file : (live : Which) (P : Which → Type 0) → P live → P (other live) → (f : Which) → P f
each_file A P x y A = x
each_file A P x y B = y
each_file B P x y A = y
each_file B P x y B = x

-- a stop that leaves these two images and this output
left_of : (f : Which) (u : Outside) (left : Left) → IsImage (disk u f) (image_of left f)
    → IsImage (disk u (other f)) (image_of left (other f)) → left.out ≡ u.output → IsLeft (present u) left
left_of A u left mine others out = record {
  a = mine;
  b = others;
  no_less = subst (λ (o : List ℕ). StartsWith o u.output) (sym out) (starts_all u.output);
  no_more = subst (λ (o : List ℕ). StartsWith u.output o) (sym out) (starts_all u.output);
}
left_of B u left mine others out = record {
  a = others;
  b = mine;
  no_less = subst (λ (o : List ℕ). StartsWith o u.output) (sym out) (starts_all u.output);
  no_more = subst (λ (o : List ℕ). StartsWith u.output o) (sym out) (starts_all u.output);
}

-- an image of the live file that stands, beside the other file as it was
stands_still : (files : Which → List ℕ) (live : Which) → IsLive live files → (g : ℕ) (h : History)
    → Stands (files live) g h → (images : Which → List ℕ) → Stands (images live) g h
    → images (other live) ≡ files (other live) → StandOn live g images h
stands_still files live l g h s images t same =
    record { stands = t; over = stands_over files live l g h s (images (other live)) same }

calm_moments : (w u : Outside) → Calm w u → LeavesOnly w u (λ left. IsLeft (present w) left ⊎ LeavesAlike w left)
calm_moments w u calm = only_weaker w u (IsLeft (present w)) (λ left. IsLeft (present w) left ⊎ LeavesAlike w left)
    calm.only (λ left l. inl l)

module _ (live : Which) (w u : Outside) (calm : Calm w u) (durable : BothDurable u) (l : IsLive live (reads_of w)) where
  moments : (left : Left)
      → LeavesFile live (λ image. (image ≡ (disk u live).reads) ⊎ StandAlike (disk u live).reads image) u left
      → IsLeft (present w) left ⊎ LeavesAlike w left
  moments left at = ⊎_elim
      (λ same. inl (calm_left w u calm left (left_of live u left (at_rest same) at.other at.out)))
      (λ alike.
      let s : Stands (reads_of w live) alike.0 alike.1 =
      subst (λ (x : List ℕ). Stands x alike.0 alike.1) (calm.reads live) alike.2 in
      inr (
        alike.1,
        (
          live,
          alike.0,
          stands_still (reads_of w) live l alike.0 alike.1 s (reads_of w) s refl,
          subst (λ (x : List ℕ). length x ≤ 2 ^ 40) (calm.reads live) alike.4,
        ),
        record {
          files = (
            live,
            alike.0,
            stands_still (reads_of w) live l alike.0 alike.1 s (image_of left) alike.3
                (only_image (disk u (other live)) (durable (other live)) (image_of left (other live)) at.other
                ∙ calm.reads (other live)),
          );
          out = at.out ∙ calm.output;
        },
      ))
      at.image
    where
      at_rest : image_of left live ≡ (disk u live).reads → IsImage (disk u live) (image_of left live)
      at_rest same = subst (λ (x : List ℕ). IsImage (disk u live) x) (sym same)
          (durable_image (disk u live) (durable live))

module _ (live : Which) (w u v : Outside) (calm : Calm w u) (l : IsLive live (reads_of w))
    (others : disk v (other live) ≡ disk u (other live)) (durable : BothDurable u) where
  same_other : reads_of v (other live) ≡ reads_of w (other live)
  same_other = ap (λ (d : Disk). d.reads) others ∙ calm.reads (other live)

  untouched : (e : JournalError) → (e ≡ SiteFault → ⊥)
      → IsRefused live (disk u live).reads e × ((e ≡ SiteFault) ⊎ ((disk v live).reads ≡ (disk u live).reads))
      → StoreRefused e w v
  untouched e no_fault answer = record {
    live = live;
    is_live = l;
    refused = subst (λ (x : List ℕ). IsRefused live x e) (calm.reads live) answer.0;
    still = each_file live (λ f. reads_of v f ≡ reads_of w f)
        (⊎_elim (λ fault. absurd (no_fault fault)) (λ kept. kept ∙ calm.reads live) answer.1) same_other;
  }

  loaded : (x : Loaded) → IsLoaded live (reads_of w live) x v → StoreLoaded x w v
  loaded x k =
      let g = x.journal.generation in
      record {
        history = k.history;
        stood = subst (λ (f : Which). StandOn f g (reads_of w) k.history) (sym k.on)
            (stands_still (reads_of w) live l g k.history k.stood (reads_of w) k.stood refl);
        small = subst (λ (f : Which). length (reads_of w f) ≤ 2 ^ 40) (sym k.on) k.small;
        events = k.events;
        ready = record {
          at = k.at;
          over = subst (λ (f : Which). IsOver f g (reads_of v (other f))) (sym k.on)
              (stands_over (reads_of w) live l g k.history k.stood (reads_of v (other live)) same_other);
          durable = each_file live (λ f. IsDurable (disk v f))
              (subst (λ (f : Which). IsDurable (disk v f)) k.on k.at.durable)
              (subst IsDurable (sym others) (durable (other live)));
        };
        not_closed = k.not_closed;
        kept_small = subst (λ (f : Which). length (reads_of v f) ≤ 2 ^ 40) (sym k.on) k.still_small;
      }

  still_there : IsAlike (disk u live).reads (disk v live).reads → StillRead w v ⊎ StillStands w v
  still_there (inl same) = inl (each_file live (λ f. reads_of v f ≡ reads_of w f) (same ∙ calm.reads live) same_other)
  still_there (inr alike) = inr (record {
    live = live;
    was_live = l;
    alike = subst (λ (x : List ℕ). StandAlike x (reads_of v live)) (calm.reads live) alike;
    others = same_other;
  })

  store_answer : (result : Result Loaded JournalError) → LoadAnswer live result u v → StoreAnswer result w v
  store_answer (Ok x) is = loaded x (subst (λ (reads : List ℕ). IsLoaded live reads x v) (calm.reads live) is)
  store_answer (Err NoStore) is = absurd (is.0 l.base l.rest
      (subst (λ (x : List ℕ). BaseIsOpen x l.base l.rest) (sym (calm.reads live)) l.is_open))
  store_answer (Err SiteFault) is = tt
  store_answer (Err NoMemory) is = untouched NoMemory (λ e. (cc)) is
  store_answer (Err TooLarge) is = untouched TooLarge (λ e. (cc)) is
  store_answer (Err (Damaged f o)) is = untouched (Damaged f o) (λ e. (cc)) is
  store_answer (Err StoreExists) is = absurd is.0
  store_answer (Err (OutOfSequence a b)) is = absurd is.0

pub loaded_store : (found : Option Which) (live : Which) (result : Result Loaded JournalError) (w u v : Outside)
    → found ≡ Some live → Found found w u → Mends live result u v → LoadsStore result w v
loaded_store found live result w u v e f mends =
    let l : IsLive live (reads_of w) = subst (λ (x : Option Which). LiveAnswer (reads_of w) (Ok x)) e f.answer in
    let m : Mended live result u v = mends (f.durable live) in
    record {
      any_moment = then_runs w u v (λ left. IsLeft (present w) left ⊎ LeavesAlike w left)
          (LeavesFile live (λ image. (image ≡ (disk u live).reads) ⊎ StandAlike (disk u live).reads image) u)
          (calm_moments w u f.calm) m.any_moment (moments live w u f.calm f.durable l);
      answer = store_answer live w u v f.calm l m.others f.durable result m.answer;
      files = still_there live w u v f.calm l m.others f.durable m.alike;
      calm = λ file is_live ended. calm_then w u v f.calm (m.calm (subst IsEnded
          (ap (λ (k : Which). reads_of w k) (live_once (reads_of w) file live is_live l) ∙ sym (f.calm.reads live))
          ended));
      output = m.output ∙ f.calm.output;
    }

pub no_store : (found : Option Which) (w u : Outside) → found ≡ None → Found found w u → LoadsStore (Err NoStore) w u
no_store found w u e f = record {
  any_moment = calm_moments w u f.calm;
  answer = (subst (λ (x : Option Which). LiveAnswer (reads_of w) (Ok x)) e f.answer, f.calm.reads);
  files = inl f.calm.reads;
  calm = λ file is_live ended. f.calm;
  output = f.calm.output;
}

pub store_not_settled : (x : Failed) (w u : Outside) → SettlesBoth (Err x) w u → LoadsStore (Err SiteFault) w u
store_not_settled x w u s = record {
  any_moment = calm_moments w u s.calm;
  answer = tt;
  files = inl s.calm.reads;
  calm = λ file is_live ended. s.calm;
  output = s.calm.output;
}

pub store_not_found : (e : JournalError) (x : Unit {0}) (w u v : Outside) → SettlesBoth (Ok x) w u
    → FindsLive (Err e) u v → LoadsStore (Err e) w v
store_not_found e x w u v s f =
    let calm : Calm w v = calm_then w u v s.calm (calm_quiet u v f.quiet) in
    record {
      any_moment = calm_moments w v calm;
      answer = subst (λ (y : JournalError). StoreAnswer (Err y) w v) (sym f.answer) tt;
      files = inl calm.reads;
      calm = λ file is_live ended. calm;
      output = calm.output;
    }
