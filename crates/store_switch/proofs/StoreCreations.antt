-- What creating a store leaves, from what writing its base leaves.
use Rattle.std.proofs.Common.{◌≡◌, ◌⊎◌, inl, inr, ⊎_elim, ℕ, List, ◌++◌, take, drop, true, Option, None, Some}
use Rattle.std.proofs.Common.{Result, Ok, Err, sym, ◌∙◌, ap, subst, append_assoc, take-append-drop}
use Rattle.std.specs.Option.{is_some}
use Rattle.road_base.specs.declared.event.Event.{Event}
use Rattle.road_base.specs.History.{History}
use Rattle.road_io.specs.declared.outside.Failed.{Failed}
use Rattle.road_io.specs.declared.outside.Which.{Which}
use Rattle.road_io.specs.declared.outside.Which.TheVariants.{A, B}
use Rattle.road_io.specs.Disk.{Disk, IsDurable}
use Rattle.road_io.specs.Outside.{Outside, Left, IsLeft, LeavesOnly, LeavesFile, disk, other, present, image_of}
use Rattle.road_io.proofs.PendingImages.{only_image}
use Rattle.road_io.proofs.CallRuns.{then_runs, only_weaker}
use Rattle.sequence_journal.specs.declared.error.JournalError.{JournalError}
use Rattle.sequence_journal.specs.declared.error.JournalError.TheVariants.{OutOfSequence, SiteFault, Damaged, NoStore}
use Rattle.sequence_journal.specs.declared.error.JournalError.TheVariants.{StoreExists, TooLarge, NoMemory}
use Rattle.sequence_journal.specs.declared.journal.Journal.{Journal}
use Rattle.sequence_journal.specs.Layout.{BaseIsOpen, NoBase, base_bytes}
use Rattle.sequence_journal.specs.Basing.{IsBaseImage, BaseAnswer, Based, WritesBase, base_alone}
use Rattle.sequence_journal.specs.Loading.{Calm}
use Rattle.sequence_journal.proofs.SettledFile.{calm_quiet, calm_then}
use Rattle.store_switch.specs.LiveFile.{NoBases, FindsLive, SettlesBoth, BothDurable, reads_of}
use Rattle.store_switch.specs.StoreCreating.{StoreCreated, CreateAnswer, LeavesNewOrNone, CreatesStore}
use Rattle.store_switch.proofs.CalmRuns.{Found}

-- a front of a file without an open base has none
no_base_front : (n : ℕ) (was : List ℕ) → NoBase was → NoBase (take n was)
no_base_front n was none b rest o = none b (rest ++ drop n was) (record {
  fits = o.fits;
  split = sym (take-append-drop n was) ∙ ap (λ (l : List ℕ). l ++ drop n was) o.split
      ∙ append_assoc (base_bytes b) rest (drop n was);
})

module _ (number : ℕ) (events : List Event) where
  calm_moments : (w u : Outside) → Calm w u
      → LeavesOnly w u (λ left. IsLeft (present w) left ⊎ LeavesNewOrNone number events w left)
  calm_moments w u calm = only_weaker w u (IsLeft (present w))
      (λ left. IsLeft (present w) left ⊎ LeavesNewOrNone number events w left) calm.only (λ left l. inl l)

  pub create_exists : (found : Option Which) (w u : Outside) → is_some found ≡ true → Found found w u
      → CreatesStore number events (Err StoreExists) w u
  create_exists None w u some f = absurd (cc)
  create_exists (Some live) w u some f = record {
    any_moment = calm_moments w u f.calm;
    answer = ((live, f.answer), f.calm);
    file_b = f.calm.reads B;
    output = f.calm.output;
  }

  pub create_not_settled : (x : Failed) (w u : Outside) → SettlesBoth (Err x) w u
      → CreatesStore number events (Err SiteFault) w u
  create_not_settled x w u s = record {
    any_moment = calm_moments w u s.calm;
    answer = tt;
    file_b = s.calm.reads B;
    output = s.calm.output;
  }

  pub create_not_found : (e : JournalError) (x : Unit {0}) (w u v : Outside) → SettlesBoth (Ok x) w u
      → FindsLive (Err e) u v → CreatesStore number events (Err e) w v
  create_not_found e x w u v s f =
      let calm : Calm w v = calm_then w u v s.calm (calm_quiet u v f.quiet) in
      record {
        any_moment = calm_moments w v calm;
        answer = subst (λ (y : JournalError). CreateAnswer number events (Err y) w v) (sym f.answer) tt;
        file_b = calm.reads B;
        output = calm.output;
      }

  abbrev h : History
  h = base_alone 1 number events

  module _ (w u v : Outside) (f : Found None w u) where
    -- B is left as it was
    no_base_b : (image : List ℕ) → image ≡ (disk u B).reads → NoBase image
    no_base_b image same = subst NoBase (sym (same ∙ f.calm.reads B)) (f.answer B)

    both_none : (left : Left) → NoBase left.a → left.b ≡ (disk u B).reads → NoBases (image_of left)
    both_none left none same A = none
    both_none left none same B = no_base_b left.b same

    moments : (left : Left) → LeavesFile A (IsBaseImage (disk u A).reads 1 h) u left
        → IsLeft (present w) left ⊎ LeavesNewOrNone number events w left
    moments left at =
        let b_same : left.b ≡ (disk u B).reads = only_image (disk u B) (f.durable B) left.b at.other in
        let out : left.out ≡ w.output = at.out ∙ f.calm.output in
        inr (
          f.answer,
          ⊎_elim
              (λ front. inl (
                both_none left (subst NoBase (sym front.1) (no_base_front front.0 (disk u A).reads
                    (subst NoBase (sym (f.calm.reads A)) (f.answer A)))) b_same,
                out,
              ))
              (⊎_elim
              (λ none. inl (both_none left none b_same, out))
              (λ stands. inr (record {
                files = (
                  A,
                  1,
                  record {
                    stands = stands;
                    over = λ b rest o. absurd (no_base_b left.b b_same b rest o);
                  },
                );
                out = out;
              })))
              at.image,
        )

    create_no_memory : CreatesStore number events (Err NoMemory) w u
    create_no_memory = record {
      any_moment = calm_moments w u f.calm;
      answer = (f.answer, f.calm);
      file_b = f.calm.reads B;
      output = f.calm.output;
    }

    created : disk v B ≡ disk u B → (j : Journal) → BaseAnswer A 1 h (Ok j) v → StoreCreated number events j w v
    created others j is = record {
      none = f.answer;
      ready = record {
        at = is.0;
        over = λ b rest o. absurd (no_base_b (disk v B).reads (ap (λ (d : Disk). d.reads) others) b rest
            (subst (λ (k : Which). BaseIsOpen (reads_of v (other k)) b rest) is.1 o));
        durable = both_durable;
      };
      file = is.1;
      generation = is.2;
      not_closed = is.3;
    }
      where
        both_durable : BothDurable v
        both_durable A = subst (λ (k : Which). IsDurable (disk v k)) is.1 is.0.durable
        both_durable B = subst IsDurable (sym others) (f.durable B)

    create_written : (result : Result Journal JournalError) → CreateAnswer number events result w v
        → Based A 1 h result u v → CreatesStore number events result w v
    create_written result answer b = record {
      any_moment = then_runs w u v (λ left. IsLeft (present w) left ⊎ LeavesNewOrNone number events w left)
          (LeavesFile A (IsBaseImage (disk u A).reads 1 h) u) (calm_moments w u f.calm) b.any_moment moments;
      answer = answer;
      file_b = ap (λ (d : Disk). d.reads) b.others ∙ f.calm.reads B;
      output = b.output ∙ f.calm.output;
    }

    pub create_done : (result : Result Journal JournalError) → WritesBase A 1 h result u v
        → CreatesStore number events result w v
    create_done (Ok j) writes =
        let b = writes (f.durable A) in
        create_written (Ok j) (created b.others j b.answer) b
    create_done (Err SiteFault) writes = create_written (Err SiteFault) tt (writes (f.durable A))
    create_done (Err NoMemory) same =
        subst (λ (x : Outside). CreatesStore number events (Err NoMemory) w x) (sym same) create_no_memory
    create_done (Err (OutOfSequence a b)) never = absurd never
    create_done (Err (Damaged a b)) never = absurd never
    create_done (Err NoStore) never = absurd never
    create_done (Err StoreExists) never = absurd never
    create_done (Err TooLarge) never = absurd never
