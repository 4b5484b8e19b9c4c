-- What a stop leaves while a base is written.
use Rattle.std.proofs.Common.{◌≡◌, ◌≢◌, inl, inr, ⊎_elim, ℕ, ◌<◌, ◌^◌, List, [], ◌∷◌, ◌++◌, length}
use Rattle.std.proofs.Common.{false}
use Rattle.std.proofs.Common.{Result, Ok, Err, refl, sym, ◌∙◌, ap, subst, arith, append-nil, length-append}
use Rattle.std.proofs.lemmas.Bool.{cases_eq}
use Rattle.road_base.specs.declared.event.Event.{Event}
use Rattle.road_base.specs.declared.ids.Sequence.{Sequence}
use Rattle.road_base.specs.Profiles.{IsProfile}
use Rattle.road_base.specs.History.{History}
use Rattle.road_io.specs.declared.outside.Failed.{Failed}
use Rattle.road_io.specs.declared.outside.Which.{Which}
use Rattle.road_io.specs.Disk.{Disk, IsDurable}
use Rattle.road_io.specs.Outside.{Outside, LeavesOnly, LeavesFile, disk, image_of}
use Rattle.road_io.proofs.PendingImages.{settled_durable}
use Rattle.road_io.proofs.CallRuns.{only_weaker}
use Rattle.sequence_journal.specs.declared.error.JournalError.{JournalError}
use Rattle.sequence_journal.specs.declared.error.JournalError.TheVariants.{SiteFault, NoMemory}
use Rattle.sequence_journal.specs.Layout.{NoBase, base_bytes, head_bytes}
use Rattle.sequence_journal.specs.Standing.{EventsFit, HistoryFits, Stands, base_of, history_bytes}
use Rattle.sequence_journal.specs.Ends.{IsReplaced, Replaced, Replaces}
use Rattle.sequence_journal.specs.Basing.{IsBaseImage, Based, WritesBase, WritesWithin, base_alone}
use Rattle.sequence_journal.proofs.AddedChange.{closed_gate}

no_base_gate : (gate : ℕ) (tail : List ℕ) → gate ≢ 1 → NoBase (gate ∷ tail)
no_base_gate gate tail shut b rest o = let e = o.split in shut (cc)

no_base_short : (file : List ℕ) → length file < 37 → NoBase file
no_base_short file short b rest o = omega (
  arith,
  short,
  ap (λ (l : List ℕ). length l) o.split,
  length-append (base_bytes b) rest,
  length-append (head_bytes b.profile b.generation b.number (length b.bytes)) b.bytes,
)

-- a base of these events and the closed gate behind it, all but the first gate
pub record IsBaseChunk (profile generation number : ℕ) (events : List Event) (chunk : List ℕ) : Type 0 where
  pub bytes : 1 ∷ chunk ≡ base_bytes (base_of profile generation number events) ++ 0 ∷ []
  pub fits : HistoryFits generation (base_alone profile number events)

pub base_chunk : (profile generation number : ℕ) (events : List Event) (chunk : List ℕ) → IsProfile profile
    → 1 ∷ chunk ≡ base_bytes (base_of profile generation number events) ++ 0 ∷ []
    → generation < 2 ^ 64 → number < 2 ^ 64 → EventsFit events → IsBaseChunk profile generation number events chunk
base_chunk profile generation number events chunk known bytes generation_fits number_fits fit = record {
  bytes = bytes;
  fits = record {
    profile = known;
    generation_fits = generation_fits;
    kept_fits = omega (arith, number_fits);
    base = fit;
    changes = tt;
  };
}

module _ (profile generation number : ℕ) (events : List Event) (chunk : List ℕ)
    (is : IsBaseChunk profile generation number events chunk) where
  split : 1 ∷ chunk ≡ history_bytes generation (base_alone profile number events) ++ 0 ∷ []
  split = is.bytes ∙ ap (λ (l : List ℕ). l ++ 0 ∷ []) (sym (append-nil (base_bytes (base_of profile generation number
      events))))

  stands : Stands (1 ∷ chunk) generation (base_alone profile number events)
  stands = record {
    rest = 0 ∷ [];
    begins = record { split = split; fits = is.fits };
    closed = closed_gate 0 [] (omega arith);
  }

  image : (was c : List ℕ) → IsReplaced was chunk c → IsBaseImage was generation (base_alone profile number events) c
  image was c (inl front) = inl front
  image was c (inr (inl one)) = inr (inl (subst NoBase (sym one.1) (no_base_short (one.0 ∷ []) (omega arith))))
  image was c (inr (inr (inl shut))) = inr (inl (subst NoBase (sym shut.1) (no_base_gate 0 shut.0 (omega arith))))
  image was c (inr (inr (inr whole))) = ⊎_elim
      (λ is_open. inr (inr (subst (λ (l : List ℕ). Stands l generation (base_alone profile number events))
      (sym (whole.1 ∙ ap (λ (g : ℕ). g ∷ chunk) is_open)) stands)))
      (λ shut. inr (inl (subst NoBase (sym whole.1) (no_base_gate whole.0 chunk shut))))
      (cases_eq whole.0 1)

  module _ (file : Which) (given : List ℕ) (same : given ≡ chunk) (w v : Outside) where
    replaced : (r : Result (Unit {0}) Failed) → Replaces file given r w v → IsDurable (disk w file)
        → Replaced file chunk r w v
    replaced r replaces durable = subst (λ (l : List ℕ). Replaces file l r w v) same replaces durable

    moments : (r : Result (Unit {0}) Failed) → Replaced file chunk r w v
        → LeavesOnly w v (LeavesFile file (IsBaseImage (disk w file).reads generation (base_alone profile number
        events)) w)
    moments r s = only_weaker w v (LeavesFile file (IsReplaced (disk w file).reads chunk) w)
        (LeavesFile file (IsBaseImage (disk w file).reads generation (base_alone profile number events)) w) s.any_moment
        (λ left l. record {
          image = image (disk w file).reads (image_of left file) l.image;
          other = l.other;
          out = l.out;
        })

    based_failed : (x : Failed) → Replaces file given (Err x) w v → IsDurable (disk w file)
        → Based file generation (base_alone profile number events) (Err SiteFault) w v
    based_failed x replaces durable =
        let s = replaced (Err x) replaces durable in
        record { any_moment = moments (Err x) s; answer = refl; others = s.others; output = s.output }

    pub base_failed : (e : JournalError) (x : Failed) → e ≡ SiteFault → Replaces file given (Err x) w v
        → WritesBase file generation (base_alone profile number events) (Err e) w v
    base_failed e x fault replaces = subst
        (λ (y : JournalError). WritesBase file generation (base_alone profile number events) (Err y) w v) (sym fault)
        (based_failed x replaces)

    pub within_failed : (e : JournalError) (x : Failed) → e ≡ SiteFault → Replaces file given (Err x) w v
        → WritesWithin file generation (base_alone profile number events) (Err e) w v
    within_failed e x fault replaces = subst
        (λ (y : JournalError). WritesWithin file generation (base_alone profile number events) (Err y) w v) (sym fault)
        (based_failed x replaces)

    pub base_written : (x : Unit {0}) (gate : ℕ) (kept : Sequence) → gate ≡ length chunk → kept.0 ≡ number
        → Replaces file given (Ok x) w v → WritesBase file generation (base_alone profile number events) (Ok (record {
          file = file;
          generation = generation;
          profile = profile;
          gate = gate;
          kept = kept;
          closed = false;
        })) w v
    base_written x gate kept at_end last replaces durable =
        let s = replaced (Ok x) replaces durable in
        record {
          any_moment = moments (Ok x) s;
          answer = (
            record {
              end = 0 ∷ [];
              reads = ap (λ (d : Disk). d.reads) s.done ∙ split;
              ends = inl refl;
              gate = omega (
                arith,
                at_end,
                ap (λ (l : List ℕ). length l) split,
                length-append (history_bytes generation (base_alone profile number events)) (0 ∷ []),
              );
              last = omega (arith, last);
              profile = refl;
              fits = is.fits;
              durable = subst IsDurable (sym s.done) (settled_durable (1 ∷ chunk));
            },
            refl,
            refl,
            refl,
          );
          others = s.others;
          output = s.output;
        }

-- where no memory was found, nothing was done
pub base_unspelled : (file : Which) (generation : ℕ) (h : History) (e : JournalError) → e ≡ NoMemory → (w : Outside)
    → WritesBase file generation h (Err e) w w
base_unspelled file generation h e is w =
    subst (λ (y : JournalError). WritesBase file generation h (Err y) w w) (sym is) refl

pub within_unspelled : (file : Which) (generation : ℕ) (h : History) (e : JournalError) → e ≡ NoMemory → (w : Outside)
    → WritesWithin file generation h (Err e) w w
within_unspelled file generation h e is w =
    subst (λ (y : JournalError). WritesWithin file generation h (Err y) w w) (sym is) refl
