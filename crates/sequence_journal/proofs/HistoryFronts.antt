-- A history at the front of a file, and one change more.
use Rattle.std.proofs.Common.{◌≡◌, ℕ, ◌+◌, ◌<◌, ◌≤◌, ◌^◌, List, [], ◌∷◌, ◌++◌, length, drop}
use Rattle.std.proofs.Common.{refl, sym}
use Rattle.std.proofs.Common.{◌∙◌, ap, subst, arith, append_assoc, append-nil, length-append}
use Rattle.std.proofs.lemmas.List.{drop_at}
use Rattle.std.specs.List.{AllByRecursion}
use Rattle.road_base.specs.declared.event.Event.{Event}
use Rattle.road_base.specs.Profiles.{IsProfile}
use Rattle.road_base.specs.History.{History, kept, with_change}
use Rattle.object_codec.specs.Spelling.{events_bytes, AreEvents}
use Rattle.sequence_journal.specs.Layout.{BaseIsOpen, RecordIsOpen, base_bytes, record_bytes}
use Rattle.sequence_journal.specs.Standing.{EventsFit, BeginsWith}
use Rattle.sequence_journal.specs.Standing.{base_of, record_of, changes_bytes, history_bytes}
use Rattle.sequence_journal.specs.Basing.{base_alone}

changes_push : (n : ℕ) (cs : List (List Event)) (c : List Event) (rest : List ℕ) (k : ℕ) → k ≡ n + length cs + 1
    → changes_bytes n (cs ++ c ∷ []) ++ rest ≡ changes_bytes n cs ++ (record_bytes (record_of k c) ++ rest)
changes_push n [] c rest k is = append_assoc (record_bytes (record_of (n + 1) c)) [] rest
    ∙ ap (λ (x : ℕ). record_bytes (record_of x c) ++ rest) (omega (arith, is))
changes_push n (x ∷ cs) c rest k is =
    append_assoc (record_bytes (record_of (n + 1) x)) (changes_bytes (n + 1) (cs ++ c ∷ [])) rest
    ∙ ap (λ (l : List ℕ). record_bytes (record_of (n + 1) x) ++ l)
    (changes_push (n + 1) cs c rest k (omega (arith, is)))
    ∙ sym (append_assoc (record_bytes (record_of (n + 1) x)) (changes_bytes (n + 1) cs)
    (record_bytes (record_of k c) ++ rest))

fit_push : (cs : List (List Event)) (c : List Event) → AllByRecursion EventsFit cs → EventsFit c
    → AllByRecursion EventsFit (cs ++ c ∷ [])
fit_push [] c all one = (one, tt)
fit_push (x ∷ cs) c all one = (all.0, fit_push cs c all.1 one)

module _ (file : List ℕ) (g : ℕ) (h : History) (rest after : List ℕ) (k : ℕ) (c : List Event)
    (b : BeginsWith file g h rest) (o : RecordIsOpen rest (record_of k c) after) where
  -- an open record of the next number
  pub begins_push : EventsFit c → k ≡ kept h + 1 → BeginsWith file g (with_change h c) after
  begins_push one next =
      let front = base_bytes (base_of h.profile g h.base_number h.base_events) in
      let longer : length (h.changes ++ c ∷ []) ≡ length h.changes + 1 = length-append h.changes (c ∷ []) in
      record {
        split = b.split ∙ ap (λ (l : List ℕ). history_bytes g h ++ l) o.split
            ∙ append_assoc front (changes_bytes h.base_number h.changes) (record_bytes (record_of k c) ++ after)
            ∙ ap (λ (l : List ℕ). front ++ l) (sym (changes_push h.base_number h.changes c after k next))
            ∙ sym (append_assoc front (changes_bytes h.base_number (h.changes ++ c ∷ [])) after);
        fits = record {
          profile = b.fits.profile;
          generation_fits = b.fits.generation_fits;
          kept_fits = omega (arith, o.fits.number, next, longer);
          base = b.fits.base;
          changes = fit_push h.changes c b.fits.changes one;
        };
      }

-- the next gate stands where the record ends
pub gate_push : (g : ℕ) (h : History) (c : List Event) → length (history_bytes g (with_change h c))
    ≡ length (history_bytes g h) + (17 + length (events_bytes c))
gate_push g h c =
    let front = base_bytes (base_of h.profile g h.base_number h.base_events) in
    let k = kept h + 1 in
    let pushed = changes_push h.base_number h.changes c [] k refl in
    omega (
      arith,
      ap (λ (l : List ℕ). length l) pushed,
      length-append (changes_bytes h.base_number (h.changes ++ c ∷ [])) [],
      length-append (changes_bytes h.base_number h.changes) (record_bytes (record_of k c) ++ []),
      length-append (record_bytes (record_of k c)) [],
      length-append front (changes_bytes h.base_number h.changes),
      length-append front (changes_bytes h.base_number (h.changes ++ c ∷ [])),
    )

-- an open base of a known profile, and nothing behind it yet
pub begins_base : (file : List ℕ) (p g n : ℕ) (spelling rest : List ℕ) (events : List Event)
    → BaseIsOpen file (record { profile = p; generation = g; number = n; bytes = spelling }) rest → IsProfile p
    → AreEvents events → events_bytes events ≡ spelling → BeginsWith file g (base_alone p n events) rest
begins_base file p g n spelling rest events o known are spells = record {
  split = o.split
      ∙ ap (λ (l : List ℕ). base_bytes (record { profile = p; generation = g; number = n; bytes = l }) ++ rest)
      (sym spells)
      ∙ ap (λ (l : List ℕ). l ++ rest) (sym (append-nil (base_bytes (base_of p g n events))));
  fits = record {
    profile = known;
    generation_fits = o.fits.generation;
    kept_fits = omega (arith, o.fits.number);
    base = record { are = are; size = subst (λ (l : List ℕ). length l < 2 ^ 64) (sym spells) o.fits.size };
    changes = tt;
  };
}

-- what is behind a history at the front of a file, by the place where it begins
pub rest_at : (file : List ℕ) (g : ℕ) (h : History) (rest : List ℕ) (gate : ℕ) → BeginsWith file g h rest
    → gate ≡ length (history_bytes g h) → drop gate file ≡ rest
rest_at file g h rest gate b is = ap (λ (l : List ℕ). drop gate l) b.split
    ∙ drop_at (history_bytes g h) rest gate (sym is)

pub begins_at : (file : List ℕ) (g : ℕ) (h : History) (rest : List ℕ) (gate : ℕ) → BeginsWith file g h rest
    → gate ≡ length (history_bytes g h) → BeginsWith file g h (drop gate file)
begins_at file g h rest gate b is = subst (λ (l : List ℕ). BeginsWith file g h l)
    (sym (rest_at file g h rest gate b is)) b

-- the file reaches to the place behind a history
pub gate_within : (file : List ℕ) (g : ℕ) (h : History) (rest : List ℕ) → BeginsWith file g h rest
    → length (history_bytes g h) ≤ length file
gate_within file g h rest b = omega (
  arith,
  ap (λ (l : List ℕ). length l) b.split,
  length-append (history_bytes g h)
      rest,
)
