-- A file stands for one history at most.
use Rattle.std.proofs.Common.{◌≡◌, ⊎_elim, ℕ, ◌==◌, ◌+◌, ◌<◌, ◌^◌, List, [], ◌∷◌, ◌++◌, length, refl, sym, ◌∙◌, ap}
use Rattle.std.proofs.Common.{arith, append_assoc}
use Rattle.std.proofs.lemmas.Bool.{eqb-true, or_cases}
use Rattle.std.specs.List.{AllByRecursion}
use Rattle.road_base.specs.declared.event.Event.{Event}
use Rattle.road_base.specs.Profiles.{IsProfile}
use Rattle.road_base.specs.History.{History}
use Rattle.object_codec.specs.Spelling.{events_bytes, AreEvents}
use Rattle.sequence_journal.specs.Layout.{Base, BaseIsOpen, Numbered, NumberedFits, IsClosed, base_bytes}
use Rattle.sequence_journal.specs.Layout.{record_bytes}
use Rattle.sequence_journal.specs.Standing.{EventsFit, BeginsWith, Stands, base_of, record_of, changes_bytes}
use Rattle.sequence_journal.proofs.SameParts.{SameRecord, same_record, base_once}

-- a spelling spells one list of events
abbrev pub OneList : Type 0
OneList = (a b : List Event) → AreEvents a → AreEvents b → events_bytes a ≡ events_bytes b → a ≡ b

pub record_fits : (n : ℕ) (change : List Event) → n < 2 ^ 64 → EventsFit change → NumberedFits (record_of n change)
record_fits n change small fit = record { number = small; size = fit.size }

-- the number of a profile fits its field
profile_fits : (n : ℕ) → IsProfile n → n < 2 ^ 32
profile_fits n known = ⊎_elim (λ one. omega (arith, eqb-true n 1 one)) (λ two. omega (arith, eqb-true n 2 two))
    (or_cases (n == 1) (n == 2) known)

pub begins_base : (file : List ℕ) (g : ℕ) (h : History) (rest : List ℕ) → BeginsWith file g h rest
    → BaseIsOpen file (base_of h.profile g h.base_number h.base_events) (changes_bytes h.base_number h.changes ++ rest)
begins_base file g h rest b = record {
  fits = record {
    profile = profile_fits h.profile b.fits.profile;
    generation = b.fits.generation_fits;
    number = omega (arith, b.fits.kept_fits);
    size = b.fits.base.size;
  };
  split = b.split
      ∙ append_assoc (base_bytes (base_of h.profile g h.base_number h.base_events)) (changes_bytes h.base_number
      h.changes)
      rest;
}

pub record SameHistory (g k : ℕ) (h i : History) : Type 0 where
  pub generation : g ≡ k
  pub history : h ≡ i

module _ (one : OneList) where
  -- two lists of changes with something behind each begin with one change, and go on alike
  pub same_first : (n : ℕ) (c d : List Event) (cs ds : List (List Event)) (xs ys : List ℕ)
      → AllByRecursion EventsFit (c ∷ cs) → AllByRecursion EventsFit (d ∷ ds)
      → n + length (c ∷ cs) < 2 ^ 64 → n + length (d ∷ ds) < 2 ^ 64
      → changes_bytes n (c ∷ cs) ++ xs ≡ changes_bytes n (d ∷ ds) ++ ys
      → (c ≡ d) × (changes_bytes (n + 1) cs ++ xs ≡ changes_bytes (n + 1) ds ++ ys)
  same_first n c d cs ds xs ys fc fd sc sd e =
      let s : SameRecord (record_of (n + 1) c) (record_of (n + 1) d) (changes_bytes (n + 1) cs ++ xs)
      (changes_bytes (n + 1) ds ++ ys) = same_record (record_of (n + 1) c) (record_of (n + 1) d)
      (changes_bytes (n + 1) cs ++ xs) (changes_bytes (n + 1) ds ++ ys)
      (record_fits (n + 1) c (omega (arith, sc)) fc.0) (record_fits (n + 1) d (omega (arith, sd)) fd.0)
      (sym (append_assoc (record_bytes (record_of (n + 1) c)) (changes_bytes (n + 1) cs) xs) ∙ e
      ∙ append_assoc (record_bytes (record_of (n + 1) d)) (changes_bytes (n + 1) ds) ys) in
      (one c d fc.0.are fd.0.are (ap (λ (r : Numbered). r.bytes) s.one), s.rest)

  changes_once : (n : ℕ) (cs ds : List (List Event)) (xs ys : List ℕ) → AllByRecursion EventsFit cs
      → AllByRecursion EventsFit ds → n + length cs < 2 ^ 64 → n + length ds < 2 ^ 64 → IsClosed xs → IsClosed ys
      → changes_bytes n cs ++ xs ≡ changes_bytes n ds ++ ys → cs ≡ ds
  changes_once n [] [] xs ys fc fd sc sd shut_x shut_y e = refl
  changes_once n [] (d ∷ ds) xs ys fc fd sc sd shut_x shut_y e =
      absurd (shut_x (record_of (n + 1) d) (changes_bytes (n + 1) ds ++ ys) (record {
        fits = record_fits (n + 1) d (omega (arith, sd)) fd.0;
        split = e ∙ append_assoc (record_bytes (record_of (n + 1) d)) (changes_bytes (n + 1) ds) ys;
      }))
  changes_once n (c ∷ cs) [] xs ys fc fd sc sd shut_x shut_y e =
      absurd (shut_y (record_of (n + 1) c) (changes_bytes (n + 1) cs ++ xs) (record {
        fits = record_fits (n + 1) c (omega (arith, sc)) fc.0;
        split = sym e ∙ append_assoc (record_bytes (record_of (n + 1) c)) (changes_bytes (n + 1) cs) xs;
      }))
  changes_once n (c ∷ cs) (d ∷ ds) xs ys fc fd sc sd shut_x shut_y e =
      let s = same_first n c d cs ds xs ys fc fd sc sd e in
      ap (λ (x : List Event). x ∷ cs) s.0
      ∙ ap (λ (l : List (List Event)). d ∷ l)
      (changes_once (n + 1) cs ds xs ys fc.1 fd.1 (omega (arith, sc)) (omega (arith, sd)) shut_x shut_y s.1)

  pub stands_once : (file : List ℕ) (g k : ℕ) (h i : History) → Stands file g h → Stands file k i
      → SameHistory g k h i
  stands_once file g k h i s t =
      let b = base_once file (base_of h.profile g h.base_number h.base_events) (base_of i.profile k i.base_number
      i.base_events)
      (changes_bytes h.base_number h.changes ++ s.rest) (changes_bytes i.base_number i.changes ++ t.rest)
      (begins_base file g h s.rest s.begins) (begins_base file k i t.rest t.begins) in
      let profile : h.profile ≡ i.profile = ap (λ (b : Base). b.profile) b.one in
      let number : h.base_number ≡ i.base_number = ap (λ (b : Base). b.number) b.one in
      let events : h.base_events ≡ i.base_events = one h.base_events i.base_events s.begins.fits.base.are
      t.begins.fits.base.are (ap (λ (b : Base). b.bytes) b.one) in
      let changes : h.changes ≡ i.changes = changes_once h.base_number h.changes i.changes s.rest t.rest
      s.begins.fits.changes t.begins.fits.changes s.begins.fits.kept_fits
      (omega (arith, number, t.begins.fits.kept_fits)) s.closed t.closed
      (b.rest ∙ ap (λ (n : ℕ). changes_bytes n i.changes ++ t.rest) (sym number)) in
      record {
        generation = ap (λ (b : Base). b.generation) b.one;
        history = ap (λ (n : ℕ). record h { profile = n }) profile
            ∙ ap (λ (n : ℕ). record h { profile = i.profile; base_number = n }) number
            ∙ ap (λ (l : List Event). record {
              profile = i.profile;
              base_number = i.base_number;
              base_events = l;
              changes = h.changes;
            })
            events
            ∙ ap (λ (l : List (List Event)). record {
              profile = i.profile;
              base_number = i.base_number;
              base_events = i.base_events;
              changes = l;
            })
            changes;
      }
