-- A file that stands for a history isn't damaged, and a file is damaged at one place at most.
use Rattle.std.proofs.Common.{◌≡◌, ◌≢◌, ◌⊎◌, inl, inr, ⊎_elim, ℕ, ◌+◌, ◌<◌, ◌^◌, List, [], ◌∷◌, ◌++◌, length, refl}
use Rattle.std.proofs.Common.{sym}
use Rattle.std.proofs.Common.{◌∙◌, ap, subst, arith, append_assoc, length-append}
use Rattle.std.specs.List.{AllByRecursion}
use Rattle.road_base.specs.declared.event.Event.{Event}
use Rattle.road_base.specs.Profiles.{IsProfile}
use Rattle.road_base.specs.History.{History, kept}
use Rattle.sequence_journal.specs.Layout.{Base, NoBase, Numbered, RecordIsOpen, IsClosed, record_bytes}
use Rattle.sequence_journal.specs.Standing.{EventsFit, BeginsWith, Stands, IsIntact, DamagedAt, IsDamagedBase}
use Rattle.sequence_journal.specs.Standing.{IsDamagedRecord}
use Rattle.sequence_journal.specs.Standing.{SpellsNothing, base_of, record_of, changes_bytes, history_bytes}
use Rattle.sequence_journal.proofs.SameParts.{SameRecord, same_record, base_once}
use Rattle.sequence_journal.proofs.OneHistory.{OneList, record_fits, begins_base, same_first}

-- these changes go on behind those, and the next one is this record
record GoesOn (n : ℕ) (longer shorter : List (List Event)) (r : Numbered) : Type 0 where
  next : List Event
  more : List (List Event)
  split : longer ≡ shorter ++ next ∷ more
  spells : record_of (n + length shorter + 1) next ≡ r

one_further : (n : ℕ) (c d : List Event) (cs ds : List (List Event)) (r : Numbered) → c ≡ d → GoesOn (n + 1) cs ds r
    → GoesOn n (c ∷ cs) (d ∷ ds) r
one_further n c d cs ds r same b = record {
  next = b.next;
  more = b.more;
  split = ap (λ (x : List Event). x ∷ cs) same ∙ ap (λ (l : List (List Event)). d ∷ l) b.split;
  spells = ap (λ (k : ℕ). record_of k b.next) (omega arith) ∙ b.spells;
}

module _ (one : OneList) where
  -- where the first list is whole, and behind the second stands an open record
  goes_on : (n : ℕ) (cs ds : List (List Event)) (xs rest after : List ℕ) (r : Numbered) → AllByRecursion EventsFit cs
      → AllByRecursion EventsFit ds → n + length cs < 2 ^ 64 → n + length ds < 2 ^ 64 → IsClosed xs
      → RecordIsOpen rest r after → changes_bytes n cs ++ xs ≡ changes_bytes n ds ++ rest → GoesOn n cs ds r
  goes_on n [] [] xs rest after r fc fd sc sd shut o e =
      absurd (shut r after (record { fits = o.fits; split = e ∙ o.split }))
  goes_on n [] (d ∷ ds) xs rest after r fc fd sc sd shut o e =
      absurd (shut (record_of (n + 1) d) (changes_bytes (n + 1) ds ++ rest) (record {
        fits = record_fits (n + 1) d (omega (arith, sd)) fd.0;
        split = e ∙ append_assoc (record_bytes (record_of (n + 1) d)) (changes_bytes (n + 1) ds) rest;
      }))
  goes_on n (c ∷ cs) [] xs rest after r fc fd sc sd shut o e =
      let s : SameRecord (record_of (n + 1) c) r (changes_bytes (n + 1) cs ++ xs) after =
      same_record (record_of (n + 1) c) r (changes_bytes (n + 1) cs ++ xs) after
      (record_fits (n + 1) c (omega (arith, sc)) fc.0) o.fits
      (sym (append_assoc (record_bytes (record_of (n + 1) c)) (changes_bytes (n + 1) cs) xs) ∙ e ∙ o.split) in
      record {
        next = c;
        more = cs;
        split = refl;
        spells = ap (λ (k : ℕ). record_of k c) (omega arith) ∙ s.one;
      }
  goes_on n (c ∷ cs) (d ∷ ds) xs rest after r fc fd sc sd shut o e =
      let s = same_first one n c d cs ds xs rest fc fd sc sd e in
      one_further n c d cs ds r s.0
      (goes_on (n + 1) cs ds xs rest after r fc.1 fd.1 (omega (arith, sc)) (omega (arith, sd)) shut o s.1)

  -- two lists with an open record behind each: they end at one place, or one goes on where the other ends
  meet : (n : ℕ) (cs ds : List (List Event)) (xs ys after behind : List ℕ) (r q : Numbered)
      → AllByRecursion EventsFit cs → AllByRecursion EventsFit ds → n + length cs < 2 ^ 64 → n + length ds < 2 ^ 64
      → RecordIsOpen xs r after → RecordIsOpen ys q behind → changes_bytes n cs ++ xs ≡ changes_bytes n ds ++ ys
      → (xs ≡ ys) ⊎ (GoesOn n cs ds q ⊎ GoesOn n ds cs r)
  meet n [] [] xs ys after behind r q fc fd sc sd o p e = inl e
  meet n [] (d ∷ ds) xs ys after behind r q fc fd sc sd o p e =
      let s : SameRecord r (record_of (n + 1) d) after (changes_bytes (n + 1) ds ++ ys) =
      same_record r (record_of (n + 1) d) after (changes_bytes (n + 1) ds ++ ys) o.fits
      (record_fits (n + 1) d (omega (arith, sd)) fd.0)
      (sym o.split ∙ e ∙ append_assoc (record_bytes (record_of (n + 1) d)) (changes_bytes (n + 1) ds) ys) in
      inr (inr (record {
        next = d;
        more = ds;
        split = refl;
        spells = ap (λ (k : ℕ). record_of k d) (omega arith) ∙ sym s.one;
      }))
  meet n (c ∷ cs) [] xs ys after behind r q fc fd sc sd o p e =
      let s : SameRecord (record_of (n + 1) c) q (changes_bytes (n + 1) cs ++ xs) behind =
      same_record (record_of (n + 1) c) q (changes_bytes (n + 1) cs ++ xs) behind
      (record_fits (n + 1) c (omega (arith, sc)) fc.0) p.fits
      (sym (append_assoc (record_bytes (record_of (n + 1) c)) (changes_bytes (n + 1) cs) xs) ∙ e ∙ p.split) in
      inr (inl (record {
        next = c;
        more = cs;
        split = refl;
        spells = ap (λ (k : ℕ). record_of k c) (omega arith) ∙ s.one;
      }))
  meet n (c ∷ cs) (d ∷ ds) xs ys after behind r q fc fd sc sd o p e =
      let s = same_first one n c d cs ds xs ys fc fd sc sd e in
      ⊎_elim (λ ends. inl ends)
      (λ apart. inr (⊎_elim (λ b. inl (one_further n c d cs ds q s.0 b))
      (λ b. inr (one_further n d c ds cs r (sym s.0) b)) apart))
      (meet (n + 1) cs ds xs ys after behind r q fc.1 fd.1 (omega (arith, sc)) (omega (arith, sd)) o p s.1)

next_fits : (cs : List (List Event)) (c : List Event) (more : List (List Event))
    → AllByRecursion EventsFit (cs ++ c ∷ more) → EventsFit c
next_fits [] c more all = all.0
next_fits (x ∷ cs) c more all = next_fits cs c more all.1

-- what comes next in a history isn't at fault
no_fault : (h before : History) (r : Numbered) → AllByRecursion EventsFit h.changes
    → h.base_number ≡ before.base_number → GoesOn h.base_number h.changes before.changes r
    → (r.number ≢ kept before + 1) ⊎ SpellsNothing r.bytes → ⊥
no_fault h before r fit base b fault =
    let one : EventsFit b.next =
    next_fits before.changes b.next b.more (subst (λ (l : List (List Event)). AllByRecursion EventsFit l) b.split
    fit) in
    ⊎_elim
    (λ wrong. wrong (sym (ap (λ (x : Numbered). x.number) b.spells)
    ∙ ap (λ (n : ℕ). n + length before.changes + 1) base))
    (λ none. none b.next one.are (ap (λ (x : Numbered). x.bytes) b.spells))
    fault

not_at_base : (file : List ℕ) (g : ℕ) (h : History) (rest : List ℕ) (o : ℕ) → BeginsWith file g h rest
    → IsDamagedBase file o → ⊥
not_at_base file g h rest o b d =
    let once = base_once file (base_of h.profile g h.base_number h.base_events) d.base
    (changes_bytes h.base_number h.changes ++ rest) d.rest (begins_base file g h rest b) d.is_open in
    ⊎_elim (λ unknown. unknown (subst IsProfile (ap (λ (c : Base). c.profile) once.one) b.fits.profile))
    (λ none. none h.base_events b.fits.base.are (ap (λ (c : Base). c.bytes) once.one)) d.fault

module _ (one : OneList) where
  not_at_record : (file : List ℕ) (g : ℕ) (h : History) (o : ℕ) → Stands file g h → IsDamagedRecord file o → ⊥
  not_at_record file g h o s d =
      let before : History = d.before in
      let once = base_once file (base_of h.profile g h.base_number h.base_events)
      (base_of before.profile d.generation before.base_number before.base_events) (changes_bytes h.base_number
      h.changes ++ s.rest)
      (changes_bytes before.base_number before.changes ++ d.rest) (begins_base file g h s.rest s.begins)
      (begins_base file d.generation before d.rest d.begins) in
      let number : h.base_number ≡ before.base_number = ap (λ (c : Base). c.number) once.one in
      no_fault h before d.next s.begins.fits.changes number
      (goes_on one h.base_number h.changes before.changes s.rest d.rest d.after d.next s.begins.fits.changes
      d.begins.fits.changes s.begins.fits.kept_fits (omega (arith, number, d.begins.fits.kept_fits)) s.closed
      d.is_open
      (once.rest ∙ ap (λ (n : ℕ). changes_bytes n before.changes ++ d.rest) (sym number))) d.fault

  one_record : (file : List ℕ) (o p : ℕ) → IsDamagedRecord file o → IsDamagedRecord file p → o ≡ p
  one_record file o p d e =
      let once = base_once file (base_of d.before.profile d.generation d.before.base_number d.before.base_events)
      (base_of e.before.profile e.generation e.before.base_number e.before.base_events)
      (changes_bytes d.before.base_number d.before.changes ++ d.rest)
      (changes_bytes e.before.base_number e.before.changes ++ e.rest)
      (begins_base file d.generation d.before d.rest d.begins)
      (begins_base file e.generation e.before e.rest e.begins) in
      let number : d.before.base_number ≡ e.before.base_number = ap (λ (c : Base). c.number) once.one in
      ⊎_elim
      (λ rest. omega (
        arith,
        d.place,
        e.place,
        ap (λ (l : List ℕ). length l) rest,
        ap (λ (l : List ℕ). length l) (sym d.begins.split ∙ e.begins.split),
        length-append (history_bytes d.generation d.before) d.rest,
        length-append (history_bytes e.generation e.before) e.rest,
      ))
      (λ apart. absurd (⊎_elim
      (λ b. no_fault d.before e.before e.next d.begins.fits.changes number b e.fault)
      (λ b. no_fault e.before d.before d.next e.begins.fits.changes (sym number)
      (subst (λ (n : ℕ). GoesOn n e.before.changes d.before.changes d.next) number b) d.fault)
      apart))
      (meet one d.before.base_number d.before.changes e.before.changes d.rest e.rest d.after e.after d.next e.next
      d.begins.fits.changes e.begins.fits.changes d.begins.fits.kept_fits
      (omega (arith, number, e.begins.fits.kept_fits)) d.is_open e.is_open
      (once.rest ∙ ap (λ (n : ℕ). changes_bytes n e.before.changes ++ e.rest) (sym number)))

  pub damaged_once : (file : List ℕ) (o p : ℕ) → DamagedAt file o → DamagedAt file p → o ≡ p
  damaged_once file o p (inl d) (inl e) = d.place ∙ sym e.place
  damaged_once file o p (inl d) (inr e) = absurd (not_at_base file e.generation e.before e.rest o e.begins d)
  damaged_once file o p (inr d) (inl e) = absurd (not_at_base file d.generation d.before d.rest p d.begins e)
  damaged_once file o p (inr d) (inr e) = one_record file o p d e

  never_damaged : (file : List ℕ) (g : ℕ) (h : History) (o : ℕ) → Stands file g h → DamagedAt file o → ⊥
  never_damaged file g h o s (inl base) = not_at_base file g h s.rest o s.begins base
  never_damaged file g h o s (inr at) = not_at_record file g h o s at

pub stands_on_base : (file : List ℕ) (g : ℕ) (h : History) → Stands file g h → NoBase file → ⊥
stands_on_base file g h s none =
    none (base_of h.profile g h.base_number h.base_events) (changes_bytes h.base_number h.changes ++ s.rest)
    (begins_base file g h s.rest s.begins)

damaged_base : (file : List ℕ) (o : ℕ) → NoBase file → DamagedAt file o → ⊥
damaged_base file o none (inl d) = none d.base d.rest d.is_open
damaged_base file o none (inr d) =
    none (base_of d.before.profile d.generation d.before.base_number d.before.base_events)
    (changes_bytes d.before.base_number d.before.changes ++ d.rest)
    (begins_base file d.generation d.before d.rest d.begins)

module _ (one : OneList) where
  pub intact_undamaged : (file : List ℕ) (o : ℕ) → IsIntact file → DamagedAt file o → ⊥
  intact_undamaged file o (inl none) d = damaged_base file o none d
  intact_undamaged file o (inr stands) d = never_damaged one file stands.0 stands.1 o stands.2 d
