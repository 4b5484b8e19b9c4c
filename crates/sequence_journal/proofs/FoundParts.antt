-- What the bytes read of a base's head and of a record's fields tell.
use Rattle.std.proofs.Common.{◌≡◌, ℕ, ◌+◌, ◌<◌, ◌≤◌, ◌^◌, List, [], ◌∷◌, ◌++◌, length, take, drop, refl, sym, ◌∙◌}
use Rattle.std.proofs.Common.{ap, arith}
use Rattle.std.proofs.Common.{append_assoc, append-nil, length-append, take-append-drop}
use Rattle.std.proofs.lemmas.List.{take_at, drop-drop, length-take-le, length-drop, length-take}
use Rattle.sequence_journal.specs.declared.heads.FoundBase.{FoundBase}
use Rattle.sequence_journal.specs.Layout.{head_bytes, Base, BaseIsOpen, NoBase, Numbered, RecordIsOpen, IsClosed}
use Rattle.sequence_journal.specs.Layout.{base_bytes, record_bytes}
use Rattle.sequence_journal.specs.Fields.{HeadFits, NoHead, NoFields, fields_bytes}
use Rattle.sequence_journal.specs.Reading.{IsFound}
use Rattle.sequence_journal.proofs.SameParts.{number_of}

-- a front of a list that has all that it may have
no_more : (front rest : List ℕ) (n : ℕ) (xs : List ℕ) → length front ≡ n → front ++ rest ≡ take n xs
    → take n xs ≡ front
no_more front rest n xs size e = sym e ∙ ap (λ (l : List ℕ). front ++ l)
    (none rest (omega (arith, size, ap (λ (l : List ℕ). length l) e, length-append front rest, length-take n xs)))
    ∙ append-nil front
  where
    none : (l : List ℕ) → length l ≡ 0 → l ≡ []
    none [] e = refl
    none (x ∷ l) e = absurd (omega (arith, e))

-- ---- the head of a base

-- the first 37 bytes of a base
head_of : (b : Base) (rest : List ℕ)
    → take 37 (base_bytes b ++ rest) ≡ head_bytes b.profile b.generation b.number (length b.bytes)
head_of b rest =
    ap (λ (l : List ℕ). take 37 l)
    (append_assoc (head_bytes b.profile b.generation b.number (length b.bytes)) b.bytes rest)
    ∙ take_at (head_bytes b.profile b.generation b.number (length b.bytes)) (b.bytes ++ rest) 37 refl

pub head_missing : (reads front : List ℕ) → front ≡ take 37 reads → NoHead front → NoBase reads
head_missing reads front is none b rest o =
    none b.profile b.generation b.number (length b.bytes) []
    (is ∙ ap (λ (l : List ℕ). take 37 l) o.split ∙ head_of b rest
    ∙ sym (append-nil (head_bytes b.profile b.generation b.number (length b.bytes))))

module _ (reads front rest : List ℕ) (p g n s : ℕ) (is : front ≡ take 37 reads) (fits : HeadFits p g n s)
    (found : front ≡ head_bytes p g n s ++ rest) where
  starts : take 37 reads ≡ head_bytes p g n s
  starts = no_more (head_bytes p g n s) rest 37 reads refl (sym found ∙ is)

  pub head_there : (len : ℕ) → len ≡ length reads → 37 + s ≤ len
      → IsFound reads (record { len = len; head = record { profile = p; generation = g; number = n; size = s } })
  head_there len size long = record { len = size; starts = starts; fits = fits; whole = omega (arith, size, long) }

  -- the bytes that it announces don't lie in the file
  pub head_short : length reads < 37 + s → NoBase reads
  head_short short b after o =
      let same : head_bytes p g n s ≡ head_bytes b.profile b.generation b.number (length b.bytes) =
      sym starts ∙ ap (λ (l : List ℕ). take 37 l) o.split ∙ head_of b after in
      let size : s ≡ length b.bytes =
      number_of s (length b.bytes) fits.size_fits o.fits.size (ap (λ (l : List ℕ). drop 29 l) same) in
      omega (
        arith,
        short,
        size,
        ap (λ (l : List ℕ). length l) o.split,
        length-append (base_bytes b) after,
        length-append (head_bytes b.profile b.generation b.number (length b.bytes)) b.bytes,
      )

-- the base that was found, with the bytes that it announces
pub base_open : (reads part : List ℕ) (f : FoundBase) → IsFound reads f → part ≡ take f.head.size (drop 37 reads)
    → length part ≡ f.head.size → BaseIsOpen reads
    (record { profile = f.head.profile; generation = f.head.generation; number = f.head.number; bytes = part })
    (drop (37 + f.head.size) reads)
base_open reads part f is read size =
    let p = f.head.profile in
    let g = f.head.generation in
    let n = f.head.number in
    let s = f.head.size in
    let behind : List ℕ = drop 37 reads in
    record {
      fits = record {
        profile = is.fits.profile_fits;
        generation = is.fits.generation_fits;
        number = is.fits.number_fits;
        size = omega (arith, size, is.fits.size_fits);
      };
      split = sym (take-append-drop 37 reads) ∙ ap (λ (l : List ℕ). l ++ behind) is.starts
          ∙ ap (λ (x : ℕ). head_bytes p g n x ++ behind) (sym size)
          ∙ ap (λ (l : List ℕ). head_bytes p g n (length part) ++ l) (sym (take-append-drop s behind))
          ∙ ap (λ (l : List ℕ). head_bytes p g n (length part) ++ (l ++ drop s behind)) (sym read)
          ∙ ap (λ (l : List ℕ). head_bytes p g n (length part) ++ (part ++ l)) (drop-drop s 37 reads)
          ∙ sym (append_assoc (head_bytes p g n (length part)) part (drop (37 + s) reads));
    }

-- the head says what the open base says
pub base_there : (reads : List ℕ) (f : FoundBase) → IsFound reads f → BaseIsOpen reads (record {
  profile = f.head.profile;
  generation = f.head.generation;
  number = f.head.number;
  bytes = take f.head.size (drop 37 reads);
}) (drop (37 + f.head.size) reads)
base_there reads f is = base_open reads (take f.head.size (drop 37 reads)) f is refl
    (length-take-le f.head.size (drop 37 reads) (omega (arith, is.whole, length-drop 37 reads)))

-- ---- the fields of a record

-- the first 17 bytes of a record
fields_of : (r : Numbered) (rest : List ℕ) → take 17 (record_bytes r ++ rest) ≡ fields_bytes r.number (length r.bytes)
fields_of r rest = refl

pub fields_missing : (bytes front : List ℕ) → front ≡ take 17 bytes → NoFields front → IsClosed bytes
fields_missing bytes front is none r rest o =
    none r.number (length r.bytes) []
    (is ∙ ap (λ (l : List ℕ). take 17 l) o.split ∙ fields_of r rest
    ∙ sym (append-nil (fields_bytes r.number (length r.bytes))))

module _ (bytes front rest : List ℕ) (n s : ℕ) (is : front ≡ take 17 bytes) (number_fits : n < 2 ^ 64)
    (size_fits : s < 2 ^ 64)
    (found : front ≡ fields_bytes n s ++ rest) where
  fields_start : take 17 bytes ≡ fields_bytes n s
  fields_start = no_more (fields_bytes n s) rest 17 bytes refl (sym found ∙ is)

  -- the bytes that they announce don't lie in the file
  pub fields_short : length bytes < 17 + s → IsClosed bytes
  fields_short short r after o =
      let same : fields_bytes n s ≡ fields_bytes r.number (length r.bytes) =
      sym fields_start ∙ ap (λ (l : List ℕ). take 17 l) o.split ∙ fields_of r after in
      let size : s ≡ length r.bytes = number_of s (length r.bytes) size_fits o.fits.size
      (ap (λ (l : List ℕ). drop 9 l) same) in
      omega (arith, short, size, ap (λ (l : List ℕ). length l) o.split, length-append (record_bytes r) after)

  pub record_open : (part : List ℕ) → part ≡ take s (drop 17 bytes) → length part ≡ s
      → RecordIsOpen bytes (record { number = n; bytes = part }) (drop (17 + length part) bytes)
  record_open part read size = record {
    fits = record { number = number_fits; size = omega (arith, size, size_fits) };
    split = sym (take-append-drop 17 bytes) ∙ ap (λ (l : List ℕ). l ++ drop 17 bytes) fields_start
        ∙ ap (λ (x : ℕ). fields_bytes n x ++ drop 17 bytes) (sym size)
        ∙ ap (λ (l : List ℕ). fields_bytes n (length part) ++ l) (sym (take-append-drop s (drop 17 bytes)))
        ∙ ap (λ (l : List ℕ). fields_bytes n (length part) ++ (l ++ drop s (drop 17 bytes))) (sym read)
        ∙ ap (λ (l : List ℕ). fields_bytes n (length part) ++ (part ++ l)) (drop-drop s 17 bytes)
        ∙ ap (λ (x : ℕ). fields_bytes n (length part) ++ (part ++ drop (17 + x) bytes)) (sym size);
  }
