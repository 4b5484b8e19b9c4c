-- A file begins with one base at most, and bytes with one record at most.
use Rattle.std.proofs.Common.{◌≡◌, ℕ, ◌<◌, ◌^◌, List, ◌++◌, length, take, drop, refl, sym, ◌∙◌, ap}
use Rattle.std.proofs.lemmas.List.{take_at, drop_at}
use Rattle.std.proofs.lemmas.Nat.{from_le_bytes-to_le_bytes_4, from_le_bytes-to_le_bytes_8}
use Rattle.std.specs.Int.{from_le_bytes, w32, w64}
use Rattle.road_base.specs.Bytes.{u32_bytes, u64_bytes}
use Rattle.sequence_journal.specs.Layout.{Base, BaseIsOpen, Numbered, NumberedFits, base_bytes, record_bytes}

-- eight bytes give their number back, and so do four
pub number_of : (m n : ℕ) → m < 2 ^ 64 → n < 2 ^ 64 → u64_bytes m ≡ u64_bytes n → m ≡ n
number_of m n fm fn e = sym (from_le_bytes-to_le_bytes_8 m fm) ∙ ap (λ (l : List ℕ). from_le_bytes w64 l) e
    ∙ from_le_bytes-to_le_bytes_8 n fn

small_of : (m n : ℕ) → m < 2 ^ 32 → n < 2 ^ 32 → u32_bytes m ≡ u32_bytes n → m ≡ n
small_of m n fm fn e = sym (from_le_bytes-to_le_bytes_4 m fm) ∙ ap (λ (l : List ℕ). from_le_bytes w32 l) e
    ∙ from_le_bytes-to_le_bytes_4 n fn

-- two lists with something behind each
module _ (a b xs ys : List ℕ) (size : length a ≡ length b) (e : a ++ xs ≡ b ++ ys) where
  pub same_front : a ≡ b
  same_front = sym (take_at a xs (length a) refl) ∙ ap (λ (l : List ℕ). take (length a) l) e
      ∙ take_at b ys (length a) (sym size)

  pub same_rest : xs ≡ ys
  same_rest = sym (drop_at a xs (length a) refl) ∙ ap (λ (l : List ℕ). drop (length a) l) e
      ∙ drop_at b ys (length a) (sym size)

-- ---- records

pub record SameRecord (r s : Numbered) (xs ys : List ℕ) : Type 0 where
  pub one : r ≡ s
  pub rest : xs ≡ ys

pub same_record : (r s : Numbered) (xs ys : List ℕ) → NumberedFits r → NumberedFits s
    → record_bytes r ++ xs ≡ record_bytes s ++ ys → SameRecord r s xs ys
same_record r s xs ys fr fs e =
    let number : r.number ≡ s.number =
    number_of r.number s.number fr.number fs.number (ap (λ (l : List ℕ). take 8 (drop 1 l)) e) in
    let size : length r.bytes ≡ length s.bytes =
    number_of (length r.bytes) (length s.bytes) fr.size fs.size (ap (λ (l : List ℕ). take 8 (drop 9 l)) e) in
    let behind : r.bytes ++ xs ≡ s.bytes ++ ys = ap (λ (l : List ℕ). drop 17 l) e in
    record {
      one = ap (λ (n : ℕ). record { number = n; bytes = r.bytes }) number
          ∙ ap (λ (l : List ℕ). record { number = s.number; bytes = l })
          (same_front r.bytes s.bytes xs ys size behind);
      rest = same_rest r.bytes s.bytes xs ys size behind;
    }

-- ---- bases

pub record SameBase (b c : Base) (xs ys : List ℕ) : Type 0 where
  pub one : b ≡ c
  pub rest : xs ≡ ys

pub base_once : (file : List ℕ) (b c : Base) (xs ys : List ℕ) → BaseIsOpen file b xs → BaseIsOpen file c ys
    → SameBase b c xs ys
base_once file b c xs ys p q =
    let e : base_bytes b ++ xs ≡ base_bytes c ++ ys = sym p.split ∙ q.split in
    let profile : b.profile ≡ c.profile =
    small_of b.profile c.profile p.fits.profile q.fits.profile (ap (λ (l : List ℕ). take 4 (drop 9 l)) e) in
    let generation : b.generation ≡ c.generation = number_of b.generation c.generation p.fits.generation
    q.fits.generation (ap (λ (l : List ℕ). take 8 (drop 13 l)) e) in
    let number : b.number ≡ c.number =
    number_of b.number c.number p.fits.number q.fits.number (ap (λ (l : List ℕ). take 8 (drop 21 l)) e) in
    let size : length b.bytes ≡ length c.bytes =
    number_of (length b.bytes) (length c.bytes) p.fits.size q.fits.size (ap (λ (l : List ℕ). take 8 (drop 29 l)) e) in
    let behind : b.bytes ++ xs ≡ c.bytes ++ ys = ap (λ (l : List ℕ). drop 37 l) e in
    record {
      one = ap (λ (n : ℕ). record { profile = n; generation = b.generation; number = b.number; bytes = b.bytes })
          profile
          ∙ ap (λ (n : ℕ). record { profile = c.profile; generation = n; number = b.number; bytes = b.bytes })
          generation
          ∙ ap (λ (n : ℕ). record { profile = c.profile; generation = c.generation; number = n; bytes = b.bytes })
          number
          ∙ ap (λ (l : List ℕ). record {
            profile = c.profile;
            generation = c.generation;
            number = c.number;
            bytes = l;
          })
          (same_front b.bytes c.bytes xs ys size behind);
      rest = same_rest b.bytes c.bytes xs ys size behind;
    }
