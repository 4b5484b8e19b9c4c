-- No spelling begins another one, and each is that of one value. What has a spelling gives this as its law, and the
-- answer to a law stands in specs/: so the proofs stand here, also for the crates that spell more.
use mathlib.Core.HLevel.{is_prop→PathP}
use mathlib.Core.Bool.{Bool-set}
use Rattle.std.proofs.Common.{◌≡◌, ℕ, ℤ, ◌<◌, ◌^◌, true, false, eqb, IsTrue, List, [], ◌∷◌, ◌++◌, length, get_or}
use Rattle.std.proofs.Common.{eq-eqb, take, drop, Fits, FitsSigned, refl, sym, ap, ◌∙◌, arith, append_assoc}
use Rattle.std.proofs.Math.Facts.{Fits-of_z}
use Rattle.std.proofs.lemmas.Bool.{false≢true}
use Rattle.std.proofs.lemmas.Int.{to_z-of_z}
use Rattle.std.proofs.lemmas.List.{take_at, drop_at}
use Rattle.std.proofs.lemmas.Nat.{from_le_bytes-to_le_bytes_4, from_le_bytes-to_le_bytes_8}
use Rattle.std.specs.Int.{w32, w64, from_le_bytes, cast_unsigned, cast_signed}
use Rattle.std.specs.List.{AllByRecursion}
use Rattle.road_base.specs.Bytes.{u32_bytes, u64_bytes, i32_bytes, i64_bytes, joined}
use Rattle.road_base.specs.Ranges.{is_in_range}
use Rattle.road_base.specs.declared.location.Location.{Location}
use Rattle.spelled_bytes.specs.Reading.{IsOneSpelling}
use Rattle.spelled_bytes.specs.Spelling.{pair_bytes, PairFits, location_bytes, LocationFits}

-- spellings of one length
pub same_front : (a b r s : List ℕ) → length a ≡ length b → a ++ r ≡ b ++ s → (a ≡ b) × (r ≡ s)
same_front a b r s len e = (
  sym (take_at a r (length a) refl) ∙ ap (take (length a)) e
      ∙ take_at b s (length a) (sym len),
  sym (drop_at a r (length a) refl) ∙ ap (drop (length a)) e
      ∙ drop_at b s (length a) (sym len),
)

pub u32_one : IsOneSpelling u32_bytes (λ n. n < 2 ^ 32)
u32_one x y bytes r s first second =
    let both = same_front (u32_bytes x) (u32_bytes y) r s refl (sym first.parts ∙ second.parts) in (
      sym (from_le_bytes-to_le_bytes_4 x first.fits) ∙ ap (from_le_bytes w32) both.0
          ∙ from_le_bytes-to_le_bytes_4 y second.fits,
      both.1,
    )

pub u64_one : IsOneSpelling u64_bytes (λ n. n < 2 ^ 64)
u64_one x y bytes r s first second =
    let both = same_front (u64_bytes x) (u64_bytes y) r s refl (sym first.parts ∙ second.parts) in (
      sym (from_le_bytes-to_le_bytes_8 x first.fits) ∙ ap (from_le_bytes w64) both.0
          ∙ from_le_bytes-to_le_bytes_8 y second.fits,
      both.1,
    )

pub i32_one : IsOneSpelling i32_bytes (FitsSigned w32)
i32_one x y bytes r s first second =
    let x_below : Fits w32 (cast_unsigned w32 x) = Fits-of_z first.fits in
    let y_below : Fits w32 (cast_unsigned w32 y) = Fits-of_z second.fits in
    let both = u32_one (cast_unsigned w32 x) (cast_unsigned w32 y) bytes r s
    (record { fits = omega arith; parts = first.parts }) (record { fits = omega arith; parts = second.parts }) in
    (sym (to_z-of_z w32 x first.fits) ∙ ap (cast_signed w32) both.0 ∙ to_z-of_z w32 y second.fits, both.1)

pub i64_one : IsOneSpelling i64_bytes (FitsSigned w64)
i64_one x y bytes r s first second =
    let x_below : Fits w64 (cast_unsigned w64 x) = Fits-of_z first.fits in
    let y_below : Fits w64 (cast_unsigned w64 y) = Fits-of_z second.fits in
    let both = u64_one (cast_unsigned w64 x) (cast_unsigned w64 y) bytes r s
    (record { fits = omega arith; parts = first.parts }) (record { fits = omega arith; parts = second.parts }) in
    (sym (to_z-of_z w64 x first.fits) ∙ ap (cast_signed w64) both.0 ∙ to_z-of_z w64 y second.fits, both.1)

-- ---- one thing behind another

-- lists that begin differently
pub differ : (a b : ℕ) (bytes r s : List ℕ) → (eqb a b ≡ false) → bytes ≡ a ∷ r → bytes ≡ b ∷ s → ⊥
differ a b bytes r s other first second =
    let same : a ≡ b = ap (λ (l : List ℕ). get_or l 0 0) (sym first ∙ second) in
    false≢true (sym other ∙ eq-eqb a b same)

pub pair_one : {A B : Type 0} (f : A → List ℕ) (F : A → Type 0) (g : B → List ℕ) (G : B → Type 0) → IsOneSpelling f F
    → IsOneSpelling g G → IsOneSpelling (pair_bytes f g) (PairFits F G)
pair_one {A} {B} f F g G one_f one_g x y bytes r s first second =
    let a : (x.0 ≡ y.0) × (g x.1 ++ r ≡ g y.1 ++ s) = one_f x.0 y.0 bytes (g x.1 ++ r) (g y.1 ++ s)
    (record { fits = first.fits.0; parts = first.parts ∙ append_assoc (f x.0) (g x.1) r })
    (record { fits = second.fits.0; parts = second.parts ∙ append_assoc (f y.0) (g y.1) s }) in
    let b : (x.1 ≡ y.1) × (r ≡ s) = one_g x.1 y.1 (g x.1 ++ r) r s (record { fits = first.fits.1; parts = refl })
    (record { fits = second.fits.1; parts = a.1 }) in
    (λ i. (a.0 i, b.0 i), b.1)

-- the same spelling under another form of the value
pub by_one : {A B : Type 0} (form : B → A) (f : A → List ℕ) (F : A → Type 0) → ((x y : B) → form x ≡ form y → x ≡ y)
    → IsOneSpelling f F → IsOneSpelling (λ b. f (form b)) (λ b. F (form b))
by_one {A} {B} form f F same one_f x y bytes r s first second =
    let a = one_f (form x) (form y) bytes r s (record { fits = first.fits; parts = first.parts })
    (record { fits = second.fits; parts = second.parts }) in
    (same x y a.0, a.1)

-- as many of one thing
pub joined_one : {A : Type 0} (f : A → List ℕ) (F : A → Type 0) → IsOneSpelling f F → (xs ys : List A) (r s : List ℕ)
    → length xs ≡ length ys → AllByRecursion F xs → AllByRecursion F ys → joined f xs ++ r ≡ joined f ys ++ s
    → (xs ≡ ys) × (r ≡ s)
joined_one f F one [] [] r s len first second e = (refl, e)
joined_one f F one [] (y ∷ ys) r s len first second e = absurd (omega arith)
joined_one f F one (x ∷ xs) [] r s len first second e = absurd (omega arith)
joined_one f F one (x ∷ xs) (y ∷ ys) r s len first second e =
    let a = one x y (f x ++ (joined f xs ++ r)) (joined f xs ++ r) (joined f ys ++ s)
    (record { fits = first.0; parts = refl })
    (record {
      fits = second.0;
      parts = sym (append_assoc (f x) (joined f xs) r) ∙ e
          ∙ append_assoc (f y) (joined f ys) s;
    }) in
    let b = joined_one f F one xs ys r s (omega arith) first.1 second.1 a.1 in
    (λ i. a.0 i ∷ b.0 i, b.1)

-- ---- locations

same_location : (x y : Location) → ◌≡◌ {A = ℤ × ℤ} (x.lon, x.lat) (y.lon, y.lat) → x ≡ y
same_location x y e = λ i. record {
  lon = (e i).0;
  lat = (e i).1;
  in_range = is_prop→PathP (λ j. IsTrue (is_in_range (e j).0 (e j).1))
      (λ j. Bool-set (is_in_range (e j).0 (e j).1) true) x.in_range y.in_range i;
}

pub location_one : IsOneSpelling location_bytes LocationFits
location_one =
    by_one (λ (l : Location). (l.lon, l.lat)) (pair_bytes i32_bytes i32_bytes)
    (PairFits (FitsSigned w32) (FitsSigned w32)) same_location
    (pair_one i32_bytes (FitsSigned w32) i32_bytes (FitsSigned w32) i32_one i32_one)
