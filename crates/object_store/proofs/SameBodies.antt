-- Bodies that can't differ are the same.
use Rattle.std.proofs.Common.{◌≡◌, ℕ, List, Contains, inl, inr, refl, ap, arith}
use base.Stored.{Gv, gnil, gnum, gcons}
use Rattle.std.specs.Coded.{Coded, coded_option}
use Rattle.std.proofs.lemmas.Bool.{cases_lt}
use Rattle.road_base.specs.declared.ids.Key.{Key}
use Rattle.road_base.specs.Objects.{Objects, visible}
use Rattle.road_model.specs.Links.{AreChanged}
use Rattle.object_store.specs.Codes.{coded_body}

abbrev number : Gv → ℕ
number gnil = 0
number (gnum n) = n
number (gcons a b) = 0

abbrev first : Gv → Gv
first gnil = gnil
first (gnum n) = gnil
first (gcons a b) = a

abbrev second : Gv → Gv
second gnil = gnil
second (gnum n) = gnil
second (gcons a b) = b

same_number : (n m : ℕ) → ¬ (¬ (n ≡ m)) → n ≡ m
same_number n m h = elim (cases_lt n m) [
  | inl l ↦ absurd (h (λ e. omega arith))
  | inr g ↦ elim (cases_lt m n) [ inl l ↦ absurd (h (λ e. omega arith)) | inr k ↦ omega arith ]
]

same_code : (a b : Gv) → ¬ (¬ (a ≡ b)) → a ≡ b
same_code gnil gnil h = refl
same_code gnil (gnum n) h = absurd (h (λ e. cc))
same_code gnil (gcons a b) h = absurd (h (λ e. cc))
same_code (gnum n) gnil h = absurd (h (λ e. cc))
same_code (gnum n) (gnum m) h = ap gnum (same_number n m (λ differ. h (λ e. differ (ap number e))))
same_code (gnum n) (gcons a b) h = absurd (h (λ e. cc))
same_code (gcons a b) gnil h = absurd (h (λ e. cc))
same_code (gcons a b) (gnum n) h = absurd (h (λ e. cc))
same_code (gcons a b) (gcons c d) h =
    let f = same_code a c (λ differ. h (λ e. differ (ap first e))) in
    let s = same_code b d (λ differ. h (λ e. differ (ap second e))) in
    λ i. gcons (f i) (s i)

pub same_coded : {A : Type 0} → Coded A → (x y : A) → ¬ (¬ (x ≡ y)) → x ≡ y
same_coded coded x y h =
    coded.inj x y (same_code (coded.code x) (coded.code y) (λ differ. h (λ e. differ (ap coded.code e))))

pub same_else : (M N : Objects) (keys : List Key) → AreChanged M N keys → (k : Key) → ¬ (Contains keys k)
    → visible M k ≡ visible N k
same_else M N keys changed k out =
    same_coded (coded_option coded_body) (visible M k) (visible N k) (λ differs. out (changed.complete k differs))
