-- Tags that are sorted by their keys, the first of each key kept.
use Rattle.std.specs.Prelude.{◌≡◌, ◌+◌, ◌&&◌, ℕ, suc, List, [], ◌∷◌, Bool, true, false, not, cond, Some, refl}
use Rattle.std.specs.Ordering.{nat_cmp, is_lt, is_eq, ordering_reverse}
use Rattle.std.specs.declared.cmp.Ordering.{Ordering}
use Rattle.std.specs.declared.cmp.Ordering.TheVariants.{Less, Equal, Greater}
use Rattle.std.specs.Cmp.{IsStrictWeakOrder, tied_itself}
use Rattle.std.specs.Cmp.Lexicographic.{slice_cmp, nat_list_cmp_total}
use Rattle.std.specs.List.{filter, dedup, dedup_from}
use Rattle.std.specs.List.Sorted.{IsSortedBy, IsStableBy, ties}
use Rattle.std.specs.Str.{bytes_eq}
use Rattle.std.proofs.Common.{arith, sym, ◌∙◌, ap, subst, get_or}
use Rattle.std.proofs.lemmas.Bool.{false≢true}
use Rattle.std.proofs.lemmas.List.Sorted.{ranks_by}
use Rattle.std.proofs.lemmas.Map.Text.{is_eq-slice_cmp}
use Rattle.std.proofs.lemmas.Slice.Eq.{bytes_eq-Decides}
use Rattle.road_base.specs.Tags.{TagList, is_above, IsAscending, value_of}

abbrev pub is_less : List ℕ → List ℕ → Bool
is_less a b = is_lt (slice_cmp nat_cmp a b)

abbrev pub by_key : List ℕ × List ℕ → List ℕ × List ℕ → Bool
by_key a b = is_less a.0 b.0

abbrev pub same_key : List ℕ × List ℕ → List ℕ × List ℕ → Bool
same_key a b = bytes_eq a.0 b.0

pub by_key-order : IsStrictWeakOrder by_key
by_key-order = ranks_by nat_list_cmp_total (λ (p : List ℕ × List ℕ). p.0)

-- ---- a stable sort keeps the first value of each key

not_less_than_itself : (a : List ℕ) → is_less a a ≡ false
not_less_than_itself a = ap is_lt (tied_itself nat_list_cmp_total a)

-- tags with the key tie with it
differs : (key : List ℕ) (t : List ℕ × List ℕ) (same : Bool) → bytes_eq t.0 key ≡ same → ties by_key (key, []) t ≡ false
    → same ≡ false
differs key t true e tie =
    let one : t.0 ≡ key = (bytes_eq-Decides t.0 key).0 e in
    let none : (not (is_less key key) && not (is_less key key))
    ≡ false = subst (λ k. (not (is_less key k) && not (is_less k key)) ≡ false) one tie in
    absurd (false≢true (sym none ∙ ap (λ b. not b && not b) (not_less_than_itself key)))
differs key t false e tie = refl

abbrev tied : List ℕ → TagList → TagList
tied key ts = filter (ties by_key (key, [])) ts

by_tie : (key : List ℕ) (t : List ℕ × List ℕ) (ts : TagList) (tie : Bool) → ties by_key (key, []) t ≡ tie
    → value_of key ts ≡ value_of key (tied key ts) → value_of key (t ∷ ts) ≡ value_of key (tied key (t ∷ ts))
by_tie key t ts true e others =
    ap (λ o. cond (bytes_eq t.0 key) (Some t.1) o) others
    ∙ ap (λ b. value_of key (cond b (t ∷ tied key ts) (tied key ts))) (sym e)
by_tie key t ts false e others =
    ap (λ b. cond b (Some t.1) (value_of key ts)) (differs key t (bytes_eq t.0 key) refl e)
    ∙ (others ∙ ap (λ b. value_of key (cond b (t ∷ tied key ts) (tied key ts))) (sym e))

value_among_tied : (key : List ℕ) (ts : TagList) → value_of key ts ≡ value_of key (tied key ts)
value_among_tied key [] = refl
value_among_tied key (t ∷ ts) = by_tie key t ts (ties by_key (key, []) t) refl (value_among_tied key ts)

pub values_sorted : (old new : TagList) → IsStableBy by_key old new → (key : List ℕ)
    → value_of key new ≡ value_of key old
values_sorted old new stable key = value_among_tied key new
    ∙ (ap (value_of key) (stable (key, [])) ∙ sym (value_among_tied key old))

-- ---- of equal keys in a row the first is kept

-- no key is below the one before it
abbrev Rising : List ℕ × List ℕ → TagList → Type 0
Rising t [] = Unit {0}
Rising t (u ∷ us) = (is_less u.0 t.0 ≡ false) × Rising u us

rising_from_sorted : (t : List ℕ × List ℕ) (ts : TagList) → IsSortedBy by_key (t ∷ ts) → Rising t ts
rising_from_sorted t [] up = tt
rising_from_sorted t (u ∷ us) up =
    let rest : IsSortedBy by_key (u ∷ us) = λ k d low h.
    let e : suc k + 1 ≡ suc (k + 1) = omega arith in
    subst (λ n. by_key (get_or (t ∷ (u ∷ us)) n d) (get_or (u ∷ us) k d) ≡ false) e
    (up (suc k) d (omega arith) (omega arith)) in
    (up 0 t (omega arith) (omega arith), rising_from_sorted u us rest)

rising_same : (t u : List ℕ × List ℕ) (us : TagList) → u.0 ≡ t.0 → Rising u us → Rising t us
rising_same t u [] same up = tt
rising_same t u (v ∷ vs) same up = (subst (λ k. is_less v.0 k ≡ false) same up.0, up.1)

less_by_order : (a b : List ℕ) (r : Ordering) → slice_cmp nat_cmp b a ≡ r → is_lt r ≡ false → is_eq r ≡ false
    → is_less a b ≡ true
less_by_order a b Less e low apart = cc
less_by_order a b Equal e low apart = cc
less_by_order a b Greater e low apart = ap is_lt (nat_list_cmp_total.antisymm a b ∙ ap ordering_reverse e)

-- a key that isn't below another one, and isn't that one, is above it
less_when_above : (a b : List ℕ) → is_less b a ≡ false → bytes_eq b a ≡ false → is_less a b ≡ true
less_when_above a b low apart = less_by_order a b (slice_cmp nat_cmp b a) refl low (is_eq-slice_cmp b a ∙ apart)

-- what is left behind a tag that is kept
record Kept (t : List ℕ × List ℕ) (ts : TagList) : Type 0 where
  rest : TagList
  is : dedup_from same_key t ts ≡ t ∷ rest
  above : is_above t.0 rest ≡ true
  values : (key : List ℕ) → value_of key (t ∷ rest) ≡ value_of key (t ∷ ts)

twice : {A : Type 0} (b : Bool) (x y z : A) → cond b x z ≡ cond b x (cond b y z)
twice true x y z = refl
twice false x y z = refl

-- a key that stands twice is found at its first place
found_first : (t u : List ℕ × List ℕ) (us : TagList) → u.0 ≡ t.0 → (key : List ℕ)
    → value_of key (t ∷ us) ≡ value_of key (t ∷ (u ∷ us))
found_first t u us same key =
    twice (bytes_eq t.0 key) (Some t.1) (Some u.1) (value_of key us)
    ∙ ap (λ k. cond (bytes_eq t.0 key) (Some t.1) (cond (bytes_eq k key) (Some u.1) (value_of key us))) (sym same)

kept_step : (t u : List ℕ × List ℕ) (us : TagList) (same : Bool) → same_key u t ≡ same → Rising t (u ∷ us)
    → ((v : List ℕ × List ℕ) → Rising v us → Kept v us) → Kept t (u ∷ us)
kept_step t u us true e up next =
    let one : u.0 ≡ t.0 = (bytes_eq-Decides u.0 t.0).0 e in
    let k = next t (rising_same t u us one up.1) in
    record {
      rest = k.rest;
      is = ap (λ b. cond b (dedup_from same_key t us) (t ∷ dedup_from same_key u us)) e ∙ k.is;
      above = k.above;
      values = λ key. k.values key ∙ found_first t u us one key;
    }
kept_step t u us false e up next =
    let k = next u up.1 in
    record {
      rest = u ∷ k.rest;
      is = ap (λ b. cond b (dedup_from same_key t us) (t ∷ dedup_from same_key u us)) e ∙ ap (λ l. t ∷ l) k.is;
      above = rw (less_when_above t.0 u.0 up.0 e, k.above) refl;
      values = λ key. ap (λ o. cond (bytes_eq t.0 key) (Some t.1) o) (k.values key);
    }

kept : (ts : TagList) (t : List ℕ × List ℕ) → Rising t ts → Kept t ts
kept [] t up = record { rest = []; is = refl; above = refl; values = λ key. refl }
kept (u ∷ us) t up = kept_step t u us (same_key u t) refl up (kept us)

pub ascending_deduped : (ts : TagList) → IsSortedBy by_key ts → IsAscending (dedup same_key ts)
ascending_deduped [] up = refl
ascending_deduped (t ∷ ts) up =
    let k = kept ts t (rising_from_sorted t ts up) in
    subst IsAscending (sym k.is) k.above

pub values_deduped : (ts : TagList) → IsSortedBy by_key ts → (key : List ℕ)
    → value_of key (dedup same_key ts) ≡ value_of key ts
values_deduped [] up key = refl
values_deduped (t ∷ ts) up key =
    let k = kept ts t (rising_from_sorted t ts up) in
    ap (value_of key) k.is ∙ k.values key
