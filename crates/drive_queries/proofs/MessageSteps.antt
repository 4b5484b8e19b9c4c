-- Words that are steps.
use Rattle.std.proofs.Common.{◌≡◌, ◌≢◌, ◌==◌, ◌-◌, ◌<◌, ◌⊎◌, ℕ, ℤ, List, [], ◌∷◌, ◌++◌, Bool, true, false, cond}
use Rattle.std.proofs.Common.{Option, Some, None, length, get_or, refl, sym, ap, ◌∙◌, subst, inl, inr, arith}
use Rattle.std.specs.Prelude.{nat_lt, ◌&&◌, slice_get}
use Rattle.std.specs.Option.{option_and_then, option_map}
use Rattle.std.specs.List.{list_all, onto_first}
use Rattle.std.specs.Str.Parse.{digits_value}
use Rattle.std.proofs.lemmas.Bool.Decides.{nat_tests, Decides-eqb}
use Rattle.std.proofs.lemmas.List.{length-append}
use Rattle.std.proofs.lemmas.List.Splits.{slice_split_none, slice_split_at, slice_split-cons_yes, slice_split-cons_no}
use Rattle.std.proofs.lemmas.List.Elements.{All-from_get_or}
use Rattle.road_base.specs.declared.ids.Dir.{Dir}
use Rattle.road_base.specs.declared.ids.Step.{Step}
use Rattle.opl_lexer.specs.Numbers.{is_digit, number_below, whole_of}
use Rattle.opl_lexer.specs.Parts.{parts}
use Rattle.drive_queries.specs.Messages.{dir_of, step_along, step_of}

differs : (b stop : ℕ) → (b ≡ stop → ⊥) → (b == stop) ≡ false
differs b stop never = grind (arith, nat_tests)

-- ---- parts at points

-- what stands before a point, and the parts behind it
pub parts_point : (front behind : List ℕ) → ((i : ℕ) → i < length front → get_or front i 0 ≢ 46)
    → parts 46 (front ++ (46 ∷ behind)) ≡ front ∷ parts 46 behind
parts_point front behind none = slice_split_at (λ b. b == 46) front 46 behind
    (All-from_get_or (λ b. (b == 46) ≡ false) front 0 (λ i h. differs (get_or front i 0) 46 (none i h))) refl

pub parts_alone : (word : List ℕ) → ((i : ℕ) → i < length word → get_or word i 0 ≢ 46) → parts 46 word ≡ word ∷ []
parts_alone word none = slice_split_none (λ b. b == 46) word
    (All-from_get_or (λ b. (b == 46) ≡ false) word 0 (λ i h. differs (get_or word i 0) 46 (none i h)))

-- a point stands in the word, and so it isn't digits alone
record IsPointed (word : List ℕ) : Type 0 where
  one : List ℕ
  two : List ℕ
  more : List (List ℕ)
  same : parts 46 word ≡ one ∷ two ∷ more
  unlike : list_all is_digit word ≡ false

point_first : (b : ℕ) (bs : List ℕ) → (b == 46) ≡ true → list_all is_digit (b ∷ bs) ≡ false
point_first b bs point =
    subst (λ (k : ℕ). list_all is_digit (k ∷ bs) ≡ false) (sym ((Decides-eqb b 46).0 point)) refl

none_behind : (one : Bool) (more : Bool) → more ≡ false → (one && more) ≡ false
none_behind true more e = e
none_behind false more e = refl

points_more : (b : ℕ) (bs : List ℕ) (point : Bool) → (b == 46) ≡ point
    → (parts 46 bs ≡ bs ∷ []) ⊎ IsPointed bs → (parts 46 (b ∷ bs) ≡ (b ∷ bs) ∷ []) ⊎ IsPointed (b ∷ bs)
points_more b bs true e (inl alone) = inr (record {
  one = [];
  two = bs;
  more = [];
  same = slice_split-cons_yes (λ k. k == 46) b bs e ∙ ap (λ l. [] ∷ l) alone;
  unlike = point_first b bs e;
})
points_more b bs true e (inr k) = inr (record {
  one = [];
  two = k.one;
  more = k.two ∷ k.more;
  same = slice_split-cons_yes (λ k. k == 46) b bs e ∙ ap (λ l. [] ∷ l) k.same;
  unlike = point_first b bs e;
})
points_more b bs false e (inl alone) =
    inl (slice_split-cons_no (λ k. k == 46) b bs e ∙ ap (onto_first b) alone)
points_more b bs false e (inr k) = inr (record {
  one = b ∷ k.one;
  two = k.two;
  more = k.more;
  same = slice_split-cons_no (λ k. k == 46) b bs e ∙ ap (onto_first b) k.same;
  unlike = none_behind (is_digit b) (list_all is_digit bs) k.unlike;
})

points : (word : List ℕ) → (parts 46 word ≡ word ∷ []) ⊎ IsPointed word
points [] = inl refl
points (b ∷ bs) = points_more b bs (b == 46) refl (points bs)

-- ---- the way's number and the position

abbrev pub step_by : Dir → Option ℤ → Option ℕ → Option Step
step_by dir way index = option_and_then
    (λ w. option_map (λ i. record { way = record { 0 = w }; index = i; dir = dir }) index) way

no_index : (dir : Dir) (way : Option ℤ) (index : Option ℕ) → index ≡ None → step_by dir way index ≡ None
no_index dir None index e = refl
no_index dir (Some w) index e = rw e refl

not_number : (some digits small : Bool) (n : ℕ) → digits ≡ false → cond ((some && digits) && small) (Some n) None ≡ None
not_number true digits small n e = rw e refl
not_number false digits small n e = refl

along : (dir : Dir) (way index : List ℕ) → (parts 46 index ≡ index ∷ []) ⊎ IsPointed index
    → step_along dir (way ∷ parts 46 index) ≡ step_by dir (whole_of way) (number_below 4294967296 index)
along dir way index (inl alone) = rw alone refl
along dir way index (inr k) = rw k.same (sym (no_index dir (whole_of way) (number_below 4294967296 index)
    (not_number (nat_lt 0 (length index)) (list_all is_digit index) (nat_lt (digits_value 10 index) 4294967296)
    (digits_value 10 index) k.unlike)))

-- the step of a way's number and a position, a point between them
pub step_between : (dir : Dir) (word way index : List ℕ) → word ≡ way ++ (46 ∷ index)
    → ((i : ℕ) → i < length way → get_or way i 0 ≢ 46)
    → step_along dir (parts 46 word) ≡ step_by dir (whole_of way) (number_below 4294967296 index)
step_between dir word way index written none =
    ap (λ w. step_along dir (parts 46 w)) written
    ∙ ap (step_along dir) (parts_point way index none)
    ∙ along dir way index (points index)

pub step_nowhere : (dir : Dir) (word : List ℕ) → ((i : ℕ) → i < length word → get_or word i 0 ≢ 46)
    → step_along dir (parts 46 word) ≡ None
step_nowhere dir word none = ap (step_along dir) (parts_alone word none)

-- ---- the letter

pub no_letter : (word : List ℕ) → ((rest : List ℕ) → word ≢ 119 ∷ rest) → step_of word ≡ None
no_letter [] never = refl
no_letter (c ∷ rest) never = rw (differs c 119 (λ e. never rest (ap (λ (k : ℕ). k ∷ rest) e))) refl

-- ---- the sign

at_end : (front : List ℕ) (c : ℕ) → slice_get (front ++ (c ∷ [])) (length front) ≡ Some c
at_end [] c = refl
at_end (b ∷ bs) c = at_end bs c

last_of : (front : List ℕ) (c : ℕ) → slice_get (front ++ (c ∷ [])) (length (front ++ (c ∷ [])) - 1) ≡ Some c
last_of front c =
    let place : length (front ++ (c ∷ [])) - 1 ≡ length front = omega (arith, length-append front (c ∷ [])) in
    rw place (at_end front c)

pub last_sign : (word front : List ℕ) (c : ℕ) → word ≡ front ++ (c ∷ []) → slice_get word (length word - 1) ≡ Some c
last_sign word front c e = subst (λ w. slice_get w (length w - 1) ≡ Some c) (sym e) (last_of front c)

-- a word that isn't empty has a last byte
record HasLast (word : List ℕ) : Type 0 where
  front : List ℕ
  last : ℕ
  same : word ≡ front ++ (last ∷ [])

with_last : (b : ℕ) (bs : List ℕ) → HasLast (b ∷ bs)
with_last b [] = record { front = []; last = b; same = refl }
with_last b (d ∷ more) =
    let k = with_last d more in
    record { front = b ∷ k.front; last = k.last; same = ap (λ l. b ∷ l) k.same }

other_sign : (c : ℕ) → (c ≡ 43 → ⊥) → (c ≡ 45 → ⊥) → dir_of c ≡ None
other_sign c plus minus = rw (differs c 43 plus, differs c 45 minus) refl

pub no_sign : (word : List ℕ) → ((front : List ℕ) → word ≢ front ++ (43 ∷ []))
    → ((front : List ℕ) → word ≢ front ++ (45 ∷ []))
    → option_and_then dir_of (slice_get word (length word - 1)) ≡ None
no_sign [] plus minus = refl
no_sign (b ∷ bs) plus minus =
    let k = with_last b bs in
    let ends : (c : ℕ) → k.last ≡ c → b ∷ bs ≡ k.front ++ (c ∷ []) =
    λ c e. k.same ∙ ap (λ (l : ℕ). k.front ++ (l ∷ [])) e in
    ap (option_and_then dir_of) (last_sign (b ∷ bs) k.front k.last k.same)
    ∙ other_sign k.last (λ e. plus k.front (ends 43 e)) (λ e. minus k.front (ends 45 e))
