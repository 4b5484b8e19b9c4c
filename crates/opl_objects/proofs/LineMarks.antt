-- Which letters stood, and how many.
use Rattle.std.proofs.Common.{◌≡◌, ◌==◌, ◌||◌, ◌<◌, ◌+◌, ℕ, List, [], ◌∷◌, ◌++◌, Bool, true, false, cond, length}
use Rattle.std.proofs.Common.{get_or, set, refl, sym, ap, ◌∙◌, arith, inl, inr, lit<, length-append, get_or-set_other}
use Rattle.std.proofs.Common.{get_or-set_same}
use Rattle.std.specs.List.{count_by}
use Rattle.std.proofs.lemmas.Bool.{cases_eq}
use Rattle.std.proofs.lemmas.Bool.Decides.{nat_tests, Decides-eqb}
use Rattle.std.proofs.lemmas.List.{length-set}
use Rattle.std.proofs.lemmas.List.Folds.{list_any-append}
use Rattle.std.proofs.lemmas.List.Sums.{sum_by-set}
use Rattle.opl_lexer.specs.Faults.{letter, stands}
use Rattle.opl_objects.specs.declared.letters.Letter.{Letter}
use Rattle.opl_objects.specs.declared.letters.Letter.TheVariants.{Version, Deletion, Changeset, Timestamp, UserId, User}
use Rattle.opl_objects.specs.declared.letters.Letter.TheVariants.{Tags, Lon, Lat, Refs, Members}
use Rattle.opl_objects.specs.LineLetters.{byte_of, letter_number, AreMarked}

-- each letter is a byte of ASCII
pub byte_bounds : (l : Letter) → (0 < byte_of l) × (byte_of l < 128)
byte_bounds Version = (lit< tt, lit< tt)
byte_bounds Deletion = (lit< tt, lit< tt)
byte_bounds Changeset = (lit< tt, lit< tt)
byte_bounds Timestamp = (lit< tt, lit< tt)
byte_bounds UserId = (lit< tt, lit< tt)
byte_bounds User = (lit< tt, lit< tt)
byte_bounds Tags = (lit< tt, lit< tt)
byte_bounds Lon = (lit< tt, lit< tt)
byte_bounds Lat = (lit< tt, lit< tt)
byte_bounds Refs = (lit< tt, lit< tt)
byte_bounds Members = (lit< tt, lit< tt)

pub place_below : (l : Letter) → letter_number l < 11
place_below Version = lit< tt
place_below Deletion = lit< tt
place_below Changeset = lit< tt
place_below Timestamp = lit< tt
place_below UserId = lit< tt
place_below User = lit< tt
place_below Tags = lit< tt
place_below Lon = lit< tt
place_below Lat = lit< tt
place_below Refs = lit< tt
place_below Members = lit< tt

-- the byte that is marked at a place
abbrev byte_at : ℕ → ℕ
byte_at place = get_or (118 ∷ 100 ∷ 99 ∷ 116 ∷ 105 ∷ 117 ∷ 84 ∷ 120 ∷ 121 ∷ 78 ∷ 77 ∷ []) place 0

byte_at_place : (l : Letter) → byte_at (letter_number l) ≡ byte_of l
byte_at_place Version = refl
byte_at_place Deletion = refl
byte_at_place Changeset = refl
byte_at_place Timestamp = refl
byte_at_place UserId = refl
byte_at_place User = refl
byte_at_place Tags = refl
byte_at_place Lon = refl
byte_at_place Lat = refl
byte_at_place Refs = refl
byte_at_place Members = refl

-- the place at which a byte is marked
abbrev place_at : ℕ → ℕ
place_at b = cond (b == 118) 0 (cond (b == 100) 1
    (cond (b == 99) 2 (cond (b == 116) 3 (cond (b == 105) 4
    (cond (b == 117) 5 (cond (b == 84) 6 (cond (b == 120) 7 (cond (b == 121) 8 (cond (b == 78) 9 10)))))))))

place_at_byte : (l : Letter) → place_at (byte_of l) ≡ letter_number l
place_at_byte Version = refl
place_at_byte Deletion = refl
place_at_byte Changeset = refl
place_at_byte Timestamp = refl
place_at_byte UserId = refl
place_at_byte User = refl
place_at_byte Tags = refl
place_at_byte Lon = refl
place_at_byte Lat = refl
place_at_byte Refs = refl
place_at_byte Members = refl

same_byte : (l m : Letter) → letter_number l ≡ letter_number m → byte_of l ≡ byte_of m
same_byte l m e = sym (byte_at_place l) ∙ (ap byte_at e ∙ byte_at_place m)

same_place : (l m : Letter) → byte_of l ≡ byte_of m → letter_number l ≡ letter_number m
same_place l m e = sym (place_at_byte l) ∙ (ap place_at e ∙ place_at_byte m)

-- one more field
pub stands_more : (b : ℕ) (fields : List (List ℕ)) (field : List ℕ)
    → stands b (fields ++ field ∷ []) ≡ (stands b fields || (letter field == b))
stands_more b fields field = list_any-append (λ f. letter f == b) fields (field ∷ []) ∙ grind arith

marked_same : (l m : Letter) (marks : List Bool) (fields : List (List ℕ)) (field : List ℕ) → length marks ≡ 11
    → letter field ≡ byte_of l → letter_number m ≡ letter_number l
    → get_or (set marks (letter_number l) true) (letter_number m) false ≡ stands (byte_of m) (fields ++ field ∷ [])
marked_same l m marks fields field size here same =
    let inside : letter_number l < length marks = omega (arith, place_below l) in
    let byte = here ∙ sym (same_byte m l same) in
    let first : get_or (set marks (letter_number l) true) (letter_number m) false
    ≡ true = rw same (get_or-set_same marks (letter_number l) true false inside) in
    let found : (letter field == byte_of m) ≡ true = (Decides-eqb (letter field) (byte_of m)).1 byte in
    let all : (stands (byte_of m) fields || (letter field == byte_of m)) ≡ true = grind (arith, nat_tests) in
    first ∙ sym (stands_more (byte_of m) fields field ∙ all)

marked_other : (l m : Letter) (marks : List Bool) (fields : List (List ℕ)) (field : List ℕ) → AreMarked fields marks
    → letter field ≡ byte_of l → ¬ (letter_number m ≡ letter_number l)
    → get_or (set marks (letter_number l) true) (letter_number m) false ≡ stands (byte_of m) (fields ++ field ∷ [])
marked_other l m marks fields field marked here other =
    let kept = get_or-set_other marks (letter_number l) (letter_number m) true false other in
    let absent : ¬ (letter field ≡ byte_of m) = λ e. other (same_place m l (sym e ∙ here)) in
    let all : (stands (byte_of m) fields || (letter field == byte_of m))
    ≡ stands (byte_of m) fields = grind (arith, nat_tests) in
    kept ∙ (marked.each m ∙ sym (stands_more (byte_of m) fields field ∙ all))

pub marked_more : (l : Letter) (marks : List Bool) (fields : List (List ℕ)) (field : List ℕ) → AreMarked fields marks
    → letter field ≡ byte_of l → get_or marks (letter_number l) false ≡ false
    → AreMarked (fields ++ field ∷ []) (set marks (letter_number l) true)
marked_more l marks fields field marked here new =
    let size = marked.size in
    let inside : letter_number l < length marks = omega (arith, place_below l) in
    let counted : count_by (λ (mark : Bool). mark) (set marks (letter_number l) true) + cond
    (get_or marks (letter_number l) false) 1 0 ≡ count_by (λ (mark : Bool). mark) marks + 1 = sum_by-set
    (λ mark. cond mark 1 0) marks (letter_number l) true false inside in
    record {
      size = length-set marks (letter_number l) true ∙ size;
      each = λ m. elim (cases_eq (letter_number m) (letter_number l)) [
        | inl same ↦ marked_same l m marks fields field size here same
        | inr other
            ↦ marked_other l m marks fields field marked here other
      ];
      count = (let before = marked.count in let absent : cond {A = ℕ} (get_or marks (letter_number l) false) 1 0
          ≡ 0 = ap (λ (b : Bool). cond {A = ℕ} b 1 0) new in omega (arith, length-append fields (field ∷ [])));
    }

-- a field with a letter has a byte
pub has_letter : (field : List ℕ) → 0 < get_or field 0 0 → 0 < length field
has_letter [] low = omega arith
has_letter (b ∷ bs) low = omega arith
