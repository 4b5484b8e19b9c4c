-- What a field more changes in what the fields hold.
use Rattle.std.proofs.Common.{◌≡◌, ◌==◌, ℕ, List, [], ◌∷◌, ◌++◌, Bool, true, false, cond, drop, Option, Some, None}
use Rattle.std.proofs.Common.{refl, sym, ap, ◌∙◌, subst, inl, inr, arith}
use Rattle.std.specs.List.{find}
use Rattle.std.specs.Option.{option_or}
use Rattle.std.specs.Str.Parse.{digits_value}
use Rattle.std.proofs.lemmas.Bool.{cases_eq}
use Rattle.std.proofs.lemmas.Bool.Decides.{nat_tests, Decides-eqb}
use Rattle.std.proofs.lemmas.List.Folds.{find-append}
use Rattle.opl_lexer.specs.Numbers.{version_of}
use Rattle.opl_lexer.specs.Faults.{letter, stands, contents_fault, version_letter, deletion_letter, tags_letter}
use Rattle.opl_lexer.specs.Faults.{lon_letter, lat_letter, refs_letter, members_letter, most_lon, most_lat}
use Rattle.opl_lexer.specs.Contents.{Good, list_of, ref_of, member_of}
use Rattle.opl_lexer.specs.Spelling.{text_behind, AreTags}
use Rattle.opl_objects.specs.declared.letters.Letter.{Letter}
use Rattle.opl_objects.specs.declared.letters.Letter.TheVariants.{Version, Deletion, Changeset, Timestamp, UserId, User}
use Rattle.opl_objects.specs.declared.letters.Letter.TheVariants.{Tags, Lon, Lat, Refs, Members}
use Rattle.opl_objects.specs.declared.parts.Parts.{Parts}
use Rattle.opl_objects.specs.LineLetters.{byte_of}
use Rattle.opl_objects.specs.LineParts.{Holds, Puts, flag_in, good_axis, version_held, deletion_held, text_held}
use Rattle.opl_objects.specs.LineParts.{axis_held}

-- what stands behind each letter, with one text more
abbrev pub with_text : (ℕ → Option (List ℕ)) → ℕ → List ℕ → ℕ → Option (List ℕ)
with_text found b text c = cond (c == b) (Some text) (found c)

pub not_held : (b : ℕ) (fields : List (List ℕ)) → stands b fields ≡ false → find (λ f. letter f == b) fields ≡ None
not_held b [] none = refl
not_held b (f ∷ fs) none =
    let first : (letter f == b) ≡ false = grind arith in
    let others : stands b fs ≡ false = grind arith in
    rw first (not_held b fs others)

or_none : (o : Option (List ℕ)) → option_or o None ≡ o
or_none None = refl
or_none (Some field) = refl

held_here : (fields : List (List ℕ)) (field : List ℕ) (c : ℕ) → stands c fields ≡ false → (letter field == c) ≡ true
    → Some (drop 1 field) ≡ text_behind c (fields ++ field ∷ [])
held_here fields field c new here = rw (
  find-append (λ f. letter f == c) fields (field ∷ []),
  not_held c fields new,
  here,
) refl

held_before : (fields : List (List ℕ)) (field : List ℕ) (c : ℕ) → (letter field == c) ≡ false
    → text_behind c fields ≡ text_behind c (fields ++ field ∷ [])
held_before fields field c other = rw (
  find-append (λ f. letter f == c) fields (field ∷ []),
  other,
  or_none
      (find (λ f. letter f == c) fields),
) refl

-- a letter that is new
pub held_more : (fields : List (List ℕ)) (field : List ℕ) (b : ℕ) → letter field ≡ b → stands b fields ≡ false → (c : ℕ)
    → with_text (λ a. text_behind a fields) b (drop 1 field) c ≡ text_behind c (fields ++ field ∷ [])
held_more fields field b here new c =
    elim (cases_eq c b) [
      | inl same ↦
          let chosen : (c == b) ≡ true = (Decides-eqb c b).1 same in
          let found : (letter field == c) ≡ true = (Decides-eqb (letter field) c).1 (here ∙ sym same) in
          rw chosen (held_here fields field c (subst (λ a. stands a fields ≡ false) (sym same) new) found)
      | inr other ↦
          let chosen : (c == b) ≡ false = grind (arith, nat_tests) in
          let passed : (letter field == c) ≡ false = grind (arith, nat_tests) in
          rw chosen (held_before fields field c passed)
    ]

pub holds_same : (g h : ℕ → Option (List ℕ)) (parts : Parts) → ((c : ℕ) → g c ≡ h c) → Holds g parts → Holds h parts
holds_same g h parts same holds = record {
  version = rw (← same 118) holds.version;
  deleted = rw (← same 100) holds.deleted;
  tags = rw (← same 84) holds.tags;
  lon = rw (← same 120) holds.lon;
  lat = rw (← same 121) holds.lat;
  refs = rw (← same 78) holds.refs;
  members = rw (← same 77) holds.members;
}

some_is : (b : Bool) (v n : ℕ) → cond b (Some v) None ≡ Some n → n ≡ v
some_is true v n e = cc
some_is false v n e = cc

version_value : (text : List ℕ) (n : ℕ) → version_of text ≡ Some n → n ≡ digits_value 10 text
version_value text n e = some_is _ (digits_value 10 text) n e

-- the seven facts, in the order of the fields
held : {g : ℕ → Option (List ℕ)} {parts : Parts} → parts.version ≡ version_held (g version_letter)
    → parts.deleted ≡ deletion_held (g deletion_letter) → AreTags (text_held (g tags_letter)) parts.tags
    → parts.lon ≡ axis_held most_lon (g lon_letter) → parts.lat ≡ axis_held most_lat (g lat_letter)
    → list_of ref_of (text_held (g refs_letter)) ≡ Good parts.refs
    → list_of member_of (text_held (g members_letter)) ≡ Good parts.members → Holds g parts
held version deleted tags lon lat refs members = record {
  version = version;
  deleted = deleted;
  tags = tags;
  lon = lon;
  lat = lat;
  refs = refs;
  members = members;
}

pub put_holds : (l : Letter) (found : ℕ → Option (List ℕ)) (text : List ℕ) (old new : Parts) → Puts l text old new
    → Holds found old → Holds (with_text found (byte_of l) text) new
put_holds Version found text old new put holds = subst (Holds (with_text found 118 text)) (sym put.1)
    (held (version_value text new.version put.0) holds.deleted holds.tags holds.lon holds.lat holds.refs holds.members)
put_holds Deletion found text old new put holds = subst (Holds (with_text found 100 text)) (sym put.1)
    (held holds.version (sym (ap flag_in put.0)) holds.tags holds.lon holds.lat holds.refs holds.members)
put_holds Tags found text old new put holds = subst (Holds (with_text found 84 text)) (sym put.1)
    (held holds.version holds.deleted put.0 holds.lon holds.lat holds.refs holds.members)
put_holds Lon found text old new put holds = subst (Holds (with_text found 120 text)) (sym put.1)
    (held holds.version holds.deleted holds.tags (sym (ap good_axis put.0)) holds.lat holds.refs holds.members)
put_holds Lat found text old new put holds = subst (Holds (with_text found 121 text)) (sym put.1)
    (held holds.version holds.deleted holds.tags holds.lon (sym (ap good_axis put.0)) holds.refs holds.members)
put_holds Refs found text old new put holds = subst (Holds (with_text found 78 text)) (sym put.1)
    (held holds.version holds.deleted holds.tags holds.lon holds.lat put.0 holds.members)
put_holds Members found text old new put holds = subst (Holds (with_text found 77 text)) (sym put.1)
    (held holds.version holds.deleted holds.tags holds.lon holds.lat holds.refs put.0)
put_holds Changeset found text old new put holds = subst (Holds (with_text found 99 text)) (sym put)
    (held holds.version holds.deleted holds.tags holds.lon holds.lat holds.refs holds.members)
put_holds Timestamp found text old new put holds = subst (Holds (with_text found 116 text)) (sym put)
    (held holds.version holds.deleted holds.tags holds.lon holds.lat holds.refs holds.members)
put_holds UserId found text old new put holds = subst (Holds (with_text found 105 text)) (sym put)
    (held holds.version holds.deleted holds.tags holds.lon holds.lat holds.refs holds.members)
put_holds User found text old new put holds = subst (Holds (with_text found 117 text)) (sym put)
    (held holds.version holds.deleted holds.tags holds.lon holds.lat holds.refs holds.members)

-- no letter changes what stood
pub put_seen : (l : Letter) (text : List ℕ) (old new : Parts) → Puts l text old new → new.seen ≡ old.seen
put_seen Version text old new put = ap (λ p. p.seen) put.1
put_seen Deletion text old new put = ap (λ p. p.seen) put.1
put_seen Tags text old new put = ap (λ p. p.seen) put.1
put_seen Lon text old new put = ap (λ p. p.seen) put.1
put_seen Lat text old new put = ap (λ p. p.seen) put.1
put_seen Refs text old new put = ap (λ p. p.seen) put.1
put_seen Members text old new put = ap (λ p. p.seen) put.1
put_seen Changeset text old new put = ap (λ p. p.seen) put
put_seen Timestamp text old new put = ap (λ p. p.seen) put
put_seen UserId text old new put = ap (λ p. p.seen) put
put_seen User text old new put = ap (λ p. p.seen) put

-- what is put is good
pub put_good : (l : Letter) (text : List ℕ) (old new : Parts) → Puts l text old new
    → contents_fault (byte_of l) text ≡ None
put_good Version text old new put = rw put.0 refl
put_good Deletion text old new put = rw put.0 refl
put_good Tags text old new put = rw put.0.read refl
put_good Lon text old new put = rw put.0 refl
put_good Lat text old new put = rw put.0 refl
put_good Refs text old new put = rw put.0 refl
put_good Members text old new put = rw put.0 refl
put_good Changeset text old new put = refl
put_good Timestamp text old new put = refl
put_good UserId text old new put = refl
put_good User text old new put = refl
