-- A field more, in a line that is good so far.
use Rattle.std.proofs.Common.{◌≡◌, ◌==◌, ◌+◌, ℕ, List, [], ◌∷◌, ◌++◌, Bool, true, false, drop, length, set, Option}
use Rattle.std.proofs.Common.{Some, None, refl, sym, ap, ◌∙◌, subst, append_assoc, append-nil, length-append, arith}
use Rattle.std.specs.List.{list_any}
use Rattle.road_base.specs.declared.ids.Key.{Key}
use Rattle.opl_lexer.specs.declared.fault.FaultKind.{FaultKind}
use Rattle.opl_lexer.specs.declared.fault.FaultKind.TheVariants.{UnknownField, Repeated}
use Rattle.opl_lexer.specs.Faults.{letter, letters_of, stands, is_known, contents_fault, field_fault, at_field}
use Rattle.opl_lexer.specs.Faults.{first_bad}
use Rattle.opl_lexer.specs.Spelling.{text_behind}
use Rattle.opl_lexer.specs.declared.fault.LexError.{LexError}
use Rattle.opl_lexer.specs.declared.fault.LexError.TheVariants.{Kind, NoMemory as NoRoom}
use Rattle.opl_objects.specs.declared.line.LineError.{LineError}
use Rattle.opl_objects.specs.declared.line.LineError.TheVariants.{Fault, NoMemory}
use Rattle.opl_objects.specs.declared.letters.Letter.{Letter}
use Rattle.opl_objects.specs.declared.letters.Seen.{Seen}
use Rattle.opl_objects.specs.declared.parts.Parts.{Parts}
use Rattle.opl_objects.specs.LineLetters.{byte_of, letter_number, AreMarked}
use Rattle.opl_objects.specs.LineParts.{IsFault, IsFaultAt, Holds, AreRead, Puts}
use Rattle.opl_objects.proofs.LineMarks.{marked_more}
use Rattle.opl_objects.proofs.LineHolds.{with_text, held_more, holds_same, put_holds, put_seen}

pub fault_unknown : (key : Key) (fields : List (List ℕ)) (field : List ℕ) → is_known key field ≡ false
    → field_fault key fields field ≡ Some UnknownField
unfolding field_fault
fault_unknown key fields field unknown = rw unknown refl

pub fault_repeated : (key : Key) (fields : List (List ℕ)) (field : List ℕ) → is_known key field ≡ true
    → stands (letter field) fields ≡ true → field_fault key fields field ≡ Some Repeated
unfolding field_fault
fault_repeated key fields field known stood = rw (known, stood) refl

pub fault_contents : (key : Key) (fields : List (List ℕ)) (field : List ℕ) → is_known key field ≡ true
    → stands (letter field) fields ≡ false → field_fault key fields field ≡ contents_fault (letter field) (drop 1 field)
unfolding field_fault
fault_contents key fields field known new = rw (known, new) refl

-- the first of some fields is good, or in fault
pub bad_behind : (key : Key) (earlier : List (List ℕ)) (field : List ℕ) (others : List (List ℕ))
    → field_fault key earlier field ≡ None → first_bad key earlier (field ∷ others)
    ≡ first_bad key (earlier ++ field ∷ []) others
unfolding first_bad
bad_behind key earlier field others good = rw good refl

pub bad_first : (key : Key) (earlier : List (List ℕ)) (field : List ℕ) (others : List (List ℕ)) (kind : FaultKind)
    → field_fault key earlier field ≡ Some kind
    → first_bad key earlier (field ∷ others) ≡ Some (length earlier + 2, kind)
unfolding first_bad
bad_first key earlier field others kind bad = rw bad refl

pub bad_none : (key : Key) (earlier : List (List ℕ)) → first_bad key earlier [] ≡ None
unfolding first_bad
bad_none key earlier = refl

-- the letter that was found is one of the object's
pub known_letter : (key : Key) (field : List ℕ) (byte : ℕ) (found : Bool) → byte ≡ letter field
    → found ≡ list_any (λ b. b == byte) (letters_of key) → is_known key field ≡ found
known_letter key field byte found same known = subst (λ x. list_any (λ b. b == x) (letters_of key) ≡ found) same
    (sym known)

-- a good field is read
pub read_more : (l : Letter) (fields : List (List ℕ)) (field text : List ℕ) (old new : Parts) (seen : Seen)
    → AreRead fields old → letter field ≡ byte_of l → stands (byte_of l) fields ≡ false
    → seen.marks ≡ set old.seen.marks (letter_number l) true
    → text ≡ drop 1 field → Puts l text (record old { seen = seen }) new → AreRead (fields ++ field ∷ []) new
read_more l fields field text old new seen read here fresh mark behind put =
    let found : ℕ → Option (List ℕ) = λ b. text_behind b fields in
    let marked : Parts = record old { seen = seen } in
    let before : Holds found marked = record {
      version = read.holds.version;
      deleted = read.holds.deleted;
      tags
          = read.holds.tags;
      lon = read.holds.lon;
      lat = read.holds.lat;
      refs = read.holds.refs;
      members
          = read.holds.members;
    } in
    let after = put_holds l found text marked new put before in
    let held_now : (c : ℕ) → with_text found (byte_of l) text c
    ≡ text_behind c (fields ++ field ∷ []) = subst
    (λ t. (c : ℕ) → with_text found (byte_of l) t c ≡ text_behind c (fields ++ field ∷ [])) (sym behind)
    (held_more fields field (byte_of l) here fresh) in
    let marks : new.seen.marks ≡ set old.seen.marks (letter_number l) true = ap (λ s. s.marks)
    (put_seen l text marked new put) ∙ mark in
    record {
      holds = holds_same (with_text found (byte_of l) text) (λ b. text_behind b (fields ++ field ∷ [])) new held_now
          after;
      marked = subst (AreMarked (fields ++ field ∷ [])) (sym marks)
          (marked_more l old.seen.marks fields field read.marked here (read.marked.each l ∙ fresh));
    }

-- what a letter that is known and new brings
pub fault_put : (l : Letter) (key : Key) (fields : List (List ℕ)) (field text : List ℕ) → is_known key field ≡ true
    → letter field ≡ byte_of l → stands (byte_of l) fields ≡ false → text ≡ drop 1 field
    → contents_fault (byte_of l) text ≡ field_fault key fields field
fault_put l key fields field text known here fresh behind =
    let new : stands (letter field) fields ≡ false = subst (λ b. stands b fields ≡ false) (sym here) fresh in
    subst (λ t. contents_fault (byte_of l) t ≡ field_fault key fields field) (sym behind)
    (subst (λ b. contents_fault b (drop 1 field) ≡ field_fault key fields field) here
    (sym (fault_contents key fields field known new)))

-- ---- the fields of a line

-- the first of these fields are good and read, and these are left
pub record IsReadTo (key : Key) (fields left : List (List ℕ)) (number : ℕ) (parts : Parts) : Type 0 where
  pub earlier : List (List ℕ)
  pub split : fields ≡ earlier ++ left
  pub bad : first_bad key [] fields ≡ first_bad key earlier left
  pub count : number ≡ length earlier + 2
  pub read : AreRead earlier parts

pub to_more : (key : Key) (fields left rest : List (List ℕ)) (field : List ℕ) (number : ℕ) (old new : Parts)
    → IsReadTo key fields left number old → left ≡ field ∷ rest
    → ((earlier : List (List ℕ)) → AreRead earlier old → field_fault key earlier field ≡ None)
    → ((earlier : List (List ℕ)) → AreRead earlier old → AreRead (earlier ++ field ∷ []) new)
    → IsReadTo key fields rest (number + 1) new
to_more key fields left rest field number old new to here good read =
    let count = to.count in
    let behind = bad_behind key to.earlier field rest (good to.earlier to.read) in
    record {
      earlier = to.earlier ++ field ∷ [];
      split = to.split ∙ (ap (λ xs. to.earlier ++ xs) here ∙ sym (append_assoc to.earlier (field ∷ []) rest));
      bad = to.bad ∙ (ap (first_bad key to.earlier) here ∙ behind);
      count = omega (arith, length-append to.earlier (field ∷ []));
      read = read to.earlier to.read;
    }

pub to_all : (key : Key) (fields left : List (List ℕ)) (number : ℕ) (parts : Parts)
    → IsReadTo key fields left number parts → left ≡ [] → (first_bad key [] fields ≡ None) × AreRead fields parts
to_all key fields left number parts to end =
    let all : fields ≡ to.earlier = to.split ∙ (ap (λ xs. to.earlier ++ xs) end ∙ append-nil to.earlier) in (
      to.bad ∙ (ap (first_bad key to.earlier) end ∙ bad_none key to.earlier),
      subst (λ fs. AreRead fs parts) (sym all)
          to.read,
    )

never_some : (x : ℕ × FaultKind) → None ≡ Some x → ⊥
never_some x e = cc

-- a field that is in fault, or memory ended
fault_told : (fault : Option (ℕ × FaultKind)) (field : Option FaultKind) (number : ℕ) (error : LexError)
    (result : LineError)
    → ((kind : FaultKind) → field ≡ Some kind → fault ≡ Some (number, kind)) → IsFault field error
    → ((f : Option FaultKind) → IsFault f error → IsFaultAt (at_field number f) result) → IsFaultAt fault result
fault_told fault field number (Kind kind) result first is told = subst (λ f. IsFaultAt f result) (sym (first kind is))
    (told (Some kind) refl)
fault_told fault field number NoRoom (Fault k kind) first is told = absurd (never_some (k, kind) (told None tt))
fault_told fault field number NoRoom NoMemory first is told = tt

pub to_fault : (key : Key) (fields left rest : List (List ℕ)) (field : List ℕ) (number : ℕ) (parts : Parts)
    (error : LexError) (result : LineError) → IsReadTo key fields left number parts → left ≡ field ∷ rest
    → ((earlier : List (List ℕ)) → AreRead earlier parts → IsFault (field_fault key earlier field) error)
    → ((f : Option FaultKind) → IsFault f error → IsFaultAt (at_field number f) result)
    → IsFaultAt (first_bad key [] fields) result
to_fault key fields left rest field number parts error result to here fault told =
    fault_told (first_bad key [] fields) (field_fault key to.earlier field) number error result
    (λ kind e. to.bad ∙ (ap (first_bad key to.earlier) here
    ∙ (bad_first key to.earlier field rest kind e ∙ ap (λ k. Some (k, kind)) (sym to.count))))
    (fault to.earlier to.read) told
