-- What a whole line says.
use Rattle.std.proofs.Common.{◌≡◌, ◌==◌, ◌||◌, ℕ, List, ◌∷◌, Bool, true, false, Some, None, refl, sym, ◌∙◌, subst}
use Rattle.std.specs.Prelude.{codes}
use Rattle.std.specs.List.{list_any}
use Rattle.std.specs.Str.{is_utf8, IsUtf8}
use Rattle.std.proofs.lemmas.Bool.{false_from_ne_true}
use Rattle.std.proofs.lemmas.Str.{IsUtf8-from_is_utf8, is_utf8-from_IsUtf8}
use Rattle.road_base.specs.declared.event.Event.{Event}
use Rattle.opl_lexer.specs.declared.fault.FaultKind.TheVariants.{NotUtf8, UnknownLine}
use Rattle.opl_lexer.specs.declared.mode.Mode.{Mode}
use Rattle.opl_lexer.specs.Fields.{fields}
use Rattle.opl_lexer.specs.Contents.{key_of}
use Rattle.opl_lexer.specs.Faults.{letter, is_object, is_passed_over, fault_behind, object_fault, line_fault}
use Rattle.opl_lexer.specs.Spelling.{Spells}
use Rattle.opl_objects.specs.declared.line.LineError.{LineError}
use Rattle.opl_objects.specs.declared.line.LineError.TheVariants.{Fault, NoMemory}
use Rattle.opl_objects.specs.Outcomes.{Says, Refuses}
use Rattle.opl_objects.specs.LineParts.{IsFaultAt, IsEvent}

pub fault_not_utf8 : (mode : Mode) (line : List ℕ) → ¬ (IsUtf8 line) → line_fault mode line ≡ Some (0, NotUtf8)
unfolding line_fault
fault_not_utf8 mode line never = rw (false_from_ne_true (is_utf8 line) (λ e. never (IsUtf8-from_is_utf8 line e))) refl

-- a line that is passed over
pub says_nothing : (mode : Mode) (line : List ℕ) → IsUtf8 line → is_passed_over (fields line) ≡ true
    → Says mode line None
unfolding line_fault
says_nothing mode line utf8 passed = (rw (is_utf8-from_IsUtf8 line utf8, passed) refl, passed)

pub fault_object : (mode : Mode) (line object : List ℕ) (others : List (List ℕ)) → IsUtf8 line
    → fields line ≡ object ∷ others → ((letter object == 35) || (letter object == 99)) ≡ false
    → line_fault mode line ≡ object_fault mode (object ∷ others)
unfolding line_fault
fault_object mode line object others utf8 split taken = rw (is_utf8-from_IsUtf8 line utf8, split, taken) refl

-- what is known of the first byte
pub begins_passed : (object : List ℕ) (byte : ℕ) (found test : Bool) → byte ≡ letter object
    → found ≡ ((byte == 35) || (byte == 99)) → found ≡ test → ((letter object == 35) || (letter object == 99)) ≡ test
begins_passed object byte found test here is told = subst (λ b. ((b == 35) || (b == 99)) ≡ test) here (sym is ∙ told)

pub begins_object : (object : List ℕ) (byte : ℕ) (found test : Bool) → byte ≡ letter object
    → found ≡ list_any (λ b. b == byte) (codes "nwr") → found ≡ test → is_object object ≡ test
begins_object object byte found test here is told = subst (λ x. list_any (λ b. b == x) (codes "nwr") ≡ test) here
    (sym is ∙ told)

pub fault_unknown_line : (mode : Mode) (object : List ℕ) (others : List (List ℕ)) → is_object object ≡ false
    → object_fault mode (object ∷ others) ≡ Some (1, UnknownLine)
fault_unknown_line mode object others unknown = rw unknown refl

pub fault_known_line : (mode : Mode) (object : List ℕ) (others : List (List ℕ)) → is_object object ≡ true
    → object_fault mode (object ∷ others) ≡ fault_behind mode (key_of object) others
fault_known_line mode object others known = rw known refl

pub refuses : (mode : Mode) (line : List ℕ) (error : LineError) → IsFaultAt (line_fault mode line) error
    → Refuses mode line error
refuses mode line (Fault field kind) told = told
refuses mode line NoMemory told = tt

pub spells : (mode : Mode) (line object : List ℕ) (others : List (List ℕ)) (event : Event)
    → fields line ≡ object ∷ others → ((letter object == 35) || (letter object == 99)) ≡ false
    → line_fault mode line ≡ None → key_of object ≡ Some event.key → IsEvent others event.key event
    → Spells mode line event
spells mode line object others event split taken good key is =
    record {
      good = good;
      object = object;
      others = others;
      split = split;
      taken = rw (split, taken) refl;
      key = key;
      version = is.version;
      body = is.body;
    }
