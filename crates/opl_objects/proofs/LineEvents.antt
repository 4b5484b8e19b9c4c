-- The event that good fields make.
use Rattle.std.proofs.Common.{◌≡◌, ◌≤◌, ℕ, ℤ, pos, neg_ℤ, List, [], ◌∷◌, Bool, true, false, cond, Option, Some, None}
use Rattle.std.proofs.Common.{IsTrue, refl, sym, subst, arith}
use Rattle.std.specs.Option.{option_map, option_or, option_and_then}
use Rattle.std.specs.Prelude.{int_lt}
use Rattle.std.proofs.lemmas.Int.{ints}
use Rattle.road_base.specs.Ranges.{is_within}
use Rattle.road_base.specs.declared.ids.Key.{Key}
use Rattle.road_base.specs.declared.location.Location.{Location}
use Rattle.opl_lexer.specs.declared.fault.FaultKind.{FaultKind}
use Rattle.opl_lexer.specs.declared.fault.FaultKind.TheVariants.{BadCoordinate, NoVersion}
use Rattle.opl_lexer.specs.declared.mode.Mode.{Mode}
use Rattle.opl_lexer.specs.declared.mode.Mode.TheVariants.{Change}
use Rattle.opl_lexer.specs.Faults.{stands, version_letter, first_bad, fault_behind}
use Rattle.opl_objects.specs.declared.line.LineError.{LineError}
use Rattle.opl_objects.specs.declared.line.LineError.TheVariants.{Fault, NoMemory}
use Rattle.opl_lexer.specs.Parts.{parts}
use Rattle.opl_lexer.specs.Numbers.{magnitude, signed, up_to, units_in}
use Rattle.std.specs.Str.Parse.{starts_with_minus}
use Rattle.opl_lexer.specs.Contents.{or_fault, axis_of}
use Rattle.opl_lexer.specs.Spelling.{HasPlace}
use Rattle.opl_objects.specs.LineParts.{IsFaultAt, IsAxis, good_axis, axis_held, text_held}

pub placed : (lon lat : Option ℤ) (a b : ℤ) (l : Location) → lon ≡ Some a → lat ≡ Some b → l.lon ≡ a → l.lat ≡ b
    → HasPlace lon lat (Some l)
placed (Some x) (Some y) a b l e f p q = (l, refl, cc, cc)
placed (Some x) None a b l e f p q = cc
placed None lat a b l e f p q = cc

-- ---- the size of a coordinate

within : (m n : ℕ) (minus : Bool) → n ≤ m → IsTrue
    (is_within (neg_ℤ (pos m)) (pos m) (cond minus (neg_ℤ (pos n)) (pos n)))
within m n true low = grind (arith, ints)
within m n false low = grind (arith, ints)

up_to_range : (m n : ℕ) (above : Bool) (z : ℤ) → (above ≡ false → IsTrue (is_within (neg_ℤ (pos m)) (pos m) z))
    → IsAxis (pos m) (good_axis (or_fault BadCoordinate (option_map Some (cond above None (Some z)))))
up_to_range m n true z h = tt
up_to_range m n false z h = h refl

units_range : (m : ℕ) (bs : List ℕ) (size : Option ℕ)
    → IsAxis (pos m) (good_axis (or_fault BadCoordinate (option_map Some (option_and_then (up_to (pos m) bs) size))))
units_range m bs None = tt
units_range m bs (Some n) = up_to_range m n (int_lt (pos m) (pos n)) (signed bs n)
    (λ fits. within m n (starts_with_minus bs) (grind (arith, ints)))

axis_range : (m : ℕ) (text : List ℕ) → IsAxis (pos m) (good_axis (axis_of (pos m) text))
axis_range m [] = tt
axis_range m (b ∷ bs) = units_range m (b ∷ bs) (units_in (parts 46 (magnitude (b ∷ bs))))

pub held_range : (m : ℕ) (text : Option (List ℕ)) (axis : Option ℤ) → axis ≡ axis_held (pos m) text
    → IsAxis (pos m) axis
held_range m text axis e = subst (IsAxis (pos m)) (sym e) (axis_range m (text_held text))

-- ---- faults

pub told_first : (first second : Option (ℕ × FaultKind)) (error : LineError) → IsFaultAt first error
    → IsFaultAt (option_or first second) error
told_first (Some f) second error told = told
told_first None second (Fault field kind) told = cc
told_first None second NoMemory told = tt

pub told_version : (mode : Mode) (key : Key) (others : List (List ℕ)) → mode ≡ Change → first_bad key [] others ≡ None
    → stands version_letter others ≡ false → fault_behind mode (Some key) others ≡ Some (0, NoVersion)
told_version mode key others change good none = rw (change, good, none) refl
