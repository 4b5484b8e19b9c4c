-- Which field of a line is in fault, and with what fault. (OPL File Format Manual.)
use Rattle.std.specs.Prelude.{◌+◌, ◌==◌, ◌||◌, ℕ, ℤ, pos, List, [], ◌∷◌, ◌++◌, Bool, true, cond, length, drop}
use Rattle.std.specs.Prelude.{slice_index, Option, Some, None, codes}
use Rattle.std.specs.Option.{option_map, option_or}
use Rattle.std.specs.List.{list_any}
use Rattle.std.specs.Str.{is_utf8}
use Rattle.road_base.specs.declared.ids.Key.{Key}
use Rattle.road_base.specs.declared.ids.Key.TheVariants.{Node as NodeKey, Way as WayKey, Relation as RelationKey}
use Rattle.opl_lexer.specs.Letters.{hash_sign, letter_c}
use Rattle.opl_lexer.specs.declared.fault.FaultKind.{FaultKind}
use Rattle.opl_lexer.specs.declared.fault.FaultKind.TheVariants.{NotUtf8, UnknownLine, UnknownField, Repeated}
use Rattle.opl_lexer.specs.declared.fault.FaultKind.TheVariants.{BadNumber, NoVersion}
use Rattle.opl_lexer.specs.declared.mode.Mode.{Mode}
use Rattle.opl_lexer.specs.declared.mode.Mode.TheVariants.{Extract, Change}
use Rattle.opl_lexer.specs.Fields.{fields}
use Rattle.opl_lexer.specs.Numbers.{version_of}
use Rattle.opl_lexer.specs.Contents.{or_fault, fault_in, list_of, tag_of, ref_of, member_of, key_of, axis_of}
use Rattle.opl_lexer.specs.Contents.{deletion_in}

-- ---- the letters of fields

abbrev pub version_letter : ℕ
version_letter = 118  -- v

abbrev pub deletion_letter : ℕ
deletion_letter = 100  -- d

abbrev pub tags_letter : ℕ
tags_letter = 84  -- T

abbrev pub lon_letter : ℕ
lon_letter = 120  -- x

abbrev pub lat_letter : ℕ
lat_letter = 121  -- y

abbrev pub refs_letter : ℕ
refs_letter = 78  -- N

abbrev pub members_letter : ℕ
members_letter = 77  -- M

-- the letters that an object's fields may have; what stands behind c, t, i and u isn't looked at
abbrev pub letters_of : Key → List ℕ
letters_of (NodeKey n) = codes "vdctiuTxy"
letters_of (WayKey w) = codes "vdctiuTN"
letters_of (RelationKey r) = codes "vdctiuTM"

-- the first byte of a field
abbrev pub letter : List ℕ → ℕ
letter field = slice_index field 0

abbrev pub is_known : Key → List ℕ → Bool
is_known key field = list_any (λ b. b == letter field) (letters_of key)

-- a field with this letter stands among these
abbrev pub stands : ℕ → List (List ℕ) → Bool
stands b others = list_any (λ f. letter f == b) others

-- ---- one field

-- 180 and 90 degrees
abbrev pub most_lon : ℤ
most_lon = pos 1800000000

abbrev pub most_lat : ℤ
most_lat = pos 900000000

-- the first fault of what stands behind the letter
abbrev pub contents_fault : ℕ → List ℕ → Option FaultKind
contents_fault b contents =
    cond (b == version_letter) (fault_in (or_fault BadNumber (version_of contents)))
    (cond (b == deletion_letter) (fault_in (deletion_in contents))
    (cond (b == tags_letter) (fault_in (list_of tag_of contents))
    (cond (b == lon_letter) (fault_in (axis_of most_lon contents))
    (cond (b == lat_letter) (fault_in (axis_of most_lat contents))
    (cond (b == refs_letter) (fault_in (list_of ref_of contents))
    (cond (b == members_letter) (fault_in (list_of member_of contents)) None))))))

-- an unknown letter comes first, then one that stood before, then the contents
unfoldable pub field_fault : Key → List (List ℕ) → List ℕ → Option FaultKind
field_fault key earlier field =
    cond (is_known key field)
    (cond (stands (letter field) earlier) (Some Repeated) (contents_fault (letter field) (drop 1 field)))
    (Some UnknownField)

-- ---- one line

-- a field's number, with its fault
abbrev pub at_field : ℕ → Option FaultKind → Option (ℕ × FaultKind)
at_field k fault = option_map (λ kind. (k, kind)) fault

-- The first of these fields that is in fault, by its number in the line: the object's own field is 1, and the others
-- that stand before these are `earlier`.
unfoldable pub first_bad : Key → List (List ℕ) → List (List ℕ) → Option (ℕ × FaultKind)
first_bad key earlier [] = None
first_bad key earlier (field ∷ others) = option_or (at_field (length earlier + 2) (field_fault key earlier field))
    (first_bad key (earlier ++ field ∷ []) others)

-- a change's line has a version
abbrev pub version_fault : Mode → List (List ℕ) → Option (ℕ × FaultKind)
version_fault Extract others = None
version_fault Change others = cond (stands version_letter others) None (Some (0, NoVersion))

-- a line without a field, a note, and a changeset are passed over
abbrev pub is_passed_over : List (List ℕ) → Bool
is_passed_over [] = true
is_passed_over (object ∷ others) = (letter object == hash_sign) || (letter object == letter_c)

-- `n`, `w` or `r`
abbrev pub is_object : List ℕ → Bool
is_object field = list_any (λ b. b == letter field) (codes "nwr")

abbrev pub fault_behind : Mode → Option Key → List (List ℕ) → Option (ℕ × FaultKind)
fault_behind mode None others = Some (1, BadNumber)
fault_behind mode (Some key) others = option_or (first_bad key [] others) (version_fault mode others)

abbrev pub object_fault : Mode → List (List ℕ) → Option (ℕ × FaultKind)
object_fault mode [] = None
object_fault mode (object ∷ others) = cond (is_object object) (fault_behind mode (key_of object) others)
    (Some (1, UnknownLine))

-- The first fault of a line, and the number of its field; 0 stands for the whole line.
unfoldable pub line_fault : Mode → List ℕ → Option (ℕ × FaultKind)
line_fault mode line =
    cond (is_utf8 line)
    (cond (is_passed_over (fields line)) None (object_fault mode (fields line)))
    (Some (0, NotUtf8))
