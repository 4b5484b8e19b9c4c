-- What the contents of a field hold, or which fault stands first in them. (OPL File Format Manual.)
use Rattle.std.specs.Prelude.{◌==◌, ◌||◌, ◌&&◌, nat_lt, ℕ, ℤ, List, [], ◌∷◌, Bool, true, false, cond, length, take}
use Rattle.std.specs.Prelude.{drop, slice_index, Option, Some, None}
use Rattle.std.specs.Option.{option_map}
use Rattle.std.specs.List.{list_all, before_first, after_first}
use Rattle.road_base.specs.declared.ids.NodeId.{NodeId}
use Rattle.road_base.specs.declared.ids.Key.{Key}
use Rattle.road_base.specs.declared.ids.Key.TheVariants.{Node as NodeKey, Way as WayKey, Relation as RelationKey}
use Rattle.road_base.specs.declared.objects.Member.{Member}
use Rattle.opl_lexer.specs.Letters.{comma, equals_sign, point, minus_sign, at_sign, letter_n, letter_w, letter_r}
use Rattle.opl_lexer.specs.Letters.{letter_x, letter_y, letter_V, letter_D}
use Rattle.opl_lexer.specs.declared.fault.FaultKind.{FaultKind}
use Rattle.opl_lexer.specs.declared.fault.FaultKind.TheVariants.{BadEscape, BadTag, BadMember, BadRef, TooMany}
use Rattle.opl_lexer.specs.declared.fault.FaultKind.TheVariants.{BadCoordinate, BadFlag}
use Rattle.opl_lexer.specs.Parts.{parts}
use Rattle.opl_lexer.specs.Numbers.{whole_of, coordinate_of, is_digit}
use Rattle.opl_lexer.specs.Escapes.{unescaped}

-- what a text holds, or the kind of its first fault
pub data Parsed (A : Type 0) : Type 0 where
  Good : A → Parsed A
  Bad : FaultKind → Parsed A

abbrev pub or_fault : {A : Type 0} → FaultKind → Option A → Parsed A
or_fault kind None = Bad kind
or_fault kind (Some value) = Good value

abbrev pub fault_in : {A : Type 0} → Parsed A → Option FaultKind
fault_in (Good value) = None
fault_in (Bad kind) = Some kind

-- the first value, and the second where the first is good
abbrev pub both : {A B : Type 0} → Parsed A → Parsed B → Parsed (A × B)
both (Good a) (Good b) = Good (a, b)
both (Good a) (Bad kind) = Bad kind
both (Bad kind) other = Bad kind

-- a fault of this kind stands behind the value
abbrev pub but_bad : {A B : Type 0} → Parsed A → FaultKind → Parsed B
but_bad (Good a) kind = Bad kind
but_bad (Bad earlier) kind = Bad earlier

-- ---- lists

-- what commas join; nothing joined is no item
abbrev pub items : List ℕ → List (List ℕ)
items [] = []
items (b ∷ bs) = parts comma (b ∷ bs)

abbrev pub put_before : {A : Type 0} → Parsed A → Parsed (List A) → Parsed (List A)
put_before (Good value) (Good values) = Good (value ∷ values)
put_before (Good value) (Bad kind) = Bad kind
put_before (Bad kind) others = Bad kind

-- what all of the texts hold, or the first fault
abbrev pub all_of : {A : Type 0} → (List ℕ → Parsed A) → List (List ℕ) → Parsed (List A)
all_of read [] = Good []
all_of read (text ∷ texts) = put_before (read text) (all_of read texts)

-- and then no text more
abbrev pub and_no_more : {A : Type 0} → Bool → Parsed A → Parsed A
and_no_more more (Good value) = cond more (Bad TooMany) (Good value)
and_no_more more (Bad kind) = Bad kind

-- at most 65,535 items; the next one is in fault where it begins
abbrev pub list_of : {A : Type 0} → (List ℕ → Parsed A) → List ℕ → Parsed (List A)
list_of read contents = and_no_more (nat_lt 65535 (length (items contents))) (all_of read (take 65535 (items contents)))

-- ---- items

-- a key, a value or a role, with its escapes read
abbrev pub text_of : List ℕ → Parsed (List ℕ)
text_of text = or_fault BadEscape (unescaped text)

-- by the parts between equals signs: a key and a value; a missing sign stands at the item's end
abbrev pub tag_in : List (List ℕ) → Parsed (List ℕ × List ℕ)
tag_in [] = Bad BadTag
tag_in (key ∷ []) = but_bad (text_of key) BadTag
tag_in (key ∷ value ∷ []) = both (text_of key) (text_of value)
tag_in (key ∷ value ∷ more ∷ others) = but_bad (both (text_of key) (text_of value)) BadTag

abbrev pub tag_of : List ℕ → Parsed (List ℕ × List ℕ)
tag_of item = tag_in (parts equals_sign item)

-- a digit, a point or a minus sign
abbrev pub is_run_byte : ℕ → Bool
is_run_byte b = is_digit b || ((b == point) || (b == minus_sign))

-- digits, points and minus signs, if any
abbrev pub is_run : List ℕ → Bool
is_run text = list_all is_run_byte text

-- behind an `x`: a run, `y`, and a run
abbrev pub is_place : List (List ℕ) → Bool
is_place [] = false
is_place (x ∷ []) = false
is_place (x ∷ y ∷ []) = is_run x && is_run y
is_place (x ∷ y ∷ more ∷ others) = false

-- by the parts between `x`: a number, and maybe a place that is passed over
abbrev pub number_in : List (List ℕ) → Option ℤ
number_in [] = None
number_in (number ∷ []) = whole_of number
number_in (number ∷ place ∷ []) = cond (is_place (parts letter_y place)) (whole_of number) None
number_in (number ∷ place ∷ more ∷ others) = None

-- `n` and a node's number
abbrev pub ref_of : List ℕ → Parsed NodeId
ref_of item = or_fault BadRef (cond (slice_index item 0 == letter_n)
    (option_map (λ z. record { 0 = z }) (number_in (parts letter_x (drop 1 item)))) None)

abbrev pub node_key : ℤ → Key
node_key z = NodeKey (record { 0 = z })

abbrev pub way_key : ℤ → Key
way_key z = WayKey (record { 0 = z })

abbrev pub relation_key : ℤ → Key
relation_key z = RelationKey (record { 0 = z })

-- `n`, `w` or `r` and a number: an object's key
abbrev pub key_of : List ℕ → Option Key
key_of text =
    cond (slice_index text 0 == letter_n) (option_map node_key (whole_of (drop 1 text)))
    (cond (slice_index text 0 == letter_w) (option_map way_key (whole_of (drop 1 text)))
    (cond (slice_index text 0 == letter_r) (option_map relation_key (whole_of (drop 1 text))) None))

abbrev pub member_with : Option Key → Parsed (List ℕ) → Parsed Member
member_with None role = Bad BadMember
member_with (Some key) (Good role) = Good (record { item = key; role = role })
member_with (Some key) (Bad kind) = Bad kind

abbrev pub is_at_sign : ℕ → Bool
is_at_sign b = b == at_sign

-- a key, `@`, and a role, which may hold an `@` too
abbrev pub member_of : List ℕ → Parsed Member
member_of item = cond (nat_lt (length (before_first is_at_sign item)) (length item))
    (member_with (key_of (before_first is_at_sign item)) (text_of (after_first is_at_sign item))) (Bad BadMember)

-- ---- single values

-- a coordinate of at most this size, or nothing
abbrev pub axis_of : ℤ → List ℕ → Parsed (Option ℤ)
axis_of limit [] = Good None
axis_of limit (b ∷ bs) = or_fault BadCoordinate (option_map Some (coordinate_of limit (b ∷ bs)))

-- `V` or `D` alone: whether the object is deleted
abbrev pub deletion_in : List ℕ → Parsed Bool
deletion_in [] = Bad BadFlag
deletion_in (b ∷ []) = cond (b == letter_V) (Good false) (cond (b == letter_D) (Good true) (Bad BadFlag))
deletion_in (b ∷ c ∷ cs) = Bad BadFlag
