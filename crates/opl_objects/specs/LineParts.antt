-- What the fields of a line that were read so far hold.
use Rattle.std.specs.Prelude.{◌≡◌, ℕ, ℤ, neg_ℤ, List, [], Option, Some, None, Bool, false, IsTrue}
use Rattle.std.specs.Str.Parse.{digits_value}
use Rattle.road_base.specs.declared.ids.Key.{Key}
use Rattle.road_base.specs.declared.event.Event.{Event}
use Rattle.road_base.specs.Ranges.{is_within}
use Rattle.opl_lexer.specs.declared.fault.FaultKind.{FaultKind}
use Rattle.opl_lexer.specs.declared.fault.LexError.{LexError}
use Rattle.opl_lexer.specs.declared.fault.LexError.TheVariants.{Kind, NoMemory as NoRoom}
use Rattle.opl_lexer.specs.Numbers.{version_of}
use Rattle.opl_lexer.specs.Contents.{Parsed, Good, Bad, list_of, ref_of, member_of, axis_of, deletion_in}
use Rattle.opl_lexer.specs.Faults.{version_letter, deletion_letter, tags_letter, lon_letter, lat_letter, refs_letter}
use Rattle.opl_lexer.specs.Faults.{members_letter, most_lon, most_lat}
use Rattle.opl_lexer.specs.Spelling.{text_behind, AreTags, version_in, is_deleted, HasBody}
use Rattle.opl_objects.specs.declared.line.LineError.{LineError}
use Rattle.opl_objects.specs.declared.line.LineError.TheVariants.{Fault, NoMemory}
use Rattle.opl_objects.specs.declared.letters.Letter.{Letter}
use Rattle.opl_objects.specs.declared.letters.Letter.TheVariants.{Version, Deletion, Changeset, Timestamp, UserId, User}
use Rattle.opl_objects.specs.declared.letters.Letter.TheVariants.{Tags, Lon, Lat, Refs, Members}
use Rattle.opl_objects.specs.declared.parts.Parts.{Parts}
use Rattle.opl_objects.specs.LineLetters.{AreMarked}

-- ---- faults

-- the field is in fault so, or memory ended
abbrev pub IsFault : Option FaultKind → LexError → Type 0
IsFault fault (Kind kind) = fault ≡ Some kind
IsFault fault NoRoom = Unit {0}

-- this is the first fault, or memory ended
abbrev pub IsFaultAt : Option (ℕ × FaultKind) → LineError → Type 0
IsFaultAt fault (Fault field kind) = fault ≡ Some (field, kind)
IsFaultAt fault NoMemory = Unit {0}

-- ---- what stands behind a letter, if a field has it

abbrev pub version_held : Option (List ℕ) → ℕ
version_held None = 0
version_held (Some digits) = digits_value 10 digits

abbrev pub flag_in : Parsed Bool → Bool
flag_in (Good deleted) = deleted
flag_in (Bad kind) = false

abbrev pub deletion_held : Option (List ℕ) → Bool
deletion_held None = false
deletion_held (Some flag) = flag_in (deletion_in flag)

abbrev pub text_held : Option (List ℕ) → List ℕ
text_held None = []
text_held (Some text) = text

abbrev pub good_axis : Parsed (Option ℤ) → Option ℤ
good_axis (Good axis) = axis
good_axis (Bad kind) = None

abbrev pub axis_held : ℤ → Option (List ℕ) → Option ℤ
axis_held most text = good_axis (axis_of most (text_held text))

-- the coordinate's size is at most this, if there is one
abbrev pub IsAxis : ℤ → Option ℤ → Type 0
IsAxis most None = Unit {0}
IsAxis most (Some units) = IsTrue (is_within (neg_ℤ most) most units)

-- ---- parts

-- the parts are what stands behind each letter
pub record Holds (found : ℕ → Option (List ℕ)) (parts : Parts) : Type 0 where
  pub version : parts.version ≡ version_held (found version_letter)
  pub deleted : parts.deleted ≡ deletion_held (found deletion_letter)
  pub tags : AreTags (text_held (found tags_letter)) parts.tags
  pub lon : parts.lon ≡ axis_held most_lon (found lon_letter)
  pub lat : parts.lat ≡ axis_held most_lat (found lat_letter)
  pub refs : list_of ref_of (text_held (found refs_letter)) ≡ Good parts.refs
  pub members : list_of member_of (text_held (found members_letter)) ≡ Good parts.members

-- these fields are good, and the parts are what they hold
pub record AreRead (fields : List (List ℕ)) (parts : Parts) : Type 0 where
  pub holds : Holds (λ b. text_behind b fields) parts
  pub marked : AreMarked fields parts.seen.marks

-- the one part that a field with this letter holds has changed
abbrev pub Puts : Letter → List ℕ → Parts → Parts → Type 0
Puts Version text old new = (version_of text ≡ Some new.version) × (new ≡ record old { version = new.version })
Puts Deletion text old new = (deletion_in text ≡ Good new.deleted) × (new ≡ record old { deleted = new.deleted })
Puts Tags text old new = AreTags text new.tags × (new ≡ record old { tags = new.tags })
Puts Lon text old new = (axis_of most_lon text ≡ Good new.lon) × (new ≡ record old { lon = new.lon })
Puts Lat text old new = (axis_of most_lat text ≡ Good new.lat) × (new ≡ record old { lat = new.lat })
Puts Refs text old new = (list_of ref_of text ≡ Good new.refs) × (new ≡ record old { refs = new.refs })
Puts Members text old new = (list_of member_of text ≡ Good new.members) × (new ≡ record old { members = new.members })
Puts Changeset text old new = new ≡ old
Puts Timestamp text old new = new ≡ old
Puts UserId text old new = new ≡ old
Puts User text old new = new ≡ old

-- the event of an object with these other fields
pub record IsEvent (others : List (List ℕ)) (key : Key) (event : Event) : Type 0 where
  pub same : event.key ≡ key
  pub version : event.version ≡ version_in others
  pub body : HasBody (is_deleted others) others key event.body
