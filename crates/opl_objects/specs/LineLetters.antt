-- The letters that fields begin with, and which of them stood.
use Rattle.std.specs.Prelude.{◌≡◌, ℕ, List, Bool, false, length, count_by, slice_index_or}
use Rattle.opl_lexer.specs.Letters.{letter_c, letter_i, letter_t, letter_u}
use Rattle.opl_lexer.specs.Faults.{stands, version_letter, deletion_letter, tags_letter, lon_letter, lat_letter}
use Rattle.opl_lexer.specs.Faults.{refs_letter, members_letter}
use Rattle.opl_objects.specs.declared.letters.Letter.{Letter}
use Rattle.opl_objects.specs.declared.letters.Letter.TheVariants.{Version, Deletion, Changeset, Timestamp, UserId, User}
use Rattle.opl_objects.specs.declared.letters.Letter.TheVariants.{Tags, Lon, Lat, Refs, Members}

-- the byte that the letter is
abbrev pub byte_of : Letter → ℕ
byte_of Version = version_letter
byte_of Deletion = deletion_letter
byte_of Changeset = letter_c
byte_of Timestamp = letter_t
byte_of UserId = letter_i
byte_of User = letter_u
byte_of Tags = tags_letter
byte_of Lon = lon_letter
byte_of Lat = lat_letter
byte_of Refs = refs_letter
byte_of Members = members_letter

-- where the letter is marked
abbrev pub letter_number : Letter → ℕ
letter_number Version = 0
letter_number Deletion = 1
letter_number Changeset = 2
letter_number Timestamp = 3
letter_number UserId = 4
letter_number User = 5
letter_number Tags = 6
letter_number Lon = 7
letter_number Lat = 8
letter_number Refs = 9
letter_number Members = 10

-- the letters of these fields are marked and no others, each once
pub record AreMarked (fields : List (List ℕ)) (marks : List Bool) : Type 0 where
  pub size : length marks ≡ 11
  pub each : (letter : Letter) → slice_index_or marks (letter_number letter) false ≡ stands (byte_of letter) fields
  pub count : count_by (λ mark. mark) marks ≡ length fields
