-- What a line of a session asks of what is pinned.
use Rattle.std.specs.Prelude.{ℕ, ◌^◌, List, [], ◌∷◌, Option, Some, None, if◌then◌else◌, bytes_eq, codes}
use Rattle.std.specs.Option.{option_and_then, option_map}
use Rattle.road_model.specs.declared.follower.Question.{Question}
use Rattle.road_model.specs.declared.follower.Question.TheVariants.{Graph as OfGraph, State as OfState}
use Rattle.road_model.specs.declared.follower.Question.TheVariants.{Drive as OfDrive, Reach as OfReach}
use Rattle.road_model.specs.Questions.{HasSteps}
use Rattle.opl_lexer.specs.Fields.{fields}
use Rattle.opl_lexer.specs.Numbers.{number_below}
use Rattle.drive_queries.specs.declared.messages.Asked.{Asked}
use Rattle.drive_queries.specs.declared.messages.Asked.TheVariants.{Empty, Seq, Graph, State, Drive, Reach, Unknown}
use Rattle.drive_queries.specs.Messages.{asked_of}
use Rattle.session_replies.specs.declared.pin_messages.PinMessage.{PinMessage}
use Rattle.session_replies.specs.declared.pin_messages.PinMessage.TheVariants.{Pin, Release, Ask}

-- ---- by the words behind the first one

-- the number of a reader, alone: digits, a value of 32 bits
abbrev pub reader_alone : List (List ℕ) → Option ℕ
reader_alone [] = None
reader_alone (word ∷ []) = number_below (2 ^ 32) word
reader_alone (one ∷ two ∷ more) = None

abbrev pub asked_pin : List (List ℕ) → Option PinMessage
asked_pin words = option_map (λ reader. Pin reader) (reader_alone words)

abbrev pub asked_release : List (List ℕ) → Option PinMessage
asked_release words = option_map (λ reader. Release reader) (reader_alone words)

-- the question of the same name
abbrev pub question_of : Asked → Option Question
question_of Graph = Some OfGraph
question_of State = Some OfState
question_of (Drive steps) = Some (OfDrive steps)
question_of (Reach a b) = Some (OfReach a b)
question_of Empty = None
question_of (Seq n) = None
question_of Unknown = None

-- the number of a reader, and behind it what a session is asked of the newest state by a message of these names
abbrev pub asked_reader : List (List ℕ) → Option PinMessage
asked_reader [] = None
asked_reader (word ∷ words) = option_and_then
    (λ reader. option_map (λ question. Ask reader question) (question_of (asked_of words)))
    (number_below (2 ^ 32) word)

-- ---- by the first word, and those behind it

abbrev pub pin_message_by : List ℕ → List (List ℕ) → Option PinMessage
pin_message_by name words =
    if bytes_eq name (codes "pin") then asked_pin words
    else (if bytes_eq name (codes "release") then asked_release words
    else (if bytes_eq name (codes "ask") then asked_reader words else None))

abbrev pub pin_message_of : List (List ℕ) → Option PinMessage
pin_message_of [] = None
pin_message_of (name ∷ words) = pin_message_by name words

-- what the line asks, if it is about pins; its words stand between spaces and tabs
abbrev pub pin_message : List ℕ → Option PinMessage
pin_message line = pin_message_of (fields line)

-- a drive that is asked about has a step
abbrev pub AsksQuestion : PinMessage → Type 0
AsksQuestion (Pin reader) = Unit {0}
AsksQuestion (Release reader) = Unit {0}
AsksQuestion (Ask reader question) = HasSteps question
