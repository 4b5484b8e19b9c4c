-- What a line of a session asks, where it stands outside a frame.
use Rattle.std.specs.Prelude.{◌≢◌, ◌==◌, ◌-◌, ◌^◌, ℕ, ℤ, List, [], ◌∷◌, Option, Some, None, cond, if◌then◌else◌}
use Rattle.std.specs.Prelude.{length, take, slice_get, bytes_eq, codes}
use Rattle.std.specs.Option.{option_and_then, option_map}
use Rattle.road_base.specs.declared.ids.Dir.{Dir}
use Rattle.road_base.specs.declared.ids.Dir.TheVariants.{Forward, Backward}
use Rattle.road_base.specs.declared.ids.Step.{Step}
use Rattle.opl_lexer.specs.Letters.{letter_w, minus_sign, plus_sign, point}
use Rattle.opl_lexer.specs.Parts.{parts}
use Rattle.opl_lexer.specs.Numbers.{number_below, whole_of}
use Rattle.opl_lexer.specs.Fields.{fields}
use Rattle.drive_queries.specs.declared.messages.Asked.{Asked}
use Rattle.drive_queries.specs.declared.messages.Asked.TheVariants.{Empty, Seq, Graph, State, Drive, Reach, Unknown}

-- ---- steps

-- the sign behind a step
abbrev pub dir_of : ℕ → Option Dir
dir_of c = cond (c == plus_sign) (Some Forward) (cond (c == minus_sign) (Some Backward) None)

-- by the parts between points: the way's number, and the position in digits, a value of 32 bits
abbrev pub step_along : Dir → List (List ℕ) → Option Step
step_along dir [] = None
step_along dir (one ∷ []) = None
step_along dir (way ∷ index ∷ []) = option_and_then (λ w. option_map
    (λ i. record { way = record { 0 = w }; index = i; dir = dir }) (number_below (2 ^ 32) index)) (whole_of way)
step_along dir (one ∷ two ∷ three ∷ more) = None

-- what stands behind the letter of a step: the last byte is its sign
abbrev pub signed_step : List ℕ → Option Step
signed_step rest = option_and_then
    (λ dir. step_along dir (parts point (take (length rest - 1) rest)))
    (option_and_then dir_of (slice_get rest (length rest - 1)))

-- `wW.I+` or `wW.I-`: the step on way W between the positions I and I + 1 of its line
abbrev pub step_of : List ℕ → Option Step
step_of [] = None
step_of (c ∷ rest) = cond (c == letter_w) (signed_step rest) None

-- the steps that the words are, if all of them are steps
abbrev pub steps_of : List (List ℕ) → Option (List Step)
steps_of [] = Some []
steps_of (word ∷ words) = option_and_then (λ s. option_map (λ rest. s ∷ rest) (steps_of words)) (step_of word)

-- ---- messages, by the words behind the first one

abbrev pub frame_of : Option ℕ → Asked
frame_of None = Unknown
frame_of (Some n) = Seq (record { 0 = n })

-- the number of a frame: digits, a value of 64 bits
abbrev pub asked_frame : List (List ℕ) → Asked
asked_frame [] = Unknown
asked_frame (word ∷ []) = frame_of (number_below (2 ^ 64) word)
asked_frame (one ∷ two ∷ more) = Unknown

-- a message of one word alone
abbrev pub asked_alone : Asked → List (List ℕ) → Asked
asked_alone message [] = message
asked_alone message (one ∷ more) = Unknown

abbrev pub drive_of : Option (List Step) → Asked
drive_of None = Unknown
drive_of (Some steps) = Drive steps

-- one step at least
abbrev pub asked_drive : List (List ℕ) → Asked
asked_drive [] = Unknown
asked_drive (word ∷ words) = drive_of (steps_of (word ∷ words))

abbrev pub reach_of : Option ℤ → Option ℤ → Asked
reach_of None to = Unknown
reach_of (Some from) None = Unknown
reach_of (Some from) (Some to) = Reach (record { 0 = from }) (record { 0 = to })

-- two numbers of nodes
abbrev pub asked_reach : List (List ℕ) → Asked
asked_reach [] = Unknown
asked_reach (one ∷ []) = Unknown
asked_reach (a ∷ b ∷ []) = reach_of (whole_of a) (whole_of b)
asked_reach (one ∷ two ∷ three ∷ more) = Unknown

abbrev pub asked_by : List ℕ → List (List ℕ) → Asked
asked_by name words =
    if bytes_eq name (codes "#seq") then asked_frame words
    else (if bytes_eq name (codes "graph") then asked_alone Graph words
    else (if bytes_eq name (codes "state") then asked_alone State words
    else (if bytes_eq name (codes "drive") then asked_drive words
    else (if bytes_eq name (codes "reach") then asked_reach words else Unknown))))

abbrev pub asked_of : List (List ℕ) → Asked
asked_of [] = Empty
asked_of (name ∷ words) = asked_by name words

-- what the line asks: its words stand between spaces and tabs
abbrev pub asked : List ℕ → Asked
asked line = asked_of (fields line)

-- a drive that is asked about has a step
abbrev pub AsksSteps : Asked → Type 0
AsksSteps Empty = Unit {0}
AsksSteps (Seq n) = Unit {0}
AsksSteps Graph = Unit {0}
AsksSteps State = Unit {0}
AsksSteps (Drive d) = d ≢ []
AsksSteps (Reach a b) = Unit {0}
AsksSteps Unknown = Unit {0}
