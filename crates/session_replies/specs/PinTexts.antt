-- The replies to messages about pins as bytes, each with its newline.
use Rattle.std.specs.Prelude.{◌++◌, ℕ, List, [], ◌∷◌, Option, Some, None, codes}
use Rattle.std.specs.Fmt.{decimal}
use Rattle.opl_lexer.specs.Letters.{newline}
use Rattle.pinned_readers.specs.PinnedRuns.{PinAnswer, Busy, Full, Pinned}

-- `pinned K sequence N`
abbrev pub pinned_line : ℕ → ℕ → List ℕ
pinned_line reader number =
    codes "pinned " ++ (decimal reader ++ (codes " sequence " ++ (decimal number ++ newline ∷ [])))

-- `pin K busy`
abbrev pub busy_line : ℕ → List ℕ
busy_line reader = codes "pin " ++ (decimal reader ++ (codes " busy" ++ newline ∷ []))

-- `pins full`
abbrev pub full_line : List ℕ
full_line = codes "pins full" ++ newline ∷ []

-- `released K`
abbrev pub released_line : ℕ → List ℕ
released_line reader = codes "released " ++ (decimal reader ++ newline ∷ [])

-- `no pin K`
abbrev pub no_pin_line : ℕ → List ℕ
no_pin_line reader = codes "no pin " ++ (decimal reader ++ newline ∷ [])

-- ---- by what the rule of pinned readers answers

abbrev pub pin_line : ℕ → PinAnswer → List ℕ
pin_line reader Busy = busy_line reader
pin_line reader Full = full_line
pin_line reader (Pinned number) = pinned_line reader number

abbrev pub release_line : ℕ → Option ℕ → List ℕ
release_line reader None = no_pin_line reader
release_line reader (Some number) = released_line reader

abbrev pub ask_line : ℕ → Option (List ℕ) → List ℕ
ask_line reader None = no_pin_line reader
ask_line reader (Some out) = out
