-- What the words of a run ask.
use Rattle.std.specs.Prelude.{ℕ, List, [], ◌∷◌, Option, Some, None, Bool, false, cond, ◌&&◌, not, ◌==◌, nat_lt}
use Rattle.std.specs.Prelude.{bytes_eq, codes, if◌then◌else◌, ◌^◌, ◌-◌}
use Rattle.std.specs.Option.{option_and_then, option_map}
use Rattle.opl_lexer.specs.Letters.{minus_sign}
use Rattle.moment_rules.specs.MomentTexts.{moment_of}
use Rattle.opl_lexer.specs.Numbers.{number_below}
use Rattle.road_base.specs.Profiles.{IsProfile}
use Rattle.osmroad.specs.declared.command.BaseProfile.TheVariants.{Kept, Raised}
use Rattle.osmroad.specs.declared.command.Command.{Command}
use Rattle.osmroad.specs.declared.command.Command.TheVariants.{Compile, Inspect, Sample, Create, Apply}
use Rattle.osmroad.specs.declared.command.Command.TheVariants.{Graph, Audit, Checkpoint}
use Rattle.osmroad.specs.declared.command.Request.{Request}
use Rattle.osmroad.specs.declared.command.Request.TheVariants.{Session, Command as CommandRequest}

-- a store's name isn't empty, and doesn't begin with `-`
abbrev pub is_store : List ℕ → Bool
is_store [] = false
is_store (c ∷ cs) = not (c == minus_sign)

-- a number is one digit or more, a value of 64 bits
abbrev pub number_of : List ℕ → Option ℕ
number_of word = number_below (2 ^ 64) word

-- a base isn't numbered by the last number of 64 bits, which no change could follow
abbrev pub asked_base : ℕ → Option Command
asked_base n = cond (nat_lt n (2 ^ 64 - 1)) (Some (Create (record { 0 = n }))) None

abbrev pub asked_numbered : List ℕ → ℕ → Option Command
asked_numbered name n =
    if bytes_eq name (codes "create") then asked_base n
    else (if bytes_eq name (codes "apply") then Some (Apply (record { 0 = n })) else None)

abbrev pub asked_alone : List ℕ → Option Command
asked_alone name =
    if bytes_eq name (codes "graph") then Some (Graph None)
    else (if bytes_eq name (codes "audit") then Some Audit
    else (if bytes_eq name (codes "checkpoint") then Some (Checkpoint Kept)
    else (if bytes_eq name (codes "raise") then Some (Checkpoint Raised) else None)))

-- without a store
abbrev pub asked_without : List ℕ → Option Command
asked_without name =
    if bytes_eq name (codes "compile") then Some (Compile 1)
    else (if bytes_eq name (codes "inspect") then Some Inspect else None)

abbrev pub asked_sample : List ℕ → ℕ → Option Command
asked_sample name n = if bytes_eq name (codes "sample") then Some (Sample n) else None

-- under another profile than 1; its number is the one word `2`
abbrev pub asked_profile : List ℕ → Option Command
asked_profile word = if bytes_eq word (codes "2") then Some (Compile 2) else None

-- without a store, and with a number
abbrev pub asked_without_numbered : List ℕ → List ℕ → Option Command
asked_without_numbered name number =
    if bytes_eq name (codes "compile") then asked_profile number
    else option_and_then (asked_sample name) (number_of number)

-- `-` or the store's name, and the command's
abbrev pub asked_by_two : List ℕ → List ℕ → Option Command
asked_by_two store name =
    if bytes_eq store (codes "-") then asked_without name
    else (if is_store store then asked_alone name else None)

-- the graph at a moment, if the word is one
abbrev pub asked_graph : List ℕ → Option Command
asked_graph word = option_map (λ at. Graph (Some at)) (moment_of word)

-- of a store, with a moment for `graph`, and a number for any other command
abbrev pub asked_with : List ℕ → List ℕ → Option Command
asked_with name word =
    if bytes_eq name (codes "graph") then asked_graph word
    else option_and_then (asked_numbered name) (number_of word)

-- `-` or the store's name, the command's, and a number or a moment
abbrev pub asked_by_three : List ℕ → List ℕ → List ℕ → Option Command
asked_by_three store name word =
    if bytes_eq store (codes "-") then asked_without_numbered name word
    else (if is_store store then asked_with name word else None)

-- `- compile`, `- compile 2`, `- inspect`, `- sample N`, `STORE create N`, `STORE apply N`, `STORE graph`,
-- `STORE graph MOMENT`, `STORE audit`, `STORE checkpoint` and `STORE raise`; other words are no command's
abbrev pub asked_command : List (List ℕ) → Option Command
asked_command [] = None
asked_command (one ∷ []) = None
asked_command (store ∷ name ∷ []) = asked_by_two store name
asked_command (store ∷ name ∷ word ∷ []) = asked_by_three store name word
asked_command (one ∷ two ∷ three ∷ four ∷ more) = None

-- `STORE session`
abbrev pub asks_session : List (List ℕ) → Bool
asks_session [] = false
asks_session (one ∷ []) = false
asks_session (store ∷ name ∷ []) = is_store store && bytes_eq name (codes "session")
asks_session (one ∷ two ∷ three ∷ more) = false

abbrev pub request_for : Option Command → Option Request
request_for None = None
request_for (Some command) = Some (CommandRequest command)

-- a session, or what a command does; other words ask nothing
abbrev pub asked : List (List ℕ) → Option Request
asked words = if asks_session words then Some Session else request_for (asked_command words)

-- what is compiled is compiled under a known profile
abbrev pub HasProfile : Command → Type 0
HasProfile (Compile profile) = IsProfile profile
HasProfile command = Unit {0}
