-- The fields of a line. (OPL File Format Manual.)
use Rattle.opl_lexer.specs.Letters.{space, tab}
use Rattle.std.specs.Prelude.{◌==◌, ◌||◌, ℕ, List, Bool, nat_lt, length}
use Rattle.std.specs.List.{slice_split, filter}

-- a space or a tab
abbrev pub is_blank : ℕ → Bool
is_blank b = (b == space) || (b == tab)

abbrev pub has_bytes : List ℕ → Bool
has_bytes run = nat_lt 0 (length run)

-- the longest runs without space and tab: of the runs between blanks those that have a byte
abbrev pub fields : List ℕ → List (List ℕ)
fields line = filter has_bytes (slice_split is_blank line)
