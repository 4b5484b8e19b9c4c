-- Tags: keys with their values, as bytes of text.
use Rattle.std.specs.Prelude.{ℕ, List, [], ◌∷◌, IsTrue, Bool, true, cond, Option, None, Some, ◌&&◌}
use Rattle.std.specs.Ordering.{nat_cmp, is_lt}
use Rattle.std.specs.Cmp.Lexicographic.{slice_cmp}
use Rattle.std.specs.Str.{bytes_eq}

-- keys beside values, each as its bytes
abbrev pub TagList : Type 0
TagList = List (List ℕ × List ℕ)

-- the keys ascend, and the first is above k
abbrev pub is_above : List ℕ → TagList → Bool
is_above k [] = true
is_above k (t ∷ ts) = is_lt (slice_cmp nat_cmp k t.0) && is_above t.0 ts

-- each key is above the one before it
abbrev pub is_ascending : TagList → Bool
is_ascending [] = true
is_ascending (t ∷ ts) = is_above t.0 ts

-- the keys strictly ascend by bytes
abbrev pub IsAscending : TagList → Type 0
IsAscending ts = IsTrue (is_ascending ts)

-- the value that stands beside the key, if there is one
abbrev pub value_of : List ℕ → TagList → Option (List ℕ)
value_of k [] = None
value_of k (t ∷ ts) = cond (bytes_eq t.0 k) (Some t.1) (value_of k ts)
