-- Which numbers are those of profiles. What each of them says of tags stands with the profiles themselves.
use Rattle.std.specs.Prelude.{ℕ, Bool, ◌==◌, ◌||◌, IsTrue}

abbrev pub is_profile_number : ℕ → Bool
is_profile_number n = n == 1 || n == 2

-- there is a profile of this number
abbrev pub IsProfile : ℕ → Type 0
IsProfile n = IsTrue (is_profile_number n)
