-- What one event changes.
use Rattle.std.specs.Prelude.{◌≡◌, Option, [], ◌∷◌, ◌++◌}
use Rattle.std.specs.Option.{option_to_list}
use Rattle.road_base.specs.Objects.{Entry, body_in}
use Rattle.road_base.specs.Applying.{first_greatest}

-- the visible body is another one when the entry comes to that of its key
abbrev pub Alters : Option Entry → Entry → Type 0
Alters old e = ¬ (body_in old ≡ body_in (first_greatest (option_to_list old ++ e ∷ [])))
