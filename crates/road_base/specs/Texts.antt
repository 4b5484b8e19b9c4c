-- The bytes of a text, wherever they stand.
use Rattle.std.specs.Prelude.{ℕ, List, string_bytes}
use Rattle.road_base.specs.declared.text.Held.{Held}
use Rattle.road_base.specs.declared.text.Held.TheVariants.{Short, Long}

abbrev pub held_bytes : Held → List ℕ
held_bytes (Short text) = text.bytes
held_bytes (Long text) = string_bytes text
