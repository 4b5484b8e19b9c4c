-- What contracts see of the tables of pins and of older followers.
use Rattle.std.specs.Prelude.{ℕ, map}
use Rattle.std.specs.Ordering.{nat_cmp}
use Rattle.std.specs.FinMap.{FinMap, from_entries}
use Rattle.std.specs.BTreeMap.{BTreeMap}
use Rattle.road_base.specs.declared.ids.Sequence.{Sequence}
use Rattle.pinned_readers.specs.PinnedRuns.{Pins}

-- each reader with its number
abbrev pub pins_in : BTreeMap ℕ Sequence → Pins
pins_in m = from_entries (map (λ e. (e.0, e.1.0)) m.entries)

-- each number with its follower
abbrev pub older_in : {F : Type 0} → BTreeMap Sequence F → FinMap nat_cmp F
older_in m = from_entries (map (λ e. (e.0.0, e.1)) m.entries)
