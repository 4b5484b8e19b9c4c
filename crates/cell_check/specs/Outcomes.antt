-- What a search that is done tells of the ways.
use Rattle.std.specs.Prelude.{◌⊎◌, Bool, is_none, List, Option, Contains}
use Rattle.std.specs.Option.{option_map}
use Rattle.std.specs.BTreeMap.{get}
use Rattle.road_base.specs.declared.ids.WayId.{WayId}
use Rattle.road_base.specs.declared.ids.Key.{Key}
use Rattle.road_base.specs.declared.ids.Key.TheVariants.{Way as WayKey}
use Rattle.road_base.specs.Objects.{Objects, key_cmp}
use Rattle.road_model.specs.Links.{IsWithin}
use Rattle.map_cells.specs.declared.area.Area.{Area}
use Rattle.map_cells.specs.Cells.{IsClosed, closed_radius}
use Rattle.map_cells.specs.Owners.{IsOwn}
use Rattle.ordered_lists.specs.Orders.{Lists}
use Rattle.road_model.specs.Orders.{way_cmp}
use Rattle.cell_check.specs.declared.checking.Failing.{Failing}
use Rattle.cell_check.specs.declared.gathering.OpenAndOwn.{OpenAndOwn}
use Rattle.cell_check.specs.declared.search.LinkSearch.{LinkSearch}
use Rattle.cell_check.specs.Candidates.{IsCandidate}
use Rattle.cell_check.specs.Searches.{IsAt, HasCome}

-- none of the starts is closed, and each candidate is closed or one of them
pub record AreOpenStarts (M : Objects) (area : Area) (starts : List Key) : Type 0 where
  pub none : (k : Key) → Contains starts k → IsClosed M area k → ⊥
  pub all : (k : Key) → IsCandidate M k → IsClosed M area k ⊎ Contains starts k

-- the starts are those, and the others are the ways that the cell owns
pub record AreOpenAndOwn (M : Objects) (area cell : Area) (found : OpenAndOwn) : Type 0 where
  pub starts : AreOpenStarts M area found.starts.items
  pub own : Lists (λ w. w) way_cmp (IsOwn M cell) found.own.items

-- the search came to what is within the closed radius of a candidate that isn't closed, and to nothing else that isn't
-- so near to a key that isn't closed
pub record IsSearchDone (M : Objects) (area : Area) (s : LinkSearch) : Type 0 where
  pub open_start : (k start : Key) → IsAt s k start → IsClosed M area start → ⊥
  pub near : (k start : Key) → IsAt s k start → IsWithin M closed_radius start k
  pub all : (k start : Key) → IsCandidate M start → IsWithin M closed_radius start k
      → IsClosed M area start ⊎ HasCome s k

-- the search didn't come to the way
abbrev pub is_passed : LinkSearch → WayId → Bool
is_passed s w = is_none (get key_cmp s.starts (WayKey w))

-- the way, if the search came to it, with the key where it began
abbrev pub failing_in : LinkSearch → WayId → Option Failing
failing_in s w = option_map (λ start. record { way = w; key = start }) (get key_cmp s.starts (WayKey w))
