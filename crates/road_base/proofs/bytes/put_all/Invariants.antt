use Rattle.std.proofs.Common.{◌≡◌, ◌++◌, take}
use Rattle.std.specs.List.{AllByRecursion}
use Rattle.road_base.specs.Bytes.{joined}
use Rattle.road_base.proofs.bytes.put_all.Given as goal

-- the members so far are spelled, and their numbers fit
abbrev pub invariant-loop-item : goal.invariant-loop-item
invariant-loop-item g l = record {
  spelled : l.out.items ≡ l.initial.out.items ++ joined g.F.Format.spelling (take l.item-index l.items);
  fit : AllByRecursion g.F.Format.fits (take l.item-index l.items);
}
