use Rattle.std.proofs.Common.{List, ◌++◌, Contains, take}
use Rattle.layered_maps.specs.Lists.{Ascend}
use Rattle.back_references.specs.Exchanges.{IsExchangedAt}
use Rattle.back_references.proofs.exchanged_lists.lists_after.Given as goal

-- the lists are those of the keys so far
abbrev pub invariant-loop-key : goal.invariant-loop-key
invariant-loop-key g l =
    Ascend g.K.Ord.cmp g.V.Ord.cmp l.lists
    × ((p : g.row.K.Denot × List g.row.V.Denot) → Contains l.lists p → Contains (take l.key-index l.keys) p.0)
    × IsExchangedAt g.K.Ord.cmp (take l.key-index l.keys) l.held l.gone l.come (l.held.0, l.lists ++ l.held.1)
