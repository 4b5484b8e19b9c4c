use Rattle.std.proofs.Common.{◌≡◌, ◌+◌, ◌++◌, length, map}
use Rattle.layered_maps.specs.Layers.{pair, put_all, Rise}
use Rattle.layered_maps.proofs.entry_run.add_merged.Given as goal

abbrev pub invariant-loop-all : goal.invariant-loop-all
invariant-loop-all g l =
    Rise g.K.Ord.cmp (map pair l.left) × Rise g.K.Ord.cmp (map pair l.right)
    × (map pair l.all.items ++ put_all g.K.Ord.cmp (map pair l.left) (map pair l.right)
    ≡ map pair l.initial.all.items ++ put_all g.K.Ord.cmp (map pair l.first) (map pair l.second))

abbrev pub decreases-loop-all : goal.decreases-loop-all
decreases-loop-all g l = length l.left + length l.right
