use Rattle.std.proofs.Common.{take}
use Rattle.layered_maps.proofs.FirstLists.{KeysMarked, StayMarked}
use Rattle.layered_maps.proofs.list_layers.marked.Given as goal

-- the keys that were visited are marked, and what was marked before
abbrev pub invariant-loop-key : goal.invariant-loop-key
invariant-loop-key g l = KeysMarked g.K.Slotted.number (take l.key-index l.keys) l.more × StayMarked l.marks l.more
