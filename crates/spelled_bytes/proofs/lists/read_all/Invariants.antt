use Rattle.road_base.specs.Bytes.{joined}
use Rattle.spelled_bytes.specs.Spelling.{AreSoMany}
use Rattle.spelled_bytes.specs.Reading.{Begins}
use Rattle.spelled_bytes.proofs.lists.read_all.Given as goal

-- the bytes begin with what was read so far
abbrev pub invariant-loop : goal.invariant-loop
invariant-loop g l = Begins (joined g.T.Spell.spelling) (AreSoMany g.T.Spell.fits l.counter) l.bytes l.items.items
    l.rest
