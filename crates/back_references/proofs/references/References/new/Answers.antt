use Rattle.back_references.proofs.NamedObjects.{empty_indexed}
use Rattle.back_references.proofs.references.References.new.Goals as goal

pub returns : goal.returns
returns c = empty_indexed (record { ways = c.new.result; node_rules = c.new-2.result; way_rules = c.new-3.result })
    c.new.ensures c.new-2.ensures c.new-3.ensures
