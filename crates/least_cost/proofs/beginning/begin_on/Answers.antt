use Rattle.least_cost.proofs.beginning.begin_on.Goals as goal

pub unreachable-requires : goal.unreachable-requires
unreachable-requires c = c.in_default.ensures.none c.requires.listed.0 c.requires.listed.1 c.requires.listed.2
