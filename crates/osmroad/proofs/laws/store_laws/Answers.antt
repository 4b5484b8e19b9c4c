use Rattle.osmroad.proofs.laws.store_laws.Goals as goal

pub returns-clause-store : goal.returns-clause-store
returns-clause-store c = record {
  one_store = c.one_store.ensures;
  one_live = c.one_live.ensures.once;
  live = c.one_live.ensures.stands;
  no_damage = c.no_damage_in_store.ensures.live;
  there = c.still_there.ensures.files;
  still = c.still_there.ensures.store;
  stand = c.journal_on_store.ensures.stand;
  stopped = c.journal_on_store.ensures.stopped;
}

pub returns-clause-change : goal.returns-clause-change
returns-clause-change c = record {
  stopped = c.change_on_store.ensures.stopped;
  ok = c.change_on_store.ensures.ok;
  small = c.change_on_store.ensures.small;
}

pub returns-clause-checkpoint : goal.returns-clause-checkpoint
returns-clause-checkpoint c = record {
  stopped = c.checkpoint_on_store.ensures.stopped;
  ok = c.checkpoint_on_store.ensures.ok;
  small = c.checkpoint_on_store.ensures.small;
  same = c.checkpoint_for_reader.ensures.same;
  raised = c.checkpoint_for_reader.ensures.raised;
}
