use Rattle.osmroad.proofs.OneAnswer.{one_without, each_profile}
use Rattle.osmroad.proofs.OneAnswer.{one_answer as one}
use Rattle.osmroad.proofs.laws.one_answer.Goals as goal

pub returns-clause-stored : goal.returns-clause-stored
returns-clause-stored c = λ command files bytes out other status another after next.
    let store = c.store_laws.ensures.store in
    one c.one_reading.ensures c.one_map.ensures
    (each_profile c.profile_of.result.number c.profile_of-2.result.number c.profile_of.ensures c.profile_of-2.ensures
    c.one_graph.ensures c.one_graph-2.ensures)
    c.number_order.ensures.relations
    bytes status another out other after next store.one_live store.live store.no_damage
    c.one_damage.ensures store.one_store command files

pub returns-clause-alone : goal.returns-clause-alone
returns-clause-alone c = λ command bytes out other status another after next.
    one_without c.one_reading.ensures c.one_map.ensures
    (each_profile c.profile_of.result.number c.profile_of-2.result.number c.profile_of.ensures c.profile_of-2.ensures
    c.one_graph.ensures c.one_graph-2.ensures)
    c.number_order.ensures.relations
    bytes status another out other after next command
