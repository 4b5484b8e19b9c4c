use Rattle.back_references.proofs.ExchangedPairs.{exchanged_lists}
use Rattle.back_references.proofs.exchanges.exchanged_values.Goals as goal

pub returns-clause-exactly : goal.returns-clause-exactly
returns-clause-exactly g c =
    exchanged_lists c.args.values.now c.args.gone.now c.args.come.now c.in_ok-list.list.items
    c.add_values.new.list.items c.leave_once.new.list.items c.in_ok-list.ensures c.in_ok-add_values.ensures
    c.leave_once.ensures.exactly
