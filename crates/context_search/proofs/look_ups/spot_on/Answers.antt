use Rattle.std.proofs.Common.{ap}
use Rattle.context_search.proofs.LookUps.{on_piece, none_on_piece}
use Rattle.context_search.proofs.look_ups.spot_on.Goals as goal

pub returns-in-Some-clause-listed : goal.returns-in-Some-clause-listed
returns-in-Some-clause-listed c = on_piece c.args.piece.now c.items.result.now c.in-Some.context.now c.items.ensures
    c.in-Some.ensures.among

pub returns-in-Some-clause-named : goal.returns-in-Some-clause-named
returns-in-Some-clause-named c = ap (λ ns. (c.args.piece.now.name, ns)) c.in-Some.ensures.named

pub returns-in-None-clause-none : goal.returns-in-None-clause-none
returns-in-None-clause-none c = none_on_piece c.args.piece.now c.items.result.now c.args.before.now c.items.ensures
    c.in-None.ensures.none
