use Rattle.context_search.proofs.LookUps.{among_pieces, named_among, none_among, none_named}
use Rattle.context_search.proofs.look_ups.spot_among.Goals as goal

pub returns-in-Some-clause-listed : goal.returns-in-Some-clause-listed
returns-in-Some-clause-listed c = among_pieces c.args.pieces.now c.args.name c.args.before.now c.in-Some.piece.now
    c.in-Some.ensures.among c.in-Some.ensures.named c.spot_on.result c.spot_on.ensures.listed

pub returns-in-Some-clause-named : goal.returns-in-Some-clause-named
returns-in-Some-clause-named c = named_among c.args.pieces.now c.args.name c.args.before.now c.in-Some.piece.now
    c.in-Some.ensures.among c.in-Some.ensures.named c.spot_on.result c.spot_on.ensures.named

pub returns-in-Some-clause-none : goal.returns-in-Some-clause-none
returns-in-Some-clause-none c = none_among c.args.pieces.now c.args.name c.args.before.now c.in-Some.piece.now
    c.in-Some.ensures.among c.in-Some.ensures.named c.spot_on.result c.in-Some.ensures.only c.spot_on.ensures.none

pub returns-in-None-clause-none : goal.returns-in-None-clause-none
returns-in-None-clause-none c = none_named c.args.pieces.now c.args.name c.args.before.now c.in-None.ensures.only
