use Rattle.std.proofs.Common.{◌++◌}
use Rattle.back_references.proofs.ExchangedPairs.{exchanged_all, same_held}
use Rattle.back_references.proofs.exchanged_lists.exchanged_among.Goals as goal

pub returns-clause-exchanged : goal.returns-clause-exchanged
returns-clause-exchanged g c =
    let R = g.K.Ord.cmp in
    let keys = c.args.keys.now in
    let held = c.args.held.now in
    let gone = c.in_ok-gone.gone in
    let come = c.in_ok-come.come in
    let lists = c.in_ok-lists.lists in
    let after = c.in_ok-after.after in
    exchanged_all R g.met.K.Ord.total c.requires.keys keys held after c.args.gone.items c.args.come.items gone come
    (same_held R keys held (held.0, lists ++ held.1) after gone come c.in_ok-lists.ensures.exactly
    c.in_ok-after.ensures.floor c.in_ok-after.ensures.lists) c.in_ok-gone.ensures c.in_ok-come.ensures c.requires.gone
    c.requires.come
