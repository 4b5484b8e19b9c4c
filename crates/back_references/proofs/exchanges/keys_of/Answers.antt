use Rattle.std.proofs.Common.{Contains, map, sym, subst}
use Rattle.back_references.proofs.ExchangedPairs.{key_in, contains_left}
use Rattle.back_references.proofs.exchanges.keys_of.Goals as goal

pub returns-clause-gone : goal.returns-clause-gone
returns-clause-gone g c =
    key_in c.new-keys.result.items c.add_keys.new.keys.items c.leave_once.new.list.items c.args.gone.now
    c.add_keys-2.new.keys.items c.in_ok-add_keys.ensures
    (λ k d. subst (λ l. Contains l k) (sym c.in_ok-add_keys-2.ensures)
    (contains_left c.add_keys.new.keys.items (map (λ p. p.0) c.args.come.now) k d)) c.leave_once.ensures.exactly

pub returns-clause-come : goal.returns-clause-come
returns-clause-come g c =
    key_in c.add_keys.new.keys.items c.add_keys-2.new.keys.items c.leave_once.new.list.items c.args.come.now
    c.add_keys-2.new.keys.items c.in_ok-add_keys-2.ensures (λ k d. d) c.leave_once.ensures.exactly
