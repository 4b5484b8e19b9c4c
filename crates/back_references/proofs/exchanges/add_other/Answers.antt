use Rattle.back_references.proofs.ExchangedPairs.{value_added}
use Rattle.back_references.proofs.exchanges.add_other.Goals as goal

pub returns : goal.returns
returns g c =
    value_added c.args.list.now.items c.push.new.self.items c.args.value c.args.gone.now c.in_ok-push.ensures.items
    (λ d. let t = c.is_among.ensures.1 d in let f = c.if-is_among.false in cc)
