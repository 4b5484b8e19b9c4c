use Rattle.std.proofs.Common.{◌≡◌, ◌+◌, ◌++◌, ◌∷◌, [], IsTrue, Contains, inl, inr, take, take_all, sym, ap, ◌∙◌, subst}
use Rattle.std.proofs.lemmas.List.{take_more}
use Rattle.ordered_lists.proofs.ListMembers.{in_from_contains, contains_from_in}
use Rattle.ordered_lists.specs.Orders.{rises}
use Rattle.ordered_lists.proofs.RisingLists.{take_rises, below_last}
use Rattle.back_references.specs.Exchanges.{IsExchangedAt}
use Rattle.back_references.proofs.ExchangedPairs.{contains_left, contains_right}
use Rattle.back_references.proofs.exchanged_lists.lists_after.Goals as goal

pub add_list-requires-clause-above : goal.add_list-requires-clause-above
add_list-requires-clause-above g c = λ p within.
    let keys = c.args.keys.now in
    let i = c.loop-key.key-index in
    let key = c.key-item.result in
    let front = take i keys in
    let step : take (i + 1) keys ≡ front ++ key ∷ [] = take_more keys i key c.loop-key-test.true
    ∙ ap (λ z. front ++ z ∷ []) (sym c.key-item.is) in
    below_last g.K.Ord.cmp g.met.K.Ord.total front key
    (subst (λ l. IsTrue (rises g.K.Ord.cmp l)) step (take_rises g.K.Ord.cmp (i + 1) keys
    c.requires.ascending)) p.0 (in_from_contains front p.0 (c.loop-key.invariant.1 p within))

pub loop-key-preserved : goal.loop-key-preserved
loop-key-preserved g c =
    let keys = c.args.keys.now in
    let i = c.loop-key.key-index in
    let key = c.key-item.result in
    let front = take i keys in
    let held = c.args.held.now in
    let step : take (i + 1) keys ≡ front ++ key ∷ [] = take_more keys i key c.loop-key-test.true
    ∙ ap (λ z. front ++ z ∷ []) (sym c.key-item.is) in (
      c.in_ok-add_list.ensures.ascend c.loop-key.invariant.0,
      λ p within. subst (λ l. Contains l p.0) (sym step) (elim (c.in_ok-add_list.ensures.keys p within) [
        | inl old ↦ contains_left front (key ∷ []) p.0 (c.loop-key.invariant.1 p old)
        | inr e ↦ contains_right front (key ∷ []) p.0 (contains_from_in (key ∷ []) p.0 (inl e))
      ]),
      subst (λ l. IsExchangedAt g.K.Ord.cmp l held c.args.gone.now c.args.come.now
          (held.0, c.add_list.new.lists ++ held.1)) (sym step)
          (c.in_ok-add_list.ensures.exactly front c.loop-key.invariant.2),
    )

pub returns-clause-exactly : goal.returns-clause-exactly
returns-clause-exactly g c =
    let held = c.args.held.now in
    subst (λ l. IsExchangedAt g.K.Ord.cmp l held c.args.gone.now c.args.come.now
    (held.0, c.loop-key.lists ++ held.1)) (take_all c.loop-key.key-index c.args.keys.now c.loop-key-test.false)
    c.loop-key.invariant.2
