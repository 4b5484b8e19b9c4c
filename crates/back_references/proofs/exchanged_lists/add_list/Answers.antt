use Rattle.std.proofs.Common.{◌↔◌, ◌++◌, ◌∷◌, [], Contains, IsTrue, refl, sym, ap, ◌∙◌, subst}
use Rattle.std.specs.FinMap.{find}
use Rattle.ordered_lists.specs.Orders.{rises}
use Rattle.ordered_lists.proofs.ListMembers.{contains_from_in}
use Rattle.layered_maps.specs.Lists.{Ascend, Has}
use Rattle.back_references.specs.Exchanges.{Stays}
use Rattle.layered_maps.proofs.HeldLists.{ascend_both}
use Rattle.back_references.proofs.ExchangedPairs.{added, ascend_one, up_more, up_same}
use Rattle.back_references.proofs.exchanged_lists.add_list.Goals as goal

pub returns-then-same_values-clause-exactly : goal.returns-then-same_values-clause-exactly
returns-then-same_values-clause-exactly g c = λ keys upto.
    up_same g.K.Ord.cmp g.met.K.Ord.total c.requires.keys g.V.Ord.cmp keys c.args.key c.in_ok-values.values.items
    c.at.result.now c.args.held.now (c.args.held.now.0, c.args.lists.now ++ c.args.held.now.1) c.args.gone.now
    c.args.come.now upto (sym c.as_slice.ensures.value ∙ c.same_values.ensures.0 c.if-same_values.true) c.at.ensures
    c.in_ok-values.ensures.exactly

pub returns-clause-ascend : goal.returns-clause-ascend
returns-clause-ascend g c = λ old.
    let R = g.K.Ord.cmp in
    let S = g.V.Ord.cmp in
    let values = c.as_slice-2.result.now in
    let up = subst (λ l. IsTrue (rises S l)) (sym c.as_slice-2.ensures.value) c.in_ok-values.ensures.ascending in
    subst (Ascend R S) (sym c.in_ok-push.ensures)
    (ascend_both R S c.args.lists.now ((c.args.key, values) ∷ []) old (ascend_one R S c.args.key values up))

pub returns-clause-exactly : goal.returns-clause-exactly
returns-clause-exactly g c = λ keys upto.
    let R = g.K.Ord.cmp in
    let held = c.args.held.now in
    let old = c.args.lists.now in
    let values = c.as_slice-2.result.now in
    let exactly = subst (λ l. (v : g.row.V.Denot) → Contains l v
    ↔ Stays (Has R held c.args.key v) c.args.gone.now c.args.come.now (c.args.key, v)) (sym c.as_slice-2.ensures.value)
    c.in_ok-values.ensures.exactly in
    up_more R g.met.K.Ord.total c.requires.keys keys c.args.key values held
    (held.0, old ++ held.1) (held.0, c.push.new.self ++ held.1) c.args.gone.now c.args.come.now upto refl
    (λ k. ap (λ l. find R k (l ++ held.1)) c.in_ok-push.ensures ∙ added R g.met.K.Ord.total old held.1 c.args.key values
    (λ p i. c.requires.above p (contains_from_in old p i)) k) exactly
