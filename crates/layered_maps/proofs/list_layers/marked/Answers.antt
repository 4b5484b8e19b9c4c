use Rattle.std.proofs.Common.{rules, ◌≡◌, ◌+◌, [], ◌∷◌, ◌++◌, take, sym, ap, ◌∙◌, subst, take_all, to_z, of_z, w64}
use Rattle.std.proofs.lemmas.Int.{to_z-of_z}
use Rattle.std.proofs.lemmas.List.{take_more}
use Rattle.layered_maps.specs.Filters.{IsMarked}
use Rattle.layered_maps.proofs.FirstLists.{KeysMarked, none_marked, more_marked}
use Rattle.layered_maps.proofs.list_layers.marked.Goals as goal

pub loop-key-init : goal.loop-key-init
loop-key-init g c = (
  none_marked g.K.Slotted.number _,
  λ n is. subst (λ words. IsMarked words n) (sym c.in_ok-more.ensures) is,
)

pub loop-key-preserved : goal.loop-key-preserved
loop-key-preserved g c =
    let number = g.K.Slotted.number in
    let xs = c.args.keys.now in
    let x = c.key-item.result in
    let front = take c.loop-key.key-index xs in
    let step : take (c.loop-key.key-index + 1) xs ≡ front ++ x ∷ []
    = take_more xs c.loop-key.key-index x c.loop-key-test.true ∙ ap (λ z. front ++ z ∷ []) (sym c.key-item.is) in
    let words = c.in_ok-more-2.more in
    let same : to_z w64 (of_z w64 c.number.result) ≡ c.number.result = search (rules, to_z-of_z) in
    let own : IsMarked words (number x)
    = subst (IsMarked words) (same ∙ c.number.ensures) c.in_ok-more-2.ensures.own in (
      subst (λ l. KeysMarked number l words) (sym step)
          (more_marked number front x c.loop-key.more words c.loop-key.invariant.0 own c.in_ok-more-2.ensures.others),
      λ n is. c.in_ok-more-2.ensures.others n (c.loop-key.invariant.1 n is),
    )

pub returns-clause-own : goal.returns-clause-own
returns-clause-own g c = subst (λ l. KeysMarked g.K.Slotted.number l c.loop-key.more)
    (take_all c.loop-key.key-index c.args.keys.now c.loop-key-test.false) c.loop-key.invariant.0

pub returns-clause-others : goal.returns-clause-others
returns-clause-others g c = c.loop-key.invariant.1
