-- What stands at the place in the lists is told of the node there.
use Rattle.std.proofs.Common.{◌≡◌, List, Bool, true, length, Some, slice_get, ap, subst}
use Rattle.std.proofs.lemmas.Option.{slice_get_read}
use Rattle.expanded_graph.proofs.intersections.Intersections.find.Goals as goal

pub returns-clause-is : goal.returns-clause-is
returns-clause-is c = λ M P m facts known.
    let rules = c.args.self.now.rules.items in
    let at = c.in_ok-at.at in
    let here = c.index.result.now in
    let stands : slice_get rules at ≡ Some here =
    slice_get_read rules _ at here (ap length c.as_slice.ensures.value) c.in_ok-at.ensures c.index.ensures in
    known.leaving at here c.at.result.now stands c.at.ensures

pub returns-clause-free : goal.returns-clause-free
returns-clause-free c = λ M P m facts known free.
    let rules = c.args.self.now.rules.items in
    let at = c.in_ok-at.at in
    let here = c.index.result.now in
    let stands : slice_get rules at ≡ Some here =
    slice_get_read rules _ at here (ap length c.as_slice.ensures.value) c.in_ok-at.ensures c.index.ensures in
    known.free at here c.at.result.now stands c.at.ensures
    (subst (λ (l : List Bool). slice_get l at ≡ Some true) c.as_slice-2.ensures.value (c.is_free_at.ensures free))
