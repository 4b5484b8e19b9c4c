use Rattle.std.proofs.Common.{◌++◌, sym, ap, ◌∙◌}
use Rattle.std.specs.FinMap.{find}
use Rattle.layered_maps.proofs.HeldLists.{ascend_both}
use Rattle.layered_maps.proofs.layered_lists.LayeredLists.with.Goals as goal

pub invariant_of-result : goal.invariant_of-result
invariant_of-result g c = λ k values found.
    ascend_both g.K.Ord.cmp g.V.Ord.cmp c.args.lists c.self.inside.layers c.requires.ascend c.self.invariant k values
    (sym (c.in_ok-layers.ensures k ∙ ap (λ l. find g.K.Ord.cmp k (c.args.lists ++ l)) c.mark.ensures) ∙ found)

pub returns-clause-lists : goal.returns-clause-lists
returns-clause-lists g c = λ k.
    c.in_ok-layers.ensures k ∙ ap (λ l. find g.K.Ord.cmp k (c.args.lists ++ l)) c.mark.ensures
    ∙ ap (λ held. find g.K.Ord.cmp k (c.args.lists ++ held.1)) c.self.view_is
