use Rattle.std.proofs.Common.{◌++◌, ap, ◌∙◌, subst}
use Rattle.std.specs.FinMap.{find}
use Rattle.layered_maps.specs.Layers.{values_of}
use Rattle.layered_maps.specs.Lists.{lists_in}
use Rattle.layered_maps.proofs.FirstLists.{KeysMarked, put_marked}
use Rattle.layered_maps.proofs.list_layers.ListLayers.with.Goals as goal

pub invariant_of-result : goal.invariant_of-result
invariant_of-result g c =
    let number = g.K.Slotted.number in
    let marks = c.in_ok-marks.marks in
    put_marked number g.K.Ord.cmp g.met.K.Slotted.tied c.args.later (lists_in (values_of c.self.inside.runs.items))
    (lists_in (values_of c.in_ok-runs.runs.items)) c.self.inside.marks marks c.self.invariant
    (subst (λ l. KeysMarked number l marks) c.keys.ensures c.in_ok-marks.ensures.own)
    c.in_ok-marks.ensures.others
    (λ k. c.in_ok-runs.ensures k
    ∙ ap (λ l. find g.K.Ord.cmp k (c.args.later ++ lists_in (values_of l))) c.as_slice.ensures.value)
