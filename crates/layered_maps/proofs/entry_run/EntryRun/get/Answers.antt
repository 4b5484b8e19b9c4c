use Rattle.std.proofs.Common.{map, Some, sym, ap, ◌∙◌, subst}
use Rattle.std.specs.FinMap.{find}
use Rattle.layered_maps.specs.Layers.{pair, Rise}
use Rattle.layered_maps.proofs.EntryLists.{found_entry, none_there, searchable}
use Rattle.layered_maps.proofs.entry_run.EntryRun.get.Goals as goal

pub returns-in-Ok : goal.returns-in-Ok
returns-in-Ok g c =
    let R = g.K.Ord.cmp in
    let es = c.as_slice-entries.result.now in
    let up = subst (λ l. Rise R (map pair l)) (sym c.as_slice-entries.ensures.value) c.self.invariant in
    ap Some c.deref.ensures
    ∙ sym (found_entry pair R g.met.K.Ord.total es up c.args.key c.in-Ok.at c.index-entries-at.result
    c.in-Ok.ensures.bound (c.in-Ok.ensures.position _))
    ∙ ap (λ l. find R c.args.key (map pair l)) c.as_slice-entries.ensures.value
    ∙ ap (find R c.args.key) c.self.view_is

pub returns-in-Err : goal.returns-in-Err
returns-in-Err g c =
    let R = g.K.Ord.cmp in
    let es = c.as_slice-entries.result.now in
    let up = subst (λ l. Rise R (map pair l)) (sym c.as_slice-entries.ensures.value) c.self.invariant in
    sym (none_there pair R g.met.K.Ord.total es c.args.key c.in-Err.field-0
    (c.in-Err.ensures.position (searchable pair R g.met.K.Ord.total es up c.args.key)))
    ∙ ap (λ l. find R c.args.key (map pair l)) c.as_slice-entries.ensures.value
    ∙ ap (find R c.args.key) c.self.view_is
