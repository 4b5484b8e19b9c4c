use Rattle.std.proofs.Common.{◌≡◌, ◌+◌, ◌++◌, ◌∷◌, [], map, take, sym, ap, ◌∙◌, take_all, append-nil}
use Rattle.std.proofs.lemmas.List.{take_more}
use Rattle.layered_maps.specs.Layers.{pair}
use Rattle.layered_maps.proofs.EntryLists.{pairs_more}
use Rattle.layered_maps.proofs.entry_run.add_shared.Goals as goal

pub loop-entry-init : goal.loop-entry-init
loop-entry-init g c = sym (append-nil (map pair c.args.all.now.items))

pub loop-entry-preserved : goal.loop-entry-preserved
loop-entry-preserved g c =
    let entries = c.args.entries.now in
    let entry = c.entry-item.result in
    let front = take c.loop-entry.entry-index entries in
    let step : take (c.loop-entry.entry-index + 1) entries ≡ front ++ entry ∷ []
    = take_more entries c.loop-entry.entry-index entry c.loop-entry-test.true
    ∙ ap (λ z. front ++ z ∷ []) (sym c.entry-item.is) in
    pairs_more pair c.args.all.now.items front (take (c.loop-entry.entry-index + 1) entries) c.loop-entry.all.items
    c.push.new.self.items entry c.in_ok-share.field-0 step c.loop-entry.invariant c.in_ok-share.ensures
    c.in_ok-push.ensures.items

pub returns : goal.returns
returns g c =
    c.loop-entry.invariant
    ∙ ap (λ l. map pair c.args.all.now.items ++ map pair l)
    (take_all c.loop-entry.entry-index c.args.entries.now c.loop-entry-test.false)
