use Rattle.std.proofs.Common.{◌≡◌, ◌+◌, ◌++◌, ◌∷◌, [], map, take, sym, ap, ◌∙◌, take_all}
use Rattle.std.specs.FinMap.{find}
use Rattle.std.proofs.lemmas.List.{take_more}
use Rattle.layered_maps.specs.Lists.{list_or_none}
use Rattle.layered_maps.proofs.KeyedLists.{map_more}
use Rattle.layered_maps.proofs.list_run.ListRun.merged_lists.Goals as goal

pub loop-key-init : goal.loop-key-init
loop-key-init g c = c.in_ok-lists.ensures

pub loop-key-preserved : goal.loop-key-preserved
loop-key-preserved g c =
    let keys = c.args.keys.now in
    let key = c.key-item.result in
    let front = take c.loop-key.key-index keys in
    let step : take (c.loop-key.key-index + 1) keys
    ≡ front ++ key ∷ [] = take_more keys c.loop-key.key-index key c.loop-key-test.true
    ∙ ap (λ z. front ++ z ∷ []) (sym c.key-item.is) in
    map_more (λ (k : g.row.K.Denot). list_or_none (find g.K.Ord.cmp k (c.args.later.now ++ c.args.self.now))) front key
    (take (c.loop-key.key-index + 1) keys) c.loop-key.lists c.push.new.self c.newest.result.now step
    c.loop-key.invariant c.newest.ensures c.in_ok-push.ensures.ok

pub returns : goal.returns
returns g c =
    c.loop-key.invariant
    ∙ ap (map (λ (k : g.row.K.Denot). list_or_none (find g.K.Ord.cmp k (c.args.later.now ++ c.args.self.now))))
    (take_all c.loop-key.key-index c.args.keys.now c.loop-key-test.false)
