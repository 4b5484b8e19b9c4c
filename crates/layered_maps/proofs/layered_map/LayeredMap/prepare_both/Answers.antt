use Rattle.std.proofs.Common.{◌≡◌, map, sym, subst, ap, ◌∙◌}
use Rattle.layered_maps.specs.Layers.{put_all, Rise}
use Rattle.layered_maps.specs.Maps.{AreKeyed, change_pair, floor_pairs, over}
use Rattle.layered_maps.proofs.OverPairs.{changes_keyed, keyed_all, over_all, over_rises}
use Rattle.layered_maps.proofs.layered_map.LayeredMap.prepare_both.Goals as goal

pub prepared-requires-clause-keyed : goal.prepared-requires-clause-keyed
prepared-requires-clause-keyed g c =
    let R = g.K.Ord.cmp in
    let key = g.V.Keyed.key in
    let first = map (change_pair key) c.args.first.items in
    let second = map (change_pair key) c.args.second.items in
    let one = c.of-first.ensures ∙ c.in_ok-entries_of.ensures in
    let two = c.of-second.ensures ∙ c.in_ok-entries_of-2.ensures in
    subst (AreKeyed key R) (sym (c.in_ok-run.ensures ∙ (λ i. put_all R (two i) (one i))))
    (keyed_all key R g.met.K.Ord.total c.requires.exact second first
    (changes_keyed key R g.met.K.Ord.total c.requires.exact c.args.second.items)
    (changes_keyed key R g.met.K.Ord.total c.requires.exact c.args.first.items))

pub returns-clause-after : goal.returns-clause-after
returns-clause-after g c =
    let R = g.K.Ord.cmp in
    let key = g.V.Keyed.key in
    let first = map (change_pair key) c.args.first.items in
    let second = map (change_pair key) c.args.second.items in
    let floor = floor_pairs c.self.inside.floor in
    let one = c.of-first.ensures ∙ c.in_ok-entries_of.ensures in
    let two = c.of-second.ensures ∙ c.in_ok-entries_of-2.ensures in
    let both = c.in_ok-run.ensures ∙ (λ i. put_all R (two i) (one i)) in
    let same : over R c.mark_keys-2.new.layers floor ≡ c.args.self.now =
    ap (λ l. over R l floor) (c.mark_keys-2.ensures ∙ c.mark_keys.ensures) ∙ c.self.view_is in
    c.in_ok-prepared.ensures.after ∙ (λ i. over R (both i) (same i))
    ∙ over_all R g.met.K.Ord.total c.requires.exact second first c.args.self.now
    (subst (Rise R) c.self.view_is
    (over_rises R g.met.K.Ord.total c.self.inside.layers floor c.self.invariant.0))
