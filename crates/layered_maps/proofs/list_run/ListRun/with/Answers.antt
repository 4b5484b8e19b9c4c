use Rattle.std.proofs.Common.{◌≡◌, ◌++◌, length, map, sym, ap, ◌∙◌}
use Rattle.std.specs.FinMap.{find}
use Rattle.std.specs.List.{zip}
use Rattle.layered_maps.specs.Lists.{list_or_none}
use Rattle.layered_maps.proofs.KeyedLists.{merged_found}
use Rattle.layered_maps.proofs.list_run.ListRun.with.Goals as goal

pub returns : goal.returns
returns g c =
    let R = g.K.Ord.cmp in
    let own = c.as_slice.result.now in
    let owns = c.self.inside.lists in
    let come = c.as_slice-2.result.now in
    let comes = c.later.inside.lists in
    let keys = c.in_ok-keys.keys.items in
    let f = λ (k : g.row.K.Denot). list_or_none (find R k (c.args.later.now ++ c.args.self.now)) in
    let even : length owns ≡ length own = c.self.invariant.0 ∙ ap length (sym c.as_slice.ensures.value) in
    let level : length comes ≡ length come = c.later.invariant.0 ∙ ap length (sym c.as_slice-2.ensures.value) in
    let mine : zip own owns ≡ c.args.self.now = ap (λ l. zip l owns) c.as_slice.ensures.value ∙ c.self.view_is in
    let theirs : zip come comes
    ≡ c.args.later.now = ap (λ l. zip l comes) c.as_slice-2.ensures.value ∙ c.later.view_is in
    let all : c.args.later.now ++ c.args.self.now
    ≡ zip come comes ++ zip own owns = ap (λ l. l ++ c.args.self.now) (sym theirs)
    ∙ ap (λ l. zip come comes ++ l) (sym mine) in
    let lists : c.in_ok-lists.lists ≡ map f keys = c.in_ok-lists.ensures ∙ ap (map f) c.as_slice-3.ensures.value in
    λ k. ap (λ l. find R k (zip keys l)) lists
    ∙ merged_found R g.met.K.Ord.total c.requires own come keys owns comes even level
    (c.args.later.now ++ c.args.self.now) all c.in_ok-keys.ensures.exactly k
