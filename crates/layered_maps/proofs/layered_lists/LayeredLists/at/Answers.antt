use Rattle.std.proofs.Common.{◌≡◌, Some, None, Contains, option_copied, refl, ap, sym, subst, ◌∙◌}
use Rattle.std.specs.FinMap.{find}
use Rattle.ordered_lists.specs.Orders.{Lists}
use Rattle.layered_maps.specs.Lists.{Has}
use Rattle.layered_maps.specs.Lists.{floor_list}
use Rattle.layered_maps.proofs.HeldLists.{listed_some, listed_else}
use Rattle.layered_maps.proofs.layered_lists.LayeredLists.at.Goals as goal

pub returns-in-Some : goal.returns-in-Some
returns-in-Some g c =
    let R = g.K.Ord.cmp in
    let S = g.V.Ord.cmp in
    let k = c.args.key in
    let lists = c.self.inside.layers in
    let found : find R k lists ≡ Some c.in-Some.values.now = sym c.get.ensures ∙ ap option_copied c.in-Some.is in
    subst (λ held. Lists (λ v. v) S (λ v. Has R held k v) c.in-Some.values.now) c.self.view_is
    (listed_some S (λ v. Contains (floor_list c.self.inside.floor) (k, v)) (find R k lists) c.in-Some.values.now
    c.in-Some.values.now found (c.self.invariant k c.in-Some.values.now found) refl)

pub returns-in-None : goal.returns-in-None
returns-in-None g c =
    let R = g.K.Ord.cmp in
    let S = g.V.Ord.cmp in
    let k = c.args.key in
    let lists = c.self.inside.layers in
    let found : find R k lists ≡ None = sym c.get.ensures ∙ ap option_copied c.in-None.is in
    subst (λ held. Lists (λ v. v) S (λ v. Has R held k v) c.values_in.result.now) c.self.view_is
    (listed_else S (λ v. Contains (floor_list c.self.inside.floor) (k, v)) (find R k lists) c.values_in.result.now found
    c.values_in.ensures)
