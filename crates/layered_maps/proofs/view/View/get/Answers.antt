use Rattle.std.proofs.Common.{◌≡◌, map, Some, None, option_copied, IfSome, sym, ap, ◌∙◌, subst}
use Rattle.std.specs.FinMap.{find}
use Rattle.layered_maps.specs.Maps.{keyed, layer_pairs}
use Rattle.layered_maps.proofs.ViewPairs.{got_changed, key_changed, got_standing, key_standing}
use Rattle.layered_maps.proofs.view.View.get.Goals as goal

pub returns-in-Some-clause-value : goal.returns-in-Some-clause-value
returns-in-Some-clause-value g c =
    let R = g.K.Ord.cmp in
    let layers = layer_pairs (option_copied c.self.inside.layers) in
    let found : find R c.args.key layers ≡ Some c.in-Some.change.now
    = sym c.changed_in.ensures ∙ ap option_copied c.in-Some.is in
    c.standing.ensures
    ∙ got_changed g.V.Keyed.key R g.met.K.Ord.total c.args.key layers (map (keyed g.V.Keyed.key) c.self.inside.items)
    c.in-Some.change.now found
    ∙ ap (find R c.args.key) c.self.view_is

pub returns-in-Some-clause-key : goal.returns-in-Some-clause-key
returns-in-Some-clause-key g c =
    let R = g.K.Ord.cmp in
    let layers = layer_pairs (option_copied c.self.inside.layers) in
    let found : find R c.args.key layers ≡ Some c.in-Some.change.now
    = sym c.changed_in.ensures ∙ ap option_copied c.in-Some.is in
    subst (λ o. IfSome o (λ v. g.V.Keyed.key v ≡ c.args.key)) (sym c.standing.ensures)
    (key_changed g.V.Keyed.key R g.met.K.Ord.total c.args.key layers c.in-Some.change.now c.self.invariant.1 found)

pub returns-in-None-clause-value : goal.returns-in-None-clause-value
returns-in-None-clause-value g c =
    let R = g.K.Ord.cmp in
    let layers = layer_pairs (option_copied c.self.inside.layers) in
    let none : find R c.args.key layers ≡ None = sym c.changed_in.ensures ∙ ap option_copied c.in-None.is in
    got_standing g.V.Keyed.key R g.met.K.Ord.total c.args.key layers
    (map (keyed g.V.Keyed.key) c.self.inside.items) (option_copied c.value_between.result) none c.value_between.ensures
    ∙ ap (find R c.args.key) c.self.view_is

pub returns-in-None-clause-key : goal.returns-in-None-clause-key
returns-in-None-clause-key g c =
    key_standing g.V.Keyed.key g.K.Ord.cmp g.met.K.Ord.total c.args.key
    (layer_pairs (option_copied c.self.inside.layers)) c.requires c.self.inside.items
    (option_copied c.value_between.result) c.value_between.ensures
