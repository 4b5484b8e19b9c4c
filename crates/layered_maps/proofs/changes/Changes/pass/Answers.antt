use Rattle.std.proofs.Common.{map, sym, ap, ◌∙◌, subst}
use Rattle.layered_maps.specs.Layers.{laid}
use Rattle.layered_maps.specs.Maps.{from_key}
use Rattle.layered_maps.specs.Walks.{AllRise, run_pairs}
use Rattle.layered_maps.proofs.RunsFrom.{all_from_rise, laid_from}
use Rattle.layered_maps.proofs.changes.Changes.pass.Goals as goal

pub least_of-self-inside-requires : goal.least_of-self-inside-requires
least_of-self-inside-requires g c =
    subst (AllRise g.K.Ord.cmp) (sym c.pass_below.ensures)
    (all_from_rise g.K.Ord.cmp g.met.K.Ord.total c.args.key (map run_pairs c.self.inside.runs) c.self.invariant.0)

pub invariant_of-self : goal.invariant_of-self
invariant_of-self g c = (
  subst (AllRise g.K.Ord.cmp) (sym c.pass_below.ensures)
      (all_from_rise g.K.Ord.cmp g.met.K.Ord.total c.args.key (map run_pairs c.self.inside.runs) c.self.invariant.0),
  c.least_of-self-inside.ensures,
)

pub returns : goal.returns
returns g c =
    let R = g.K.Ord.cmp in
    ap (laid R) c.pass_below.ensures
    ∙ laid_from R g.met.K.Ord.total c.args.key c.requires (map run_pairs c.self.inside.runs)
    ∙ ap (from_key R c.args.key) c.self.view_is
