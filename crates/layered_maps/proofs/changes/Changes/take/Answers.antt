use Rattle.std.proofs.Common.{map, option_copied, sym, ap, ◌∙◌, subst}
use Rattle.layered_maps.specs.Layers.{laid}
use Rattle.layered_maps.specs.Walks.{AllRise, IsTaken, first_key, run_pairs}
use Rattle.layered_maps.proofs.WalkedPairs.{all_behind_rise}
use Rattle.layered_maps.proofs.WalkSteps.{taken_first}
use Rattle.layered_maps.proofs.changes.Changes.take.Goals as goal

pub least_of-self-inside-requires : goal.least_of-self-inside-requires
least_of-self-inside-requires g c =
    subst (AllRise g.K.Ord.cmp) (sym c.take_key.ensures)
    (all_behind_rise g.K.Ord.cmp g.met.K.Ord.total c.requires.exact c.args.key (map run_pairs c.self.inside.runs)
    c.self.invariant.0)

pub invariant_of-self : goal.invariant_of-self
invariant_of-self g c = (
  subst (AllRise g.K.Ord.cmp) (sym c.take_key.ensures)
      (all_behind_rise g.K.Ord.cmp g.met.K.Ord.total c.requires.exact c.args.key (map run_pairs c.self.inside.runs)
      c.self.invariant.0),
  c.least_of-self-inside.ensures,
)

pub returns : goal.returns
returns g c =
    let R = g.K.Ord.cmp in
    let key = c.args.key in
    let o = option_copied c.found-value.result in
    let runs = map run_pairs c.self.inside.runs in
    subst (λ old. IsTaken key o old (laid R (map run_pairs c.take_key.new.runs))) c.self.view_is
    (subst (λ l. IsTaken key o (laid R runs) (laid R l)) (sym c.take_key.ensures)
    (taken_first R g.met.K.Ord.total c.requires.exact key runs o c.self.invariant.0
    (ap first_key c.self.view_is ∙ c.requires.key) c.found-value.ensures))
