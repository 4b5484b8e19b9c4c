use Rattle.std.proofs.Common.{◌≡◌, ℕ, refl, sym, subst, arith}
use Rattle.std.proofs.Math.Numerals.{add-one}
use Rattle.cell_check.specs.Searches.{AreRounds}
use Rattle.cell_check.proofs.rounds.rounds.Goals as goal

pub loop-round-init : goal.loop-round-init
loop-round-init g c = refl

pub loop-round-preserved : goal.loop-round-preserved
loop-round-preserved g c =
    let M = g.M.World.objects c.args.world.now in
    let r = c.loop-round._round in
    subst (λ (m : ℕ). AreRounds M m c.args.search.now c.next_round.new.search) (sym (add-one r))
    (c.loop-round.search, c.loop-round.invariant, c.in_ok-next_round.ensures)

pub returns : goal.returns
returns g c =
    let M = g.M.World.objects c.args.world.now in
    let e : c.loop-round._round ≡ c.args.count = omega arith in
    subst (λ (m : ℕ). AreRounds M m c.args.search.now c.loop-round.search) e c.loop-round.invariant
