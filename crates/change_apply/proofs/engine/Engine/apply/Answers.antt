use Rattle.std.proofs.Common.{inl, ⊎_elim, refl, arith}
use Rattle.change_apply.specs.Engines.{Touches}
use Rattle.change_apply.proofs.EngineChanges.{at_err, no_ok, no_value}
use Rattle.change_apply.proofs.engine.Engine.apply.Goals as goal

pub returns-in_err-touched-clause-applied : goal.returns-in_err-touched-clause-applied
returns-in_err-touched-clause-applied g c = no_ok _ c.from_residual.result c.from_residual.ensures.0

pub returns-in_err-touched-clause-err : goal.returns-in_err-touched-clause-err
returns-in_err-touched-clause-err g c = at_err c.from_residual.result refl

pub returns-in_err-touched-clause-touched : goal.returns-in_err-touched-clause-touched
returns-in_err-touched-clause-touched g c = no_value _ c.from_residual.result c.from_residual.ensures.0

pub returns-in_err-touched-clause-rebuilt : goal.returns-in_err-touched-clause-rebuilt
returns-in_err-touched-clause-rebuilt g c = no_value _ c.from_residual.result c.from_residual.ensures.0

pub returns-in_err-touched-clause-few : goal.returns-in_err-touched-clause-few
returns-in_err-touched-clause-few g c = no_value _ c.from_residual.result c.from_residual.ensures.0

pub returns-in_err-touched-clause-ways : goal.returns-in_err-touched-clause-ways
returns-in_err-touched-clause-ways g c = no_ok _ c.from_residual.result c.from_residual.ensures.0

pub returns-in_err-touched-clause-built : goal.returns-in_err-touched-clause-built
returns-in_err-touched-clause-built g c = inl refl

pub returns-in_err-rebuilt-clause-applied : goal.returns-in_err-rebuilt-clause-applied
returns-in_err-rebuilt-clause-applied g c = no_ok _ c.from_residual-in_err-rebuilt.result
    c.from_residual-in_err-rebuilt.ensures.0

pub returns-in_err-rebuilt-clause-err : goal.returns-in_err-rebuilt-clause-err
returns-in_err-rebuilt-clause-err g c = at_err c.from_residual-in_err-rebuilt.result c.in_err-rebuilt.ensures.err

pub returns-in_err-rebuilt-clause-touched : goal.returns-in_err-rebuilt-clause-touched
returns-in_err-rebuilt-clause-touched g c = no_value _ c.from_residual-in_err-rebuilt.result
    c.from_residual-in_err-rebuilt.ensures.0

pub returns-in_err-rebuilt-clause-rebuilt : goal.returns-in_err-rebuilt-clause-rebuilt
returns-in_err-rebuilt-clause-rebuilt g c = no_value _ c.from_residual-in_err-rebuilt.result
    c.from_residual-in_err-rebuilt.ensures.0

pub returns-in_err-rebuilt-clause-few : goal.returns-in_err-rebuilt-clause-few
returns-in_err-rebuilt-clause-few g c = no_value _ c.from_residual-in_err-rebuilt.result
    c.from_residual-in_err-rebuilt.ensures.0

pub returns-in_err-rebuilt-clause-ways : goal.returns-in_err-rebuilt-clause-ways
returns-in_err-rebuilt-clause-ways g c = no_ok _ c.from_residual-in_err-rebuilt.result
    c.from_residual-in_err-rebuilt.ensures.0

pub returns-in_err-rebuilt-clause-built : goal.returns-in_err-rebuilt-clause-built
returns-in_err-rebuilt-clause-built g c = c.follow.ensures.built

pub returns-clause-applied : goal.returns-clause-applied
returns-clause-applied g c = c.in_ok-rebuilt.ensures.applied

pub returns-clause-rebuilt : goal.returns-clause-rebuilt
returns-clause-rebuilt g c = c.in_ok-rebuilt.ensures.rebuilt

pub returns-clause-built : goal.returns-clause-built
returns-clause-built g c = c.follow.ensures.built

pub returns-clause-touched : goal.returns-clause-touched
returns-clause-touched g c ways are =
    c.in_ok-touched.ensures c.follow.new.self.world ways c.in_ok-rebuilt.ensures.applied are

pub returns-clause-few : goal.returns-clause-few
returns-clause-few g c =
    let count = c.in_ok-rebuilt.ensures.rebuilt in
    ⊎_elim (λ none. omega (arith, none, count))
    (λ some.
    let touches : Touches c.args.self.now.world c.args.events.now = some.0 in
    let all = c.in_ok-touched.ensures touches.after touches.ways touches.applied touches.touched in
    omega (arith, some.1, count, all)) c.follow.ensures.built

pub returns-clause-ways : goal.returns-clause-ways
returns-clause-ways g c =
    let ways = c.some_touched_ways.ensures c.args.self.now.world c.follow.new.self.world in
    record {
      after = c.follow.new.self.world;
      applied = c.in_ok-rebuilt.ensures.applied;
      ways = ways.0;
      touched = ways.1;
    }
