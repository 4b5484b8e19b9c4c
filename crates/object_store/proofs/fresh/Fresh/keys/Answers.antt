use Rattle.std.proofs.Common.{◌≡◌, Contains, subst}
use Rattle.road_base.specs.Objects.{visible}
use Rattle.object_store.specs.Following.{Following}
use Rattle.object_store.proofs.SameBodies.{same_else}
use Rattle.object_store.proofs.fresh.Fresh.keys.Goals as goal

pub returns-clause-same : goal.returns-clause-same
returns-clause-same c = λ k out.
    subst (λ (f : Following). ¬ (Contains f.keys k) → visible f.before k ≡ visible f.after k) c.self.view_is
    (same_else c.self.inside.before c.self.inside.after c.self.inside.keys c.self.invariant.1 k) out
