use Rattle.std.proofs.Common.{◌≡◌, ℕ, []}
use Rattle.osmroad.specs.Sampling.{Led}
use Rattle.osmroad.proofs.sample.all_lines.Given as goal

abbrev pub invariant-loop-change : goal.invariant-loop-change
invariant-loop-change g l = record {
  led : (n : ℕ) → Led (g.P.Profile.rules l.initial.engine.profile) n 0 l.initial.town l.initial.engine.world []
      → Led (g.P.Profile.rules l.initial.engine.profile) n l.change l.town l.engine.world l.text.items;
  profile : l.engine.profile ≡ l.initial.engine.profile;
}
