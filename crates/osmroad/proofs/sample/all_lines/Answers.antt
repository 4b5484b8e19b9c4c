use Rattle.std.proofs.Common.{◌≡◌, ◌+◌, ℕ, List, refl, sym, subst, ◌∙◌, arith}
use Rattle.road_base.specs.Profiles.{IsProfile}
use Rattle.osmroad.specs.Sampling.{AreSampleLines, Led}
use Rattle.osmroad.proofs.sample.all_lines.Goals as goal

pub loop-change-init : goal.loop-change-init
loop-change-init g c = record {
  led = λ n led.
      subst (λ (l : List ℕ). Led (g.P.Profile.rules c.args.engine.now.profile) n 0 c.args.town.now
      c.args.engine.now.world l) (sym c.new-text.ensures.items) led;
  profile = refl;
}

pub add_line-requires : goal.add_line-requires
add_line-requires g c = subst (λ (p : g.row.P.Denot). IsProfile (g.P.Profile.rules p).number)
    (sym c.loop-change.invariant.profile) c.requires

pub loop-change-preserved : goal.loop-change-preserved
loop-change-preserved g c =
    let old = c.loop-change.engine in
    let new = c.add_line.new.engine in
    record {
      led = λ n led.
          subst (λ (p : g.row.P.Denot). Led (g.P.Profile.rules p) n c.loop-change.change c.loop-change.town old.world
          c.loop-change.text.items
          → Led (g.P.Profile.rules p) n (c.loop-change.change + 1) c.add_line.new.town new.world
          c.add_line.new.text.items) c.loop-change.invariant.profile
          (c.in_ok-add_line.ensures.led n c.loop-change-test.true) (c.loop-change.invariant.led n led);
      profile = c.add_line.ensures.profile ∙ c.loop-change.invariant.profile;
    }

pub returns : goal.returns
returns g c = λ n led.
    let all : c.loop-change.change ≡ 11 = omega (arith, c.loop-change-test.false, c.loop-change.auto.change-end) in
    record {
      lines = subst (λ (m : ℕ). AreSampleLines (g.P.Profile.rules c.args.engine.now.profile) n m
          c.loop-change.text.items) all (c.loop-change.invariant.led n led).lines;
    }
