use Rattle.std.proofs.Common.{ℕ, List, ap, subst, sym, refl, ◌∙◌}
use Rattle.std.specs.FinMap.{empty}
use Rattle.road_base.specs.declared.event.Event.{Event}
use Rattle.road_base.specs.Applying.{IsApplied}
use Rattle.road_base.specs.Profiles.{IsProfile}
use Rattle.access_profile.specs.declared.of_number.ProfileOf.{ProfileOf}
use Rattle.access_profile.specs.Profiles.{rules_of}
use Rattle.osmroad.specs.Sampling.{IsSample}
use Rattle.bounded_input.proofs.InputEnds.{ok_maps}
use Rattle.osmroad.proofs.sample.sample_text.Goals as goal

pub all_lines-requires : goal.all_lines-requires
all_lines-requires g c = c.in_ok-engine.engine.profile.known

pub returns : goal.returns
returns g c =
    let one = ap (λ (p : ProfileOf). p.number) c.in_ok-engine.ensures.profile ∙ c.profile_of.ensures in
    ok_maps c.all_lines.result c.all_lines.ensures (λ text is.
    subst (λ (n : ℕ). IsSample (rules_of n) c.args.number text.items) one
    (is c.args.number (record {
      town_is = c.new-town.ensures;
      applied = subst (λ (l : List Event). IsApplied empty l c.in_ok-engine.engine.world) c.new.ensures.items
          c.in_ok-engine.ensures.loaded;
      lines = refl;
    })))
