use Rattle.std.proofs.Common.{◌≡◌, Option, Some, refl, sym, ap, subst, ◌∙◌}
use Rattle.road_base.specs.declared.objects.Relation.{Relation}
use Rattle.road_base.specs.Objects.{Objects, relation_of}
use Rattle.road_model.specs.declared.answers.RuleKind.{RuleKind}
use Rattle.road_model.specs.declared.answers.RuleKind.TheVariants.{No, Only, Freed, Absent}
use Rattle.road_model.specs.declared.answers.Unusable.TheVariants.{NotThisVehicle, NoValue}
use Rattle.road_model.specs.Rules.{Rules}
use Rattle.road_model.specs.Restrictions.{IsUsable}
use Rattle.osmroad.proofs.findings.demands.Goals as goal

-- a restriction that is of use and doesn't demand forbids
forbids : (M : Objects) (P : Rules) (body : Relation) (kind : RuleKind) → IsUsable M P body
    → kind ≡ P.rule body.tags → (kind ≡ Only → ⊥) → P.rule body.tags ≡ No
forbids M P body No usable is other = sym is
forbids M P body Only usable is other = absurd (other refl)
forbids M P body Freed usable is other = absurd (usable NotThisVehicle (sym is))
forbids M P body Absent usable is other = absurd (usable NoValue (sym is))

same_body : (a b : Relation) (o : Option Relation) → Some a ≡ o → o ≡ Some b → a ≡ b
same_body a b o e f = let g : Some a ≡ Some b = e ∙ f in cc

pub returns-in_default : goal.returns-in_default
returns-in_default g c = λ body visible.
    let M = c.args.network.now.world.now in
    let P = g.P.Profile.rules c.args.network.now.profile in
    let found = relation_of M c.args.relation in
    let own = same_body c.requires.body body found (sym c.requires.visible) visible in
    let lent = same_body c.in-Some.body.now body found c.in-Some.ensures visible in
    let usable = subst (λ (b : Relation). IsUsable M P b) own c.requires.usable in
    forbids M P body c.rule.result usable
    (c.rule.ensures ∙ ap (λ (b : Relation). P.rule b.tags) lent) c.in_default.not-Only
