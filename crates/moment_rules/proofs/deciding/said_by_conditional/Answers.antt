use Rattle.std.proofs.Common.{◌≡◌, ℕ, List, Option, Some, None, true, inl, inr, sym, ap, subst, ◌∙◌, option_copied}
use Rattle.road_base.specs.Tags.{value_of}
use Rattle.access_profile.specs.declared.decisions.Permission.{Permission}
use Rattle.access_profile.specs.declared.decisions.Decision.{Decision}
use Rattle.moment_rules.specs.Conditionals.{said_at, said_by}
use Rattle.moment_rules.specs.MomentDecisions.{conditional_key}
use Rattle.moment_rules.proofs.MomentSaid.{absent_says, carried_says, value_read, value_unread}
use Rattle.moment_rules.proofs.deciding.said_by_conditional.Goals as goal

pub returns-in_default : goal.returns-in_default
returns-in_default c =
    let absent : value_of (conditional_key (c.args.name, c.args.side)) c.args.tags.now ≡ None
    = subst (λ (key : List ℕ). value_of key c.args.tags.now ≡ None) c.conditional_key.ensures
    (sym c.get.ensures ∙ ap option_copied c.in_default.is) in
    absent_says c.args.at c.args.tags.now (c.args.name, c.args.side) absent

pub returns-in-Value : goal.returns-in-Value
returns-in-Value c =
    let value = c.in-Some.conditional.now in
    let carried : value_of (conditional_key (c.args.name, c.args.side)) c.args.tags.now ≡ Some value
    = subst (λ (key : List ℕ). value_of key c.args.tags.now ≡ Some value) c.conditional_key.ensures
    (sym c.get.ensures ∙ ap option_copied c.in-Some.is) in
    let read : said_at c.args.at value ≡ Some (Some c.in-Value.value.now)
    = sym c.read_conditional.ensures ∙ ap said_by c.in-Value.is in
    let decision : Permission → Option Decision
    = λ p. Some record { name = c.args.name; side = c.args.side; conditional = true; permission = p } in
    ap decision c.permission_of.ensures
    ∙ carried_says c.args.at c.args.tags.now (c.args.name, c.args.side) value (Some c.in-Value.value.now) carried
    (value_read c.args.at value (Some c.in-Value.value.now) read)

pub returns-in-Quiet : goal.returns-in-Quiet
returns-in-Quiet c =
    let value = c.in-Some.conditional.now in
    let carried : value_of (conditional_key (c.args.name, c.args.side)) c.args.tags.now ≡ Some value
    = subst (λ (key : List ℕ). value_of key c.args.tags.now ≡ Some value) c.conditional_key.ensures
    (sym c.get.ensures ∙ ap option_copied c.in-Some.is) in
    carried_says c.args.at c.args.tags.now (c.args.name, c.args.side) value None carried
    (elim c.in-Quiet.is [
      | inl quiet ↦ value_read c.args.at value None (sym c.read_conditional.ensures ∙ ap said_by quiet)
      | inr unread ↦ value_unread c.args.at value (sym c.read_conditional.ensures ∙ ap said_by unread)
    ])
