-- The listed order stands where it fits, where the profile may not reverse it, or where the reversed one misfits, too.
use Rattle.std.proofs.Common.{◌≡◌, true, false, sym, ap, ◌∙◌, length, is_some}
use Rattle.std.specs.Prelude.{None, nat_lt, reverse}
use Rattle.road_model.specs.Restrictions.{vias}
use Rattle.restrictions.specs.Causes.{may_be_reversed, misfit_of}
use Rattle.restrictions.proofs.OrderFound.{order_listed, order_kept, order_of_neither, order_reversed, two_ways}
use Rattle.restrictions.proofs.first_cause.fitting_order.Goals as goal

pub returns-in_default-clause-order : goal.returns-in_default-clause-order
returns-in_default-clause-order g c =
    let M = g.M.World.objects c.args.network.now.world.now in
    let P = g.P.Profile.rules c.args.network.now.profile in
    let body = c.args.roles.now.body.now in
    let listed = c.as_slice-listed.ensures.value ∙ c.args.roles.now.via_members in
    let fits : misfit_of M body (vias body) ≡ None = ap (misfit_of M body) (sym listed) ∙ sym c.in_default.ensures in
    listed ∙ sym (order_listed M P body fits)

pub returns-then-not-may_be_reversed-clause-cause : goal.returns-then-not-may_be_reversed-clause-cause
returns-then-not-may_be_reversed-clause-cause g c =
    let M = g.M.World.objects c.args.network.now.world.now in
    let P = g.P.Profile.rules c.args.network.now.profile in
    let body = c.args.roles.now.body.now in
    let listed = c.as_slice-listed.ensures.value ∙ c.args.roles.now.via_members in
    let barred : may_be_reversed P (vias body) ≡ false = ap (may_be_reversed P) (sym listed)
    ∙ (sym c.may_be_reversed.ensures ∙ c.if-not-may_be_reversed.true) in
    ap (misfit_of M body) (order_kept M P body barred ∙ sym listed) ∙ sym c.in-Some.ensures

pub returns-then-is_some-clause-cause : goal.returns-then-is_some-clause-cause
returns-then-is_some-clause-cause g c =
    let M = g.M.World.objects c.args.network.now.world.now in
    let P = g.P.Profile.rules c.args.network.now.profile in
    let body = c.args.roles.now.body.now in
    let listed = c.as_slice-listed.ensures.value ∙ c.args.roles.now.via_members in
    let may : may_be_reversed P (vias body) ≡ true = ap (may_be_reversed P) (sym listed)
    ∙ (sym c.may_be_reversed.ensures ∙ c.if-not-may_be_reversed.false) in
    let two : nat_lt 1 (length c.args.roles.now.vias.items) ≡ true = ap (λ vs. nat_lt 1 (length vs))
    c.args.roles.now.via_members ∙ two_ways M P body may in
    let reversed = c.as_slice-reversed.ensures.value
    ∙ (c.args.roles.now.reversed_vias two ∙ ap reverse c.args.roles.now.via_members) in
    let back : is_some (misfit_of M body (reverse (vias body))) ≡ true =
    ap is_some (sym (c.misfit-2.ensures ∙ ap (misfit_of M body) reversed))
    ∙ (sym c.is_some.ensures ∙ c.if-is_some.true) in
    ap (misfit_of M body) (order_of_neither M P body may back ∙ sym listed) ∙ sym c.in-Some.ensures

pub returns-clause-order : goal.returns-clause-order
returns-clause-order g c =
    let M = g.M.World.objects c.args.network.now.world.now in
    let P = g.P.Profile.rules c.args.network.now.profile in
    let body = c.args.roles.now.body.now in
    let listed = c.as_slice-listed.ensures.value ∙ c.args.roles.now.via_members in
    let may : may_be_reversed P (vias body) ≡ true = ap (may_be_reversed P) (sym listed)
    ∙ (sym c.may_be_reversed.ensures ∙ c.if-not-may_be_reversed.false) in
    let two : nat_lt 1 (length c.args.roles.now.vias.items) ≡ true = ap (λ vs. nat_lt 1 (length vs))
    c.args.roles.now.via_members ∙ two_ways M P body may in
    let reversed = c.as_slice-reversed.ensures.value
    ∙ (c.args.roles.now.reversed_vias two ∙ ap reverse c.args.roles.now.via_members) in
    let misfits : is_some (misfit_of M body (vias body)) ≡ true =
    ap is_some (sym (c.in-Some.ensures ∙ ap (misfit_of M body) listed)) in
    let back : is_some (misfit_of M body (reverse (vias body))) ≡ false =
    ap is_some (sym (c.misfit-2.ensures ∙ ap (misfit_of M body) reversed))
    ∙ (sym c.is_some.ensures ∙ c.if-is_some.false) in
    reversed ∙ sym (order_reversed M P body may misfits back)
