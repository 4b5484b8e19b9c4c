-- The list that is made has exactly the words of the visible body, for which no cause holds. The network is made of
-- this world and this profile.
use Rattle.std.proofs.Common.{◌≡◌, subst}
use Rattle.road_model.specs.Restrictions.{IsUsable}
use Rattle.restrictions.specs.Spelling.{words_of}
use Rattle.restrictions.proofs.AllWords.{answered, of_use}
use Rattle.restrictions.proofs.relation_words.words.Goals as goal

pub returns-clause-usable : goal.returns-clause-usable
returns-clause-usable g c =
    let M = g.M.World.objects c.args.world.now in
    let P = g.P.Profile.rules c.args.profile.now in
    let body = c.in_ok-roles.roles.body.now in
    let network = c.new-network in
    let there = subst (λ profile. IsUsable (g.M.World.objects network.result.world.now) (g.P.Profile.rules profile)
    body)
    network.ensures.profile c.in-Ok.ensures.usable in
    let usable = subst (λ world. IsUsable (g.M.World.objects world) P body) network.ensures.world there in
    of_use M P c.args.relation body c.in-Some.body.now c.in-Some.ensures c.in_ok-roles.ensures usable

pub returns-clause-words : goal.returns-clause-words
returns-clause-words g c =
    let M = g.M.World.objects c.args.world.now in
    let P = g.P.Profile.rules c.args.profile.now in
    let body = c.in_ok-roles.roles.body.now in
    let network = c.new-network in
    let made = c.in_ok-words.words.items in
    let rule = c.rule_of-rule.result in
    let there = subst (λ profile. IsUsable (g.M.World.objects network.result.world.now) (g.P.Profile.rules profile)
    body)
    network.ensures.profile c.in-Ok.ensures.usable in
    let usable = subst (λ world. IsUsable (g.M.World.objects world) P body) network.ensures.world there in
    let spelled = subst
    (λ profile. made ≡ words_of (g.M.World.objects network.result.world.now) (g.P.Profile.rules profile) rule body)
    network.ensures.profile c.in_ok-words.ensures in
    let is = subst (λ world. made ≡ words_of (g.M.World.objects world) P rule body) network.ensures.world spelled in
    answered M P rule c.args.relation body c.in-Some.body.now c.from_list.result made c.requires c.in-Some.ensures
    c.in_ok-roles.ensures usable c.rule_of-rule.ensures.relation c.rule_of-rule.ensures.only
    c.rule_of-rule.ensures.binding c.from_list.ensures is
