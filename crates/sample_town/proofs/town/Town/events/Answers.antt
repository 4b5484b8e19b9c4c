use Rattle.std.proofs.Common.{◌<◌, arith}
use Rattle.sample_town.proofs.NextLists.{none_next, none_after, next_is, after_is, before_next}
use Rattle.sample_town.specs.Lists.{Progress}
use Rattle.sample_town.proofs.town.Town.events.Goals as goal

pub returns-then-self-eq-LISTS-clause-items : goal.returns-then-self-eq-LISTS-clause-items
returns-then-self-eq-LISTS-clause-items c =
    let t : Progress = record { number = c.self.inside.number; given = c.self.inside.given } in
    let there = none_next t c.if-self-eq-LISTS.true in
    cc

pub returns-then-self-eq-LISTS-clause-ok : goal.returns-then-self-eq-LISTS-clause-ok
returns-then-self-eq-LISTS-clause-ok c =
    let t : Progress = record { number = c.self.inside.number; given = c.self.inside.given } in
    let there = none_after t c.if-self-eq-LISTS.true in
    cc

pub invariant_of-self : goal.invariant_of-self
invariant_of-self c =
    let few : c.self.inside.given < 11 = omega arith in (
      omega arith,
      before_next c.self.inside.number c.self.inside.given c.self.inside.draws.state _ c.self.invariant.1
          c.in_ok-list.ensures.state,
    )

pub returns-clause-items : goal.returns-clause-items
returns-clause-items c =
    let few : c.self.inside.given < 11 = omega arith in
    let t : Progress = record { number = c.self.inside.number; given = c.self.inside.given } in
    let there = next_is t c.self.inside.draws.state c.in_ok-list.list.items few c.self.invariant.1
    c.in_ok-list.ensures.items in
    cc

pub returns-clause-ok : goal.returns-clause-ok
returns-clause-ok c =
    let few : c.self.inside.given < 11 = omega arith in
    let there = after_is c.self.inside.number c.self.inside.given few in
    cc
