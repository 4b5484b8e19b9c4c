use Rattle.std.proofs.Common.{refl, sym, subst}
use Rattle.std.proofs.lemmas.Result.{err_from_is_err_and}
use Rattle.road_base.specs.Bytes.{joined}
use Rattle.spelled_bytes.specs.Spelling.{AreSoMany}
use Rattle.spelled_bytes.specs.Reading.{Begins}
use Rattle.spelled_bytes.proofs.Fronts.{malformed_weaker, item_missing, one_more_begins}
use Rattle.spelled_bytes.proofs.lists.read_all.Goals as goal

pub loop-init : goal.loop-init
loop-init g c =
    subst (λ l. Begins (joined g.T.Spell.spelling) (AreSoMany g.T.Spell.fits 0) c.args.bytes.now l c.args.bytes.now)
    (sym c.new-items.ensures.items) (record { fits = (refl, tt); parts = refl })

pub returns-in_err-item-clause-malformed : goal.returns-in_err-item-clause-malformed
returns-in_err-item-clause-malformed g c =
    let p = err_from_is_err_and c.from_residual.result c.from_residual.ensures.1 in
    rw (p.1, p.2) (malformed_weaker c.in_err-item.field-0.0
    (item_missing g.T.Spell.spelling g.T.Spell.fits g.met.T.Spell.one c.args.count c.loop.counter c.args.bytes.now
    c.loop.items.items c.loop.rest.now c.loop-test.true c.loop.invariant) c.in_err-item.ensures.malformed)

pub loop-preserved : goal.loop-preserved
loop-preserved g c =
    one_more_begins g.T.Spell.spelling g.T.Spell.fits c.loop.counter c.args.bytes.now c.loop.items.items
    c.push.new.self.items c.loop.rest.now c.in_ok-item.item c.in_ok-item.after.now c.loop.invariant
    c.in_ok-item.ensures.found c.in_ok-push.ensures.items
