use Rattle.std.proofs.Common.{List, [], ℕ, false, subst, sym}
use Rattle.road_io.specs.Told.{Told}
use Rattle.last_words.specs.declared.status.Status.{Status}
use Rattle.last_words.specs.Puts.{EndsPut, PutsSome}
use Rattle.osmroad.specs.Sessions.{IsNotServed, AnswersFaults, SessionRuns}
use Rattle.last_words.specs.declared.status.Status.TheVariants.{SiteFault}
use Rattle.osmroad.proofs.RefusedSessions.{refusal_runs, refusal_named, refusal_calls}
use Rattle.osmroad.proofs.RefusedSessions.{failed_runs, failed_named, failed_calls}
use Rattle.osmroad.proofs.serve.refuse.Goals as goal

-- ---- the line is put

pub returns-in-Ok-clause-runs : goal.returns-in-Ok-clause-runs
returns-in-Ok-clause-runs g c = λ x told.
    let reply = c.in-Ok.reply in
    let mid = g.W.Site.outside c.args.site.now in
    let after = g.W.Site.outside c.put_last.new.site in
    let faults = g.W.Site.faults c.args.site.now in
    let faults_after = g.W.Site.faults c.put_last.new.site in
    refusal_runs c.store_laws.ensures.store c.args.error reply c.put_last.result x mid after faults faults_after
    c.requires.named c.in-Ok.ensures told
    (subst (λ (l : List ℕ). Told (PutsSome l) mid after) c.deref.ensures.value c.put_last.ensures.files)
    (subst (λ (l : List ℕ). EndsPut l reply.status c.put_last.result mid after faults faults_after)
    c.deref.ensures.value c.put_last.ensures.ends)

pub returns-in-Ok-clause-calls : goal.returns-in-Ok-clause-calls
returns-in-Ok-clause-calls g c = λ before counts.
    let reply = c.in-Ok.reply in
    let mid = g.W.Site.outside c.args.site.now in
    let after = g.W.Site.outside c.put_last.new.site in
    let faults = g.W.Site.faults c.args.site.now in
    let faults_after = g.W.Site.faults c.put_last.new.site in
    refusal_calls c.args.error reply c.put_last.result mid after before faults faults_after
    c.requires.named c.in-Ok.ensures counts
    (subst (λ (l : List ℕ). EndsPut l reply.status c.put_last.result mid after faults faults_after)
    c.deref.ensures.value c.put_last.ensures.ends)

pub returns-in-Ok-clause-named : goal.returns-in-Ok-clause-named
returns-in-Ok-clause-named g c =
    let reply = c.in-Ok.reply in
    let mid = g.W.Site.outside c.args.site.now in
    let after = g.W.Site.outside c.put_last.new.site in
    let faults = g.W.Site.faults c.args.site.now in
    let faults_after = g.W.Site.faults c.put_last.new.site in
    refusal_named c.args.error reply c.put_last.result mid after faults faults_after
    c.requires.named c.in-Ok.ensures
    (subst (λ (l : List ℕ). EndsPut l reply.status c.put_last.result mid after faults faults_after)
    c.deref.ensures.value c.put_last.ensures.ends)

-- ---- nothing is put

pub returns-in-Err-clause-runs : goal.returns-in-Err-clause-runs
returns-in-Err-clause-runs g c = λ x told.
    let now = g.W.Site.outside c.args.site.now in
    subst (λ (status : Status). Told (SessionRuns [] false status) x now) (sym c.status.ensures)
    (failed_runs c.store_laws.ensures.store c.args.error c.in-Err.failure x now c.requires.named c.in-Err.ensures told)

pub returns-in-Err-clause-calls : goal.returns-in-Err-clause-calls
returns-in-Err-clause-calls g c = λ before counts.
    let now = g.W.Site.faults c.args.site.now in
    subst (λ (status : Status). AnswersFaults SiteFault status before now) (sym c.status.ensures)
    (failed_calls c.args.error c.in-Err.failure before now c.in-Err.ensures counts)

pub returns-in-Err-clause-named : goal.returns-in-Err-clause-named
returns-in-Err-clause-named g c = subst IsNotServed (sym c.status.ensures)
    (failed_named c.args.error c.in-Err.failure c.requires.named c.in-Err.ensures)
