use Rattle.std.proofs.Common.{List, ℕ, Some, inl, inr, sym, ◌∙◌, subst}
use Rattle.last_words.specs.declared.status.Status.{Status}
use Rattle.last_words.specs.Puts.{EndsPut}
use Rattle.cells.specs.Run.{Ends, MayEnd}
use Rattle.cells.proofs.RunEnds.{ends_prepared, put_may_end, put_untouched, still_untouched, ends_failed, failed_may_end}
use Rattle.cells.proofs.CompleteRuns.{done}
use Rattle.cells.proofs.run.run_command.Goals as goal

-- ---- something is put

pub returns-in-Ok-clause-ends : goal.returns-in-Ok-clause-ends
returns-in-Ok-clause-ends g c =
    let before = g.W.Site.outside c.args.site.now in
    let after = g.W.Site.outside c.put_last.new.site in
    let faults = g.W.Site.faults c.args.site.now in
    let faults_after = g.W.Site.faults c.put_last.new.site in
    let reply = c.in-Ok.reply in
    let status = c.put_last.result in
    ends_prepared c.args.command.now before after faults faults_after (g.S.Source.bytes_left c.args.source.now)
    (g.S.Source.bytes_left c.prepare.new.source) reply c.in-Ok.ensures.prepares status
    (subst (λ (l : List ℕ). EndsPut l reply.status status before after faults faults_after)
    c.deref.ensures.value c.put_last.ensures.ends)

pub returns-in-Ok-clause-named : goal.returns-in-Ok-clause-named
returns-in-Ok-clause-named g c =
    let before = g.W.Site.outside c.args.site.now in
    let after = g.W.Site.outside c.put_last.new.site in
    let faults = g.W.Site.faults c.args.site.now in
    let faults_after = g.W.Site.faults c.put_last.new.site in
    let reply = c.in-Ok.reply in
    let status = c.put_last.result in
    put_may_end c.args.command.now before after faults faults_after (g.S.Source.bytes_left c.args.source.now)
    (g.S.Source.bytes_left c.prepare.new.source) reply c.in-Ok.ensures.prepares status
    (subst (λ (l : List ℕ). EndsPut l reply.status status before after faults faults_after)
    c.deref.ensures.value c.put_last.ensures.ends)

pub returns-in-Ok-clause-untouched : goal.returns-in-Ok-clause-untouched
returns-in-Ok-clause-untouched g c =
    put_untouched c.deref.result.now (g.W.Site.outside c.args.site.now) (g.W.Site.outside c.put_last.new.site)
    c.put_last.ensures.files

pub returns-in-Ok-clause-complete : goal.returns-in-Ok-clause-complete
returns-in-Ok-clause-complete g c = λ bytes is can no_read_fault no_site_fault.
    let status = done c.one_merge.ensures.fault c.args.command.now (g.S.Source.bytes_left c.args.source.now)
    (g.S.Source.bytes_left c.prepare.new.source) bytes is can c.in-Ok.reply c.in-Ok.ensures.prepares in
    elim c.put_last.ensures.ends [
      | inl p ↦ inl (p.0 ∙ status)
      | inr p ↦ absurd (no_site_fault p.2)
    ]

-- ---- nothing is put

pub returns-in-Err-clause-ends : goal.returns-in-Err-clause-ends
returns-in-Err-clause-ends g c =
    let held = g.S.Source.bytes_left c.args.source.now in
    let left = g.S.Source.bytes_left c.prepare.new.source in
    let x = g.W.Site.outside c.args.site.now in
    subst (λ (status : Status). Ends (Some c.args.command.now) status held left x x) (sym c.status.ensures)
    (ends_failed c.args.command.now x held left c.in-Err.failure c.in-Err.ensures.prepares)

pub returns-in-Err-clause-named : goal.returns-in-Err-clause-named
returns-in-Err-clause-named g c =
    let held = g.S.Source.bytes_left c.args.source.now in
    let left = g.S.Source.bytes_left c.prepare.new.source in
    subst (λ (status : Status). MayEnd (Some c.args.command.now) status) (sym c.status.ensures)
    (failed_may_end c.args.command.now (g.W.Site.outside c.args.site.now) held left c.in-Err.failure
    c.in-Err.ensures.prepares)

pub returns-in-Err-clause-untouched : goal.returns-in-Err-clause-untouched
returns-in-Err-clause-untouched g c = still_untouched (g.W.Site.outside c.args.site.now)
