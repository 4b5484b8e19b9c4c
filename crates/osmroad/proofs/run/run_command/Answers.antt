use Rattle.std.proofs.Common.{◌≡◌, List, ℕ, Option, Some, inl, inr, sym, ap, ◌∙◌, subst}
use Rattle.road_io.specs.Told.{Told, Rose}
use Rattle.road_io.specs.Outside.{Outside}
use Rattle.road_io.proofs.ToldCalls.{told_weaker}
use Rattle.last_words.specs.declared.status.Status.{Status}
use Rattle.last_words.specs.Puts.{EndsPut, PutsSome}
use Rattle.osmroad.specs.Run.{Ends}
use Rattle.osmroad.proofs.RunEnds.{ends_prepared, ends_failed}
use Rattle.osmroad.proofs.CompleteRuns.{done}
use Rattle.osmroad.proofs.run.run_command.Goals as goal

-- ---- something is put

pub returns-in-Ok-clause-ends : goal.returns-in-Ok-clause-ends
returns-in-Ok-clause-ends g c =
    let held = g.S.Source.bytes_left c.args.source.now in
    let left = g.S.Source.bytes_left c.prepare.new.source in
    let before = g.W.Site.outside c.args.site.now in
    let mid = g.W.Site.outside c.prepare.new.site in
    let after = g.W.Site.outside c.put_last.new.site in
    let faults = g.W.Site.faults c.prepare.new.site in
    let faults_after = g.W.Site.faults c.put_last.new.site in
    let reply = c.in-Ok.reply in
    let status = c.put_last.result in
    ends_prepared (Some c.args.command) before mid after faults faults_after held left reply
    c.in-Ok.ensures.prepares
    (subst (λ (l : List ℕ). Told (PutsSome l) mid after) c.deref.ensures.value c.put_last.ensures.files)
    status (subst (λ (l : List ℕ). EndsPut l reply.status status mid after faults faults_after)
    c.deref.ensures.value c.put_last.ensures.ends)

puts_no_file : (chunk : List ℕ) (w v : Outside) → PutsSome chunk w v → (v.a ≡ w.a) × (v.b ≡ w.b)
puts_no_file chunk w v (inl same) = (ap (λ (o : Outside). o.a) same, ap (λ (o : Outside). o.b) same)
puts_no_file chunk w v (inr put) = (ap (λ (o : Outside). o.a) put.1, ap (λ (o : Outside). o.b) put.1)

pub returns-in-Ok-clause-untouched : goal.returns-in-Ok-clause-untouched
returns-in-Ok-clause-untouched g c = λ alone.
    let before = g.W.Site.outside c.args.site.now in
    let after = g.W.Site.outside c.put_last.new.site in
    let chunk = c.deref.result.now in
    let same = c.prepare.ensures.untouched alone in
    told_weaker before after (PutsSome chunk) (λ w v. (v.a ≡ w.a) × (v.b ≡ w.b))
    (subst (λ (o : Option Outside). Told (PutsSome chunk) o after) (ap g.W.Site.outside same)
    c.put_last.ensures.files)
    (puts_no_file chunk)

pub returns-in-Ok-clause-complete : goal.returns-in-Ok-clause-complete
returns-in-Ok-clause-complete g c = λ bytes is can no_read_fault no_site_fault.
    let before = g.W.Site.outside c.args.site.now in
    let calls = c.in-Ok.ensures.calls in
    let status = done c.one_live.ensures.once c.one_reading.ensures (Some c.args.command)
    (g.S.Source.bytes_left c.args.source.now) (g.S.Source.bytes_left c.prepare.new.source) before
    (g.W.Site.outside c.prepare.new.site) bytes is can c.in-Ok.reply c.in-Ok.ensures.prepares in
    elim c.put_last.ensures.ends [
      | inl p ↦ inl (p.0 ∙ status)
      | inr p ↦ absurd (no_site_fault (subst (λ (n : ℕ). Rose n (g.W.Site.faults c.put_last.new.site))
          (calls.stays (λ e. cc)) p.2))
    ]

-- ---- nothing is put

pub returns-in-Err-clause-ends : goal.returns-in-Err-clause-ends
returns-in-Err-clause-ends g c =
    let held = g.S.Source.bytes_left c.args.source.now in
    let left = g.S.Source.bytes_left c.prepare.new.source in
    let before = g.W.Site.outside c.args.site.now in
    let after = g.W.Site.outside c.prepare.new.site in
    subst (λ (status : Status). Ends (Some c.args.command) status held left before after) (sym c.status.ensures)
    (ends_failed c.in-Err.failure held left before after c.args.command
    (λ none. ap g.S.Source.bytes_left (c.prepare.ensures.unread none)) c.in-Err.ensures.prepares)
