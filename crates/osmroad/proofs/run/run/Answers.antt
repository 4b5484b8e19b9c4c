use Rattle.std.proofs.Common.{[], map, Option, None, Some, refl, sym, ap, ◌∙◌, subst}
use Rattle.osmroad.specs.declared.command.Request.{Request}
use Rattle.osmroad.specs.declared.command.Request.TheVariants.{Session, Command as CommandRequest}
use Rattle.last_words.specs.declared.status.Status.TheVariants.{Usage}
use Rattle.osmroad.specs.Commands.{asked}
use Rattle.osmroad.specs.Texts.{usage_line}
use Rattle.osmroad.specs.Run.{files_of}
use Rattle.osmroad.specs.Requests.{RunEnds, RunCanBeDone}
use Rattle.session.proofs.HeldSource.{behind_of, held_still}
use Rattle.osmroad.proofs.WithoutStore.{silent_still, leaves_still, will_put_alone}
use Rattle.osmroad.proofs.KnownProfiles.{asked_known}
use Rattle.osmroad.proofs.RunEnds.{ends_put}
use Rattle.osmroad.proofs.WellEndedSessions.{session_done}
use Rattle.osmroad.proofs.IntactStops.{run_intact}
use Rattle.osmroad.proofs.run.run.Goals as goal

-- ---- a session

pub returns-in-Some-Session-clause-complete : goal.returns-in-Some-Session-clause-complete
returns-in-Some-Session-clause-complete g c = λ bytes is can no_read_fault no_site_fault.
    let before = g.W.Site.outside c.args.site.now in
    session_done c.store_laws.ensures.store.one_live c.serve_store.result
    (g.S.Source.bytes_left c.args.source.now) (g.S.Source.bytes_left c.serve_store.new.source)
    before (g.W.Site.outside c.serve_store.new.site) bytes
    (g.S.Source.faults c.args.source.now) (g.S.Source.faults c.serve_store.new.source)
    (g.W.Site.faults c.args.site.now) (g.W.Site.faults c.serve_store.new.site)
    c.serve_store.ensures.ends c.serve_store.ensures.reads c.serve_store.ensures.calls is
    (subst (λ (request : Option Request). RunCanBeDone request (files_of before) bytes)
    (sym c.request_of.ensures ∙ c.in-Some-Session.is
    ∙ ap (λ (request : Request). Some request) c.in-Some-Session.field-0-is) can)
    no_read_fault no_site_fault

pub returns-in-Some-Session-clause-intact : goal.returns-in-Some-Session-clause-intact
returns-in-Some-Session-clause-intact g c = run_intact c.store_laws.ensures.store c.serve_store.result
    (g.S.Source.bytes_left c.args.source.now) (g.S.Source.bytes_left c.serve_store.new.source)
    (g.W.Site.outside c.args.site.now) (g.W.Site.outside c.serve_store.new.site)
    (Some Session) c.serve_store.ensures.ends

-- ---- a command

pub run_command-requires : goal.run_command-requires
run_command-requires g c = asked_known (map (λ w. w.now) c.args.words.now) c.in-Some-Command.command
    (sym c.request_of.ensures ∙ c.in-Some-Command.is
    ∙ ap (λ (request : Request). Some request) c.in-Some-Command.field-0-is)

pub returns-in-Some-Command-clause-complete : goal.returns-in-Some-Command-clause-complete
returns-in-Some-Command-clause-complete g c = λ bytes is can.
    c.run_command.ensures.complete bytes is
    (subst (λ (request : Option Request). RunCanBeDone request (files_of (g.W.Site.outside c.args.site.now)) bytes)
    (sym c.request_of.ensures ∙ c.in-Some-Command.is
    ∙ ap (λ (request : Request). Some request) c.in-Some-Command.field-0-is) can)

pub returns-in-Some-Command-clause-intact : goal.returns-in-Some-Command-clause-intact
returns-in-Some-Command-clause-intact g c = run_intact c.store_laws.ensures.store c.run_command.result
    (g.S.Source.bytes_left c.args.source.now) (g.S.Source.bytes_left c.run_command.new.source)
    (g.W.Site.outside c.args.site.now) (g.W.Site.outside c.run_command.new.site)
    (Some (CommandRequest c.in-Some-Command.command)) c.run_command.ensures.ends

-- ---- other words

pub returns-in-None-clause-ends : goal.returns-in-None-clause-ends
returns-in-None-clause-ends g c =
    let held = g.S.Source.bytes_left c.args.source.now in
    let before = g.W.Site.outside c.args.site.now in
    let after = g.W.Site.outside c.put_last.new.site in
    let bytes = behind_of held in
    subst (λ (request : Option Request). RunEnds request c.put_last.result held held before after)
    (sym c.in-None.is ∙ c.request_of.ensures)
    (ends_put None before before after (g.W.Site.faults c.args.site.now) (g.W.Site.faults c.put_last.new.site)
    held held Usage usage_line bytes [] bytes refl (held_still held)
    (will_put_alone None [] (λ stored. stored) bytes Usage usage_line before refl refl (refl, refl, refl))
    (silent_still before) (leaves_still None [] (λ stored. stored) before)
    c.put_last.ensures.files c.put_last.result c.put_last.ensures.ends)

pub returns-in-None-clause-intact : goal.returns-in-None-clause-intact
returns-in-None-clause-intact g c =
    let held = g.S.Source.bytes_left c.args.source.now in
    run_intact c.store_laws.ensures.store c.put_last.result held held
    (g.W.Site.outside c.args.site.now) (g.W.Site.outside c.put_last.new.site)
    (asked (map (λ w. w.now) c.args.words.now)) (returns-in-None-clause-ends g c)
