use Rattle.std.proofs.Common.{◌≢◌, ◌∙◌, refl, sym, ap, subst}
use Rattle.road_base.specs.declared.ids.Sequence.{Sequence}
use Rattle.road_base.specs.Profiles.{IsProfile}
use Rattle.road_io.proofs.ToldCalls.{some_weaker}
use Rattle.session.specs.declared.end.End.TheVariants.{NoMemory, ReadFault}
use Rattle.session.specs.Conversing.{IsReadyAt, Converses}
use Rattle.session_replies.specs.Replies.{road_replies}
use Rattle.osmroad.specs.Sessions.{IsOpening}
use Rattle.osmroad.proofs.ServedSessions.{served_reads, served_calls, is_served}
use Rattle.osmroad.proofs.BuiltSessions.{served_builds}
use Rattle.osmroad.proofs.ServedOpenings.{Keeping, kept_for, converses_over, converses_nothing, builds_over}
use Rattle.osmroad.proofs.ServedOpenings.{builds_nothing}
use Rattle.osmroad.proofs.serve.serve.Goals as goal

-- ---- no memory is found for the objects and their blocks

pub returns-in_default-clause-serves : goal.returns-in_default-clause-serves
returns-in_default-clause-serves g c =
    let P = g.P.Profile.rules c.args.profile in
    record {
      end = NoMemory;
      is = refl;
      converses = converses_nothing (road_replies P) c.args.loaded (c.nothing_read.ensures P)
          (g.S.Source.bytes_left c.args.source.now) (g.W.Site.outside c.args.site.now);
    }

pub returns-in_default-clause-builds : goal.returns-in_default-clause-builds
returns-in_default-clause-builds g c = builds_nothing c.args.loaded _ (g.S.Source.bytes_left c.args.source.now)
    (g.W.Site.outside c.args.site.now) c.args.steps.now c.load.new.steps c.load.ensures.built

-- ---- or for what answers

pub returns-in_default-new-clause-serves : goal.returns-in_default-new-clause-serves
returns-in_default-new-clause-serves g c =
    let P = g.P.Profile.rules c.args.profile in
    record {
      end = NoMemory;
      is = refl;
      converses = converses_nothing (road_replies P) c.args.loaded (c.nothing_read.ensures P)
          (g.S.Source.bytes_left c.args.source.now) (g.W.Site.outside c.args.site.now);
    }

pub returns-in_default-new-clause-builds : goal.returns-in_default-new-clause-builds
returns-in_default-new-clause-builds g c = builds_nothing c.args.loaded _ (g.S.Source.bytes_left c.args.source.now)
    (g.W.Site.outside c.args.site.now) c.args.steps.now c.load.new.steps c.load.ensures.built

-- ---- the engine answers

pub new-requires : goal.new-requires
new-requires g c = record {
  known = subst (λ (p : g.row.P.Denot). IsProfile (g.P.Profile.rules p).number) (sym c.in-Ok.ensures.profile)
      c.requires.known;
}

pub converse-requires-clause-opens : goal.converse-requires-clause-opens
converse-requires-clause-opens g c =
    let loaded = c.args.loaded in
    let M = c.in-Ok.engine.world in
    some_weaker (g.W.Site.outside c.args.site.now) (IsReadyAt (IsOpening loaded)) (IsReadyAt (Keeping loaded _))
    c.requires.opens (λ w ready. (
      ready.0,
      kept_for loaded M _
          (λ h last has. c.in-Ok-new.ensures.stands h (ap (λ (n : Sequence). n.0) c.kept.ensures ∙ last) has)
          c.in-Ok.ensures.loaded ready.0 w ready.1,
    ))

pub returns-clause-serves : goal.returns-clause-serves
returns-clause-serves g c =
    let R = g.P.Profile.rules in
    let loaded = c.args.loaded in
    let held = g.S.Source.bytes_left c.args.source.now in
    let left = g.S.Source.bytes_left c.converse.new.source in
    let before = g.W.Site.outside c.args.site.now in
    let after = g.W.Site.outside c.converse.new.site in
    let converses =
    converses_over (road_replies (R c.in-Ok-new.answerer.readers.newest.engine.profile)) loaded
    c.in-Ok.engine.world _
    (λ h last has. c.in-Ok-new.ensures.stands h (ap (λ (n : Sequence). n.0) c.kept.ensures ∙ last) has)
    c.in-Ok.ensures.loaded c.converse.result held left before after c.converse.ensures.converses in
    record {
      end = c.converse.result;
      is = c.status_of.ensures;
      converses = subst (λ (p : g.row.P.Denot).
          Converses (road_replies (R p)) (IsOpening loaded) c.converse.result held left before after)
          (c.in-Ok-new.ensures.profile ∙ c.in-Ok.ensures.profile) converses;
    }

pub returns-clause-builds : goal.returns-clause-builds
returns-clause-builds g c =
    let loaded = c.args.loaded in
    let held = g.S.Source.bytes_left c.args.source.now in
    let left = g.S.Source.bytes_left c.converse.new.source in
    let before = g.W.Site.outside c.args.site.now in
    served_builds loaded c.converse.result c.status_of.result c.status_of.ensures held left before c.args.steps.now
    c.converse.new.steps
    (builds_over loaded c.in-Ok.engine.world _
    (λ h last has. c.in-Ok-new.ensures.stands h (ap (λ (n : Sequence). n.0) c.kept.ensures ∙ last) has)
    c.in-Ok.ensures.loaded (c.converse.result ≢ ReadFault) held left before c.args.steps.now c.load.new.steps
    c.converse.new.steps c.load.ensures.built c.converse.ensures.builds)

pub returns-clause-reads : goal.returns-clause-reads
returns-clause-reads g c = served_reads c.converse.result c.status_of.result c.status_of.ensures
    (g.S.Source.faults c.args.source.now) (g.S.Source.faults c.converse.new.source) c.converse.ensures.reads

pub returns-clause-calls : goal.returns-clause-calls
returns-clause-calls g c = served_calls c.converse.result c.status_of.result c.status_of.ensures
    (g.W.Site.faults c.args.site.now) (g.W.Site.faults c.converse.new.site) c.converse.ensures.calls

pub returns-clause-named : goal.returns-clause-named
returns-clause-named g c = is_served c.converse.result c.status_of.result c.status_of.ensures
