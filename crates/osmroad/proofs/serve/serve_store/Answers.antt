use Rattle.std.proofs.Common.{ℕ, inl, inr, subst, sym, ◌∙◌}
use Rattle.road_base.specs.Profiles.{IsProfile}
use Rattle.last_words.specs.declared.status.Status.TheVariants.{SiteFault}
use Rattle.access_profile.specs.Profiles.{rules_of}
use Rattle.session_replies.specs.Replies.{road_replies}
use Rattle.osmroad.specs.Sessions.{AnswersFaults, Serves}
use Rattle.osmroad.proofs.ServedSessions.{store_is_served, store_opens}
use Rattle.osmroad.proofs.RefusedSessions.{store_is_refused, refused_no_read}
use Rattle.osmroad.proofs.BuiltSessions.{store_builds, none_built}
use Rattle.osmroad.proofs.serve.serve_store.Goals as goal

-- ---- the store is loaded

pub serve-requires-clause-known : goal.serve-requires-clause-known
serve-requires-clause-known g c = c.profile_of-profile.result.known

pub serve-requires-clause-stored : goal.serve-requires-clause-stored
serve-requires-clause-stored g c = c.profile_of-profile.ensures ∙ c.profile.ensures

pub profile_of-profile-requires : goal.profile_of-profile-requires
profile_of-profile-requires g c = subst IsProfile (sym c.profile.ensures) c.in-Ok.ensures.known

pub serve-requires-clause-opens : goal.serve-requires-clause-opens
serve-requires-clause-opens g c = store_opens c.in-Ok.loaded (g.W.Site.outside c.args.site.now)
    (g.W.Site.outside c.load_store.new.site) c.in-Ok.ensures.told

pub returns-in-Ok-clause-ends : goal.returns-in-Ok-clause-ends
returns-in-Ok-clause-ends g c =
    let held = g.S.Source.bytes_left c.args.source.now in
    let left = g.S.Source.bytes_left c.serve.new.source in
    let between = g.W.Site.outside c.load_store.new.site in
    let after = g.W.Site.outside c.serve.new.site in
    store_is_served c.store_laws.ensures.store c.in-Ok.loaded c.serve.result
    held left (g.W.Site.outside c.args.site.now) between after c.in-Ok.ensures.told
    (subst (λ (n : ℕ). Serves (road_replies (rules_of n)) c.in-Ok.loaded c.serve.result held left between after)
    (c.profile_of-profile.ensures ∙ c.profile.ensures) c.serve.ensures.serves)

pub returns-in-Ok-clause-built : goal.returns-in-Ok-clause-built
returns-in-Ok-clause-built g c =
    store_builds c.store_laws.ensures.store c.in-Ok.loaded c.serve.result c.args.steps.now c.serve.new.steps
    (g.S.Source.bytes_left c.args.source.now) (g.S.Source.bytes_left c.serve.new.source)
    (g.W.Site.outside c.args.site.now) (g.W.Site.outside c.load_store.new.site)
    c.in-Ok.ensures.told c.serve.ensures.builds

pub returns-in-Ok-clause-calls : goal.returns-in-Ok-clause-calls
returns-in-Ok-clause-calls g c =
    subst (λ (n : ℕ). AnswersFaults SiteFault c.serve.result n (g.W.Site.faults c.serve.new.site))
    (c.in-Ok.ensures.counts.stays (λ e. (cc))) c.serve.ensures.calls

pub returns-in-Ok-clause-named : goal.returns-in-Ok-clause-named
returns-in-Ok-clause-named g c = inl c.serve.ensures.named

-- ---- it isn't

pub returns-in-Err-clause-ends : goal.returns-in-Err-clause-ends
returns-in-Err-clause-ends g c =
    store_is_refused c.refuse.result (g.S.Source.bytes_left c.args.source.now) (g.W.Site.outside c.args.site.now)
    (g.W.Site.outside c.refuse.new.site) c.refuse.ensures.named
    (c.refuse.ensures.runs (g.W.Site.outside c.args.site.now) c.in-Err.ensures.told)

pub returns-in-Err-clause-built : goal.returns-in-Err-clause-built
returns-in-Err-clause-built g c = none_built c.refuse.result
    (g.S.Source.bytes_left c.args.source.now) (g.W.Site.outside c.args.site.now) c.args.steps.now

pub returns-in-Err-clause-reads : goal.returns-in-Err-clause-reads
returns-in-Err-clause-reads g c =
    refused_no_read c.refuse.result (g.S.Source.faults c.args.source.now) c.refuse.ensures.named

pub returns-in-Err-clause-calls : goal.returns-in-Err-clause-calls
returns-in-Err-clause-calls g c =
    c.refuse.ensures.calls (g.W.Site.faults c.args.site.now) c.in-Err.ensures.counts

pub returns-in-Err-clause-named : goal.returns-in-Err-clause-named
returns-in-Err-clause-named g c = inr c.refuse.ensures.named
