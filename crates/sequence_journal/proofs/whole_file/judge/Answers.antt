use Rattle.std.proofs.Common.{Ok, Err, true, false, refl, sym, subst, arith, ◌∙◌}
use Rattle.std.proofs.lemmas.Result.{err_from_is_err_and}
use Rattle.road_base.specs.Profiles.{IsProfile}
use Rattle.road_io.proofs.ToldCalls.{told_then, told_weaker}
use Rattle.sequence_journal.specs.Reading.{ReadsNext, Judges}
use Rattle.sequence_journal.proofs.ReadSoFar.{Reading, judge_too_large, judge_base_refused, judge_start}
use Rattle.sequence_journal.proofs.ReadSoFar.{judge_next, judge_next_refused, judge_end}
use Rattle.sequence_journal.proofs.ShownBytes.{holds_nothing}
use Rattle.sequence_journal.proofs.whole_file.judge.Goals as goal

pub returns-then-found-gt-MOST_STORE-clause-told : goal.returns-then-found-gt-MOST_STORE-clause-told
returns-then-found-gt-MOST_STORE-clause-told g c = told_weaker _ _ _ _ (rw c.in-Some.is at c.in_ok-found.ensures.told)
    (λ w u finds. judge_too_large c.args.file c.in-Some.found w u finds (omega (arith, c.if-found-gt-MOST_STORE.true)))

pub returns-in_err-history-clause-told : goal.returns-in_err-history-clause-told
returns-in_err-history-clause-told g c =
    let p = err_from_is_err_and c.from_residual-in_err-history.result c.from_residual-in_err-history.ensures.1 in
    rw (p.1, p.2) (told_then _ _ _ _ _ _ (rw c.in-Some.is at c.in_ok-found.ensures.told) c.in_err-history.ensures.told
    (λ w u v finds read. judge_base_refused c.args.file c.in-Some.found w u finds c.in_err-history.field-0.0 v
    (omega (arith, c.if-found-gt-MOST_STORE.false)) read))

pub loop-history-init : goal.loop-history-init
loop-history-init g c = record {
  told = told_then _ _ _ _ _ _ (rw c.in-Some.is at c.in_ok-found.ensures.told) c.in_ok-history.ensures.told
      (λ w u v finds read. judge_start c.args.file c.in-Some.found w u finds c.in_ok-history.history v
      (omega (arith, c.if-found-gt-MOST_STORE.false)) read);
  holds = c.in_ok-history.ensures.holds;
  within = c.in_ok-history.ensures.within.0;
  small = c.in_ok-history.ensures.within.1;
  known = c.in_ok-history.ensures.known;
  counted = c.in_ok-history.ensures.counts.stays (λ e. (cc)) ∙ c.in_ok-found.ensures.counts.stays refl;
}

pub returns-in_err-read_next-clause-told : goal.returns-in_err-read_next-clause-told
returns-in_err-read_next-clause-told g c =
    let p = err_from_is_err_and c.from_residual-in_err-read_next.result c.from_residual-in_err-read_next.ensures.1 in
    let old = c.loop-history.history in
    let new = c.read_next.new.history in
    rw (p.1, p.2) (told_then (g.W.Site.outside c.args.site.now) (g.W.Site.outside c.loop-history.site)
    (g.W.Site.outside c.read_next.new.site) (Reading c.args.file old)
    (ReadsNext c.args.file old new (Err c.in_err-read_next.field-0.0))
    (Judges c.args.file (Err c.in_err-read_next.field-0.0)) c.loop-history.invariant.told
    c.in_err-read_next.ensures.told
    (λ w u v reading next. judge_next_refused c.args.file old new w u v reading c.in_err-read_next.field-0.0 next))

pub loop-history-preserved : goal.loop-history-preserved
loop-history-preserved g c =
    let old = c.loop-history.history in
    let new = c.read_next.new.history in
    record {
      told = told_then (g.W.Site.outside c.args.site.now) (g.W.Site.outside c.loop-history.site)
          (g.W.Site.outside c.read_next.new.site) (Reading c.args.file old) (ReadsNext c.args.file old new (Ok true))
          (Reading c.args.file new) c.loop-history.invariant.told
          (rw c.if-branch.true at c.in_ok-read_next.ensures.told)
          (λ w u v reading next. judge_next c.args.file old new w u v reading next);
      holds = c.in_ok-read_next.ensures.holds;
      within = c.in_ok-read_next.ensures.within;
      small = omega (arith, c.read_next.ensures.len, c.loop-history.invariant.small);
      known = subst IsProfile (sym c.read_next.ensures.profile) c.loop-history.invariant.known;
      counted = c.in_ok-read_next.ensures.counts.stays (λ e. (cc)) ∙ c.loop-history.invariant.counted;
    }

pub returns-clause-told : goal.returns-clause-told
returns-clause-told g c =
    let old = c.loop-history.history in
    let new = c.read_next.new.history in
    told_then (g.W.Site.outside c.args.site.now) (g.W.Site.outside c.loop-history.site)
    (g.W.Site.outside c.read_next.new.site) (Reading c.args.file old) (ReadsNext c.args.file old new (Ok false))
    (Judges c.args.file (Ok new)) c.loop-history.invariant.told
    (rw c.if-branch.false at c.in_ok-read_next.ensures.told)
    (λ w u v reading next. judge_end c.args.file old new w u v reading next)

pub returns-in_err-history-clause-named : goal.returns-in_err-history-clause-named
returns-in_err-history-clause-named g c =
    let p = err_from_is_err_and c.from_residual-in_err-history.result c.from_residual-in_err-history.ensures.1 in
    rw (p.1, p.2) c.in_err-history.ensures.named

pub returns-in_err-read_next-clause-named : goal.returns-in_err-read_next-clause-named
returns-in_err-read_next-clause-named g c =
    let p = err_from_is_err_and c.from_residual-in_err-read_next.result c.from_residual-in_err-read_next.ensures.1 in
    rw (p.1, p.2) c.in_err-read_next.ensures.named

pub read_base-requires-clause-holds : goal.read_base-requires-clause-holds
read_base-requires-clause-holds g c =
    holds_nothing (g.W.Site.outside c.find_base.new.site) c.args.file c.new-window.result c.new-window.ensures
