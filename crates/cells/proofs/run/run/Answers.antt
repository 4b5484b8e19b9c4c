use Rattle.std.proofs.Common.{map, Option, refl, sym, subst, ◌∙◌}
use Rattle.cells.specs.declared.command.Command.{Command}
use Rattle.cells.specs.Commands.{asked}
use Rattle.cells.specs.Texts.{usage_line}
use Rattle.cells.specs.Run.{MayEnd, Ends, CanBeDone, Builds}
use Rattle.cells.proofs.HeldSource.{behind_of}
use Rattle.cells.proofs.MadeBlocks.{builds_nothing}
use Rattle.cells.proofs.RunEnds.{ends_usage, usage_may_end, put_untouched, still_untouched}
use Rattle.cells.proofs.RunEnds.{ends_unknown, unknown_reads, unknown_may_end}
use Rattle.cells.proofs.run.run.Goals as goal

-- ---- a command

pub returns-in-Ok-Some-clause-ends : goal.returns-in-Ok-Some-clause-ends
returns-in-Ok-Some-clause-ends g c =
    subst (λ (r : Option Command). Ends r c.run_command.result (g.S.Source.bytes_left c.args.source.now)
    (g.S.Source.bytes_left c.run_command.new.source) (g.W.Site.outside c.args.site.now)
    (g.W.Site.outside c.run_command.new.site)) (sym c.in-Ok-Some.field-0-is ∙ c.in-Ok-Some.ensures)
    c.run_command.ensures.ends

pub returns-in-Ok-Some-clause-named : goal.returns-in-Ok-Some-clause-named
returns-in-Ok-Some-clause-named g c =
    subst (λ (r : Option Command). MayEnd r c.run_command.result) (sym c.in-Ok-Some.field-0-is ∙ c.in-Ok-Some.ensures)
    c.run_command.ensures.named

pub returns-in-Ok-Some-clause-complete : goal.returns-in-Ok-Some-clause-complete
returns-in-Ok-Some-clause-complete g c = λ bytes is can.
    c.run_command.ensures.complete bytes is
    (subst (λ (r : Option Command). CanBeDone r bytes) (sym (sym c.in-Ok-Some.field-0-is ∙ c.in-Ok-Some.ensures)) can)

pub returns-in-Ok-Some-clause-built : goal.returns-in-Ok-Some-clause-built
returns-in-Ok-Some-clause-built g c =
    subst (λ (r : Option Command). Builds r (g.S.Source.bytes_left c.args.source.now) c.args.steps.now
    c.run_command.new.steps) (sym c.in-Ok-Some.field-0-is ∙ c.in-Ok-Some.ensures) c.run_command.ensures.built

-- ---- other words

pub returns-in-Ok-None-clause-ends : goal.returns-in-Ok-None-clause-ends
returns-in-Ok-None-clause-ends g c =
    let held = g.S.Source.bytes_left c.args.source.now in
    let before = g.W.Site.outside c.args.site.now in
    let after = g.W.Site.outside c.put_last.new.site in
    subst (λ (r : Option Command). Ends r c.put_last.result held held before after)
    (sym c.in-Ok-None.field-0-is ∙ c.in-Ok-None.ensures)
    (ends_usage usage_line before after (g.W.Site.faults c.args.site.now) (g.W.Site.faults c.put_last.new.site) held
    (λ bytes. (refl, refl)) c.put_last.result c.put_last.ensures.ends)

pub returns-in-Ok-None-clause-named : goal.returns-in-Ok-None-clause-named
returns-in-Ok-None-clause-named g c =
    subst (λ (r : Option Command). MayEnd r c.put_last.result) (sym c.in-Ok-None.field-0-is ∙ c.in-Ok-None.ensures)
    (usage_may_end usage_line (g.W.Site.outside c.args.site.now) (g.W.Site.outside c.put_last.new.site)
    (g.W.Site.faults c.args.site.now) (g.W.Site.faults c.put_last.new.site) c.put_last.result c.put_last.ensures.ends)

pub returns-in-Ok-None-clause-untouched : goal.returns-in-Ok-None-clause-untouched
returns-in-Ok-None-clause-untouched g c =
    put_untouched usage_line (g.W.Site.outside c.args.site.now) (g.W.Site.outside c.put_last.new.site)
    c.put_last.ensures.files

pub returns-in-Ok-None-clause-complete : goal.returns-in-Ok-None-clause-complete
returns-in-Ok-None-clause-complete g c = λ bytes is can no_read_fault no_site_fault.
    absurd (subst (λ (r : Option Command). CanBeDone r bytes)
    (sym (sym c.in-Ok-None.field-0-is ∙ c.in-Ok-None.ensures)) can)

pub returns-in-Ok-None-clause-built : goal.returns-in-Ok-None-clause-built
returns-in-Ok-None-clause-built g c =
    builds_nothing (asked (map (λ w. w.now) c.args.words.now)) (g.S.Source.bytes_left c.args.source.now)
    c.args.steps.now

-- ---- memory ended before the words were known

pub returns-in-Err-clause-ends : goal.returns-in-Err-clause-ends
returns-in-Err-clause-ends g c =
    let held = g.S.Source.bytes_left c.args.source.now in
    let command = asked (map (λ w. w.now) c.args.words.now) in
    ends_unknown command (g.W.Site.outside c.args.site.now) held (unknown_reads command (behind_of held))

pub returns-in-Err-clause-named : goal.returns-in-Err-clause-named
returns-in-Err-clause-named g c = unknown_may_end (asked (map (λ w. w.now) c.args.words.now))

pub returns-in-Err-clause-untouched : goal.returns-in-Err-clause-untouched
returns-in-Err-clause-untouched g c = still_untouched (g.W.Site.outside c.args.site.now)

pub returns-in-Err-clause-built : goal.returns-in-Err-clause-built
returns-in-Err-clause-built g c =
    builds_nothing (asked (map (λ w. w.now) c.args.words.now)) (g.S.Source.bytes_left c.args.source.now)
    c.args.steps.now
