use Rattle.std.proofs.Common.{◌≡◌, ◌≤◌, ◌∙◌, ℕ, List, Ok, Err, ap, inr, length, take, refl, rules, arith}
use Rattle.std.proofs.lemmas.List.{take_at}
use Rattle.std.proofs.lemmas.Result.{err_from_is_err_and}
use Rattle.road_io.proofs.ToldCalls.{told_same, told_weaker, told_gives}
use Rattle.sequence_journal.specs.declared.error.JournalError.TheVariants.{NoMemory}
use Rattle.sequence_journal.specs.declared.window.Window.{Window}
use Rattle.sequence_journal.specs.Windows.{Holds, Shows}
use Rattle.sequence_journal.proofs.ShownBytes.{shown_already, shown_now, holds_now, unshown, told_held}
use Rattle.sequence_journal.proofs.window.Window.show.Goals as goal

pub returns-then-covers-clause-told : goal.returns-then-covers-clause-told
returns-then-covers-clause-told g c =
    let window = c.args.self.now in
    told_held (g.W.Site.outside c.args.site.now) (Holds c.args.file window)
    (Shows c.args.file window c.args.at c.args.size (Ok tt)) c.requires.holds
    (λ w holds. shown_already c.args.file window c.args.at c.args.size w holds
    (c.covers.ensures.begins c.if-covers.true)
    (omega (arith, c.covers.ensures.reaches c.if-covers.true, c.len.ensures)))

pub returns-in_err-resize-clause-told : goal.returns-in_err-resize-clause-told
returns-in_err-resize-clause-told g c =
    let p = err_from_is_err_and c.from_residual.result c.from_residual.ensures.1 in
    let window : Window = record { from = c.args.self.now.from; bytes = c.new.result } in
    rw (p.1, p.2) (told_same (g.W.Site.outside c.args.site.now)
    (Shows c.args.file window c.args.at c.args.size (Err NoMemory))
    (λ w. unshown c.args.file window c.args.at c.args.size NoMemory w (inr refl)))

pub returns-clause-told : goal.returns-clause-told
returns-clause-told g c =
    let window : Window = record { from = c.args.at; bytes = c.truncate.new.self } in
    let long : length c.fill.new.buf ≡ c.resize.new.self.len = search rules in
    let bytes : window.bytes.items ≡ take c.in_ok-n.n c.fill.new.buf = c.truncate.ensures.items
    ∙ ap (λ (l : List ℕ). take c.in_ok-n.n l) (take_at c.fill.new.buf _ c.resize.new.self.len long) in
    let few : c.in_ok-n.n ≤ length c.fill.new.buf = search rules in
    let fits : c.args.size ≤ length c.fill.new.buf = search rules in
    told_weaker _ _ _ _ c.in_ok-n.ensures.told
    (λ w v f. shown_now c.args.file window c.args.at c.in_ok-n.n c.args.size c.fill.new.buf w v few refl bytes f fits)

pub returns-clause-holds : goal.returns-clause-holds
returns-clause-holds g c =
    let window : Window = record { from = c.args.at; bytes = c.truncate.new.self } in
    let long : length c.fill.new.buf ≡ c.resize.new.self.len = search rules in
    let bytes : window.bytes.items ≡ take c.in_ok-n.n c.fill.new.buf = c.truncate.ensures.items
    ∙ ap (λ (l : List ℕ). take c.in_ok-n.n l) (take_at c.fill.new.buf _ c.resize.new.self.len long) in
    let few : c.in_ok-n.n ≤ length c.fill.new.buf = search rules in
    told_gives _ _ _ _ c.in_ok-n.ensures.told
    (λ w v f. holds_now c.args.file window c.args.at c.in_ok-n.n c.args.size c.fill.new.buf w v few refl bytes f)
