-- The end of one step more was looked at, and all ends at the last; a longer one begins no word.
use Rattle.std.proofs.Common.{◌≡◌, ℕ, ◌+◌, List, Option, sym, ◌∙◌, subst, arith}
use Rattle.road_base.specs.declared.ids.RelationId.{RelationId}
use Rattle.restrictions.specs.declared.word_list.Word.{Word}
use Rattle.drive_judging.specs.Judging.{IsLeastIf, LeavesIn}
use Rattle.drive_judging.proofs.WordsCompared.{LeavesShort, short_more, short_all, watched_short, whole_end}
use Rattle.drive_judging.proofs.WordsBegun.{near_least}
use Rattle.drive_judging.proofs.word_rules.least_only.Goals as goal

pub loop-count-preserved : goal.loop-count-preserved
loop-count-preserved c =
    let words = c.items-words.result.now in
    let before = c.args.before.now in
    let longest = watched_short words before c.args.step c.args.automaton.now c.args.state.0
    c.watched_len-longest.result c.requires.watches c.watched_len-longest.ensures in
    let within = c.loop-count-test.true in
    subst (λ (o : Option RelationId). IsLeastIf (LeavesShort words before c.args.step (c.loop-count.count + 1)) o)
    (sym c.lesser-least.ensures)
    (short_more words before c.args.step c.loop-count.count _ (omega arith) (whole_end _ before) c.loop-count.least
    c.least_left.result c.loop-count.invariant
    (near_least words c.beginning_with.result.now _ c.args.step c.beginning_with.ensures c.least_left.result
    c.least_left.ensures))

pub returns : goal.returns
returns c =
    let words = c.items-words.result.now in
    let before = c.args.before.now in
    let past = c.loop-count-test.false in
    let upto = c.loop-count.auto.count-end in
    let all : c.loop-count.count ≡ c.watched_len-longest.result + 1 = omega arith in
    let is = c.items-words.ensures ∙ c.words.ensures in
    let least = subst (λ (n : ℕ). IsLeastIf (LeavesShort words before c.args.step n) c.loop-count.least) all
    c.loop-count.invariant in
    subst (λ (l : List Word). IsLeastIf (LeavesIn l before c.args.step) c.loop-count.least) is
    (short_all words before c.args.step c.args.automaton.now c.args.state.0 c.watched_len-longest.result (sym is)
    c.requires.watches c.watched_len-longest.ensures c.loop-count.least least)
