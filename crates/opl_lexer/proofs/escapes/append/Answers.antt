use Rattle.std.proofs.Common.{rules}
use Rattle.std.specs.String.{string_bytes}
use Rattle.opl_lexer.proofs.EscapeSteps.{HasRead-start, HasRead-more, HasRead-end, HasRead-bad, open_escape, bad_escape}
use Rattle.opl_lexer.proofs.escapes.append.Goals as goal

pub loop-front-init : goal.loop-front-init
loop-front-init c = (c.utf8.text, HasRead-start c.args.text.now (string_bytes c.args.out.now))

pub returns-in_default-cut-clause-bad : goal.returns-in_default-cut-clause-bad
returns-in_default-cut-clause-bad c = λ e.
    let read = c.loop-front.invariant.1 in
    HasRead-bad c.args.text.now (string_bytes c.args.out.now) c.loop-front.rest.now (string_bytes c.loop-front.out) read
    (open_escape c.loop-front.rest.now c.in-Some.front.now c.in-Some.behind.now c.in-Some.ensures.some
    c.in_default-cut.ensures.none)

pub returns-in_default-character-clause-bad : goal.returns-in_default-character-clause-bad
returns-in_default-character-clause-bad c = λ e.
    let read = c.loop-front.invariant.1 in
    HasRead-bad c.args.text.now (string_bytes c.args.out.now) c.loop-front.rest.now (string_bytes c.loop-front.out) read
    (bad_escape c.loop-front.rest.now c.in-Some.front.now c.in-Some.behind.now c.in-Some-cut.code.now
    c.in-Some-cut.behind.now c.in-Some.ensures.some c.in-Some-cut.ensures.some c.in_default-character.ensures)

pub loop-front-preserved : goal.loop-front-preserved
loop-front-preserved c =
    let read = c.loop-front.invariant.1 in
    let more = HasRead-more c.args.text.now (string_bytes c.args.out.now) c.loop-front.rest.now
    (string_bytes c.loop-front.out) c.in-Some.front.now c.in-Some.behind.now
    c.in-Some-cut.code.now c.in-Some-cut.behind.now c.in-Some-character.read read c.in-Some.ensures.some
    c.in-Some-cut.ensures.some c.in-Some-character.ensures.0 c.in-Some-character.ensures.1 in
    (search rules, rw (c.in_ok-push.ensures.bytes, c.in_ok-push_str.ensures.bytes) more)

pub returns-clause-ok : goal.returns-clause-ok
returns-clause-ok c =
    let read = c.loop-front.invariant.1 in
    let end = HasRead-end c.args.text.now (string_bytes c.args.out.now) c.loop-front.rest.now
    (string_bytes c.loop-front.out) read c.in_default.ensures.none in
    rw c.in_ok-push_str-2.ensures.bytes end
