use Rattle.std.proofs.Common.{◌≡◌, ◌<◌, length, rules}
use Rattle.std.proofs.lemmas.List.{nil_from_length}
use Rattle.opl_objects.proofs.StreamSteps.{ended_of, refused_by, refused_last, all_read, all_read_last, open_of}
use Rattle.std.proofs.lemmas.Result.{err_from_is_err_and}
use Rattle.opl_objects.proofs.reader.Reader.finish.Goals as goal

pub returns-in-Some-clause-err : goal.returns-in-Some-clause-err
returns-in-Some-clause-err c = λ mode fed read. refused_by mode fed c.in-Some.error
    (ended_of mode fed c.args.self c.in-Some.error read c.in-Some.is)

pub returns-then-is_empty-clause-ok : goal.returns-then-is_empty-clause-ok
returns-then-is_empty-clause-ok c = λ mode fed read.
    let self = c.args.self in
    let none : length self.held.items ≡ 0 = search rules in
    all_read mode fed self.held.items self.events.items self.lines (open_of mode fed self read c.in_default.is)
    (nil_from_length self.held.items none)

pub returns-clause-ok : goal.returns-clause-ok
returns-clause-ok c = λ mode fed read.
    let self = c.args.self in
    let some : 0 < length self.held.items = search rules in
    let adds = rw (read.mode_is, c.as_slice.ensures.value) at c.in_ok-take_line.ensures.ok in
    all_read_last mode fed self.held.items self.events.items c.take_line.new.events.items self.lines
    (open_of mode fed self read c.in_default.is) some adds

pub returns-in_err-take_line-clause-err : goal.returns-in_err-take_line-clause-err
returns-in_err-take_line-clause-err c =
    let p = err_from_is_err_and c.from_residual.result c.from_residual.ensures.1 in
    let self = c.args.self in
    let some : 0 < length self.held.items = search rules in
    rw (p.1, p.2) (λ mode fed read.
    let bad = rw (read.mode_is, c.as_slice.ensures.value) at c.in_err-take_line.ensures.err in
    refused_last mode fed self.held.items self.events.items self.lines c.in_err-take_line.field-0.0
    (open_of mode fed self read c.in_default.is) some bad)
