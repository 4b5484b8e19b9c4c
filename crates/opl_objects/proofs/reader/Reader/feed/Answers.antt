use Rattle.std.proofs.Common.{◌≡◌, ℕ, List, ◌++◌, [], ◌∷◌, length, refl, arith, subst, ap, append_assoc, append-nil}
use Rattle.std.proofs.Common.{length-append}
use Rattle.opl_objects.specs.Feeding.{HasRead}
use Rattle.opl_objects.proofs.StreamSteps.{has_more, ended_of, ended_by-stays}
use Rattle.std.proofs.lemmas.Result.{err_from_is_err_and}
use Rattle.opl_objects.proofs.reader.Reader.feed.Goals as goal

pub returns-in-Some-clause-read : goal.returns-in-Some-clause-read
returns-in-Some-clause-read c = λ mode fed read. has_more mode fed c.args.part.now c.args.self.now c.in-Some.error
    c.in-Some.is read

pub returns-in-Some-clause-err : goal.returns-in-Some-clause-err
returns-in-Some-clause-err c = λ mode fed read.
    ended_by-stays mode fed c.args.part.now c.in-Some.error
    (ended_of mode fed c.args.self.now c.in-Some.error read c.in-Some.is)

pub loop-line-init : goal.loop-line-init
loop-line-init c =
    record {
      front = [];
      cut = refl;
      read = λ mode fed read. rw append-nil read;
      going = c.in_default.is;
      counted_so_far = omega arith;
    }

-- the bytes that were taken, and those behind a line
line_behind : (fed part front rest line behind : List ℕ) → part ≡ front ++ rest → rest ≡ line ++ (10 ∷ behind)
    → ((fed ++ front) ++ (line ++ (10 ∷ []))) ++ behind ≡ fed ++ part
line_behind fed part front rest line behind cut written = rw (cut, written) (simp append_assoc)

pub returns-in_err-end_line-clause-read : goal.returns-in_err-end_line-clause-read
returns-in_err-end_line-clause-read c = λ mode fed read.
    let taken = c.loop-line.invariant in
    let line = c.in-Some-first_line.line.now in
    let behind = c.in-Some-first_line.behind.now in
    let cut = c.in-Some-first_line.ensures.some in
    let ended = c.in_err-end_line.ensures.read mode (fed ++ taken.front) (taken.read mode fed read) cut.first in
    subst (λ (bs : List ℕ). HasRead mode bs c.end_line.new.self)
    (line_behind fed c.args.part.now taken.front c.loop-line.rest.now line behind taken.cut cut.written)
    (has_more mode ((fed ++ taken.front) ++ (line ++ (10 ∷ []))) behind c.end_line.new.self c.in_err-end_line.field-0.0
    c.in_err-end_line.ensures.kept ended)

pub returns-in_err-end_line-clause-err : goal.returns-in_err-end_line-clause-err
returns-in_err-end_line-clause-err c =
    let p = err_from_is_err_and c.from_residual.result c.from_residual.ensures.1 in
    rw (p.1, p.2) (λ mode fed read. ended_of mode (fed ++ c.args.part.now) c.end_line.new.self
    c.in_err-end_line.field-0.0 (returns-in_err-end_line-clause-read c mode fed read)
    c.in_err-end_line.ensures.kept)

pub loop-line-preserved : goal.loop-line-preserved
loop-line-preserved c =
    let taken = c.loop-line.invariant in
    let line = c.in-Some-first_line.line.now in
    let cut = c.in-Some-first_line.ensures.some in
    let longer = simp length-append at (ap length cut.written) in
    record {
      front = taken.front ++ (line ++ (10 ∷ []));
      cut = rw (taken.cut, cut.written) (simp append_assoc);
      read = λ mode fed read. rw (← append_assoc fed taken.front (line ++ (10 ∷ [])))
          (c.in_ok-end_line.ensures.read mode (fed ++ taken.front) (taken.read mode fed read) cut.first);
      going = c.in_ok-end_line.ensures.going;
      counted_so_far = omega (arith, c.in_ok-end_line.ensures.counted, taken.counted_so_far, longer);
    }
