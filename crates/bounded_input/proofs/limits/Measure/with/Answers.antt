use Rattle.std.proofs.Common.{arith, ◌≡◌, ℕ, List, inr, length, length-append, slice_index}
use Rattle.std.proofs.lemmas.Bool.Decides.{Decides-eqb}
use Rattle.memchr.specs.Find.{Nowhere, Passes as PassesTest, is_byte}
use Rattle.bounded_input.specs.Limits.{EndsLine}
use Rattle.bounded_input.proofs.LineLengths.{IsPlainTo, long, grown, grown_short, begun, begun_short}
use Rattle.bounded_input.proofs.limits.Measure.with.Goals as goal

plain_to : (ps : List ℕ) (n : ℕ) → Nowhere (PassesTest (is_byte 10) ps) 0 n → IsPlainTo ps n
plain_to ps n none j h = λ e. none j (omega arith) h ((Decides-eqb (slice_index ps j) 10).1 e)

pub returns-then-line-gt-MOST_LINE-clause-none : goal.returns-then-line-gt-MOST_LINE-clause-none
returns-then-line-gt-MOST_LINE-clause-none c = λ bytes m.
    let none = rw c.in_default.is at c.memchr.ensures in
    inr (long bytes c.args.part.now c.args.self.line (length c.args.part.now) m.line (omega arith)
    (plain_to c.args.part.now (length c.args.part.now) none) (omega arith))

pub returns-in_default-clause-some : goal.returns-in_default-clause-some
returns-in_default-clause-some c = λ bytes m.
    let none = rw c.in_default.is at c.memchr.ensures in
    let plain = plain_to c.args.part.now (length c.args.part.now) none in
    let total = m.total in
    record {
      total = omega (arith, length-append bytes c.args.part.now);
      line = grown bytes c.args.part.now c.args.self.line m.line plain;
      short = grown_short bytes c.args.part.now c.args.self.line m.line m.short (omega arith);
    }

pub returns-then-self-first-gt-MOST_LINE-clause-none : goal.returns-then-self-first-gt-MOST_LINE-clause-none
returns-then-self-first-gt-MOST_LINE-clause-none c = λ bytes m.
    let found = rw c.in-Some.is at c.memchr.ensures in
    let inside = found.0.high in
    inr (long bytes c.args.part.now c.args.self.line c.in-Some.first m.line (omega arith)
    (plain_to c.args.part.now c.in-Some.first found.0.before) (omega arith))

pub returns-clause-some : goal.returns-clause-some
returns-clause-some c = λ bytes m.
    let found = rw c.in-Some.is at c.memchr.ensures in
    let inside = found.0.high in
    let newline : slice_index c.args.part.now c.in-Some.first
    ≡ 10 = (Decides-eqb (slice_index c.args.part.now c.in-Some.first) 10).0 found.1 in
    let total = m.total in
    let last : EndsLine c.args.part.now c.last_line-line.result = record {
      bound = c.last_line-line.ensures.bound;
      open_line = c.last_line-line.ensures.open_line;
      start
          = c.last_line-line.ensures.start;
    } in
    record {
      total = omega (arith, length-append bytes c.args.part.now);
      line = begun bytes c.args.part.now c.last_line-line.result c.in-Some.first last inside newline;
      short = begun_short bytes c.args.part.now c.args.self.line c.in-Some.first m.line m.short (omega arith) inside
          newline c.requires;
    }
