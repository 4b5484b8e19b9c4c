use Rattle.std.proofs.Common.{rules, ◌≡◌, ◌<◌, ◌≤◌, ℕ, length, slice_index, true, false, sym, ◌∙◌}
use Rattle.opl_lexer.specs.Fields.{is_blank}
use Rattle.opl_lexer.proofs.FieldRuns.{first_field, boundary_before_blank, some_run}
use Rattle.opl_lexer.proofs.field_iter.first_field.Goals as goal

pub split_at-requires : goal.split_at-requires
split_at-requires c =
    let text = c.without_blanks-text.result.now in
    let inside : c.run.result ≤ length text = rw c.as_bytes.ensures.value at c.run.ensures.bound in
    let stops : c.run.result < length text → is_blank (slice_index text c.run.result)
    ≡ true = rw c.as_bytes.ensures.value at c.run.ensures.stops in
    boundary_before_blank text c.run.result inside stops

pub returns-clause-some : goal.returns-clause-some
returns-clause-some c =
    let text = c.without_blanks-text.result.now in
    let inside : c.run.result ≤ length text = rw c.as_bytes.ensures.value at c.run.ensures.bound in
    let solid : (k : ℕ) → k < c.run.result → is_blank (slice_index text k)
    ≡ false = rw c.as_bytes.ensures.value at c.run.ensures.solid in
    let stops : c.run.result < length text → is_blank (slice_index text c.run.result)
    ≡ true = rw c.as_bytes.ensures.value at c.run.ensures.stops in
    let bytes : 0 < length text = search rules in
    let some = some_run text c.run.result bytes (c.without_blanks-text.ensures.solid bytes) stops in
    let first = first_field text c.run.result some inside solid stops in
    sym c.without_blanks-text.ensures.same ∙ rw (c.split_at.ensures.front, c.split_at.ensures.back) first
