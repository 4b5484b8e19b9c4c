use Rattle.std.proofs.Common.{◌≡◌, ◌<◌, ◌≤◌, ℕ, length, slice_index, true, ◌∙◌, ap}
use Rattle.opl_lexer.specs.Fields.{is_blank, fields}
use Rattle.opl_lexer.proofs.FieldRuns.{fields_behind_blanks, boundary_behind_blanks}
use Rattle.opl_lexer.proofs.field_iter.without_blanks.Goals as goal

pub split_at-requires : goal.split_at-requires
split_at-requires c =
    let text = c.args.text.now in
    let blank : (k : ℕ) → k < c.blanks.result
    → is_blank (slice_index text k) ≡ true = rw c.as_bytes.ensures.value at c.blanks.ensures.blank in
    let inside : c.blanks.result ≤ length text = rw c.as_bytes.ensures.value at c.blanks.ensures.bound in
    boundary_behind_blanks text c.blanks.result c.utf8.text inside blank

pub returns-clause-same : goal.returns-clause-same
returns-clause-same c =
    let text = c.args.text.now in
    let blank : (k : ℕ) → k < c.blanks.result
    → is_blank (slice_index text k) ≡ true = rw c.as_bytes.ensures.value at c.blanks.ensures.blank in
    let inside : c.blanks.result ≤ length text = rw c.as_bytes.ensures.value at c.blanks.ensures.bound in
    ap fields c.split_at.ensures.back ∙ fields_behind_blanks text c.blanks.result inside blank
