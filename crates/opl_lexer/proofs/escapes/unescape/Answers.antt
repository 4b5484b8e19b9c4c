use Rattle.std.proofs.Common.{◌≡◌, length, ◌∙◌}
use Rattle.std.specs.Str.{IsCharBoundary}
use Rattle.std.specs.String.{string_bytes}
use Rattle.std.proofs.lemmas.Str.{IsUtf8-string_bytes}
use Rattle.opl_lexer.proofs.EscapeSteps.{kept_boundary}
use Rattle.opl_lexer.proofs.escapes.unescape.Goals as goal

pub truncate-requires : goal.truncate-requires
truncate-requires c = λ within.
    let old = string_bytes c.args.out.now in
    let new = string_bytes c.append-done.new.out in
    let part = c.append-done.ensures.keeps in
    let len : c.len-len.result ≡ length old = c.len-len.ensures ∙ c.args.out.now.bytes.ok.0 in
    let cut : IsCharBoundary new (length old) = kept_boundary old new part.0 part.1 (IsUtf8-string_bytes c.args.out.now)
    (IsUtf8-string_bytes c.append-done.new.out) in
    rw len (cut.0, λ some. cut.1)
