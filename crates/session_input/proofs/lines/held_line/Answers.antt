use Rattle.std.proofs.Common.{◌≡◌, List, ℕ, Some, length, take, sym, ap, ◌∙◌, subst}
use Rattle.std.specs.Str.{IsUtf8}
use Rattle.std.specs.Prelude.{IsOk}
use Rattle.std.proofs.lemmas.Bool.{false≢true}
use Rattle.std.proofs.lemmas.Str.{IsUtf8-string_bytes}
use Rattle.opl_lexer.specs.Lines.{without_return}
use Rattle.session_input.proofs.LineTexts.{text_there, text_missing, return_dropped}
use Rattle.session_input.proofs.lines.held_line.Goals as goal

-- what is cut off behind so many bytes leaves the line without its return
cut_is : (line front held left : List ℕ) → held ≡ line → front ≡ without_return held → left ≡ take (length front) line
    → left ≡ without_return line
cut_is line front held left same is cut =
    let front_is : front ≡ without_return line = is ∙ ap without_return same in
    cut ∙ ap (λ (l : List ℕ). take (length l) line) front_is ∙ return_dropped line

pub returns-in-Ok : goal.returns-in-Ok
returns-in-Ok c =
    let line = c.args.line.items in
    let left = cut_is line c.without_return-length.result.now c.deref.result.now c.truncate.new.self.items
    c.deref.ensures.value c.without_return-length.ensures c.truncate.ensures.items in
    let text = ap (λ v. v.items) c.in-Ok.ensures.ok ∙ left in
    ap Some text ∙ sym (text_there line (subst IsUtf8 text (IsUtf8-string_bytes c.in-Ok.text)))

pub returns : goal.returns
returns c =
    let line = c.args.line.items in
    let left = cut_is line c.without_return-length.result.now c.deref.result.now c.truncate.new.self.items
    c.deref.ensures.value c.without_return-length.ensures c.truncate.ensures.items in
    sym (text_missing line (λ utf8. false≢true (subst IsOk c.in-Err.is
    (c.from_utf8.ensures.succeeds (subst IsUtf8 (sym left) utf8)))))
