use Rattle.std.proofs.Common.{◌≡◌, ◌∙◌, sym, refl, arith, rules}
use Rattle.std.specs.Int.{w64}
use Rattle.std.proofs.lemmas.Str.Pattern.{split_parts}
use Rattle.drive_queries.proofs.MessageSteps.{step_between, step_nowhere}
use Rattle.drive_queries.proofs.step_words.step_along.Goals as goal

pub returns-in_err-way : goal.returns-in_err-way
returns-in_err-way c =
    let word = c.args.word.now in
    let found = split_parts 46 word c.split_once.result c.split_once.ensures.cases (omega arith) in
    let none = rw c.in_err-way.was at found in
    c.from_residual.ensures ∙ sym (step_nowhere c.args.dir word none)

pub returns-in_err-whole : goal.returns-in_err-whole
returns-in_err-whole c =
    let word = c.args.word.now in
    let found = split_parts 46 word c.split_once.result c.split_once.ensures.cases (omega arith) in
    let parts = rw c.in_ok-way.was at found in
    let told = step_between c.args.dir word c.in_ok-way.way.now c.in_ok-way.index.now parts.0 parts.1 in
    let way = sym c.whole.ensures ∙ c.in_err-whole.was in
    c.from_residual-in_err-whole.ensures ∙ sym (rw way at told)

pub returns-in_err-index : goal.returns-in_err-index
returns-in_err-index c =
    let word = c.args.word.now in
    let found = split_parts 46 word c.split_once.result c.split_once.ensures.cases (omega arith) in
    let parts = rw c.in_ok-way.was at found in
    let told = step_between c.args.dir word c.in_ok-way.way.now c.in_ok-way.index.now parts.0 parts.1 in
    let way = sym c.whole.ensures ∙ c.in_ok-whole.was in
    let index = sym c.number.ensures ∙ c.in_err-index.was in
    c.from_residual-in_err-index.ensures ∙ sym (rw (way, index) at told)

pub returns : goal.returns
returns c =
    let word = c.args.word.now in
    let found = split_parts 46 word c.split_once.result c.split_once.ensures.cases (omega arith) in
    let parts = rw c.in_ok-way.was at found in
    let told = step_between c.args.dir word c.in_ok-way.way.now c.in_ok-way.index.now parts.0 parts.1 in
    let way = sym c.whole.ensures ∙ c.in_ok-whole.was in
    let index = sym c.number.ensures ∙ c.in_ok-index.was in
    let same : mir.Val.to_z w64 (mir.Val.of_z w64 c.in_ok-whole.field-0) ≡ c.in_ok-whole.field-0 = search rules in
    rw (same, told, way, index) refl
