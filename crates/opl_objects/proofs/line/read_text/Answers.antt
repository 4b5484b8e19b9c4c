use Rattle.std.proofs.Common.{◌≡◌, true, false, sym, ap, ◌∙◌, subst}
use Rattle.opl_lexer.specs.Left.{fields_left}
use Rattle.opl_lexer.specs.Faults.{is_object, is_passed_over, fault_behind}
use Rattle.opl_objects.specs.LineParts.{IsFaultAt}
use Rattle.opl_objects.proofs.LineWhole.{begins_passed, begins_object, says_nothing, fault_object, fault_unknown_line}
use Rattle.opl_objects.proofs.LineWhole.{fault_known_line, refuses, spells}
use Rattle.std.proofs.lemmas.Result.{err_from_is_err_and}
use Rattle.opl_objects.proofs.line.read_text.Goals as goal

pub returns-in_default-clause-ok : goal.returns-in_default-clause-ok
returns-in_default-clause-ok c = says_nothing c.args.mode c.args.line.now c.utf8.line
    (ap is_passed_over (sym c.fields-others.ensures ∙ c.in_default.ensures.steps.0))

pub returns-then-is_passed-clause-ok : goal.returns-then-is_passed-clause-ok
returns-then-is_passed-clause-ok c =
    let split = sym c.fields-others.ensures ∙ c.in-Some.ensures.steps in
    let passed = begins_passed c.in-Some.object.now _ _ true c.first_byte-first.ensures c.is_passed.ensures
    c.if-is_passed.true in
    says_nothing c.args.mode c.args.line.now c.utf8.line (ap is_passed_over split ∙ passed)

pub returns-then-not-is_object-clause-err : goal.returns-then-not-is_object-clause-err
returns-then-not-is_object-clause-err c =
    let object = c.in-Some.object.now in
    let others = fields_left c.next.new.self in
    let split = sym c.fields-others.ensures ∙ c.in-Some.ensures.steps in
    let taken = begins_passed c.in-Some.object.now _ _ false c.first_byte-first.ensures c.is_passed.ensures
    c.if-is_passed.false in
    let unknown : is_object object ≡ false = begins_object object _ _ false c.first_byte-first.ensures
    c.is_object.ensures c.if-not-is_object.true in
    fault_object c.args.mode c.args.line.now object others c.utf8.line split taken
    ∙ fault_unknown_line c.args.mode object others unknown

pub returns-clause-ok : goal.returns-clause-ok
returns-clause-ok c =
    let object = c.in-Some.object.now in
    let others = fields_left c.next.new.self in
    let split = sym c.fields-others.ensures ∙ c.in-Some.ensures.steps in
    let taken = begins_passed c.in-Some.object.now _ _ false c.first_byte-first.ensures c.is_passed.ensures
    c.if-is_passed.false in
    let known : is_object object ≡ true = begins_object object _ _ true c.first_byte-first.ensures c.is_object.ensures
    c.if-not-is_object.false in
    let good = fault_object c.args.mode c.args.line.now object others c.utf8.line split taken
    ∙ (fault_known_line c.args.mode object others known
    ∙ (ap (λ k. fault_behind c.args.mode k others) c.in_ok-read_object.ensures.key
    ∙ c.in_ok-read_object.ensures.good)) in
    spells c.args.mode c.args.line.now object others c.in_ok-read_object.field-0 split taken good
    c.in_ok-read_object.ensures.key c.in_ok-read_object.ensures.event

pub returns-in_err-read_object-clause-err : goal.returns-in_err-read_object-clause-err
returns-in_err-read_object-clause-err c =
    let p = err_from_is_err_and c.from_residual.result c.from_residual.ensures.1 in
    let object = c.in-Some.object.now in
    let others = fields_left c.next.new.self in
    let split = sym c.fields-others.ensures ∙ c.in-Some.ensures.steps in
    let taken = begins_passed c.in-Some.object.now _ _ false c.first_byte-first.ensures c.is_passed.ensures
    c.if-is_passed.false in
    let known : is_object object ≡ true = begins_object object _ _ true c.first_byte-first.ensures c.is_object.ensures
    c.if-not-is_object.false in
    let fault = fault_object c.args.mode c.args.line.now object others c.utf8.line split taken
    ∙ fault_known_line c.args.mode object others known in
    rw (p.1, p.2) (refuses c.args.mode c.args.line.now c.in_err-read_object.field-0.0
    (subst (λ f. IsFaultAt f c.in_err-read_object.field-0.0) (sym fault) c.in_err-read_object.ensures.err))
