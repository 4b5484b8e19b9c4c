use Rattle.std.proofs.Common.{◌≡◌, true, false, sym, ◌∙◌, subst, IfErr}
use Rattle.std.proofs.lemmas.Result.{on_ok_weaker}
use Rattle.opl_lexer.specs.Faults.{letter, stands}
use Rattle.opl_objects.specs.LineLetters.{byte_of}
use Rattle.opl_objects.specs.LineParts.{IsFault}
use Rattle.opl_objects.proofs.LineHolds.{put_good}
use Rattle.opl_objects.proofs.LineFields.{known_letter, fault_unknown, fault_repeated, fault_put, read_more}
use Rattle.opl_objects.proofs.parts.Parts.take.Goals as goal

pub returns-in_default-clause-err : goal.returns-in_default-clause-err
returns-in_default-clause-err c = λ fields read.
    fault_unknown c.args.key fields c.args.field.now
    (known_letter c.args.key c.args.field.now _ _ c.first_byte.ensures c.in_default.ensures.known)

pub returns-then-has-clause-err : goal.returns-then-has-clause-err
returns-then-has-clause-err c = λ fields read.
    let l = c.in-Some.letter in
    let field = c.args.field.now in
    let known = known_letter c.args.key field _ _ c.first_byte.ensures c.in-Some.ensures.known in
    let here : letter field ≡ byte_of l = sym (c.in-Some.ensures.byte ∙ c.first_byte.ensures) in
    let stood : stands (byte_of l) fields ≡ true = sym (read.marked.each l) ∙ (sym c.has.ensures ∙ c.if-has.true) in
    fault_repeated c.args.key fields field known (subst (λ b. stands b fields ≡ true) (sym here) stood)

pub returns-clause-read : goal.returns-clause-read
returns-clause-read c = λ fields read.
    let l = c.in-Some.letter in
    let here : letter c.args.field.now ≡ byte_of l = sym (c.in-Some.ensures.byte ∙ c.first_byte.ensures) in
    let fresh : stands (byte_of l) fields ≡ false = sym (read.marked.each l) ∙ (sym c.has.ensures ∙ c.if-has.false) in
    on_ok_weaker c.put.result (read_more l fields c.args.field.now c.behind.result.now c.args.self.now c.put.new.self
    c.add.new.self read here fresh c.add.ensures c.behind.ensures) c.put.ensures.ok

pub returns-clause-good : goal.returns-clause-good
returns-clause-good c = λ fields read.
    let l = c.in-Some.letter in
    let known = known_letter c.args.key c.args.field.now _ _ c.first_byte.ensures c.in-Some.ensures.known in
    let here : letter c.args.field.now ≡ byte_of l = sym (c.in-Some.ensures.byte ∙ c.first_byte.ensures) in
    let fresh : stands (byte_of l) fields ≡ false = sym (read.marked.each l) ∙ (sym c.has.ensures ∙ c.if-has.false) in
    let fault = fault_put l c.args.key fields c.args.field.now c.behind.result.now known here fresh c.behind.ensures in
    on_ok_weaker c.put.result (λ put. sym fault ∙ put_good l c.behind.result.now _ c.put.new.self put) c.put.ensures.ok

pub returns-clause-err : goal.returns-clause-err
returns-clause-err c = λ fields read.
    let l = c.in-Some.letter in
    let known = known_letter c.args.key c.args.field.now _ _ c.first_byte.ensures c.in-Some.ensures.known in
    let here : letter c.args.field.now ≡ byte_of l = sym (c.in-Some.ensures.byte ∙ c.first_byte.ensures) in
    let fresh : stands (byte_of l) fields ≡ false = sym (read.marked.each l) ∙ (sym c.has.ensures ∙ c.if-has.false) in
    let fault = fault_put l c.args.key fields c.args.field.now c.behind.result.now known here fresh c.behind.ensures in
    subst (λ f. IfErr c.put.result (IsFault f)) fault c.put.ensures.err
