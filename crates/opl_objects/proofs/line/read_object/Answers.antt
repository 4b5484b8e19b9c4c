use Rattle.std.proofs.Common.{◌≡◌, [], Option, Some, None, rules, refl, sym, ap, ◌∙◌, subst}
use denote.Enum.Bare.{same_true}
use Rattle.road_base.specs.declared.ids.Key.{Key}
use Rattle.opl_lexer.specs.contracts.mode.Mode.{the_type}
use Rattle.opl_lexer.specs.declared.mode.Mode.TheVariants.{Change}
use Rattle.opl_lexer.specs.declared.fault.FaultKind.TheVariants.{BadNumber, NoVersion}
use Rattle.opl_lexer.specs.Left.{fields_left}
use Rattle.opl_lexer.specs.Contents.{key_of}
use Rattle.opl_lexer.specs.Faults.{first_bad, version_fault, fault_behind}
use Rattle.opl_objects.specs.LineParts.{IsFaultAt}
use Rattle.opl_objects.proofs.LineEvents.{told_first, told_version}
use Rattle.std.proofs.lemmas.Result.{err_from_is_err_and}
use Rattle.opl_objects.proofs.line.read_object.Goals as goal

pub returns-in_default-clause-err : goal.returns-in_default-clause-err
returns-in_default-clause-err c =
    let key : None ≡ key_of c.args.object.now = sym c.in_default.is ∙ c.key.ensures in
    subst (λ (k : Option Key). fault_behind c.args.mode k (fields_left c.args.others) ≡ Some (1, BadNumber)) key refl

pub returns-in_err-read-clause-err : goal.returns-in_err-read-clause-err
returns-in_err-read-clause-err c =
    let p = err_from_is_err_and c.from_residual.result c.from_residual.ensures.1 in
    let others = fields_left c.args.others in
    let key : Some c.in-Some.key ≡ key_of c.args.object.now = sym c.in-Some.is ∙ c.key.ensures in
    rw (p.1, p.2) (subst (λ (k : Option Key). IsFaultAt (fault_behind c.args.mode k others) c.in_err-read.field-0.0) key
    (told_first (first_bad c.in-Some.key [] others) (version_fault c.args.mode others) c.in_err-read.field-0.0
    c.in_err-read.ensures.err))

pub returns-then-not-has_version-clause-err : goal.returns-then-not-has_version-clause-err
returns-then-not-has_version-clause-err c =
    let others = fields_left c.args.others in
    let key : Some c.in-Some.key ≡ key_of c.args.object.now = sym c.in-Some.is ∙ c.key.ensures in
    let change : c.args.mode ≡ Change = same_true the_type (search rules) _ _ (sym c.eq.ensures ∙ c.if-eq.true) in
    let read = c.in_ok-read.ensures in
    subst (λ (k : Option Key). fault_behind c.args.mode k others ≡ Some (0, NoVersion)) key
    (told_version c.args.mode c.in-Some.key others change read.good
    (sym (c.has_version.ensures others read.read) ∙ c.if-not-has_version.true))

pub returns-clause-key : goal.returns-clause-key
returns-clause-key c =
    let key : key_of c.args.object.now ≡ Some c.in-Some.key = sym c.key.ensures ∙ c.in-Some.is in
    let read = c.in_ok-read.ensures in
    key ∙ ap Some (sym (c.event.ensures (fields_left c.args.others) read.read).same)
