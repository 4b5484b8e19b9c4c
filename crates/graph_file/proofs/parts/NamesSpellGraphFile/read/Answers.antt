use Rattle.std.proofs.lemmas.Result.{err_from_is_err_and}
use Rattle.spelled_bytes.proofs.Fronts.{malformed_weaker}
use Rattle.graph_file.proofs.ContextParts.{no_name}
use Rattle.graph_file.proofs.parts.NamesSpellGraphFile.read.Goals as goal

pub returns-in_err-name-clause-malformed : goal.returns-in_err-name-clause-malformed
returns-in_err-name-clause-malformed g c =
    let p = err_from_is_err_and c.from_residual-in_err-name.result c.from_residual-in_err-name.ensures.1 in
    rw (p.1, p.2) (malformed_weaker c.in_err-name.field-0.0
    (no_name c.args.bytes.now c.in_ok-length.length c.in_ok-length.rest.now c.in_ok-length.ensures.found
    c.if-length-eq1.true) c.in_err-name.ensures.malformed)
