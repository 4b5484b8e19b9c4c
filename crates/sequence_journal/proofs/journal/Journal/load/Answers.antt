use Rattle.std.proofs.lemmas.Result.{err_from_is_err_and}
use Rattle.road_io.proofs.ToldCalls.{told_then, told_weaker}
use Rattle.sequence_journal.proofs.MendedFile.{load_unsettled, load_done}
use Rattle.sequence_journal.proofs.journal.Journal.load.Goals as goal

pub returns-in_err-settle-clause-told : goal.returns-in_err-settle-clause-told
returns-in_err-settle-clause-told g c =
    let p = err_from_is_err_and c.from_residual.result c.from_residual.ensures.1 in
    rw p.1 (told_weaker _ _ _ _ c.in_err-settle.ensures.told
    (λ w u s. load_unsettled c.args.file p.0 c.in_err-settle.field-0.0 w u p.2 s))

pub returns-clause-told : goal.returns-clause-told
returns-clause-told g c = told_then _ _ _ _ _ _ c.in_ok-settle.ensures.told c.mend.ensures.told
    (λ w u v. load_done c.args.file c.mend.result c.in_ok-settle.field-0 w u v)
