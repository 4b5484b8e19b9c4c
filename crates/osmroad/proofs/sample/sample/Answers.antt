use Rattle.std.proofs.Common.{Ok, refl}
use Rattle.last_words.specs.declared.status.Status.TheVariants.{Done}
use Rattle.osmroad.proofs.Prepared.{no_memory}
use Rattle.osmroad.proofs.SampleReplies.{failed_sample, put_sample}
use Rattle.osmroad.proofs.sample.sample.Goals as goal

pub returns-in_err-out : goal.returns-in_err-out
returns-in_err-out g c = λ held outside.
    failed_sample c.args.number held outside c.from_residual.result
    (no_memory c.from_residual.result c.from_residual.ensures.1)

pub returns : goal.returns
returns g c = λ held outside.
    put_sample c.args.number held outside (Ok (record { status = Done; out = c.in_ok-out.out })) c.in_ok-out.out.items
    (refl, refl) c.in_ok-out.ensures
