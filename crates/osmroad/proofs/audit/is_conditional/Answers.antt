use Rattle.std.specs.Prelude.{codes}
use Rattle.std.proofs.lemmas.Str.Pattern.{ends_text}
use Rattle.osmroad.proofs.audit.is_conditional.Goals as goal

pub returns : goal.returns
returns c = ends_text c.ends_with.result (codes ":conditional") c.args.key.now c.ends_with.ensures.cases
