use Rattle.sequence_journal.proofs.HeadFields.{head_found}
use Rattle.sequence_journal.proofs.layout.open_head.Goals as goal

pub returns-clause-found : goal.returns-clause-found
returns-clause-found c =
    head_found c.args.bytes.now c.in_ok-fields.fields.now c.in_ok-profile.rest.now c.in_ok-generation.rest.now
    c.in_ok-kept.rest.now c.in_ok-size.rest.now c.in_ok-profile.profile c.in_ok-generation.generation c.in_ok-kept.kept
    c.in_ok-size.size c.in_ok-fields.ensures.found c.in_ok-profile.ensures.found c.in_ok-generation.ensures.found
    c.in_ok-kept.ensures.found c.in_ok-size.ensures.found
