use Rattle.std.proofs.Common.{◌≡◌, take}
use Rattle.session_replies.specs.CostTexts.{certificate_bytes}
use Rattle.session_replies.proofs.cost_texts.certificate.Given as goal

-- what stands at the contexts so far is written
abbrev pub invariant-loop-potential : goal.invariant-loop-potential
invariant-loop-potential l = l.bytes.items ≡ certificate_bytes (take l.potential-index l.potentials)
