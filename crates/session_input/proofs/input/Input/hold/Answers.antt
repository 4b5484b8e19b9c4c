use Rattle.std.proofs.Common.{refl}
use Rattle.session_input.proofs.HoldingSteps.{holds_part}
use Rattle.session_input.proofs.input.Input.hold.Goals as goal

pub returns-clause-ok : goal.returns-clause-ok
returns-clause-ok c = λ before bytes holds lacks.
    holds_part before bytes c.args.part.now c.args.self.now _ holds lacks c.requires refl
    c.in_ok-extend_from_slice.ensures.items refl
