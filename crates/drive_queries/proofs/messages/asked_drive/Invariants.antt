use Rattle.std.proofs.Common.{◌≡◌, ◌++◌}
use Rattle.std.specs.Option.{option_map}
use Rattle.opl_lexer.specs.Left.{fields_left}
use Rattle.drive_queries.specs.Messages.{steps_of}
use Rattle.drive_queries.proofs.messages.asked_drive.Given as goal

abbrev pub invariant-loop-word : goal.invariant-loop-word
invariant-loop-word l =
    steps_of (fields_left l.fn.words) ≡ option_map (λ rest. l.steps.items ++ rest)
    (steps_of (fields_left l.word-iterator))
