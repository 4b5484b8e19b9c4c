use Rattle.std.proofs.Common.{◌≡◌, ◌++◌, take, codes}
use Rattle.session_replies.specs.Texts.{steps_bytes}
use Rattle.session_replies.proofs.texts.drive_text.Given as goal

-- the steps so far are told
abbrev pub invariant-loop-step : goal.invariant-loop-step
invariant-loop-step l = l.text.items ≡ codes "drive" ++ steps_bytes (take l.step-index l.steps)
