use Rattle.std.proofs.Common.{◌≡◌, length, reverse}
use denote.Shadow.{shadow}
use denote.Text.{Utf8}
use Rattle.access_profile.specs.Restricting.{behind_spaces}
use Rattle.moment_rules.proofs.part.before_spaces.Given as goal

abbrev pub invariant-loop-before : goal.invariant-loop-before
invariant-loop-before l = (behind_spaces (reverse l.text) ≡ behind_spaces (reverse l.rest)) × shadow (Utf8 l.rest)

abbrev pub decreases-loop-before : goal.decreases-loop-before
decreases-loop-before l = length l.rest
