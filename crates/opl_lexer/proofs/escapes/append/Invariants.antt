use Rattle.std.proofs.Common.{length}
use denote.Text.{Utf8}
use denote.Shadow.{shadow}
use Rattle.std.specs.String.{string_bytes}
use Rattle.opl_lexer.proofs.EscapeSteps.{HasRead}
use Rattle.opl_lexer.proofs.escapes.append.Given as goal

abbrev pub invariant-loop-front : goal.invariant-loop-front
invariant-loop-front l = shadow (Utf8 l.rest) × HasRead l.text (string_bytes l.initial.out) l.rest (string_bytes l.out)

abbrev pub decreases-loop-front : goal.decreases-loop-front
decreases-loop-front l = length l.rest
