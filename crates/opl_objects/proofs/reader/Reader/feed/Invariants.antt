use Rattle.std.proofs.Common.{◌≡◌, ◌+◌, ◌≤◌, ◌++◌, ℕ, List, length, None}
use Rattle.opl_lexer.specs.declared.mode.Mode.{Mode}
use Rattle.opl_objects.specs.declared.reader.Reader.{Reader}
use Rattle.opl_objects.specs.Feeding.{HasRead, answered, counted}
use Rattle.opl_objects.proofs.reader.Reader.feed.Given as goal

-- the bytes in front of the rest were taken
pub record Taken (part rest : List ℕ) (old new : Reader) : Type 0 where
  pub front : List ℕ
  pub cut : part ≡ front ++ rest
  pub read : (mode : Mode) (fed : List ℕ) → HasRead mode fed old → HasRead mode (fed ++ front) new
  pub going : answered new ≡ None
  pub counted_so_far : counted new + length rest ≤ counted old + length part

abbrev pub invariant-loop-line : goal.invariant-loop-line
invariant-loop-line l = Taken l.part l.rest l.fn.self l.self

abbrev pub decreases-loop-line : goal.decreases-loop-line
decreases-loop-line l = length l.rest
