use Rattle.std.proofs.Common.{◌≡◌, ◌-◌, ℕ, List, Option, vec_len}
use Rattle.opl_lexer.specs.declared.mode.Mode.{Mode}
use Rattle.bounded_input.specs.declared.input.ReadInput.{ReadInput}
use Rattle.bounded_input.specs.Reading.{Holds}
use Rattle.road_io.specs.Parts.{Took}
use Rattle.bounded_input.proofs.input.read_events.Given as goal

-- these bytes were read so far, no read failed, and there is room for a part
pub record Goes (mode : Mode) (before now : Option (List ℕ)) (input : ReadInput)
    (faults_before faults_now len : ℕ) : Type 0 where
  pub read : List ℕ
  pub took : Took read before now
  pub holds : Holds mode read input
  pub calm : faults_now ≡ faults_before
  pub room : len ≡ 65536

abbrev pub invariant-loop-n : goal.invariant-loop-n
invariant-loop-n g l =
    Goes l.fn.mode (g.S.Source.bytes_left l.fn.source) (g.S.Source.bytes_left l.source) l.input
    (g.S.Source.faults l.fn.source) (g.S.Source.faults l.source) (vec_len l.buffer)

abbrev pub decreases-loop-n : goal.decreases-loop-n
decreases-loop-n g l = 1073741825 - l.input.measure.total
