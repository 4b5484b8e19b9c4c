use Rattle.std.proofs.Common.{◌≡◌, ◌-◌, ◌≤◌, ◌^◌, ℕ, List, Option, length, vec_len}
use Rattle.road_io.specs.Parts.{Took}
use Rattle.bounded_input.proofs.gathering.gather.Given as goal

-- these bytes were read so far, no read failed, and there is room for a part
pub record Gathers (before now : Option (List ℕ)) (bytes : List ℕ) (faults_before faults_now len : ℕ) : Type 0 where
  pub took : Took bytes before now
  pub few : length bytes ≤ 2 ^ 30
  pub calm : faults_now ≡ faults_before
  pub room : len ≡ 65536

abbrev pub invariant-loop-n : goal.invariant-loop-n
invariant-loop-n g l =
    Gathers (g.S.Source.bytes_left l.fn.source) (g.S.Source.bytes_left l.source) l.bytes.items
    (g.S.Source.faults l.fn.source) (g.S.Source.faults l.source) (vec_len l.buffer)

abbrev pub decreases-loop-n : goal.decreases-loop-n
decreases-loop-n g l = 1073741825 - length l.bytes.items
