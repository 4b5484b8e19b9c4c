use Rattle.std.proofs.Common.{◌≡◌, ◌-◌, ℕ, List, Option, vec_len}
use Rattle.road_base.specs.declared.event.Event.{Event}
use Rattle.road_io.specs.Parts.{Took}
use Rattle.opl_lexer.specs.declared.mode.Mode.{Mode}
use Rattle.bounded_input.specs.declared.stream.OpenStream.{OpenStream}
use Rattle.bounded_input.specs.OpenStreams.{IsOpenAt}
use Rattle.bounded_input.specs.Streaming.{TakesMore}
use Rattle.bounded_input.proofs.stream.stream_events.Given as goal

-- these bytes were read so far, the events of their whole lines were taken, no read failed, and there is room for a
-- part
pub record Streams (mode : Mode) (Before Now : List Event → Type 0) (before now : Option (List ℕ)) (stream : OpenStream)
    (faults_before faults_now len : ℕ) : Type 0 where
  pub read : List ℕ
  pub took : Took read before now
  pub events : List Event
  pub holds : IsOpenAt mode read events stream
  pub taken : TakesMore Before Now events
  pub calm : faults_now ≡ faults_before
  pub room : len ≡ 65536

abbrev pub invariant-loop-n : goal.invariant-loop-n
invariant-loop-n g l =
    Streams l.fn.mode (g.T.TakesEvents.has_taken l.fn.taker) (g.T.TakesEvents.has_taken l.taker)
    (g.S.Source.bytes_left l.fn.source) (g.S.Source.bytes_left l.source) l.stream
    (g.S.Source.faults l.fn.source) (g.S.Source.faults l.source) (vec_len l.buffer)

abbrev pub decreases-loop-n : goal.decreases-loop-n
decreases-loop-n g l = 4611686018427387905 - l.stream.measure.total
