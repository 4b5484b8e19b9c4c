-- Why a stream isn't read on, and what was taken of it.
use Rattle.std.proofs.Common.{◌≡◌, ◌++◌, ◌^◌, ℕ, List, [], Some, Option, Ok, Err, Result, OnOk, IfErr, inl, inr, sym, ap}
use Rattle.std.proofs.Common.{◌∙◌, subst, append_assoc, append-nil}
use Rattle.road_base.specs.declared.event.Event.{Event}
use Rattle.road_io.specs.Told.{Told}
use Rattle.road_io.specs.Parts.{Took}
use Rattle.opl_lexer.specs.declared.mode.Mode.{Mode}
use Rattle.opl_lexer.specs.Reading.{ended_fault}
use Rattle.opl_objects.specs.StreamLines.{fault_at}
use Rattle.opl_objects.proofs.StreamFaults.{ended_fault-stays}
use Rattle.bounded_input.specs.declared.input.InputError.{InputError}
use Rattle.bounded_input.specs.declared.input.InputError.TheVariants.{Failed, TooLong, Refused, NoMemory}
use Rattle.bounded_input.specs.declared.limits.Measure.{Measure}
use Rattle.bounded_input.specs.Limits.{Passes, PassesStreamLimit, Measures}
use Rattle.bounded_input.specs.Input.{IsRefusal}
use Rattle.bounded_input.specs.StreamFaults.{EndsIn, StreamStops}
use Rattle.bounded_input.specs.Streaming.{TakesMore, StreamStopped}
use Rattle.bounded_input.proofs.InputEnds.{within, took_whole, ended_whole}

pub on_ok : {T E : Type 0} {A B : Type 0} (r : Result T E) → OnOk r A → (A → B) → OnOk r B
on_ok (Ok x) a f = f a
on_ok (Err e) a f = tt

pub on_err : {T E : Type 0} {A B : E → Type 0} (r : Result T E) → IfErr r A → ((e : E) → A e → B e) → IfErr r B
on_err (Ok x) a f = tt
on_err (Err e) a f = f e a

pub within_stream : (bytes : List ℕ) (measure : Measure) → measure.most ≡ 2 ^ 62 → Measures bytes measure
    → PassesStreamLimit bytes → ⊥
within_stream bytes measure most m passes =
    within bytes measure m (subst (λ (n : ℕ). Passes n bytes) (sym most) passes)

-- ---- what was taken

pub takes_none : (Has : List Event → Type 0) → TakesMore Has Has []
takes_none Has taken has = subst Has (sym (append-nil taken)) has

pub takes_both : (Before Between Now : List Event → Type 0) (events more : List Event) → TakesMore Before Between events
    → TakesMore Between Now more → TakesMore Before Now (events ++ more)
takes_both Before Between Now events more first second taken has =
    subst Now (append_assoc taken events more) (second (taken ++ events) (first taken has))

-- ---- why no more is read

-- the first fault of the lines that have ended stays the first one
pub stops_in : (mode : Mode) (read part ended rest : List ℕ) (e : InputError) → part ≡ ended ++ rest
    → (PassesStreamLimit (read ++ part) → ⊥) → EndsIn mode (read ++ ended) e → StreamStops mode (read ++ part) e
stops_in mode read part ended rest Failed cut few f = absurd f
stops_in mode read part ended rest TooLong cut few f = absurd f
stops_in mode read part ended rest (Refused fault) cut few f = (
  few,
  subst (λ (l : List ℕ). ended_fault mode l ≡ Some (fault_at fault))
      (append_assoc read ended rest ∙ ap (λ (l : List ℕ). read ++ l) (sym cut))
      (ended_fault-stays mode (read ++ ended) rest (fault_at fault) f),
)
stops_in mode read part ended rest NoMemory cut few f = tt

module _ (mode : Mode) (read : List ℕ) (before now : Option (List ℕ)) (faults_before faults_now : ℕ) where
  pub stream_stopped : Took read before now → (e : InputError) → StreamStops mode read e
      → StreamStopped mode e before now faults_before faults_now
  stream_stopped took Failed s = absurd s
  stream_stopped took TooLong s = record { read = read; took = took; cause = s }
  stream_stopped took (Refused fault) s = record { read = read; took = took; cause = (s.0, inl s.1) }
  stream_stopped took NoMemory s = record { read = read; took = took; cause = tt }

  pub stream_refused : Told (λ was left. (was ≡ read) × (left ≡ [])) before now → (PassesStreamLimit read → ⊥)
      → (e : InputError) → IsRefusal mode read e → StreamStopped mode e before now faults_before faults_now
  stream_refused t few Failed r = absurd r
  stream_refused t few TooLong r = absurd r
  stream_refused t few (Refused fault) r = record {
    read = read;
    took = took_whole read before now t;
    cause = (few, inr (ended_whole read before now t, r));
  }
  stream_refused t few NoMemory r = record { read = read; took = took_whole read before now t; cause = tt }
