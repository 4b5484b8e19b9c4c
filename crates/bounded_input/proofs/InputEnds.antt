-- What is known of an input when it ends, and why it isn't read on.
use Rattle.std.proofs.Common.{◌≡◌, ◌++◌, ℕ, List, [], Option, None, Some, inl, inr, sym, ap, subst, ◌∙◌, arith}
use Rattle.std.specs.Prelude.{IfOk, IfErr}
use Rattle.std.specs.declared.result.Result.{Result}
use Rattle.std.specs.declared.result.Result.TheVariants.{Ok, Err}
use Rattle.std.proofs.lemmas.List.{append-nil}
use Rattle.road_base.specs.declared.event.Event.{Event}
use Rattle.road_io.specs.Told.{Told}
use Rattle.opl_lexer.specs.declared.mode.Mode.{Mode}
use Rattle.opl_lexer.specs.Reading.{ReadAll}
use Rattle.bounded_input.specs.declared.limits.Measure.{Measure}
use Rattle.bounded_input.specs.declared.input.ReadInput.{ReadInput}
use Rattle.bounded_input.specs.declared.input.InputError.{InputError}
use Rattle.bounded_input.specs.declared.input.InputError.TheVariants.{Failed, TooLong, Refused, NoMemory}
use Rattle.bounded_input.specs.Limits.{Passes, PassesLimit, Measures}
use Rattle.bounded_input.specs.Reading.{Holds, Stops}
use Rattle.bounded_input.specs.Input.{Ended, ReadWhole, IsRefusal, Stopped}
use Rattle.road_io.specs.Parts.{Took}

pub within : (bytes : List ℕ) (measure : Measure) → Measures bytes measure → Passes measure.most bytes → ⊥
within bytes measure m (inl more) = let few = measure.few in let total = m.total in omega arith
within bytes measure m (inr long) = m.short long

pub within_limit : (bytes : List ℕ) (input : ReadInput) → Measures bytes input.measure → PassesLimit bytes → ⊥
within_limit bytes input m passes =
    within bytes input.measure m (subst (λ (n : ℕ). Passes n bytes) (sym input.limit) passes)

pub took_whole : (bytes : List ℕ) (x z : Option (List ℕ)) → Told (λ was left. (was ≡ bytes) × (left ≡ [])) x z
    → Took bytes x z
took_whole bytes None None t = tt
took_whole bytes None (Some z) t = t
took_whole bytes (Some x) None t = t
took_whole bytes (Some x) (Some z) t = t.0 ∙ (sym (append-nil bytes) ∙ ap (λ (l : List ℕ). bytes ++ l) (sym t.1))

pub ended_whole : (bytes : List ℕ) (x z : Option (List ℕ)) → Told (λ was left. (was ≡ bytes) × (left ≡ [])) x z
    → Ended z
ended_whole bytes None None t = tt
ended_whole bytes None (Some z) t = absurd t
ended_whole bytes (Some x) None t = tt
ended_whole bytes (Some x) (Some z) t = t.1

module _ (mode : Mode) (input : ReadInput) (before now : Option (List ℕ)) (faults_before faults_now : ℕ) where
  -- what the end of the input gives
  pub whole_events : (read : List ℕ) → Holds mode read input → Told (λ was left. (was ≡ read) × (left ≡ [])) before now
      → (events : List Event) → ReadAll mode read events → ReadWhole mode events before now
  whole_events read holds t events gives = record {
    bytes = read;
    took = took_whole read before now t;
    ended = ended_whole read before now t;
    within = within_limit read input holds.measures;
    gives = gives;
  }

  pub whole_refusal : (read : List ℕ) → Holds mode read input → Told (λ was left. (was ≡ read) × (left ≡ [])) before now
      → (e : InputError) → IsRefusal mode read e → Stopped mode e before now faults_before faults_now
  whole_refusal read holds t Failed r = absurd r
  whole_refusal read holds t TooLong r = absurd r
  whole_refusal read holds t (Refused fault) r = record {
    read = read;
    took = took_whole read before now t;
    cause
        = (ended_whole read before now t, within_limit read input holds.measures, r);
  }
  whole_refusal read holds t NoMemory r = record { read = read; took = took_whole read before now t; cause = tt }

-- what stops an input before its end
pub stopped : (mode : Mode) (read : List ℕ) (before now : Option (List ℕ)) (faults_before faults_now : ℕ)
    → Took read before now
    → (e : InputError) → Stops e read → Stopped mode e before now faults_before faults_now
stopped mode read before now fb fn took Failed s = absurd s
stopped mode read before now fb fn took TooLong s = record { read = read; took = took; cause = s }
stopped mode read before now fb fn took (Refused fault) s = absurd s
stopped mode read before now fb fn took NoMemory s = record { read = read; took = took; cause = tt }

pub ok_maps : {T E : Type 0} {P Q : T → Type 0} (r : Result T E) → IfOk r P → ((x : T) → P x → Q x) → IfOk r Q
ok_maps (Ok x) h f = f x h
ok_maps (Err e) h f = tt

pub err_maps : {T E : Type 0} {P Q : E → Type 0} (r : Result T E) → IfErr r P → ((e : E) → P e → Q e) → IfErr r Q
err_maps (Ok x) h f = tt
err_maps (Err e) h f = f e h
