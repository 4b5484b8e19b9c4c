-- The first steps of a drive, one more at a time, and where they pass through a zone.
use Rattle.std.proofs.Common.{◌≡◌, ℕ, ◌+◌, ◌<◌, ◌≤◌, ◌⊎◌, inl, inr, List, [], ◌∷◌, length, take, drop, get_or}
use Rattle.std.proofs.Common.{Bool, Option, Some, None, sym, ap, ◌∙◌, subst, arith}
use Rattle.std.proofs.lemmas.List.{take_more, take_all, take-take, take-append-drop}
use Rattle.destination_drives.specs.declared.phases.Phase.{Phase}
use Rattle.destination_drives.specs.declared.phases.Phase.TheVariants.{Before}
use Rattle.destination_drives.specs.Zones.{PassesBy}
use Rattle.destination_drives.specs.Phases.{gone}
use Rattle.destination_drives.proofs.PhaseRuns.{next, runs, runs_none, runs-append, passing_ends, ending_passes}

up_to_or_behind : (j n : ℕ) → (j ≤ n) ⊎ (n + 1 ≤ j)
up_to_or_behind j n = grind arith

-- where one goes by what was asked of the step
pub goes_by : (f : Phase) (asked is : Bool) (o r : Option Phase) → asked ≡ is → o ≡ gone f asked → o ≡ r → gone f is ≡ r
goes_by f asked is o r e g h = ap (gone f) (sym e) ∙ sym g ∙ h

module _ {S : Type 0} (mark : S → Bool) (d : List S) where
  -- the phase behind the first steps
  abbrev pub HasPhase : ℕ → Phase → Type 0
  HasPhase n f = runs mark (Some Before) (take n d) ≡ Some f

  phase_more : (at : ℕ) (x : S) (f : Phase) → at < length d → HasPhase at f
      → runs mark (Some Before) (take (at + 1) d) ≡ gone f (mark (get_or d at x))
  phase_more at x f l h = ap (runs mark (Some Before)) (take_more d at x l)
      ∙ runs-append mark (Some Before) (take at d) (get_or d at x ∷ [])
      ∙ ap (λ o. next o (mark (get_or d at x))) h

  pub phase_goes_on : (at : ℕ) (x : S) (f g : Phase) → at < length d → HasPhase at f
      → gone f (mark (get_or d at x)) ≡ Some g → HasPhase (at + 1) g
  phase_goes_on at x f g l h e = phase_more at x f l h ∙ e

  pub passes_there : (at : ℕ) (x : S) (f : Phase) → at < length d → HasPhase at f
      → gone f (mark (get_or d at x)) ≡ None → PassesBy mark (take (at + 1) d)
  passes_there at x f l h e = ending_passes mark (take (at + 1) d) (phase_more at x f l h ∙ e)

  -- where the first steps have a phase, fewer of them don't pass through
  pub none_before : (at : ℕ) (f : Phase) → HasPhase at f → (j : ℕ) → j ≤ at → PassesBy mark (take j d) → ⊥
  none_before at f h j l w =
      let first : take j (take at d) ≡ take j d = take-take j at d l in
      let ended : runs mark (Some Before) (take j (take at d)) ≡ None =
      passing_ends mark (Some Before) (take j (take at d)) (subst (PassesBy mark) (sym first) w) in
      let none : runs mark (Some Before) (take at d) ≡ None =
      ap (runs mark (Some Before)) (sym (take-append-drop j (take at d)))
      ∙ runs-append mark (Some Before) (take j (take at d)) (drop j (take at d))
      ∙ ap (λ o. runs mark o (drop j (take at d))) ended ∙ runs_none mark (drop j (take at d)) in
      cc (none, h)

  pub passes_first : (at : ℕ) (f : Phase) → HasPhase at f → (j : ℕ) → PassesBy mark (take j d) → at + 1 ≤ j
  passes_first at f h j w = elim (up_to_or_behind j at) [
    | inl l ↦ absurd (none_before at f h j l w)
    | inr l ↦ l
  ]

  pub passes_nowhere : (at : ℕ) (f : Phase) → length d ≤ at → HasPhase at f → PassesBy mark d → ⊥
  passes_nowhere at f l h w = none_before at f h at (omega arith) (subst (PassesBy mark) (sym (take_all at d l)) w)
