use Rattle.std.proofs.Common.{◌≡◌, ◌-◌, ◌≤◌, ◌++◌, ℕ, List, Option, false, length, take}
use Rattle.road_io.specs.Outside.{Outside}
use Rattle.road_io.specs.Told.{Told}
use Rattle.session_input.specs.declared.input.Input.{Input}
use Rattle.session.specs.declared.talk.Talk.{Talk}
use Rattle.session.specs.Conversation.{Kept}
use Rattle.session.specs.Talking.{IsGoing, IsBuilding, fixed_of}
use Rattle.session.proofs.following.take_part.Given as goal

-- so many bytes of the part were taken, and the messages that they ended are answered
pub record Takes {A : _} {D : _} (old now : Talk A D) (part : List ℕ) (used : ℕ) (was input : Input)
    (before after : Option Outside) (faults_before faults_now : ℕ) (steps_before steps_now : ℕ) : Type 0 where
  pub goes : (start : Talk A D) (read : List ℕ) (x : Option Outside) → IsGoing start old read was x before
      → IsGoing start now (read ++ take used part) input x after
  pub builds : Told (λ w v. (start : Talk A D) (opening : Kept D.Beside) (read : List ℕ) (first : ℕ)
      → IsBuilding start old opening read was first steps_before w
      → IsBuilding start now opening (read ++ take used part) input first steps_now v) before after
  pub within : used ≤ length part
  pub calm : faults_now ≡ faults_before
  pub not_closed : now.journal.closed ≡ false
  pub fixed : fixed_of now ≡ fixed_of old

abbrev pub invariant-loop-used : goal.invariant-loop-used
invariant-loop-used g l =
    Takes l.fn.talk l.talk l.part l.used l.fn.input l.input (g.W.Site.outside l.fn.site) (g.W.Site.outside l.site)
    (g.W.Site.faults l.fn.site) (g.W.Site.faults l.site) l.fn.steps l.steps

abbrev pub decreases-loop-used : goal.decreases-loop-used
decreases-loop-used g l = length l.part - l.used
