use Rattle.std.proofs.Common.{◌≡◌, ℕ, ◌-◌, List, Option, false, length, vec_len}
use Rattle.road_io.specs.Outside.{Outside}
use Rattle.road_io.specs.Told.{Told}
use Rattle.road_io.specs.Parts.{Took}
use Rattle.session_input.specs.declared.input.Input.{Input}
use Rattle.session.specs.declared.talk.Talk.{Talk}
use Rattle.session.specs.Conversation.{Kept}
use Rattle.session.specs.Talking.{IsGoing, IsBuilding, held}
use Rattle.session.proofs.conversing.follow.Given as goal

-- these bytes were read so far, no call failed, and there is room for a part
pub record Follows {A : _} {D : _} (start now : Talk A D) (input : Input) (was left : Option (List ℕ))
    (before after : Option Outside) (read_faults reads_now call_faults calls_now len : ℕ) (steps_was steps_now : ℕ)
    : Type 0 where
  pub read : List ℕ
  pub took : Took read was left
  pub goes : IsGoing start now read input before after
  pub builds : Told (λ w v. (opening : Kept D.Beside) → held start opening w
      → IsBuilding start now opening read input steps_was steps_now v) before after
  pub total : input.total ≡ length read
  pub calm_reads : reads_now ≡ read_faults
  pub calm_calls : calls_now ≡ call_faults
  pub not_closed : now.journal.closed ≡ false
  pub room : len ≡ 65536

abbrev pub invariant-loop-n : goal.invariant-loop-n
invariant-loop-n g l =
    Follows l.fn.talk l.talk l.input (g.S.Source.bytes_left l.fn.source) (g.S.Source.bytes_left l.source)
    (g.W.Site.outside l.fn.site) (g.W.Site.outside l.site) (g.S.Source.faults l.fn.source) (g.S.Source.faults l.source)
    (g.W.Site.faults l.fn.site) (g.W.Site.faults l.site) (vec_len l.part) l.fn.steps l.steps

abbrev pub decreases-loop-n : goal.decreases-loop-n
decreases-loop-n g l = 1099511627777 - l.input.total
