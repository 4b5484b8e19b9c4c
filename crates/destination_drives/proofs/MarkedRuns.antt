-- The steps of a piece are marked as the piece is, so that steps and pieces lead to the same phases.
use Rattle.std.proofs.Common.{◌≡◌, ℕ, zero, suc, ◌+◌, ◌-◌, ◌<◌, List, [], ◌∷◌, Bool, Option, refl, sym, ap}
use Rattle.std.proofs.Common.{◌∙◌, arith}
use Rattle.road_base.specs.declared.ids.WayId.{WayId}
use Rattle.road_base.specs.declared.ids.Step.{Step}
use Rattle.road_base.specs.declared.ids.Dir.{Dir}
use Rattle.road_base.specs.declared.ids.Dir.TheVariants.{Forward, Backward}
use Rattle.road_base.specs.Objects.{Objects}
use Rattle.road_model.specs.Rules.{Rules}
use Rattle.road_model.specs.Lines.{forward_steps, backward_steps, steps_from}
use Rattle.road_model.specs.Driving.{is_marked}
use Rattle.road_model.specs.Pieces.{Span, IsPiece, spell}
use Rattle.road_model.specs.Network.{spell_pieces}
use Rattle.road_model.specs.Walks.{WalksTo, Start, Go}
use Rattle.road_model.proofs.WalkLists.{spell_pieces-push}
use Rattle.destination_drives.specs.declared.phases.Phase.{Phase}
use Rattle.destination_drives.specs.Zones.{is_zone_step}
use Rattle.destination_drives.specs.ZoneWalks.{is_zone_piece}
use Rattle.destination_drives.proofs.PhaseRuns.{next, runs, runs-append, AllAre, runs_alike}

module _ (M : Objects) (P : Rules) where
  forward_alike : (w : WayId) (i n : ℕ) → AllAre (is_zone_step M P) (is_marked M P w Forward) (forward_steps w i n)
  forward_alike w i zero = tt
  forward_alike w i (suc n) = (refl, forward_alike w (i + 1) n)

  backward_alike : (w : WayId) (i n : ℕ) → AllAre (is_zone_step M P) (is_marked M P w Backward) (backward_steps w i n)
  backward_alike w i zero = tt
  backward_alike w i (suc n) = (refl, backward_alike w i n)

  steps_alike : (w : WayId) (i n : ℕ) (d : Dir) → AllAre (is_zone_step M P) (is_marked M P w d) (steps_from w i n d)
  steps_alike w i n Forward = forward_alike w i n
  steps_alike w i n Backward = backward_alike w i n

  pub spelled_alike : (p : Span) → AllAre (is_zone_step M P) (is_zone_piece M P p) (spell p)
  spelled_alike p = steps_alike p.way p.index (p.end - p.index) p.dir

  pub runs_some : (z : Bool) (xs : List Step) → (xs ≡ [] → ⊥) → AllAre (is_zone_step M P) z xs → (o : Option Phase)
      → runs (is_zone_step M P) o xs ≡ next o z
  runs_some z [] n a o = absurd (n refl)
  runs_some z (x ∷ xs) n a o = runs_alike (is_zone_step M P) z x xs a o

  spelled_some : (w : WayId) (i n : ℕ) (d : Dir) → 0 < n → steps_from w i n d ≡ [] → ⊥
  spelled_some w i zero d l e = absurd (omega arith)
  spelled_some w i (suc n) Forward l e = cc
  spelled_some w i (suc n) Backward l e = cc

  pub runs_piece : (p : Span) → IsPiece M P p → (o : Option Phase)
      → runs (is_zone_step M P) o (spell p) ≡ next o (is_zone_piece M P p)
  runs_piece p i o =
      let l = i.ascends in
      runs_some (is_zone_piece M P p) (spell p)
      (spelled_some p.way p.index (p.end - p.index) p.dir (omega arith)) (spelled_alike p) o

  -- the steps of a walk lead to the phase that its pieces lead to
  pub runs_walk : (d c : List Span) → WalksTo M P d c → (o : Option Phase)
      → runs (is_zone_step M P) o (spell_pieces d) ≡ runs (is_zone_piece M P) o d
  runs_walk d c (Start p i e f) o =
      ap (λ v. runs (is_zone_step M P) o (spell_pieces v)) e
      ∙ runs-append (is_zone_step M P) o (spell p) []
      ∙ runs_piece p i o
      ∙ sym (ap (runs (is_zone_piece M P) o) e)
  runs_walk d c (Go x b t w arc e) o =
      ap (λ v. runs (is_zone_step M P) o (spell_pieces v)) e
      ∙ ap (runs (is_zone_step M P) o) (spell_pieces-push x t)
      ∙ runs-append (is_zone_step M P) o (spell_pieces x) (spell t)
      ∙ ap (λ v. runs (is_zone_step M P) v (spell t)) (runs_walk x b w o)
      ∙ runs_piece t arc.by (runs (is_zone_piece M P) o x)
      ∙ sym (ap (runs (is_zone_piece M P) o) e ∙ runs-append (is_zone_piece M P) o x (t ∷ []))
