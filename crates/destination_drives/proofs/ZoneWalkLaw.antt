-- The law of walks with phases, by the law of walks.
use Rattle.std.proofs.Common.{◌≡◌, List, [], ◌∷◌, ◌++◌, Option, Some, None, refl, sym, ap, ◌∙◌, subst}
use Rattle.road_base.specs.declared.ids.Step.{Step}
use Rattle.road_base.specs.Objects.{Objects}
use Rattle.road_model.specs.Rules.{Rules}
use Rattle.road_model.specs.Pieces.{Span}
use Rattle.road_model.specs.Network.{IsArc, spell_pieces}
use Rattle.road_model.specs.Walks.{WalksTo, Start, Go, IsWalk, AreWalked}
use Rattle.destination_drives.specs.declared.phases.Phase.{Phase}
use Rattle.destination_drives.specs.declared.phases.Phase.TheVariants.{Before}
use Rattle.destination_drives.specs.Zones.{is_zone_step, Through}
use Rattle.destination_drives.specs.Phases.{started, gone}
use Rattle.destination_drives.specs.ZoneWalks.{is_zone_piece, ZoneWalksTo, IsZoneWalk, IsZonedJunctionDrive}
use Rattle.destination_drives.specs.ZoneWalks.{IsZoneSpelled, AreZoneWalked}
use Rattle.destination_drives.specs.ZoneWalks.ZoneWalksTo.{Start as ZoneStart, Go as ZoneGo}
use Rattle.destination_drives.proofs.PhaseRuns.{next, runs, runs-append, starts_before, passing_ends, ending_passes}
use Rattle.destination_drives.proofs.MarkedRuns.{runs_walk}

module _ (M : Objects) (P : Rules) where
  -- the phase to which pieces lead from the beginning of a drive
  abbrev pub phase_of : List Span → Option Phase
  phase_of = runs (is_zone_piece M P) (Some Before)

  same_phase : (f g : Phase) → Some f ≡ Some g → f ≡ g
  same_phase f g e = cc

  phase_more : (e : List Span) (t : Span) (g : Phase) → phase_of e ≡ Some g
      → phase_of (e ++ t ∷ []) ≡ gone g (is_zone_piece M P t)
  phase_more e t g h = runs-append (is_zone_piece M P) (Some Before) e (t ∷ [])
      ∙ ap (λ o. next o (is_zone_piece M P t)) h

  -- a walk with phases is a walk
  pub as_walk : (d c : List Span) (f : Phase) → ZoneWalksTo M P d c f → WalksTo M P d c
  as_walk d c f (ZoneStart p i e h k) = Start p i e h
  as_walk d c f (ZoneGo x b g t w arc n e) = Go x b t (as_walk x b g w) arc e

  pub its_phase : (d c : List Span) (f : Phase) → ZoneWalksTo M P d c f → phase_of d ≡ Some f
  its_phase d c f (ZoneStart p i e h k) =
      ap phase_of e ∙ starts_before (is_zone_piece M P p) ∙ ap Some (sym k)
  its_phase d c f (ZoneGo x b g t w arc n e) =
      ap phase_of e ∙ phase_more x t g (its_phase x b g w) ∙ n

  -- and a walk whose pieces lead to a phase is one with phases
  go_by : (x b : List Span) (t : Span) (c d : List Span) (f : Phase) → IsArc M P b t c → d ≡ x ++ t ∷ []
      → phase_of d ≡ Some f → ((g : Phase) → phase_of x ≡ Some g → ZoneWalksTo M P x b g)
      → (o : Option Phase) → phase_of x ≡ o → ZoneWalksTo M P d c f
  go_by x b t c d f arc e h to None k =
      let none : phase_of d ≡ None = ap phase_of e ∙ runs-append (is_zone_piece M P) (Some Before) x (t ∷ [])
      ∙ ap (λ o. next o (is_zone_piece M P t)) k in
      absurd (cc (none, h))
  go_by x b t c d f arc e h to (Some g) k =
      ZoneGo x b g t (to g k) arc (sym (phase_more x t g k) ∙ sym (ap phase_of e) ∙ h) e

  pub with_phase : (d c : List Span) → WalksTo M P d c → (f : Phase) → phase_of d ≡ Some f → ZoneWalksTo M P d c f
  with_phase d c (Start p i e h) f k =
      ZoneStart p i e h (same_phase f (started (is_zone_piece M P p))
      (sym k ∙ ap phase_of e ∙ starts_before (is_zone_piece M P p)))
  with_phase d c (Go x b t w arc e) f k = go_by x b t c d f arc e k (with_phase x b w) (phase_of x) refl

  -- a walk whose pieces lead nowhere spells a drive through a zone, and no other does
  pub walk_through : (d c : List Span) → WalksTo M P d c → phase_of d ≡ None → Through M P (spell_pieces d)
  walk_through d c w h = ending_passes (is_zone_step M P) (spell_pieces d) (runs_walk M P d c w (Some Before) ∙ h)

  pub phase_no_through : (d c : List Span) → WalksTo M P d c → (f : Phase) → phase_of d ≡ Some f
      → Through M P (spell_pieces d) → ⊥
  phase_no_through d c w f h t =
      let none : phase_of d ≡ None = sym (runs_walk M P d c w (Some Before))
      ∙ passing_ends (is_zone_step M P) (Some Before) (spell_pieces d) t in
      cc (none, h)

  module _ (walked : AreWalked M P) where
    as_plain : (d : List Span) → IsZoneWalk M P d → IsWalk M P d
    as_plain d w = record { context = w.context; walks = as_walk d w.context w.phase w.walks }

    zoned : (d : List Span) → IsZoneWalk M P d → IsZonedJunctionDrive M P (spell_pieces d)
    zoned d w = record {
      drive = walked.legal d (as_plain d w);
      not_through = phase_no_through d w.context (as_walk d w.context w.phase w.walks) w.phase
          (its_phase d w.context w.phase w.walks);
    }

    spelled_by : (s : List Step) (j : IsZonedJunctionDrive M P s) (d c : List Span) → WalksTo M P d c
        → spell_pieces d ≡ s → (o : Option Phase) → phase_of d ≡ o → IsZoneSpelled M P s
    spelled_by s j d c w e None h = absurd (j.not_through (subst (Through M P) e (walk_through d c w h)))
    spelled_by s j d c w e (Some f) h = record {
      walk = d;
      is = record { context = c; phase = f; walks = with_phase d c w f h };
      spelled = e;
    }

    onto : (s : List Step) → IsZonedJunctionDrive M P s → IsZoneSpelled M P s
    onto s j = let r = walked.onto s j.drive in spelled_by s j r.walk r.is.context r.is.walks r.spelled
        (phase_of r.walk) refl

    pub are_zone_walked : AreZoneWalked M P
    are_zone_walked = record {
      zoned = zoned;
      one_to_one = λ d e v w h. walked.one_to_one d e (as_plain d v) (as_plain e w) h;
      states = λ d b c f g v w. (
        walked.contexts d b c (as_walk d b f v) (as_walk d c g w),
        same_phase f g (sym (its_phase d b f v) ∙ its_phase d c g w),
      );
      onto = onto;
    }
