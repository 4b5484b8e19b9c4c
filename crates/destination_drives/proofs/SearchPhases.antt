-- Walks in the phases of a search are walks with phases.
use Rattle.std.proofs.Common.{◌≡◌, ℕ, List, [], ◌∷◌, ◌++◌, Bool, Option, Some, None, refl, sym, ap, ◌∙◌}
use Rattle.road_base.specs.Objects.{Objects}
use Rattle.road_model.specs.Rules.{Rules}
use Rattle.road_model.specs.Pieces.{Span}
use Rattle.road_model.specs.Network.{IsArc}
use Rattle.context_search.specs.PhaseWalks.{WalksIn}
use Rattle.context_search.specs.PhaseWalks.WalksIn.{Start as SearchStart, Go as SearchGo}
use Rattle.destination_drives.specs.declared.phases.Phase.{Phase}
use Rattle.destination_drives.specs.declared.phases.Phase.TheVariants.{Before, Open, After}
use Rattle.destination_drives.specs.Phases.{started, gone}
use Rattle.destination_drives.specs.PhaseNumbers.{number_of, phase_at, number_on, zone_phases}
use Rattle.destination_drives.specs.ZoneWalks.{is_zone_piece, ZoneWalksTo}
use Rattle.destination_drives.specs.ZoneWalks.ZoneWalksTo.{Start as ZoneStart, Go as ZoneGo}

at_its_number : (f : Phase) → phase_at (number_of f) ≡ f
at_its_number Before = refl
at_its_number Open = refl
at_its_number After = refl

-- where numbers go on, phases do
pub record GoesTo (f : Phase) (z : Bool) (n : ℕ) : Type 0 where
  pub next : Phase
  pub goes : gone f z ≡ Some next
  pub numbered : n ≡ number_of next

numbers_of : (o : Option Phase) (n : ℕ) → number_on o ≡ Some n → (g : Phase) × (o ≡ Some g) × (n ≡ number_of g)
numbers_of None n h = absurd (cc)
numbers_of (Some g) n h = (g, refl, let e : number_of g ≡ n = cc in sym e)

pub goes_to : (f : Phase) (z : Bool) (n : ℕ) → zone_phases.go (number_of f) z ≡ Some n → GoesTo f z n
goes_to f z n h =
    let r = numbers_of (gone f z) n (ap (λ p. number_on (gone p z)) (sym (at_its_number f)) ∙ h) in
    record { next = r.0; goes = r.1; numbered = r.2 }

pub goes_by_number : (f : Phase) (z : Bool) (g : Phase) → gone f z ≡ Some g
    → zone_phases.go (number_of f) z ≡ Some (number_of g)
goes_by_number f z g h = ap (λ p. number_on (gone p z)) (at_its_number f) ∙ ap number_on h

module _ (M : Objects) (P : Rules) where
  -- the walk with phases whose phase has the number
  pub record HasZoneWalk (d c : List Span) (n : ℕ) : Type 0 where
    pub phase : Phase
    pub numbered : n ≡ number_of phase
    pub walks : ZoneWalksTo M P d c phase

  go_on : (x b d c : List Span) (g : ℕ) (t : Span) (n : ℕ) → HasZoneWalk x b g → IsArc M P b t c
      → zone_phases.go g (is_zone_piece M P t) ≡ Some n → d ≡ x ++ t ∷ [] → HasZoneWalk d c n
  go_on x b d c g t n w arc h e =
      let r = goes_to w.phase (is_zone_piece M P t) n
      (ap (λ m. zone_phases.go m (is_zone_piece M P t)) (sym w.numbered) ∙ h) in
      record {
        phase = r.next;
        numbered = r.numbered;
        walks = ZoneGo x b w.phase t w.walks arc r.goes e;
      }

  pub zone_walk : (d c : List Span) (n : ℕ) → WalksIn M P zone_phases d c n → HasZoneWalk d c n
  zone_walk d c n (SearchStart p i f e h) =
      record { phase = started (is_zone_piece M P p); numbered = f; walks = ZoneStart p i e h refl }
  zone_walk d c n (SearchGo x b g t w arc h e) = go_on x b d c g t n (zone_walk x b g w) arc h e

  pub search_walk : (d c : List Span) (f : Phase) → ZoneWalksTo M P d c f → WalksIn M P zone_phases d c (number_of f)
  search_walk d c f (ZoneStart p i e h k) = SearchStart p i (ap number_of k) e h
  search_walk d c f (ZoneGo x b g t w arc h e) =
      SearchGo x b (number_of g) t (search_walk x b g w) arc (goes_by_number g (is_zone_piece M P t) f h) e
