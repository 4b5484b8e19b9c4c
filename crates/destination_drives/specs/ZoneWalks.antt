-- Walks over contexts and arcs with phases, and what they spell.
use Rattle.std.specs.Prelude.{◌≡◌, List, [], ◌∷◌, ◌++◌, Bool, Some}
use Rattle.road_base.specs.declared.ids.Step.{Step}
use Rattle.road_base.specs.Objects.{Objects}
use Rattle.road_model.specs.Rules.{Rules}
use Rattle.road_model.specs.Driving.{is_marked}
use Rattle.road_model.specs.Pieces.{Span, IsPiece}
use Rattle.road_model.specs.Network.{IsArc, spell_pieces}
use Rattle.road_model.specs.Walks.{IsJunctionDrive}
use Rattle.destination_drives.specs.declared.phases.Phase.{Phase}
use Rattle.destination_drives.specs.Zones.{Through}
use Rattle.destination_drives.specs.Phases.{started, gone}

-- the piece's mark, as its block has it
abbrev pub is_zone_piece : Objects → Rules → Span → Bool
is_zone_piece M P p = is_marked M P p.way p.dir

-- the pieces d are those of a walk that has come to context c in a phase: it starts at a context of one piece, in the
-- phase that the piece's mark gives, and follows arcs along which the phase goes on
pub data ZoneWalksTo (M : Objects) (P : Rules) : List Span → List Span → Phase → Type 0 where
  Start : {d c : List Span} {f : Phase} (p : Span) → IsPiece M P p → d ≡ p ∷ [] → c ≡ p ∷ []
      → f ≡ started (is_zone_piece M P p) → ZoneWalksTo M P d c f
  Go : {d c : List Span} {f : Phase} (e b : List Span) (g : Phase) (t : Span) → ZoneWalksTo M P e b g → IsArc M P b t c
      → gone g (is_zone_piece M P t) ≡ Some f → d ≡ e ++ t ∷ [] → ZoneWalksTo M P d c f

-- the pieces are those of a walk with phases
pub record IsZoneWalk (M : Objects) (P : Rules) (d : List Span) : Type 0 where
  pub context : List Span
  pub phase : Phase
  pub walks : ZoneWalksTo M P d context phase

-- a legal drive from junction to junction that goes through no zone
pub record IsZonedJunctionDrive (M : Objects) (P : Rules) (s : List Step) : Type 0 where
  pub drive : IsJunctionDrive M P s
  pub not_through : Through M P s → ⊥

-- the drive is the spelling of a walk with phases
pub record IsZoneSpelled (M : Objects) (P : Rules) (s : List Step) : Type 0 where
  pub walk : List Span
  pub is : IsZoneWalk M P walk
  pub spelled : spell_pieces walk ≡ s

-- The walks with phases spell, each once, exactly the legal drives from junction to junction that go through no zone;
-- and the pieces of a walk decide to which context and phase it has come.
pub record AreZoneWalked (M : Objects) (P : Rules) : Type 0 where
  pub zoned : (d : List Span) → IsZoneWalk M P d → IsZonedJunctionDrive M P (spell_pieces d)
  pub one_to_one : (d e : List Span) → IsZoneWalk M P d → IsZoneWalk M P e → spell_pieces d ≡ spell_pieces e → d ≡ e
  pub states : (d b c : List Span) (f g : Phase) → ZoneWalksTo M P d b f → ZoneWalksTo M P d c g → (b ≡ c) × (f ≡ g)
  pub onto : (s : List Step) → IsZonedJunctionDrive M P s → IsZoneSpelled M P s
