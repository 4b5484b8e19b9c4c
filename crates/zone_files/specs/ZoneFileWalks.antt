-- Walks with phases over the blocks that a graph file spells, made as a reader of the file makes them: by the names and
-- the marks alone that stand there.
use Rattle.std.specs.Prelude.{◌≡◌, ◌↔◌, ℕ, List, [], ◌∷◌, ◌++◌, map, Some}
use Rattle.road_base.specs.declared.ids.Step.{Step}
use Rattle.road_base.specs.Objects.{Objects}
use Rattle.road_model.specs.declared.lists.PieceName.{PieceName}
use Rattle.road_model.specs.declared.lists.Piece.{Piece}
use Rattle.road_model.specs.declared.blocks.Block.{Block}
use Rattle.road_model.specs.Rules.{Rules}
use Rattle.road_model.specs.Driving.{is_marked}
use Rattle.road_model.specs.Contexts.{spell_all}
use Rattle.road_model.specs.Pieces.{Span}
use Rattle.road_model.specs.Blocks.{name_of}
use Rattle.road_model.specs.FileWalks.{HasPiece, HasContext, HasArc, AreNamed, piece_steps}
use Rattle.graph_file.specs.GraphReading.{IsFile}
use Rattle.destination_drives.specs.declared.phases.Phase.{Phase}
use Rattle.destination_drives.specs.Phases.{started, gone}
use Rattle.destination_drives.specs.ZoneWalks.{ZoneWalksTo, IsZonedJunctionDrive}

-- ---- what a reader does

-- the names are those of a walk that has come to the context in a phase: it starts at a context of one piece, in the
-- phase that the piece's mark gives, and follows arcs along which the phase goes on by the marks of their pieces
pub data ZoneFileWalksTo (blocks : List Block) : List PieceName → List PieceName → Phase → Type 0 where
  Begin : {walk context : List PieceName} {phase : Phase} (piece : Piece) → HasPiece blocks piece
      → HasContext blocks (piece.name ∷ []) → walk ≡ piece.name ∷ [] → context ≡ piece.name ∷ []
      → phase ≡ started piece.zone → ZoneFileWalksTo blocks walk context phase
  Follow : {walk context : List PieceName} {phase : Phase} (front names : List PieceName) (earlier : Phase)
      (piece : Piece) → ZoneFileWalksTo blocks front names earlier → HasPiece blocks piece
      → HasArc blocks names piece.name context → gone earlier piece.zone ≡ Some phase → walk ≡ front ++ piece.name ∷ []
      → ZoneFileWalksTo blocks walk context phase

-- the drive is what the pieces of such a walk spell, as they stand in the blocks
pub record IsZoneReadFrom (blocks : List Block) (walk : List PieceName) (drive : List Step) : Type 0 where
  pub context : List PieceName
  pub phase : Phase
  pub walks : ZoneFileWalksTo blocks walk context phase
  pub pieces : List Piece
  pub are : AreNamed blocks walk pieces
  pub spelled : spell_all piece_steps pieces ≡ drive

-- ---- what that is to the object map

-- the names are those of a walk with phases of the object map, and of the context to which it has come in this phase
pub record IsNamedZoneWalk (M : Objects) (P : Rules) (walk context : List PieceName) (phase : Phase) : Type 0 where
  pub pieces : List Span
  pub longest : List Span
  pub walks : ZoneWalksTo M P pieces longest phase
  pub walk_is : walk ≡ map name_of pieces
  pub context_is : context ≡ map name_of longest

-- A piece's mark says whether its way is one of a zone in its direction. Whoever walks with phases over the blocks,
-- walks so over the object map: by the same pieces to the same contexts, in the same phases. What these walks spell are
-- exactly the legal drives from junction to junction that go through no zone, each spelled by one walk.
pub record AreZoneFileWalks (M : Objects) (P : Rules) (blocks : List Block) : Type 0 where
  pub marks : (p : Piece) → HasPiece blocks p → p.zone ≡ is_marked M P p.name.way p.name.dir
  pub walks : (walk context : List PieceName) (phase : Phase)
      → ZoneFileWalksTo blocks walk context phase ↔ IsNamedZoneWalk M P walk context phase
  pub drives : (s : List Step) → ((walk : List PieceName) × IsZoneReadFrom blocks walk s) ↔ IsZonedJunctionDrive M P s
  pub one_walk : (v w : List PieceName) (s : List Step) → IsZoneReadFrom blocks v s → IsZoneReadFrom blocks w s → v ≡ w

-- the bytes are a graph file of version 2 and of the rules' profile, and whoever walks with phases over them walks so
-- over the object map
pub record IsZoneFile (M : Objects) (P : Rules) (bytes : List ℕ) : Type 0 where
  pub blocks : List Block
  pub file : IsFile 2 P.number bytes blocks
  pub walks : AreZoneFileWalks M P blocks
