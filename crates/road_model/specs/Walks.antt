-- Walks over contexts and arcs, the drives from junction to junction, and what the walks spell of them.
use Rattle.std.specs.Prelude.{◌≡◌, ◌≤◌, List, [], ◌∷◌, ◌++◌, length}
use Rattle.road_base.specs.declared.ids.Step.{Step}
use Rattle.road_base.specs.Objects.{Objects}
use Rattle.road_model.specs.Rules.{Rules}
use Rattle.road_model.specs.Pieces.{Span, IsPiece, spell}
use Rattle.road_model.specs.Network.{Legal, IsArc, spell_pieces}

-- the pieces d are those of a walk that has come to context c: it starts at a context of one piece and follows arcs
pub data WalksTo (M : Objects) (P : Rules) : List Span → List Span → Type 0 where
  Start : {d c : List Span} (p : Span) → IsPiece M P p → d ≡ p ∷ [] → c ≡ p ∷ [] → WalksTo M P d c
  Go : {d c : List Span} (e b : List Span) (t : Span) → WalksTo M P e b → IsArc M P b t c → d ≡ e ++ t ∷ []
      → WalksTo M P d c

-- the pieces are those of a walk
pub record IsWalk (M : Objects) (P : Rules) (d : List Span) : Type 0 where
  pub context : List Span
  pub walks : WalksTo M P d context

-- a legal drive whose first step is some piece's first and whose last step is some piece's last
pub record IsJunctionDrive (M : Objects) (P : Rules) (s : List Step) : Type 0 where
  pub legal : Legal M P s
  pub from : Span
  pub from_is : IsPiece M P from
  pub first : Step
  pub more : List Step
  pub from_spelled : spell from ≡ first ∷ more
  pub rest : List Step
  pub begins : s ≡ first ∷ rest
  pub to : Span
  pub to_is : IsPiece M P to
  pub front : List Step
  pub last : Step
  pub to_spelled : spell to ≡ front ++ last ∷ []
  pub before : List Step
  pub stops : s ≡ before ++ last ∷ []

-- the drive is the spelling of the walk
pub record IsSpelled (M : Objects) (P : Rules) (s : List Step) : Type 0 where
  pub walk : List Span
  pub is : IsWalk M P walk
  pub spelled : spell_pieces walk ≡ s

-- s is an infix of the walk's spelling
pub record Carries (d : List Span) (s : List Step) : Type 0 where
  pub before : List Step
  pub behind : List Step
  pub is : spell_pieces d ≡ before ++ (s ++ behind)

-- of the walks that carry s, exactly one is shortest, by pieces and by steps alike
pub record HasShortest (M : Objects) (P : Rules) (s : List Step) : Type 0 where
  pub walk : List Span
  pub is : IsWalk M P walk
  pub carries : Carries walk s
  pub least_pieces : (e : List Span) → IsWalk M P e → Carries e s → length walk ≤ length e
  pub only_by_pieces : (e : List Span) → IsWalk M P e → Carries e s → length e ≤ length walk → e ≡ walk
  pub least_steps : (e : List Span) → IsWalk M P e → Carries e s → length (spell_pieces walk) ≤ length (spell_pieces e)
  pub only_by_steps : (e : List Span) → IsWalk M P e → Carries e s
      → length (spell_pieces e) ≤ length (spell_pieces walk) → e ≡ walk

-- The walks over the arcs of the object map spell, each once, exactly the legal drives from junction to junction; the
-- pieces of a walk decide to which context it has come; and every legal drive is part of the spelling of exactly one
-- shortest walk, by pieces and by steps alike.
pub record AreWalked (M : Objects) (P : Rules) : Type 0 where
  pub legal : (d : List Span) → IsWalk M P d → IsJunctionDrive M P (spell_pieces d)
  pub one_to_one : (d e : List Span) → IsWalk M P d → IsWalk M P e → spell_pieces d ≡ spell_pieces e → d ≡ e
  pub contexts : (d b c : List Span) → WalksTo M P d b → WalksTo M P d c → b ≡ c
  pub onto : (s : List Step) → IsJunctionDrive M P s → IsSpelled M P s
  pub shortest : (s : List Step) → Legal M P s → HasShortest M P s
