-- Blocks that were built, over those that stood before.
use Rattle.std.specs.Prelude.{◌≡◌, ℕ, List, [], ◌∷◌, ◌++◌, Option, Some, None, Contains, IsTrue, map, true}
use Rattle.std.specs.List.{AllByRecursion}
use Rattle.std.specs.FinMap.{FinMap, entries, find, get}
use Rattle.road_base.specs.declared.ids.WayId.{WayId}
use Rattle.road_base.specs.Objects.{Objects}
use Rattle.road_model.specs.declared.lists.Piece.{Piece}
use Rattle.road_model.specs.declared.lists.PieceName.{PieceName}
use Rattle.road_model.specs.declared.blocks.Block.{Block}
use Rattle.road_model.specs.Rules.{Rules}
use Rattle.ordered_lists.specs.Orders.{Lists, rises}
use Rattle.road_model.specs.Orders.{way_cmp}
use Rattle.road_model.specs.Blocks.{IsBlock}
use Rattle.road_model.specs.Format.{IsPieceForm, place_cmp}
use Rattle.touched_ways.specs.Altering.{HereOrBeside, MeetsOne}

-- the block, if it has pieces
abbrev pub with_pieces : Block → Option Block
with_pieces b = elim b.pieces [ [] ↦ None | p ∷ ps ↦ Some b ]

-- the way of a block
abbrev pub way_of : Block → WayId
way_of b = b.way

-- fresh blocks before those that were built before them
abbrev pub over : FinMap way_cmp Block → List (WayId × Block) → List (WayId × Block)
over fresh rebuilt = entries fresh ++ rebuilt

-- the block of the way: that which was built, if one was, and else that which stood before
abbrev pub block_at : List (WayId × Block) → FinMap way_cmp Block → WayId → Option Block
block_at rebuilt listed w = elim (find way_cmp w rebuilt) [ None ↦ get listed w | Some b ↦ with_pieces b ]

-- the names and ends of pieces
abbrev pub listed : List Piece → List (PieceName × ℕ)
listed ps = map (λ p. (p.name, p.end)) ps

-- the pieces of the option's block; none where there is no block
abbrev pub pieces_in : Option Block → List Piece
pieces_in None = []
pieces_in (Some b) = b.pieces

-- the pieces of the block of the way
abbrev pub pieces_at : List (WayId × Block) → FinMap way_cmp Block → WayId → List Piece
pieces_at rebuilt listed w = pieces_in (block_at rebuilt listed w)

-- the ways that meet one of the close ways whose pieces are others after than before, or that a restriction names
-- beside a way that does, but the near ones, ascending
pub record AreMet (N : Objects) (before after : WayId → List Piece) (close near met : List WayId) : Type 0 where
  pub altered : List WayId
  pub only : (w : WayId) → Contains altered w → Contains close w
  pub same : (w : WayId) → Contains close w → (Contains altered w → ⊥) → listed (before w) ≡ listed (after w)
  pub exactly : Lists (λ w. w) way_cmp (λ w. HereOrBeside N (MeetsOne N altered) w × (Contains near w → ⊥)) met

-- the block of the way, in the form in which a graph file with sources holds it
pub record IsBuilt (M : Objects) (P : Rules) (w : WayId) (b : Block) : Type 0 where
  pub block : IsBlock M P w b
  pub pieces : AllByRecursion (IsPieceForm true) b.pieces
  pub ascend : IsTrue (rises place_cmp (map (λ p. p.name) b.pieces))

-- the block of this way was built and stands at it; all else is as before
pub record IsRebuiltWith (M : Objects) (P : Rules) (way : WayId) (before after : List (WayId × Block)) : Type 0 where
  pub built : (b : Block) × IsBuilt M P way b × (find way_cmp way after ≡ Some b)
  pub stays : (w : WayId) → (w ≡ way → ⊥) → find way_cmp w after ≡ find way_cmp w before

-- the blocks of these ways were built and stand at them; all else is as before
pub record AreRebuilt (M : Objects) (P : Rules) (ways : List WayId) (before after : List (WayId × Block)) : Type 0 where
  pub built : (w : WayId) → Contains ways w → (b : Block) × IsBuilt M P w b × (find way_cmp w after ≡ Some b)
  pub stays : (w : WayId) → (Contains ways w → ⊥) → find way_cmp w after ≡ find way_cmp w before

-- the fresh block of the way, if there is one and it has pieces, and else what stands there
abbrev pub with_fresh : FinMap way_cmp Block → (WayId → Option Block) → WayId → Option Block
with_fresh fresh at w = elim (get fresh w) [ None ↦ at w | Some b ↦ with_pieces b ]
