-- Blocks that are known before others are built.
use Rattle.std.specs.Prelude.{◌≡◌, Option, Some}
use Rattle.road_base.specs.declared.ids.WayId.{WayId}
use Rattle.road_base.specs.Objects.{Objects}
use Rattle.road_model.specs.declared.blocks.Block.{Block}
use Rattle.road_model.specs.Rules.{Rules}
use Rattle.road_model.specs.Blocks.{ListsPieces}

-- each known block lists the pieces of its way
abbrev pub AreKnown : Objects → Rules → (WayId → Option Block) → Type 0
AreKnown M P known = (w : WayId) (b : Block) → known w ≡ Some b → ListsPieces M P w b
