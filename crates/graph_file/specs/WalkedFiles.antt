-- Graph files whose walks are those of an object map.
use Rattle.std.specs.Prelude.{◌≡◌, ℕ, List}
use Rattle.road_base.specs.Objects.{Objects}
use Rattle.road_model.specs.declared.blocks.Block.{Block}
use Rattle.road_model.specs.Rules.{Rules}
use Rattle.road_model.specs.FileWalks.{AreFileWalks}
use Rattle.graph_file.specs.GraphReading.{IsFile}

-- the bytes are a graph file of version 2 and of the rules' profile, with these blocks and no others whatever version
-- and profile it is read for, and whoever walks over them walks over the object map
pub record IsWalkedFile (M : Objects) (P : Rules) (bytes : List ℕ) : Type 0 where
  pub blocks : List Block
  pub file : IsFile 2 P.number bytes blocks
  pub only : (v n : ℕ) (others : List Block) → IsFile v n bytes others → others ≡ blocks
  pub walks : AreFileWalks M P blocks
