-- Lists of references, by their first item.
use Rattle.std.specs.Prelude.{◌≡◌, ◌∷◌, ℕ, List}
use Rattle.road_base.specs.declared.ids.NodeId.{NodeId}
use Rattle.opl_lexer.specs.Letters.{comma}
use Rattle.opl_lexer.specs.declared.fault.FaultKind.TheVariants.{BadRef}
use Rattle.opl_lexer.specs.Parts.{parts}
use Rattle.opl_lexer.specs.Contents.{Good, Bad, ref_of}

-- the first item refers to the node, and these stand behind it
pub record BeginsWithRef (text : List ℕ) (id : NodeId) (others : List (List ℕ)) : Type 0 where
  pub item : List ℕ
  pub split : parts comma text ≡ item ∷ others
  pub good : ref_of item ≡ Good id

-- the first item is no reference
pub record BeginsWithoutRef (text : List ℕ) : Type 0 where
  pub item : List ℕ
  pub others : List (List ℕ)
  pub split : parts comma text ≡ item ∷ others
  pub bad : ref_of item ≡ Bad BadRef
