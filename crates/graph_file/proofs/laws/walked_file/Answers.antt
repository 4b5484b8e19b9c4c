use Rattle.std.proofs.Common.{◌≡◌, ◌∙◌, ap}
use Rattle.road_base.specs.Objects.{Objects}
use Rattle.ordered_lists.proofs.ListMembers.{all_from}
use Rattle.road_model.specs.declared.blocks.Block.{Block}
use Rattle.road_model.specs.Rules.{Rules}
use Rattle.road_model.specs.Blocks.{IsRoadBlock}
use Rattle.graph_file.specs.GraphReading.{IsOfItsWay}
use Rattle.graph_file.proofs.laws.walked_file.Goals as goal

-- the pieces of a road's block are named by its way
of_its_way : (M : Objects) (P : Rules) (b : Block) → IsRoadBlock M P b → IsOfItsWay b
of_its_way M P b road = all_from (λ p. p.name.way ≡ b.way) b.pieces (λ p i.
    let e = road.block.pieces.sound p i in ap (λ n. n.way) e.named ∙ e.of)

pub returns-clause-own : goal.returns-clause-own
returns-clause-own g c = λ M blocks listed.
    all_from IsOfItsWay blocks (λ b i. of_its_way M (g.P.Profile.rules c.args.profile.now) b (listed.sound b i))

pub returns-clause-walks : goal.returns-clause-walks
returns-clause-walks g c = λ M bytes blocks listed file. record {
  blocks = blocks;
  file = file;
  only = λ v n others is. (c.one_file.ensures v 2 n (g.P.Profile.rules c.args.profile.now).number bytes others blocks is
      file).2;
  walks = c.file_walks.ensures M blocks listed;
}
