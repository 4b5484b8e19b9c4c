use Rattle.std.proofs.Common.{◌≡◌, ◌++◌, ◌∷◌, [], subst, sym, ap, ◌∙◌, append_assoc}
use Rattle.std.specs.List.{AllByRecursion}
use Rattle.std.specs.Option.{option_copied}
use Rattle.road_base.specs.Bytes.{joined}
use Rattle.road_base.proofs.Appends.{all_more, joined_more}
use Rattle.road_model.specs.Format.{is_sourced, block_bytes, BlockFits, IsBlockForm}
use Rattle.layered_maps.specs.Walks.{IsNext}
use Rattle.graph_file.proofs.put_blocks.Goals as goal

pub loop-block-preserved : goal.loop-block-preserved
loop-block-preserved c =
    let was = c.loop-block.invariant in
    let sourced = is_sourced c.args.version in
    let block = c.in-Some.block.now in
    let rest = c.next.new.self in
    let taken : c.loop-block.rest ≡ block ∷ rest =
    subst (λ o. IsNext o c.loop-block.rest rest) (ap option_copied c.in-Some.is) c.next.ensures in
    record {
      front = was.front ++ block ∷ [];
      all = append_assoc was.front (block ∷ []) rest ∙ ap (λ l. was.front ++ l) (sym taken) ∙ was.all;
      forms = (subst (AllByRecursion (IsBlockForm sourced)) taken was.forms).1;
      spelled =
          c.in_ok-spell_block.ensures.bytes ∙ ap (λ l. l ++ block_bytes sourced block) was.spelled
          ∙ append_assoc c.args.out.now.items (joined (block_bytes sourced) was.front) (block_bytes sourced block)
          ∙ ap (λ l. c.args.out.now.items ++ l) (sym (joined_more (block_bytes sourced) was.front block));
      fit = all_more (BlockFits sourced) was.front block was.fit c.in_ok-spell_block.ensures.fit;
    }
