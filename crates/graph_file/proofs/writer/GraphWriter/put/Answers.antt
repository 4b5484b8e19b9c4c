use Rattle.std.proofs.Common.{refl}
use Rattle.graph_file.proofs.WrittenBlocks.{one_more}
use Rattle.graph_file.proofs.writer.GraphWriter.put.Goals as goal

pub returns-clause-put : goal.returns-clause-put
returns-clause-put c = λ version profile blocks has.
    one_more version profile blocks c.args.block.now c.args.self.now _ has refl c.in_ok-put_block.ensures.bytes refl
    c.requires c.in_ok-put_block.ensures.fit
