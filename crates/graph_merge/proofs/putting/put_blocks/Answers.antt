use Rattle.std.proofs.Common.{◌≡◌, ◌++◌, [], ◌∷◌, append_assoc, append-nil, sym, ap, subst, ◌∙◌, arith}
use Rattle.std.proofs.lemmas.List.{nil_from_length}
use Rattle.road_model.specs.Format.{is_sourced, IsBlockForm}
use Rattle.graph_file.specs.Writing.{HasWritten}
use Rattle.graph_file.proofs.GraphFiles.{ways}
use Rattle.graph_merge.proofs.PutBlocks.{form_of_next, bare_unless}
use Rattle.graph_merge.proofs.putting.put_blocks.Goals as goal

pub put-requires : goal.put-requires
put-requires c =
    let done = c.loop-block.yielded in
    let block = c.in-Some.block in
    let all = c.loop-block.invariant.all ∙ ap (λ l. done ++ l) c.in-Some.ensures.steps.0 in
    subst (λ v. IsBlockForm (is_sourced v) block) (sym c.loop-block.invariant.written.version_is)
    (form_of_next c.args.version c.args.blocks.items done block c.next.new.self.rest.items c.requires.blocks all)

pub loop-block-preserved : goal.loop-block-preserved
loop-block-preserved c =
    let done = c.loop-block.yielded in
    let block = c.in-Some.block in
    record {
      all =
          c.loop-block.invariant.all ∙ ap (λ l. done ++ l) c.in-Some.ensures.steps.0
          ∙ sym (append_assoc done (block ∷ []) c.next.new.self.rest.items);
      written = c.in_ok-put.ensures.put c.args.version c.args.profile done c.loop-block.invariant.written;
    }

pub returns : goal.returns
returns c =
    let version = c.args.version in
    let bs = c.args.blocks.items in
    let none : c.loop-block.block-iterator.rest.items ≡ [] = nil_from_length _ (omega (
      arith,
      c.in-None.ensures.steps.0,
      c.loop-block.block-iterator.rest.ok,
    )) in
    let all = c.loop-block.invariant.all ∙ ap (λ l. c.loop-block.yielded ++ l) none ∙ append-nil c.loop-block.yielded in
    c.finish.ensures.file version c.args.profile bs c.requires.profile
    (bare_unless version bs c.requires.version c.requires.blocks)
    (subst (λ l. HasWritten version c.args.profile l c.loop-block.writer) (sym all) c.loop-block.invariant.written)
    c.requires.ascending (ways (is_sourced version) bs c.requires.blocks)
