-- Blocks that are written one after another.
use Rattle.std.proofs.Common.{◌≡◌, ℕ, ◌+◌, List, [], ◌∷◌, ◌++◌, sym, ap, subst, ◌∙◌, append_assoc}
use Rattle.std.proofs.Common.{length-append, arith}
use Rattle.road_base.specs.Bytes.{u32_bytes, u64_bytes, joined}
use Rattle.road_model.specs.declared.blocks.Block.{Block}
use Rattle.road_model.specs.Format.{is_sourced, magic_bytes, block_bytes, BlockFits, IsBlockForm}
use Rattle.graph_file.specs.declared.writer.GraphWriter.{GraphWriter}
use Rattle.graph_file.specs.Writing.{HasWritten}
use Rattle.road_base.proofs.Appends.{joined_more, all_more}

-- behind a head in two parts
appended : (magic profile count body block : List ℕ)
    → (magic ++ (profile ++ (count ++ body))) ++ block ≡ magic ++ (profile ++ (count ++ (body ++ block)))
appended magic profile count body block =
    append_assoc magic (profile ++ (count ++ body)) block
    ∙ ap (λ l. magic ++ l) (append_assoc profile (count ++ body) block
    ∙ ap (λ l. profile ++ l) (append_assoc count body block))

-- a block more was put
pub one_more : (version profile : ℕ) (blocks : List Block) (block : Block) (old new : GraphWriter)
    → HasWritten version profile blocks old → new.version ≡ old.version
    → new.bytes.items ≡ old.bytes.items ++ block_bytes (is_sourced old.version) block → new.count ≡ old.count + 1
    → IsBlockForm (is_sourced old.version) block → BlockFits (is_sourced old.version) block
    → HasWritten version profile (blocks ++ block ∷ []) new
one_more version profile blocks block old new has same bytes count form fits =
    let spell = block_bytes (is_sourced version) in
    let magic : List ℕ = magic_bytes (is_sourced version) in
    let more : new.bytes.items ≡ old.bytes.items ++ spell block
    = bytes ∙ ap (λ v. old.bytes.items ++ block_bytes (is_sourced v) block) has.version_is in
    record {
      known_version = has.known_version;
      version_is = same ∙ has.version_is;
      count = let so_far = has.count in let longer = length-append blocks (block ∷ []) in omega arith;
      bytes =
          more ∙ ap (λ l. l ++ spell block) has.bytes
          ∙ appended magic (u32_bytes profile) (u64_bytes 0) (joined spell blocks) (spell block)
          ∙ ap (λ l. magic ++ (u32_bytes profile ++ (u64_bytes 0 ++ l))) (sym (joined_more spell blocks block));
      forms = all_more (IsBlockForm (is_sourced version)) blocks block has.forms
          (subst (λ v. IsBlockForm (is_sourced v) block) has.version_is form);
      fit = all_more (BlockFits (is_sourced version)) blocks block has.fit
          (subst (λ v. BlockFits (is_sourced v) block) has.version_is fits);
    }
