-- How many blocks a graph has, by its bytes.
use Rattle.std.proofs.Common.{◌≡◌, ℕ, ◌+◌, ◌<◌, ◌≤◌, ◌^◌, ◌++◌, List, [], ◌∷◌, length, min, Bool, ap, ◌∙◌}
use Rattle.std.proofs.Common.{append_assoc, length-append, arith}
use Rattle.road_base.specs.Bytes.{u32_bytes, u64_bytes, joined}
use Rattle.road_model.specs.declared.blocks.Block.{Block}
use Rattle.road_model.specs.Format.{block_bytes, magic_bytes, graph_bytes, is_sourced}

-- each block takes a byte at least
pub few_blocks : (sourced : Bool) (blocks : List Block) → length blocks ≤ length (joined (block_bytes sourced) blocks)
few_blocks sourced [] = omega arith
few_blocks sourced (b ∷ bs) =
    let rest : length bs ≤ length (joined (block_bytes sourced) bs) = few_blocks sourced bs in
    grind (arith, length-append)

-- so a list that they stand in counts them
pub counted_blocks : (sourced : Bool) (blocks : List Block) (front bytes : List ℕ)
    → bytes ≡ front ++ joined (block_bytes sourced) blocks
    → length bytes < 2 ^ 63 → length blocks < 2 ^ 64
counted_blocks sourced blocks front bytes is short =
    let few : length blocks ≤ length (joined (block_bytes sourced) blocks) = few_blocks sourced blocks in
    let all : length bytes ≡ length front + length (joined (block_bytes sourced) blocks)
    = ap length is ∙ length-append front (joined (block_bytes sourced) blocks) in
    omega arith

-- the head and the blocks' bytes are those of their graph, where the count in the head is cut off at the last number
pub headed_blocks : (version profile count : ℕ) (blocks : List Block) (old head bytes : List ℕ)
    → count ≡ min (length blocks) 18446744073709551615
    → head ≡ old ++ (magic_bytes (is_sourced version) ++ (u32_bytes profile ++ u64_bytes count))
    → length bytes < 2 ^ 63 → bytes ≡ head ++ joined (block_bytes (is_sourced version)) blocks
    → bytes ≡ old ++ graph_bytes version profile blocks
headed_blocks version profile count blocks old head bytes counts heads short is =
    let few : length blocks < 2 ^ 64 = counted_blocks (is_sourced version) blocks head bytes is short in
    let exact : count ≡ length blocks = omega arith in
    let body : List ℕ = joined (block_bytes (is_sourced version)) blocks in
    let magic : List ℕ = magic_bytes (is_sourced version) in
    is ∙ ap (λ l. l ++ body) heads
    ∙ append_assoc old (magic ++ (u32_bytes profile ++ u64_bytes count)) body
    ∙ ap (λ l. old ++ l) (append_assoc magic (u32_bytes profile ++ u64_bytes count) body
    ∙ ap (λ l. magic ++ l) (append_assoc (u32_bytes profile) (u64_bytes count) body
    ∙ ap (λ n. u32_bytes profile ++ (u64_bytes n ++ body)) exact))
