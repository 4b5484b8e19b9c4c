-- Two graph files as one.
use Rattle.std.proofs.Common.{◌≡◌, ℕ, ◌+◌, ◌<◌, ◌^◌, Bool, true, false, List, [], ◌∷◌, ◌++◌, length, map, take, drop}
use Rattle.std.proofs.Common.{IsTrue, refl, sym, ap, subst, ◌∙◌, append_assoc, length-append}
use Rattle.std.specs.List.{AllByRecursion}
use Rattle.std.proofs.lemmas.List.{take_at, drop_at}
use Rattle.road_base.specs.Bytes.{u32_bytes, u64_bytes, joined}
use Rattle.road_model.specs.declared.blocks.Block.{Block}
use Rattle.ordered_lists.specs.Orders.{rises}
use Rattle.road_model.specs.Orders.{way_cmp}
use Rattle.road_model.specs.Format.{magic_bytes, block_bytes, graph_bytes, is_sourced}
use Rattle.graph_file.specs.GraphReading.{IsWayBlock, IsFile}

pub joined_both : {A : Type 0} (spell : A → List ℕ) (xs ys : List A)
    → joined spell (xs ++ ys) ≡ joined spell xs ++ joined spell ys
joined_both spell [] ys = refl
joined_both spell (x ∷ xs) ys =
    ap (λ l. spell x ++ l) (joined_both spell xs ys)
    ∙ sym (append_assoc (spell x) (joined spell xs) (joined spell ys))

pub all_both : {A : Type 0} (P : A → Type 0) (xs ys : List A) → AllByRecursion P xs → AllByRecursion P ys
    → AllByRecursion P (xs ++ ys)
all_both P [] ys first second = second
all_both P (x ∷ xs) ys first second = (first.0, all_both P xs ys first.1 second)

-- the magic and the profile's number have twelve bytes
head_length : (sourced : Bool) (profile : ℕ) → length (magic_bytes sourced ++ u32_bytes profile) ≡ 12
head_length false profile = refl
head_length true profile = refl

count_length : (n : ℕ) → length (u64_bytes n) ≡ 8
count_length n = refl

-- what stands in front of the count
pub head_of : (version profile : ℕ) (bs : List Block)
    → take 12 (graph_bytes version profile bs) ≡ magic_bytes (is_sourced version) ++ u32_bytes profile
head_of version profile bs =
    let head : List ℕ = magic_bytes (is_sourced version) ++ u32_bytes profile in
    let rest : List ℕ = u64_bytes (length bs) ++ joined (block_bytes (is_sourced version)) bs in
    ap (take 12) (sym (append_assoc (magic_bytes (is_sourced version)) (u32_bytes profile) rest))
    ∙ take_at head rest 12 (head_length (is_sourced version) profile)

-- what stands behind the count
pub body_of : (version profile : ℕ) (bs : List Block)
    → drop 20 (graph_bytes version profile bs) ≡ joined (block_bytes (is_sourced version)) bs
body_of version profile bs =
    let head : List ℕ = magic_bytes (is_sourced version) ++ u32_bytes profile in
    let count : List ℕ = u64_bytes (length bs) in
    let body : List ℕ = joined (block_bytes (is_sourced version)) bs in
    let size : length (head ++ count) ≡ 20 = length-append head count
    ∙ ap (λ n. n + length count) (head_length (is_sourced version) profile)
    ∙ ap (λ n. 12 + n) (count_length (length bs))
    in
    ap (drop 20) (sym (append_assoc (magic_bytes (is_sourced version)) (u32_bytes profile) (count ++ body))
    ∙ sym (append_assoc head count body))
    ∙ drop_at (head ++ count) body 20 size

pub joined_files : (v m : ℕ) (x y : List ℕ) (a b : List Block) → IsFile v m x a → IsFile v m y b
    → IsTrue (rises way_cmp (map (λ b. b.way) (a ++ b))) → length a + length b < 2 ^ 64
    → IsFile v m (take 12 x ++ (u64_bytes (length a + length b) ++ (drop 20 x ++ drop 20 y))) (a ++ b)
joined_files v m x y a b f g up few =
    let spell = block_bytes (is_sourced v) in
    let magic : List ℕ = magic_bytes (is_sourced v) in
    let count : List ℕ = u64_bytes (length a + length b) in
    let head : take 12 x ≡ magic ++ u32_bytes m = ap (take 12) f.spelled ∙ head_of v m a in
    let first : drop 20 x ≡ joined spell a = ap (drop 20) f.spelled ∙ body_of v m a in
    let second : drop 20 y ≡ joined spell b = ap (drop 20) g.spelled ∙ body_of v m b in
    record {
      known_version = f.known_version;
      known = f.known;
      spelled = ap (λ h. h ++ (count ++ (drop 20 x ++ drop 20 y))) head
          ∙ append_assoc magic (u32_bytes m) (count ++ (drop 20 x ++ drop 20 y))
          ∙ ap (λ l. magic ++ (u32_bytes m ++ (count ++ (l ++ drop 20 y)))) first
          ∙ ap (λ l. magic ++ (u32_bytes m ++ (count ++ (joined spell a ++ l)))) second
          ∙ ap (λ l. magic ++ (u32_bytes m ++ (count ++ l))) (sym (joined_both spell a b))
          ∙ ap (λ n. magic ++ (u32_bytes m ++ (u64_bytes n ++ joined spell (a ++ b)))) (sym (length-append a b));
      some = (
        subst (λ n. n < 2 ^ 64) (sym (length-append a b)) few,
        all_both (IsWayBlock (is_sourced v)) a b f.some.1 g.some.1,
      );
      ascend = up;
    }
