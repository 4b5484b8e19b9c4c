-- The head of a base from its fields.
use Rattle.std.proofs.Common.{◌≡◌, ℕ, List, ◌∷◌, ◌++◌, ◌∙◌, ap}
use Rattle.road_base.specs.Bytes.{u32_bytes, u64_bytes}
use Rattle.sequence_journal.specs.Layout.{magic, head_bytes}

pub head_found : (bytes m1 m2 m3 m4 rest : List ℕ) (p g n s : ℕ) → bytes ≡ (1 ∷ magic) ++ m1 → m1 ≡ u32_bytes p ++ m2
    → m2 ≡ u64_bytes g ++ m3 → m3 ≡ u64_bytes n ++ m4 → m4 ≡ u64_bytes s ++ rest → bytes ≡ head_bytes p g n s ++ rest
head_found bytes m1 m2 m3 m4 rest p g n s e1 e2 e3 e4 e5 =
    e1 ∙ ap (λ (l : List ℕ). (1 ∷ magic) ++ l)
    (e2 ∙ ap (λ (l : List ℕ). u32_bytes p ++ l)
    (e3 ∙ ap (λ (l : List ℕ). u64_bytes g ++ l)
    (e4 ∙ ap (λ (l : List ℕ). u64_bytes n ++ l) e5)))
