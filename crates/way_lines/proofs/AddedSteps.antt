-- The steps between two positions of a way, added one by one.
use Rattle.std.proofs.Common.{◌≡◌, ℕ, suc, ◌+◌, ◌-◌, ◌<◌, ◌≤◌, List, [], ◌∷◌, ◌++◌, sym, ap, ◌∙◌, append_assoc, arith}
use Rattle.std.proofs.Common.{length, take, length-take}
use Rattle.std.proofs.lemmas.List.{take-append-le}
use Rattle.road_base.specs.declared.ids.WayId.{WayId}
use Rattle.road_base.specs.declared.ids.Step.{Step}
use Rattle.road_base.specs.declared.ids.Dir.{Dir}
use Rattle.road_base.specs.declared.ids.Dir.TheVariants.{Forward, Backward}
use Rattle.road_model.specs.Lines.{forward_steps, backward_steps}

abbrev at : WayId → Dir → ℕ → Step
at w d k = record { way = w; index = k; dir = d }

-- what was lacking, with one step more
one_more : (all old new rest : List Step) (s : Step) → all ≡ old ++ s ∷ rest → new ≡ old ++ s ∷ [] → all ≡ new ++ rest
one_more all old new rest s is pushed = is
    ∙ (sym (append_assoc old (s ∷ []) rest) ∙ ap (λ (xs : List Step). xs ++ rest) (sym pushed))

-- what stands in front still does behind one step more
pub front_more : (old items new : List Step) (s : Step) → take (length old) items ≡ old → new ≡ items ++ s ∷ []
    → take (length old) new ≡ old
front_more old items new s kept pushed =
    let whole : length (take (length old) items) ≡ length old = ap length kept in
    let within : length old ≤ length items = grind (arith, length-take) in
    ap (take (length old)) pushed ∙ take-append-le (length old) items (s ∷ []) within ∙ kept

module _ (w : WayId) (i n done : ℕ) (all old new : List Step) (below : done < n) where
  less : n - done ≡ suc (n - (done + 1))
  less = omega arith

  pub forward_more : all ≡ old ++ forward_steps w (i + done) (n - done) → new ≡ old ++ at w Forward (i + done) ∷ []
      → all ≡ new ++ forward_steps w (i + (done + 1)) (n - (done + 1))
  forward_more is pushed =
      let next : i + done + 1 ≡ i + (done + 1) = omega arith in
      one_more all old new (forward_steps w (i + (done + 1)) (n - (done + 1))) (at w Forward (i + done))
      (is ∙ ap (λ (k : ℕ). old ++ forward_steps w (i + done) k) less
      ∙ ap (λ (k : ℕ). old ++ at w Forward (i + done) ∷ forward_steps w k (n - (done + 1))) next) pushed

  pub backward_more : all ≡ old ++ backward_steps w i (n - done) → new ≡ old ++ at w Backward (i + (n - done - 1)) ∷ []
      → all ≡ new ++ backward_steps w i (n - (done + 1))
  backward_more is pushed =
      let there : n - (done + 1) ≡ n - done - 1 = omega arith in
      one_more all old new (backward_steps w i (n - (done + 1))) (at w Backward (i + (n - done - 1)))
      (is ∙ ap (λ (k : ℕ). old ++ backward_steps w i k) less
      ∙ ap (λ (k : ℕ). old ++ at w Backward (i + k) ∷ backward_steps w i (n - (done + 1))) there) pushed
