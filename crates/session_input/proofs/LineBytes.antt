-- Bytes and their newlines.
use Rattle.std.specs.Prelude.{◌≡◌, ◌==◌, ◌≤◌, ◌++◌, ◌⊎◌, ℕ, List, [], ◌∷◌, false, length, refl}
use Rattle.std.proofs.Common.{arith, sym, ◌∙◌, ap, subst, inl, inr, length-append}
use Rattle.std.proofs.lemmas.Bool.Decides.{nat_tests}
use Rattle.std.proofs.lemmas.List.Elements.{All-cons, All-head, All-tail, All-append}
use Rattle.opl_lexer.specs.Parts.{Lacks}
use Rattle.opl_objects.proofs.StreamSteps.{none_lacks}

pub lacks_both : (xs ys : List ℕ) → Lacks 10 xs → Lacks 10 ys → Lacks 10 (xs ++ ys)
lacks_both xs ys p q = All-append (λ b. (b == 10) ≡ false) xs ys p q

pub lacks_front : (xs ys : List ℕ) → Lacks 10 (xs ++ ys) → Lacks 10 xs
lacks_front [] ys p = none_lacks
lacks_front (x ∷ xs) ys p = All-cons (λ b. (b == 10) ≡ false) x xs (All-head (λ b. (b == 10) ≡ false) x (xs ++ ys) p)
    (lacks_front xs ys (All-tail (λ b. (b == 10) ≡ false) x (xs ++ ys) p))

pub lacks_back : (xs ys : List ℕ) → Lacks 10 (xs ++ ys) → Lacks 10 ys
lacks_back [] ys p = p
lacks_back (x ∷ xs) ys p = lacks_back xs ys (All-tail (λ b. (b == 10) ≡ false) x (xs ++ ys) p)

pub lacks_not : (x : ℕ) (xs : List ℕ) → x ≡ 10 → Lacks 10 (x ∷ xs) → ⊥
lacks_not x xs e p =
    let no : (x == 10) ≡ false = All-head (λ b. (b == 10) ≡ false) x xs p in
    grind (arith, nat_tests)

-- ---- the same bytes, cut at two places

pub nil_of : (xs : List ℕ) → length xs ≡ 0 → xs ≡ []
nil_of [] e = refl
nil_of (x ∷ xs) e = absurd (omega arith)

pub head_same : (x y : ℕ) (xs ys : List ℕ) → x ∷ xs ≡ y ∷ ys → x ≡ y
head_same x y xs ys e = cc

pub tail_same : (x y : ℕ) (xs ys : List ℕ) → x ∷ xs ≡ y ∷ ys → xs ≡ ys
tail_same x y xs ys e = cc

abbrev pub IsLonger : List ℕ → List ℕ → List ℕ → List ℕ → Type 0
IsLonger a b c d = (x : List ℕ) × (c ≡ a ++ x) × (b ≡ x ++ d)

pub two_cuts : (a b c d : List ℕ) → a ++ b ≡ c ++ d → IsLonger c d a b ⊎ IsLonger a b c d
two_cuts [] b c d e = inr (c, refl, e)
two_cuts (x ∷ a) b [] d e = inl (x ∷ a, refl, sym e)
two_cuts (x ∷ a) b (y ∷ c) d e =
    let same = head_same x y (a ++ b) (c ++ d) e in
    elim (two_cuts a b c d (tail_same x y (a ++ b) (c ++ d) e)) [
      | inl w ↦ inl (w.0, cc (same, w.1), w.2)
      | inr w ↦ inr (w.0, cc (same, w.1), w.2)
    ]

-- the first newline stands at one place
pub first_newline : (a b c d : List ℕ) → Lacks 10 a → Lacks 10 c → a ++ (10 ∷ b) ≡ c ++ (10 ∷ d) → (a ≡ c) × (b ≡ d)
first_newline [] b [] d p q e = (refl, tail_same 10 10 b d e)
first_newline [] b (y ∷ c) d p q e = absurd (lacks_not y c (sym (head_same 10 y b (c ++ (10 ∷ d)) e)) q)
first_newline (x ∷ a) b [] d p q e = absurd (lacks_not x a (head_same x 10 (a ++ (10 ∷ b)) d e) p)
first_newline (x ∷ a) b (y ∷ c) d p q e =
    let same = head_same x y (a ++ (10 ∷ b)) (c ++ (10 ∷ d)) e in
    let more = first_newline a b c d (All-tail (λ b. (b == 10) ≡ false) x a p)
    (All-tail (λ b. (b == 10) ≡ false) y c q) (tail_same x y (a ++ (10 ∷ b)) (c ++ (10 ∷ d)) e) in
    (cc (same, more.0), more.1)

-- what stands behind the last newline is at least as long as any end without a newline
pub last_line : (front line before behind : List ℕ) → (front ++ (10 ∷ [])) ++ line ≡ before ++ behind
    → Lacks 10 behind → length behind ≤ length line
last_line front line before behind e lacks =
    elim (two_cuts (front ++ (10 ∷ [])) line before behind e) [
      | inr w ↦ omega (arith, length-append w.0 behind, ap length w.2)
      | inl w ↦
          elim (two_cuts front (10 ∷ []) before w.0 w.1) [
            | inl v ↦
                let all : behind ≡ (v.0 ++ (10 ∷ [])) ++ line = w.2 ∙ ap (λ bs. bs ++ line) v.2 in
                let some = lacks_back v.0 (10 ∷ []) (lacks_front (v.0 ++ (10 ∷ [])) line (subst
                (Lacks 10) all lacks)) in
                absurd (lacks_not 10 [] refl some)
            | inr v ↦
                elim w.0 as (λ z. z ≡ w.0 → length behind ≤ length line) [
                  | [] ↦ λ z. omega (arith, ap length (w.2 ∙ ap (λ bs. bs ++ line) (sym z)))
                  | u ∷ us ↦ λ z.
                      let all : 10 ∷ [] ≡ v.0 ++ (u ∷ us) = v.2 ∙ ap (λ bs. v.0 ++ bs) (sym z) in
                      let longer = length-append v.0 (u ∷ us) in
                      let one : length (v.0 ++ (u ∷ us)) ≡ 1 = sym (ap length all) in
                      let here : v.0 ≡ [] = nil_of v.0 (omega (arith, longer, one)) in
                      let first : u ≡ 10 = head_same u 10 us [] (sym (all ∙ ap (λ bs. bs ++ (u ∷ us)) here)) in
                      let some = lacks_front (u ∷ us) line
                      (subst (Lacks 10) (w.2 ∙ ap (λ bs. bs ++ line) (sym z)) lacks) in
                      absurd (lacks_not u us first some)
                ] refl
          ]
    ]
