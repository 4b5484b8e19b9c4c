-- Spaces and parentheses around a text.
use Rattle.std.specs.Prelude.{◌≡◌, ◌≢◌, ◌==◌, ◌++◌, ℕ, List, [], ◌∷◌, Bool, true, false, cond, Some, None}
use Rattle.std.specs.Prelude.{reverse, unwrap_or, refl}
use Rattle.std.proofs.Common.{ap, sym, ◌∙◌}
use Rattle.std.proofs.lemmas.Bool.Decides.{Decides-eqb}
use Rattle.std.proofs.lemmas.List.{reverse-append, reverse-reverse}
use Rattle.access_profile.specs.Restricting.{behind_spaces}
use Rattle.moment_rules.specs.Conditionals.{before_close, without_parentheses}

first_stays : (b : ℕ) (bs : List ℕ) (space : Bool) → (b == 32) ≡ space → ((rest : List ℕ) → (b ∷ bs) ≢ 32 ∷ rest)
    → cond space (behind_spaces bs) (b ∷ bs) ≡ b ∷ bs
first_stays b bs true e none = absurd (none bs (ap (λ k. k ∷ bs) ((Decides-eqb b 32).0 e)))
first_stays b bs false e none = refl

-- no space in front
pub no_space_first : (bs : List ℕ) → ((rest : List ℕ) → bs ≢ 32 ∷ rest) → behind_spaces bs ≡ bs
no_space_first [] none = refl
no_space_first (b ∷ bs) none = first_stays b bs (b == 32) refl none

-- a space in front
pub space_first : (bs rest : List ℕ) → bs ≡ 32 ∷ rest → behind_spaces bs ≡ behind_spaces rest
space_first bs rest e = ap behind_spaces e

pub reversed_last : (bs front : List ℕ) (b : ℕ) → bs ≡ front ++ (b ∷ []) → reverse bs ≡ b ∷ reverse front
reversed_last bs front b e = ap reverse e ∙ reverse-append front (b ∷ [])

last_of_reversed : (bs rest : List ℕ) (b : ℕ) → reverse bs ≡ b ∷ rest → bs ≡ reverse rest ++ (b ∷ [])
last_of_reversed bs rest b e = sym (reverse-reverse bs) ∙ (ap reverse e ∙ reverse-append (b ∷ []) rest)

-- no space at the end
pub no_space_last : (bs : List ℕ) → ((front : List ℕ) → bs ≢ front ++ (32 ∷ []))
    → reverse (behind_spaces (reverse bs)) ≡ bs
no_space_last bs none =
    ap reverse (no_space_first (reverse bs) (λ rest e. none (reverse rest) (last_of_reversed bs rest 32 e)))
    ∙ reverse-reverse bs

-- a space at the end
pub space_last : (bs front : List ℕ) → bs ≡ front ++ (32 ∷ [])
    → behind_spaces (reverse bs) ≡ behind_spaces (reverse front)
space_last bs front e = ap behind_spaces (reversed_last bs front 32 e)

-- ---- parentheses

closed_by : (b : ℕ) (bs : List ℕ) (close : Bool) → (b == 41) ≡ close → ((rest : List ℕ) → (b ∷ bs) ≢ 41 ∷ rest)
    → cond close (Some (reverse bs)) None ≡ None
closed_by b bs true e none = absurd (none bs (ap (λ k. k ∷ bs) ((Decides-eqb b 41).0 e)))
closed_by b bs false e none = refl

not_closed : (bs : List ℕ) → ((rest : List ℕ) → bs ≢ 41 ∷ rest) → before_close bs ≡ None
not_closed [] none = refl
not_closed (b ∷ bs) none = closed_by b bs (b == 41) refl none

opened_by : (b : ℕ) (bs other : List ℕ) (open_ : Bool) → (b == 40) ≡ open_ → ((rest : List ℕ) → (b ∷ bs) ≢ 40 ∷ rest)
    → cond open_ other (b ∷ bs) ≡ b ∷ bs
opened_by b bs other true e none = absurd (none bs (ap (λ k. k ∷ bs) ((Decides-eqb b 40).0 e)))
opened_by b bs other false e none = refl

-- no parenthesis in front
pub not_opened : (bs : List ℕ) → ((rest : List ℕ) → bs ≢ 40 ∷ rest) → without_parentheses bs ≡ bs
not_opened [] none = refl
not_opened (b ∷ bs) none =
    opened_by b bs (unwrap_or (before_close (reverse bs)) (b ∷ bs)) (b == 40) refl none

-- one in front and none at the end
pub opened_only : (bs behind : List ℕ) → bs ≡ 40 ∷ behind → ((front : List ℕ) → behind ≢ front ++ (41 ∷ []))
    → without_parentheses bs ≡ bs
opened_only bs behind e none =
    let none_ends : before_close (reverse behind) ≡ None =
    not_closed (reverse behind) (λ rest r. none (reverse rest) (last_of_reversed behind rest 41 r)) in
    ap without_parentheses e ∙ (ap (λ o. unwrap_or o (40 ∷ behind)) none_ends ∙ sym e)

-- a pair
pub opened_and_closed : (bs behind inner : List ℕ) → bs ≡ 40 ∷ behind → behind ≡ inner ++ (41 ∷ [])
    → without_parentheses bs ≡ inner
opened_and_closed bs behind inner e ends =
    let closed : before_close (reverse behind) ≡ Some (reverse (reverse inner)) =
    ap before_close (reversed_last behind inner 41 ends) in
    ap without_parentheses e ∙ (ap (λ o. unwrap_or o (40 ∷ behind)) closed ∙ reverse-reverse inner)
