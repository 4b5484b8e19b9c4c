-- Whether some part passes, of parts that all say something.
use Rattle.std.specs.Prelude.{◌≡◌, ◌||◌, ℕ, List, [], ◌∷◌, Bool, true, false, Option, Some, None, option_map, refl}
use Rattle.std.specs.List.{list_any}
use Rattle.std.proofs.Common.{ap, sym, ◌∙◌}
use Rattle.moment_rules.specs.Shapes.{all_said}

abbrev pub any_said : {A : Type 0} → (List ℕ → Option A) → (A → Bool) → List (List ℕ) → Option Bool
any_said said p ps = option_map (list_any p) (all_said said ps)

abbrev pub or_found : Bool → Option Bool → Option Bool
or_found found rest = option_map (λ b. found || b) rest

-- what was found so far and what the parts say that are left give what all parts say
pub record Finds {A : Type 0} (said : List ℕ → Option A) (p : A → Bool) (ps left : List (List ℕ)) (found : Bool)
    : Type 0 where
  pub same : or_found found (any_said said p left) ≡ any_said said p ps

nothing_found : (rest : Option Bool) → or_found false rest ≡ rest
nothing_found None = refl
nothing_found (Some b) = refl

pub finds_start : {A : Type 0} (said : List ℕ → Option A) (p : A → Bool) (ps : List (List ℕ))
    → Finds said p ps ps false
finds_start said p ps = record { same = nothing_found (any_said said p ps) }

one_more : {A : Type 0} (p : A → Bool) (a : A) (rest : Option (List A))
    → option_map (list_any p) (option_map (λ more. a ∷ more) rest) ≡ or_found (p a) (option_map (list_any p) rest)
one_more p a None = refl
one_more p a (Some more) = refl

pub any_more : {A : Type 0} (said : List ℕ → Option A) (p : A → Bool) (part : List ℕ) (others : List (List ℕ)) (a : A)
    → said part ≡ Some a → any_said said p (part ∷ others) ≡ or_found (p a) (any_said said p others)
any_more said p part others a here = rw here (one_more p a (all_said said others))

found_both : (found now : Bool) (rest : Option Bool) → or_found found (or_found now rest) ≡ or_found (found || now) rest
found_both true now None = refl
found_both true now (Some b) = refl
found_both false now None = refl
found_both false now (Some b) = refl

or_true : (found : Bool) → (found || true) ≡ true
or_true true = refl
or_true false = refl

or_false : (found : Bool) → (found || false) ≡ found
or_false true = refl
or_false false = refl

finds_more : {A : Type 0} (said : List ℕ → Option A) (p : A → Bool) (ps : List (List ℕ)) (part : List ℕ)
    (others : List (List ℕ)) (found : Bool) (a : A) → Finds said p ps (part ∷ others) found → said part ≡ Some a
    → or_found (found || p a) (any_said said p others) ≡ any_said said p ps
finds_more said p ps part others found a so_far here =
    sym (found_both found (p a) (any_said said p others))
    ∙ (sym (ap (or_found found) (any_more said p part others a here)) ∙ so_far.same)

-- a part that passes, and one that doesn't
pub finds_yes : {A : Type 0} (said : List ℕ → Option A) (p : A → Bool) (ps : List (List ℕ)) (part : List ℕ)
    (others : List (List ℕ)) (found : Bool) (a : A) → Finds said p ps (part ∷ others) found → said part ≡ Some a
    → p a ≡ true → Finds said p ps others true
finds_yes said p ps part others found a so_far here passes = record {
  same = sym (ap (λ b. or_found b (any_said said p others)) (ap (λ b. found || b) passes ∙ or_true found))
      ∙ finds_more said p ps part others found a so_far here;
}

pub finds_no : {A : Type 0} (said : List ℕ → Option A) (p : A → Bool) (ps : List (List ℕ)) (part : List ℕ)
    (others : List (List ℕ)) (found : Bool) (a : A) → Finds said p ps (part ∷ others) found → said part ≡ Some a
    → p a ≡ false → Finds said p ps others found
finds_no said p ps part others found a so_far here fails = record {
  same = sym (ap (λ b. or_found b (any_said said p others)) (ap (λ b. found || b) fails ∙ or_false found))
      ∙ finds_more said p ps part others found a so_far here;
}

-- a part that says nothing
pub finds_unsaid : {A : Type 0} (said : List ℕ → Option A) (p : A → Bool) (ps : List (List ℕ)) (part : List ℕ)
    (others : List (List ℕ)) (found : Bool) → Finds said p ps (part ∷ others) found → said part ≡ None
    → any_said said p ps ≡ None
finds_unsaid said p ps part others found so_far here =
    let none : any_said said p (part ∷ others) ≡ None = rw here refl in
    sym so_far.same ∙ ap (or_found found) none

-- no part is left
pub finds_end : {A : Type 0} (said : List ℕ → Option A) (p : A → Bool) (ps : List (List ℕ)) (found : Bool)
    → Finds said p ps [] found → any_said said p ps ≡ Some found
finds_end said p ps found so_far = sym so_far.same ∙ ap Some (or_false found)
