-- The value of the last part that applies, part by part.
use Rattle.std.specs.Prelude.{◌≡◌, ℕ, List, [], ◌∷◌, Bool, true, false, cond, Option, Some, None, option_map, find}
use Rattle.std.specs.Prelude.{reverse, refl}
use Rattle.std.specs.Option.{option_or}
use Rattle.std.proofs.Common.{ap, sym, ◌∙◌}
use Rattle.std.proofs.lemmas.List.{reverse-append}
use Rattle.std.proofs.lemmas.List.Folds.{find-append}
use Rattle.moment_rules.specs.declared.moment.Moment.{Moment}
use Rattle.moment_rules.specs.Shapes.{all_said}
use Rattle.moment_rules.specs.Conditions.{applies}
use Rattle.moment_rules.specs.Conditionals.{ConditionalPart, part_of, told_at, last_value}

-- the last value of the parts, and the one before them where none of them applies
abbrev pub value_or : Moment → Option (List ℕ) → Option (List ConditionalPart) → Option (Option (List ℕ))
value_or at before ps = option_map (λ more. option_or (last_value at more) before) ps

-- the last value so far and the parts that are left give what all parts give
pub record HasLast (at : Moment) (ps left : List (List ℕ)) (last : Option (List ℕ)) : Type 0 where
  pub same : value_or at last (all_said part_of left) ≡ option_map (last_value at) (all_said part_of ps)

or_none : (o : Option (List ℕ)) → option_or o None ≡ o
or_none None = refl
or_none (Some v) = refl

none_before : (at : Moment) (ps : Option (List ConditionalPart)) → value_or at None ps ≡ option_map (last_value at) ps
none_before at None = refl
none_before at (Some ps) = ap Some (or_none (last_value at ps))

pub last_start : (at : Moment) (ps : List (List ℕ)) → HasLast at ps ps None
last_start at ps = record { same = none_before at (all_said part_of ps) }

-- the value of one part, if it applies
abbrev own_value : Moment → ConditionalPart → Option (List ℕ)
own_value at p = cond (applies at p.condition) (Some p.value) None

value_of_or : (a b : Option ConditionalPart)
    → option_map (λ p. p.value) (option_or a b) ≡ option_or (option_map (λ p. p.value) a) (option_map (λ p. p.value) b)
value_of_or None b = refl
value_of_or (Some p) b = refl

value_of_one : (p : ConditionalPart) (now : Bool)
    → option_map (λ q. q.value) (cond now (Some p) None) ≡ cond now (Some p.value) None
value_of_one p true = refl
value_of_one p false = refl

last_more : (at : Moment) (p : ConditionalPart) (ps : List ConditionalPart)
    → last_value at (p ∷ ps) ≡ option_or (last_value at ps) (own_value at p)
last_more at p ps =
    ap (λ l. option_map (λ q. q.value) (find (λ q. applies at q.condition) l)) (reverse-append (p ∷ []) ps)
    ∙ (ap (option_map (λ q. q.value)) (find-append (λ q. applies at q.condition) (reverse ps) (p ∷ []))
    ∙ (value_of_or (find (λ q. applies at q.condition) (reverse ps)) (cond (applies at p.condition) (Some p) None)
    ∙ ap (option_or (last_value at ps)) (value_of_one p (applies at p.condition))))

or_assoc : (a b c : Option (List ℕ)) → option_or (option_or a b) c ≡ option_or a (option_or b c)
or_assoc None b c = refl
or_assoc (Some v) b c = refl

one_before : (at : Moment) (p : ConditionalPart) (before : Option (List ℕ)) (ps : Option (List ConditionalPart))
    → value_or at before (option_map (λ more. p ∷ more) ps) ≡ value_or at (option_or (own_value at p) before) ps
one_before at p before None = refl
one_before at p before (Some ps) =
    ap Some (ap (λ o. option_or o before) (last_more at p ps) ∙ or_assoc (last_value at ps) (own_value at p) before)

last_next : (at : Moment) (ps : List (List ℕ)) (part : List ℕ) (others : List (List ℕ)) (last : Option (List ℕ))
    (p : ConditionalPart) → HasLast at ps (part ∷ others) last → part_of part ≡ Some p
    → value_or at (option_or (own_value at p) last) (all_said part_of others)
    ≡ option_map (last_value at) (all_said part_of ps)
last_next at ps part others last p so_far here =
    let first : all_said part_of (part ∷ others) ≡ option_map (λ more. p ∷ more) (all_said part_of others) =
    rw here refl in
    sym (one_before at p last (all_said part_of others))
    ∙ (sym (ap (value_or at last) first) ∙ so_far.same)

abbrev value_in : List ℕ → Option (List ℕ × Bool) → List ℕ
value_in other None = other
value_in other (Some told) = told.0

abbrev answer_in : Bool → Option (List ℕ × Bool) → Bool
answer_in other None = other
answer_in other (Some told) = told.1

by_part : (at : Moment) (o : Option ConditionalPart) (v : List ℕ) (now : Bool) → told_at at o ≡ Some (v, now)
    → (p : ConditionalPart) × (o ≡ Some p) × (p.value ≡ v) × (applies at p.condition ≡ now)
by_part at None v now e = cc
by_part at (Some p) v now e = (p, refl, ap (value_in v) e, ap (answer_in now) e)

-- a part that applies, and one that doesn't
pub last_applies : (at : Moment) (ps : List (List ℕ)) (part : List ℕ) (others : List (List ℕ))
    (last : Option (List ℕ)) (v : List ℕ) → HasLast at ps (part ∷ others) last
    → told_at at (part_of part) ≡ Some (v, true) → HasLast at ps others (Some v)
last_applies at ps part others last v so_far told =
    let k = by_part at (part_of part) v true told in
    let own : own_value at k.0 ≡ Some v = rw k.3 (ap Some k.2) in
    record {
      same = sym (ap (λ o. value_or at (option_or o last) (all_said part_of others)) own)
          ∙ last_next at ps part others last k.0 so_far k.1;
    }

pub last_quiet : (at : Moment) (ps : List (List ℕ)) (part : List ℕ) (others : List (List ℕ))
    (last : Option (List ℕ)) (v : List ℕ) → HasLast at ps (part ∷ others) last
    → told_at at (part_of part) ≡ Some (v, false) → HasLast at ps others last
last_quiet at ps part others last v so_far told =
    let k = by_part at (part_of part) v false told in
    let own : own_value at k.0 ≡ None = rw k.3 refl in
    record {
      same = sym (ap (λ o. value_or at (option_or o last) (all_said part_of others)) own)
          ∙ last_next at ps part others last k.0 so_far k.1;
    }

-- a part that isn't read
pub last_unread : (at : Moment) (ps : List (List ℕ)) (part : List ℕ) (others : List (List ℕ))
    (last : Option (List ℕ)) → HasLast at ps (part ∷ others) last → part_of part ≡ None
    → option_map (last_value at) (all_said part_of ps) ≡ None
last_unread at ps part others last so_far here =
    let none : all_said part_of (part ∷ others) ≡ None = rw here refl in
    sym so_far.same ∙ ap (value_or at last) none

-- no part is left
pub last_end : (at : Moment) (ps : List (List ℕ)) (last : Option (List ℕ)) → HasLast at ps [] last
    → option_map (last_value at) (all_said part_of ps) ≡ Some last
last_end at ps last so_far = sym so_far.same
