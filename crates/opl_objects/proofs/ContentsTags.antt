-- Tags, by the parts between equals signs.
use Rattle.std.specs.Prelude.{◌≡◌, ℕ, List, [], ◌∷◌, Option, is_some, option_copied, true, refl}
use Rattle.std.proofs.Common.{◌∙◌, ap, subst, sym, Bor}
use Rattle.opl_lexer.specs.declared.fault.FaultKind.TheVariants.{BadTag}
use Rattle.opl_lexer.specs.declared.fault.LexError.{LexError}
use Rattle.opl_lexer.specs.Parts.{parts}
use Rattle.opl_lexer.specs.Contents.{Good, Bad, both, but_bad, text_of, tag_in, tag_of}
use Rattle.opl_objects.specs.Cutting.{other_parts}
use Rattle.opl_objects.specs.Outcomes.{IsBad}
use Rattle.opl_objects.proofs.ContentsCuts.{by_other_part}
use Rattle.opl_objects.proofs.ContentsFaults.{bad_through}

-- the key is in fault
key_in_fault : (key : List ℕ) (others : List (List ℕ)) (error : LexError) → IsBad (text_of key) error
    → IsBad (tag_in (key ∷ others)) error
key_in_fault key [] error bad = bad_through (λ h. but_bad h BadTag) (text_of key) _ error (λ kind. refl) refl bad
key_in_fault key (value ∷ []) error bad = bad_through (λ h. both h (text_of value)) (text_of key) _ error (λ kind. refl)
    refl bad
key_in_fault key (value ∷ more ∷ others) error bad = bad_through (λ h. but_bad (both h (text_of value)) BadTag)
    (text_of key) _ error (λ kind. refl) refl bad

pub bad_key : (item key : List ℕ) (others : List (List ℕ)) (error : LexError) → parts 61 item ≡ key ∷ others
    → IsBad (text_of key) error → IsBad (tag_of item) error
bad_key item key others error cut bad = subst (λ l. IsBad (tag_in l) error) (sym cut)
    (key_in_fault key others error bad)

-- the value is in fault, and the key isn't
value_in_fault : (key value name : List ℕ) (others : List (List ℕ)) (error : LexError) → text_of key ≡ Good name
    → IsBad (text_of value) error → IsBad (tag_in (key ∷ value ∷ others)) error
value_in_fault key value name [] error good bad =
    bad_through (λ h. both (Good name) h) (text_of value) _ error (λ kind. refl) (ap (λ h. both h (text_of value)) good)
    bad
value_in_fault key value name (more ∷ others) error good bad =
    bad_through (λ h. but_bad (both (Good name) h) BadTag) (text_of value) _ error (λ kind. refl)
    (ap (λ h. but_bad (both h (text_of value)) BadTag) good) bad

pub bad_value : (item key value name : List ℕ) (others : List (List ℕ)) (error : LexError)
    → parts 61 item ≡ key ∷ value ∷ others → text_of key ≡ Good name → IsBad (text_of value) error
    → IsBad (tag_of item) error
bad_value item key value name others error cut good bad = subst (λ l. IsBad (tag_in l) error) (sym cut)
    (value_in_fault key value name others error good bad)

-- a second sign stands behind a good key and a good value
pub second_sign : (item key value name worth : List ℕ) (more : Option (Bor (List ℕ)))
    → parts 61 item ≡ key ∷ value ∷ other_parts 61 (option_copied more) → text_of key ≡ Good name
    → text_of value ≡ Good worth → is_some more ≡ true → tag_of item ≡ Bad BadTag
second_sign item key value name worth more cut good known some =
    let bad : but_bad (both (text_of key) (text_of value)) BadTag ≡ Bad BadTag =
    ap (λ h. but_bad (both h (text_of value)) BadTag) good ∙ ap (λ h. but_bad (both (Good name) h) BadTag) known in
    ap tag_in cut ∙ by_other_part (λ l. tag_in (key ∷ value ∷ l)) (Bad BadTag) (λ p ps. bad) 61 more some
