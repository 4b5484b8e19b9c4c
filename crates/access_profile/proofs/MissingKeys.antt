-- Where no key begins as an access key does, no access key is carried.
use Rattle.std.specs.List.{AllByRecursion, list_any}
use Rattle.std.specs.Prelude.{find}
use Rattle.std.proofs.Common.{rules, ◌≡◌, ℕ, List, [], ◌∷◌, Bool, true, false, cond, Option, None, Some, is_some, refl}
use Rattle.std.proofs.Common.{sym, ap, ◌∙◌}
use Rattle.std.specs.Str.{bytes_eq}
use Rattle.std.proofs.lemmas.Bool.{false≢true, or_parts}
use Rattle.std.proofs.lemmas.Slice.Eq.{bytes_eq-Decides}
use Rattle.road_base.specs.Tags.{TagList, value_of}
use Rattle.road_base.specs.declared.ids.Dir.{Dir}
use Rattle.road_base.specs.declared.ids.Dir.TheVariants.{Forward, Backward}
use Rattle.access_profile.specs.Deciding.{deciding, deciding_keys, full_key, SidedKey}
use Rattle.access_profile.specs.FirstLetters.{may_be_access_key}

-- some key of the tags begins as an access key does
abbrev pub may_have_access_key : TagList → Bool
may_have_access_key tags = list_any (λ t. may_be_access_key t.0) tags

same_bytes : (a b : List ℕ) → bytes_eq a b ≡ true → a ≡ b
same_bytes a b e = search (rules, bytes_eq-Decides)

absent_behind : (k : List ℕ) (t : List ℕ × List ℕ) (rest : Option (List ℕ)) (same : Bool) → bytes_eq t.0 k ≡ same
    → may_be_access_key k ≡ true → may_be_access_key t.0 ≡ false → rest ≡ None → cond same (Some t.1) rest ≡ None
absent_behind k t rest true e alike other none =
    let is : t.0 ≡ k = same_bytes t.0 k e in
    absurd (false≢true (sym other ∙ (ap may_be_access_key is ∙ alike)))
absent_behind k t rest false e alike other none = none

-- a key that begins so isn't carried where none does
pub absent : (k : List ℕ) (ts : TagList) → may_be_access_key k ≡ true → may_have_access_key ts ≡ false
    → value_of k ts ≡ None
absent k [] alike none = refl
absent k (t ∷ ts) alike none =
    let p = or_parts (may_be_access_key t.0) (may_have_access_key ts) none in
    absent_behind k t (value_of k ts) (bytes_eq t.0 k) refl alike p.0 (absent k ts alike p.1)

passed : (k : SidedKey) (ks : List SidedKey) (ts : TagList) → value_of (full_key k) ts ≡ None
    → find (λ j. is_some (value_of (full_key j) ts)) (k ∷ ks) ≡ find (λ j. is_some (value_of (full_key j) ts)) ks
passed k ks ts none = rw none refl

all_passed : (ks : List SidedKey) (ts : TagList) → AllByRecursion (λ k. may_be_access_key (full_key k) ≡ true) ks
    → ((k : List ℕ) → may_be_access_key k ≡ true → value_of k ts ≡ None)
    → find (λ j. is_some (value_of (full_key j) ts)) ks ≡ None
all_passed [] ts alike none = refl
all_passed (k ∷ ks) ts alike none = passed k ks ts (none (full_key k) alike.0) ∙ all_passed ks ts alike.1 none

all_alike : (d : Dir) → AllByRecursion (λ k. may_be_access_key (full_key k) ≡ true) (deciding_keys d)
all_alike Forward = (refl, (refl, (refl, (refl, (refl, (refl, (refl, (refl, tt))))))))
all_alike Backward = (refl, (refl, (refl, (refl, (refl, (refl, (refl, (refl, tt))))))))

pub none_decides : (ts : TagList) (d : Dir) → ((k : List ℕ) → may_be_access_key k ≡ true → value_of k ts ≡ None)
    → None ≡ deciding ts d
unfolding deciding
none_decides ts d none = sym (all_passed (deciding_keys d) ts (all_alike d) none)
