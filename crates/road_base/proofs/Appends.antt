-- The spelling of a list that is appended item by item, and what holds of the items so far.
use Rattle.std.proofs.Common.{◌≡◌, ℕ, ◌+◌, ◌<◌, List, [], ◌∷◌, ◌++◌, length, get_or, take, drop, refl, sym, ap, subst}
use Rattle.std.proofs.Common.{◌∙◌, append_assoc, append-nil}
use Rattle.std.specs.List.{AllByRecursion}
use Rattle.std.proofs.lemmas.List.{take_at, take_more, take-append-drop}
use Rattle.road_base.specs.Bytes.{joined, Keeps}

-- what stood before an append stands in front of what comes later
pub keeps_more : (old added mid new : List ℕ) → mid ≡ old ++ added → Keeps mid new → Keeps old new
keeps_more old added mid new is kept =
    let whole : new ≡ old ++ (added ++ drop (length mid) new) =
    sym (take-append-drop (length mid) new) ∙ ap (λ l. l ++ drop (length mid) new) (kept ∙ is)
    ∙ append_assoc old added (drop (length mid) new) in
    subst (λ l. take (length old) l ≡ old) (sym whole) (take_at old (added ++ drop (length mid) new) (length old) refl)

item_more : {A : Type 0} (xs : List A) (i : ℕ) (x : A) → i < length xs → x ≡ get_or xs i x
    → take (i + 1) xs ≡ take i xs ++ x ∷ []
item_more xs i x within is = take_more xs i x within ∙ ap (λ y. take i xs ++ y ∷ []) (sym is)

pub joined_more : {A : Type 0} (spell : A → List ℕ) (xs : List A) (x : A)
    → joined spell (xs ++ x ∷ []) ≡ joined spell xs ++ spell x
joined_more spell [] x = append-nil (spell x)
joined_more spell (y ∷ xs) x = ap (λ l. spell y ++ l) (joined_more spell xs x)
    ∙ sym (append_assoc (spell y) (joined spell xs) (spell x))

-- one item more is spelled
pub one_more : {A : Type 0} (spell : A → List ℕ) (xs : List A) (i : ℕ) (x : A) (old mid new : List ℕ) → i < length xs
    → x ≡ get_or xs i x → mid ≡ old ++ joined spell (take i xs) → new ≡ mid ++ spell x
    → new ≡ old ++ joined spell (take (i + 1) xs)
one_more spell xs i x old mid new within is so_far next =
    next ∙ ap (λ l. l ++ spell x) so_far ∙ append_assoc old (joined spell (take i xs)) (spell x)
    ∙ ap (λ l. old ++ l) (sym (joined_more spell (take i xs) x) ∙ ap (joined spell) (sym (item_more xs i x within is)))

pub all_more : {A : Type 0} (P : A → Type 0) (xs : List A) (x : A) → AllByRecursion P xs → P x
    → AllByRecursion P (xs ++ x ∷ [])
all_more P [] x so_far next = (next, tt)
all_more P (y ∷ xs) x so_far next = (so_far.0, all_more P xs x so_far.1 next)

-- what holds of the items so far and of the next holds of one item more
pub all-take : {A : Type 0} (P : A → Type 0) (xs : List A) (i : ℕ) (x : A) → i < length xs → x ≡ get_or xs i x
    → AllByRecursion P (take i xs) → P x → AllByRecursion P (take (i + 1) xs)
all-take P xs i x within is so_far next =
    subst (AllByRecursion P) (sym (item_more xs i x within is)) (all_more P (take i xs) x so_far next)
