-- What is kept of the elements of a list.
use Rattle.std.proofs.Common.{◌≡◌, ℕ, ◌+◌, ◌<◌, List, [], ◌∷◌, ◌++◌, length, take, get_or, filter_map, sym, ap, ◌∙◌}
use Rattle.std.proofs.Common.{Option}
use Rattle.std.specs.List.{cons_option}
use Rattle.std.proofs.lemmas.List.{take_more}
use Rattle.std.proofs.lemmas.List.Elements.{filter_map-append}

-- one element more, of which something is kept or not
pub kept_more : {A B : Type 0} (f : A → Option B) (xs : List A) (i : ℕ) (x : A) (o : Option B) → i < length xs
    → x ≡ get_or xs i x → f x ≡ o → filter_map f (take (i + 1) xs) ≡ filter_map f (take i xs) ++ cons_option o []
kept_more f xs i x o within at is =
    ap (filter_map f) (take_more xs i x within)
    ∙ filter_map-append f (take i xs) (get_or xs i x ∷ [])
    ∙ ap (λ y. filter_map f (take i xs) ++ cons_option (f y) []) (sym at)
    ∙ ap (λ p. filter_map f (take i xs) ++ cons_option p []) is
