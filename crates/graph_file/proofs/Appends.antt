-- Bytes that are appended one after another.
use Rattle.std.proofs.Common.{◌≡◌, ℕ, List, [], ◌∷◌, ◌++◌, ap, ◌∙◌, append_assoc, Result, Ok, Err, OnOk, OnErr}
use Rattle.std.specs.List.{AllByRecursion}
use Rattle.road_base.specs.Bytes.{Keeps}
use Rattle.road_base.proofs.Appends.{keeps_more}
use Rattle.std.proofs.lemmas.Result.{IfOk-equal}

-- two appends before a last one, whose answer is returned as it is
pub third : {T E : Type 0} (r : Result T E) (old a mid b next c new : List ℕ) → mid ≡ old ++ a → next ≡ mid ++ b
    → OnOk r (new ≡ next ++ c) → OnOk r (new ≡ old ++ (a ++ (b ++ c)))
third r old a mid b next c new first second last =
    IfOk-equal r new (next ++ c) (old ++ (a ++ (b ++ c))) last
    (ap (λ l. l ++ c) second ∙ append_assoc mid b c ∙ ap (λ l. l ++ (b ++ c)) first ∙ append_assoc old a (b ++ c))

-- every item has a form where all do
pub all_any : {A : Type 0} (xs : List A) → AllByRecursion (λ _. Unit {0}) xs
all_any [] = tt
all_any (x ∷ xs) = (tt, all_any xs)

-- four appends before a last one, which may have failed halfway
pub kept : {T E : Type 0} (r : Result T E) (old a one b two c three d four new : List ℕ) → one ≡ old ++ a
    → two ≡ one ++ b → three ≡ two ++ c → four ≡ three ++ d → OnErr r (Keeps four new) → OnErr r (Keeps old new)
kept (Ok x) old a one b two c three d four new e f g h last = tt
kept (Err x) old a one b two c three d four new e f g h last =
    keeps_more old a one new e (keeps_more one b two new f (keeps_more two c three new g
    (keeps_more three d four new h last)))
