-- What a source held that was read to its end, or that told its bytes.
use Rattle.std.proofs.Common.{◌≡◌, ℕ, List, [], ◌++◌, Option, None, Some, refl, ap, ◌∙◌}
use Rattle.std.proofs.lemmas.List.{append-nil}
use Rattle.session.specs.Conversing.{HeldBytes}
use Rattle.session.proofs.HeldSource.{behind_of}
use Rattle.bounded_input.specs.Input.{Ended}

behind_nothing : (left : Option (List ℕ)) → Ended left → behind_of left ≡ []
behind_nothing None e = refl
behind_nothing (Some y) e = e

-- what was read of an input that ended is all of it
pub all_read : (read : List ℕ) (left : Option (List ℕ)) → Ended left → read ++ behind_of left ≡ read
all_read read left e = ap (λ (l : List ℕ). read ++ l) (behind_nothing left e) ∙ append-nil read

-- what a source tells is what it held
pub same_held : (bytes other behind : List ℕ) (held left : Option (List ℕ)) → held ≡ Some bytes
    → HeldBytes other behind held left → bytes ≡ other
same_held bytes other behind None left e l = cc
same_held bytes other behind (Some x) None e l = absurd l
same_held bytes other behind (Some x) (Some y) e l =
    let k : Some x ≡ Some bytes = e in let m : x ≡ other = l.0 in cc
