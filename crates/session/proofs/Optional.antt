-- What is known of a value that may be there.
use Rattle.std.proofs.Common.{◌≡◌, Option, None, Some, IfSome, IfNone, subst}

pub at_some : {A : Type 0} (o : Option A) (a : A) (P : A → Type 0) → o ≡ Some a → IfSome o P → P a
at_some {A} o a P is holds = subst (λ (p : Option A). IfSome p P) is holds

pub at_none : {A : Type 0} (o : Option A) (P : Type 0) → o ≡ None → IfNone o P → P
at_none {A} o P is holds = subst (λ (p : Option A). IfNone p P) is holds
