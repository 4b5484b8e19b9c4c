-- Reading a spelling from the front of bytes.
use Rattle.std.specs.Prelude.{◌≡◌, ℕ, List, ◌++◌}
use Rattle.spelled_bytes.specs.declared.unread.Unread.{Unread}
use Rattle.spelled_bytes.specs.declared.unread.Unread.TheVariants.{Malformed, Memory}

-- the bytes are the spelling of x, which is as it has to be, and then the rest
pub record Begins {A : Type 0} (spell : A → List ℕ) (Fits : A → Type 0) (bytes : List ℕ) (x : A) (rest : List ℕ) : Type
    0 where
  pub fits : Fits x
  pub parts : bytes ≡ spell x ++ rest

-- the bytes begin with no spelling
abbrev pub NoneBegins : {A : Type 0} → (A → List ℕ) → (A → Type 0) → List ℕ → Type 0
NoneBegins {A} spell Fits bytes = (x : A) (rest : List ℕ) → Begins spell Fits bytes x rest → ⊥

-- the fact holds unless memory ended
abbrev pub IfMalformed : Unread → Type 0 → Type 0
IfMalformed Malformed P = P
IfMalformed Memory P = Unit {0}

-- no spelling begins another one, and each is that of one value
abbrev pub IsOneSpelling : {A : Type 0} → (A → List ℕ) → (A → Type 0) → Type 0
IsOneSpelling {A} spell Fits = (x y : A) (bytes r s : List ℕ) → Begins spell Fits bytes x r
    → Begins spell Fits bytes y s → (x ≡ y) × (r ≡ s)
