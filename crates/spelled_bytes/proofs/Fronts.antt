-- What bytes begin with, part by part.
use Rattle.std.proofs.Common.{◌≡◌, ℕ, ◌+◌, ◌<◌, Bool, true, false, List, [], ◌∷◌, ◌++◌, length, refl, sym, ap, subst}
use Rattle.std.proofs.Common.{◌∙◌, arith, append_assoc, length-append}
use Rattle.std.proofs.lemmas.Bool.{false≢true}
use Rattle.std.specs.List.{AllByRecursion}
use Rattle.road_base.specs.Bytes.{joined}
use Rattle.spelled_bytes.specs.declared.unread.Unread.{Unread}
use Rattle.spelled_bytes.specs.declared.unread.Unread.TheVariants.{Malformed, Memory}
use Rattle.spelled_bytes.specs.Spelling.{AreSoMany}
use Rattle.spelled_bytes.specs.Reading.{Begins, NoneBegins, IfMalformed, IsOneSpelling}
use Rattle.road_base.proofs.Appends.{joined_more, all_more}

pub malformed_weaker : {P Q : Type 0} (e : Unread) → (P → Q) → IfMalformed e P → IfMalformed e Q
malformed_weaker Malformed weaker h = weaker h
malformed_weaker Memory weaker h = tt

-- what is read behind a first part, where that part says what may stand there
pub record BeginsBoth {A B : Type 0} (f : A → List ℕ) (F : A → Type 0) (g : B → List ℕ) (G : A → B → Type 0)
    (bytes : List ℕ) (x : A) (y : B) (rest : List ℕ) : Type 0 where
  pub first : F x
  pub second : G x y
  pub parts : bytes ≡ f x ++ (g y ++ rest)

-- behind the first part nothing begins, so nothing begins with both
pub second_missing : {A B : Type 0} (f : A → List ℕ) (F : A → Type 0) (g : B → List ℕ) (G : A → B → Type 0)
    → IsOneSpelling f F → (bytes : List ℕ) (x : A) (rest : List ℕ) → Begins f F bytes x rest → NoneBegins g (G x) rest
    → (a : A) (b : B) (r : List ℕ) → BeginsBoth f F g G bytes a b r → ⊥
second_missing f F g G one bytes x rest found none a b r both =
    let same : (x ≡ a) × (rest ≡ g b ++ r) = one x a bytes rest (g b ++ r) found
    (record { fits = both.first; parts = both.parts }) in
    none b r (record { fits = subst (λ k. G k b) (sym same.0) both.second; parts = same.1 })

-- the first part and the second one
pub both_begin : {A B : Type 0} (f : A → List ℕ) (F : A → Type 0) (g : B → List ℕ) (G : B → Type 0) (bytes : List ℕ)
    (x : A) (mid : List ℕ) (y : B) (rest : List ℕ) → Begins f F bytes x mid → Begins g G mid y rest
    → bytes ≡ (f x ++ g y) ++ rest
both_begin f F g G bytes x mid y rest first second =
    first.parts ∙ ap (λ l. f x ++ l) second.parts ∙ sym (append_assoc (f x) (g y) rest)

-- ---- lists

-- one more was read
pub one_more_begins : {A : Type 0} (f : A → List ℕ) (F : A → Type 0) (i : ℕ) (bytes : List ℕ) (items more : List A)
    (mid : List ℕ) (x : A) (rest : List ℕ) → Begins (joined f) (AreSoMany F i) bytes items mid → Begins f F mid x rest
    → more ≡ items ++ x ∷ [] → Begins (joined f) (AreSoMany F (i + 1)) bytes more rest
one_more_begins f F i bytes items more mid x rest so_far next is =
    subst (λ l. Begins (joined f) (AreSoMany F (i + 1)) bytes l rest) (sym is) (record {
      fits = (length-append items (x ∷ []) ∙ ap (λ n. n + 1) so_far.fits.0, all_more F items x so_far.fits.1 next.fits);
      parts = both_begin (joined f) (AreSoMany F i) f F bytes items mid x rest so_far next
          ∙ ap (λ l. l ++ rest) (sym (joined_more f items x));
    })

no_more : {A : Type 0} (f : A → List ℕ) (F : A → Type 0) → IsOneSpelling f F → (items all : List A) (rest r : List ℕ)
    → length items < length all → AllByRecursion F items → AllByRecursion F all → NoneBegins f F rest
    → joined f items ++ rest ≡ joined f all ++ r → ⊥
no_more f F one items [] rest r less first second none e = absurd (omega arith)
no_more f F one [] (x ∷ all) rest r less first second none e =
    none x (joined f all ++ r) (record { fits = second.0; parts = e ∙ append_assoc (f x) (joined f all) r })
no_more f F one (y ∷ items) (x ∷ all) rest r less first second none e =
    let same : (y ≡ x) × (joined f items ++ rest ≡ joined f all ++ r) =
    one y x (f y ++ (joined f items ++ rest)) (joined f items ++ rest) (joined f all ++ r)
    (record { fits = first.0; parts = refl })
    (record {
      fits = second.0;
      parts = sym (append_assoc (f y) (joined f items) rest) ∙ e
          ∙ append_assoc (f x) (joined f all) r;
    }) in
    no_more f F one items all rest r (omega arith) first.1 second.1 none same.1

-- behind so many nothing begins, so the bytes begin with no more
pub item_missing : {A : Type 0} (f : A → List ℕ) (F : A → Type 0) → IsOneSpelling f F
    → (count i : ℕ) (bytes : List ℕ) (items : List A) (rest : List ℕ) → i < count
    → Begins (joined f) (AreSoMany F i) bytes items rest → NoneBegins f F rest
    → NoneBegins (joined f) (AreSoMany F count) bytes
item_missing f F one count i bytes items rest less so_far none all r whole =
    let few : length items ≡ i = so_far.fits.0 in
    let many : length all ≡ count = whole.fits.0 in
    no_more f F one items all rest r (omega arith) so_far.fits.1 whole.fits.1 none (sym so_far.parts ∙ whole.parts)

-- ---- the same under another form of the value, and values that a test refuses

pub form_missing : {A B : Type 0} (form : B → A) (f : A → List ℕ) (F : A → Type 0) (bytes : List ℕ)
    → NoneBegins f F bytes → NoneBegins (λ b. f (form b)) (λ b. F (form b)) bytes
form_missing form f F bytes none b r whole = none (form b) r (record { fits = whole.fits; parts = whole.parts })

pub value_refused : {A : Type 0} (f : A → List ℕ) (F : A → Type 0) → IsOneSpelling f F
    → (test : A → Bool) (bytes : List ℕ) (x : A) (rest : List ℕ) → Begins f F bytes x rest → test x ≡ false
    → (y : A) (r : List ℕ) → Begins f F bytes y r → test y ≡ true → ⊥
value_refused f F one test bytes x rest found refused y r whole holds =
    let same : (x ≡ y) × (rest ≡ r) = one x y bytes rest r found whole in
    false≢true (sym refused ∙ ap test same.0 ∙ holds)

-- a value that isn't as it has to be was read, and no other one stands there
pub unfit_missing : {A : Type 0} (f : A → List ℕ) (F G : A → Type 0) → IsOneSpelling f F → (bytes : List ℕ) (x : A)
    (rest : List ℕ) → Begins f F bytes x rest → (G x → ⊥) → (y : A) (r : List ℕ) → Begins f F bytes y r → G y → ⊥
unfit_missing f F G one bytes x rest found unfit y r whole is =
    unfit (subst G (sym (one x y bytes rest r found whole).0) is)
