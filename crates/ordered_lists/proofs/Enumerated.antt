-- Facts that hold of the members of a list and of nothing else.
use Rattle.std.proofs.Common.{◌≡◌, List, [], ◌∷◌, ◌++◌, ◌⊎◌, inl, inr, refl, sym, ap, subst, Option, Some, None}
use Rattle.ordered_lists.proofs.ListMembers.{In, in_left, in_right, in_cases}
use Rattle.ordered_lists.proofs.Decided.{Decided, some_in}

pub record Finite {X : Type 0} (Q : X → Type 0) : Type 0 where
  pub list : List X
  pub sound : (x : X) → In x list → Q x
  pub complete : (x : X) → Q x → In x list

pub fin_none : {X : Type 0} {Q : X → Type 0} → ((x : X) → Q x → ⊥) → Finite Q
fin_none n = record { list = []; sound = λ x i. absurd i; complete = λ x q. n x q }

pub fin_one : {X : Type 0} (a : X) → Finite (λ x. x ≡ a)
fin_one a = record { list = a ∷ []; sound = λ x i. elim i [ inl e ↦ e | inr n ↦ absurd n ]; complete = λ x e. inl e }

pub fin_or : {X : Type 0} {Q R : X → Type 0} → Finite Q → Finite R → Finite (λ x. Q x ⊎ R x)
fin_or f g = record {
  list = f.list ++ g.list;
  sound = λ x i. elim (in_cases f.list g.list x i) [ inl a ↦ inl (f.sound x a) | inr b ↦ inr (g.sound x b) ];
  complete = λ x q. elim q [
    | inl a ↦ in_left f.list g.list x (f.complete x a)
    | inr b
        ↦ in_right f.list g.list x (g.complete x b)
  ];
}

pub fin_like : {X : Type 0} {Q R : X → Type 0} → ((x : X) → Q x → R x) → ((x : X) → R x → Q x) → Finite Q → Finite R
fin_like to from f = record {
  list = f.list;
  sound = λ x i. to x (f.sound x i);
  complete = λ x r. f.complete x
      (from x r);
}

-- the same, with the known fact first, from which antt takes the types of the other two arguments
pub fin_by : {X : Type 0} {Q R : X → Type 0} → Finite Q → ((x : X) → Q x → R x) → ((x : X) → R x → Q x) → Finite R
fin_by f to from = fin_like to from f

pub fin_if : {X : Type 0} {A : Type 0} {Q : X → Type 0} → Decided A → (A → Finite Q) → Finite (λ x. A × Q x)
fin_if (inl a) f = fin_like (λ x q. (a, q)) (λ x q. q.1) (f a)
fin_if (inr n) f = fin_none (λ x q. n q.0)

bound : {A X : Type 0} {R : A → X → Type 0} → ((a : A) → Finite (R a)) → List A → List X
bound f [] = []
bound f (a ∷ as_) = (f a).list ++ bound f as_

bound_sound : {A X : Type 0} {R : A → X → Type 0} (f : (a : A) → Finite (R a)) (l : List A) (x : X) → In x (bound f l)
    → (a : A) × In a l × R a x
unfolding bound
bound_sound f [] x i = absurd i
bound_sound f (a ∷ l) x i = elim (in_cases (f a).list (bound f l) x i) [
  | inl h ↦ (a, inl refl, (f a).sound x h)
  | inr h ↦ let r = bound_sound f l x h in (r.0, inr r.1, r.2)
]

bound_complete : {A X : Type 0} {R : A → X → Type 0} (f : (a : A) → Finite (R a)) (l : List A) (a : A) (x : X) → In a l
    → R a x → In x (bound f l)
unfolding bound
bound_complete f [] a x i r = absurd i
bound_complete {R = R} f (b ∷ l) a x (inl e) r = in_left (f b).list (bound f l) x
    ((f b).complete x (subst (λ v. R v x) e r))
bound_complete f (b ∷ l) a x (inr i) r = in_right (f b).list (bound f l) x (bound_complete f l a x i r)

pub fin_bind : {A X : Type 0} {Q : A → Type 0} {R : A → X → Type 0} → Finite Q → ((a : A) → Finite (R a))
    → Finite (λ x. (a : A) × Q a × R a x)
fin_bind q f = record {
  list = bound f q.list;
  sound = λ x i. let r = bound_sound f q.list x i in (r.0, q.sound r.0 r.1, r.2);
  complete = λ x h. bound_complete f q.list h.0 x (q.complete h.0 h.1) h.2;
}

pub fin_list : {X : Type 0} (xs : List X) → Finite (λ x. In x xs)
fin_list xs = record { list = xs; sound = λ x i. i; complete = λ x i. i }

pub fin_some : {X : Type 0} (o : Option X) → Finite (λ x. o ≡ Some x)
fin_some None = fin_none (λ x e. cc)
fin_some (Some a) = fin_like (λ x e. ap Some (sym e)) (λ x e. cc) (fin_one a)

-- some value of which the fact holds has a further property, or none has
pub search_finite : {X : Type 0} {Q : X → Type 0} (A : X → Type 0) → Finite Q → ((x : X) → Decided (A x))
    → Decided ((x : X) × Q x × A x)
search_finite A f each = elim (some_in A each f.list) [
  | inl r ↦ inl (r.0, f.sound r.0 r.1, r.2)
  | inr n ↦ inr (λ h. n h.0 (f.complete h.0 h.1) h.2)
]

-- ---- what is made of the members of a finite set

made : {X Y : Type 0} {Q : X → Type 0} {R : Y → Type 0} → ((x : X) → Q x → (y : Y) × R y) → (l : List X) →
    ((x : X) → In x l → Q x) → List Y
made make [] all = []
made make (x ∷ l) all = (make x (all x (inl refl))).0 ∷ made make l (λ z i. all z (inr i))

made_sound : {X Y : Type 0} {Q : X → Type 0} {R : Y → Type 0} (make : (x : X) → Q x → (y : Y)
    × R y) (l : List X) (all : (x : X) → In x l → Q x) (y : Y) → In y (made make l all) → R y
unfolding made
made_sound make [] all y i = absurd i
made_sound {R = R} make (x ∷ l) all y (inl e) = subst R (sym e) (make x (all x (inl refl))).1
made_sound make (x ∷ l) all y (inr i) = made_sound make l (λ z j. all z (inr j)) y i

made_complete : {X Y : Type 0} {Q : X → Type 0} {R : Y → Type 0} (make : (x : X) → Q x → (y : Y)
    × R y) (l : List X) (all : (x : X) → In x l → Q x) (y : Y) (x : X) → In x l → ((q : Q x) → y ≡ (make x q).0) →
    In y (made make l all)
unfolding made
made_complete {Q = Q} make (z ∷ l) all y x (inl e) is = inl
    (subst (λ v. (q : Q v) → y ≡ (make v q).0) e is (all z (inl refl)))
made_complete make (z ∷ l) all y x (inr i) is = inr (made_complete make l (λ v j. all v (inr j)) y x i is)
made_complete make [] all y x i is = absurd i

-- finitely many things that are each made of one of finitely many, whichever proof is at hand
pub fin_made : {X Y : Type 0} {Q : X → Type 0} {R : Y → Type 0} → Finite Q → (make : (x : X) → Q x → (y : Y) × R y) →
    ((y : Y) → R y → (x : X) × Q x × ((q : Q x) → y ≡ (make x q).0)) → Finite R
fin_made f make from = record {
  list = made make f.list f.sound;
  sound = λ y i. made_sound make f.list f.sound y i;
  complete = λ y r. let h = from y r in made_complete make f.list f.sound y h.0 (f.complete h.0 h.1) h.2;
}
