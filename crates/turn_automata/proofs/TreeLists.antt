-- The lists of a tree: each edge leads to the list with its step behind, and all that a list begins with is there.
use Rattle.std.proofs.Common.{◌≡◌, ℕ, zero, suc, ◌+◌, ◌<◌, ◌≤◌, List, [], ◌∷◌, ◌++◌, length, get_or, slice_get, Some}
use Rattle.std.proofs.Common.{Contains, refl, sym, ap, subst, ◌∙◌, arith, length-append}
use Rattle.std.proofs.lemmas.Option.{slice_get_within, slice_get-get_or}
use Rattle.road_base.specs.declared.ids.Step.{Step}
use Rattle.turn_automata.specs.declared.edges.Edge.{Edge}
use Rattle.turn_automata.specs.Trees.{Stands, grown, lists_of, IsClosed, IsTree}
use Rattle.ordered_lists.proofs.Splits.{Ends, Nil, Last, ends, same_last, cons_not_nil}
use Rattle.ordered_lists.proofs.ListPlaces.{stands_left, stands_last, one_stands, some_at, at_contains}

-- the step behind the list with this number
abbrev pub edge_of : ℕ → Step → Edge
edge_of n x = record { from = n; step = x }

pub length_grown : (ps : List (List Step)) (es : List Edge) → length (grown ps es) ≡ length ps + length es
length_grown ps [] = omega arith
length_grown ps (e ∷ es) =
    let q = get_or ps e.from [] ++ e.step ∷ [] in
    let i : length (grown (ps ++ q ∷ []) es) ≡ length (ps ++ q ∷ []) + length es = length_grown (ps ++ q ∷ []) es in
    let l : length (ps ++ q ∷ []) ≡ length ps + 1 = length-append ps (q ∷ []) in
    omega arith

pub grown_keeps : (ps : List (List Step)) (es : List Edge) (i : ℕ) (p : List Step) → Stands ps i p
    → Stands (grown ps es) i p
grown_keeps ps [] i p h = h
grown_keeps ps (e ∷ es) i p h = grown_keeps (ps ++ (get_or ps e.from [] ++ e.step ∷ []) ∷ []) es i p
    (stands_left ps _ i p h)

pub grown_push : (ps : List (List Step)) (es : List Edge) (e : Edge)
    → grown ps (es ++ e ∷ []) ≡ grown ps es ++ (get_or (grown ps es) e.from [] ++ e.step ∷ []) ∷ []
grown_push ps [] e = refl
grown_push ps (d ∷ es) e = grown_push (ps ++ (get_or ps d.from [] ++ d.step ∷ []) ∷ []) es e

grown_here : (ps : List (List Step)) (e : Edge) (es : List Edge) (p : List Step) → e.from < length ps
    → Stands (grown ps (e ∷ es)) e.from p → Stands (grown ps (e ∷ es)) (length ps) (p ++ e.step ∷ [])
grown_here ps e es p h st =
    let q = get_or ps e.from [] in
    let there : Stands (grown ps (e ∷ es)) e.from q = grown_keeps ps (e ∷ es) e.from q (slice_get-get_or ps e.from [] h)
    in
    let same : q ≡ p = one_stands (grown ps (e ∷ es)) e.from q p there st in
    let new : Stands (grown ps (e ∷ es)) (length ps) (q ++ e.step ∷ []) = grown_keeps (ps ++ (q ++ e.step ∷ []) ∷ []) es
    (length ps) (q ++ e.step ∷ []) (stands_last ps (q ++ e.step ∷ [])) in
    subst (λ v. Stands (grown ps (e ∷ es)) (length ps) (v ++ e.step ∷ [])) same new

grown_at : (ps : List (List Step)) (es : List Edge) (k : ℕ) (e : Edge) (p : List Step) → slice_get es k ≡ Some e
    → e.from < length ps + k → Stands (grown ps es) e.from p → Stands (grown ps es) (length ps + k) (p ++ e.step ∷ [])
grown_at ps [] k e p h less st = cc
grown_at ps (d ∷ es) zero e p h less st =
    let same : d ≡ e = cc in
    let at : Stands (grown ps (e ∷ es)) e.from p = subst (λ c. Stands (grown ps (c ∷ es)) e.from p) same st in
    let here : Stands (grown ps (d ∷ es)) (length ps) (p ++ e.step ∷ []) = subst
    (λ c. Stands (grown ps (c ∷ es)) (length ps) (p ++ e.step ∷ [])) (sym same)
    (grown_here ps e es p (omega arith) at) in
    let z : length ps ≡ length ps + 0 = omega arith in
    subst (λ i. Stands (grown ps (d ∷ es)) i (p ++ e.step ∷ [])) z here
grown_at ps (d ∷ es) (suc k) e p h less st =
    let qs = ps ++ (get_or ps d.from [] ++ d.step ∷ []) ∷ [] in
    let l : length qs ≡ length ps + 1 = length-append ps ((get_or ps d.from [] ++ d.step ∷ []) ∷ []) in
    let z : length qs + k ≡ length ps + suc k = omega arith in
    subst (λ i. Stands (grown qs es) i (p ++ e.step ∷ [])) z (grown_at qs es k e p h (omega arith) st)

pub length_lists : (es : List Edge) → length (lists_of es) ≡ length es + 1
length_lists es = let e : length (lists_of es) ≡ 1 + length es = length_grown ([] ∷ []) es in omega arith

pub empty_first : (es : List Edge) → Stands (lists_of es) 0 []
empty_first es = grown_keeps ([] ∷ []) es 0 [] refl

-- a list with a last step comes by an edge
pub record Comes (es : List Edge) (m : ℕ) (p : List Step) (x : Step) : Type 0 where
  pub n : ℕ
  pub k : ℕ
  pub number : m ≡ suc k
  pub edge : slice_get es k ≡ Some (edge_of n x)
  pub at : Stands (lists_of es) n p

module _ (es : List Edge) (tree : IsTree es) where
  pub leads : (k : ℕ) (e : Edge) (p : List Step) → slice_get es k ≡ Some e → Stands (lists_of es) e.from p
      → Stands (lists_of es) (suc k) (p ++ e.step ∷ [])
  leads k e p h st =
      let low : e.from ≤ k = tree.from k e h in
      let z : 1 + k ≡ suc k = omega arith in
      subst (λ i. Stands (lists_of es) i (p ++ e.step ∷ [])) z (grown_at ([] ∷ []) es k e p h (omega arith) st)

  comes_by : (k : ℕ) (e : Edge) (q p : List Step) (x : Step) → slice_get es k ≡ Some e → Stands (lists_of es) e.from q
      → Stands (lists_of es) (suc k) (p ++ x ∷ []) → Comes es (suc k) p x
  comes_by k e q p x edge at st =
      let same = same_last q e.step p x (one_stands (lists_of es) (suc k) (q ++ e.step ∷ []) (p ++ x ∷ [])
      (leads k e q edge at) st) in
      record {
        n = e.from;
        k = k;
        number = refl;
        edge = subst (λ y. slice_get es k ≡ Some (edge_of e.from y)) same.last edge;
        at = subst (Stands (lists_of es) e.from) same.front at;
      }

  pub comes : (m : ℕ) (p : List Step) (x : Step) → Stands (lists_of es) m (p ++ x ∷ []) → Comes es m p x
  comes zero p x st = absurd (cons_not_nil p x [] (one_stands (lists_of es) 0 (p ++ x ∷ []) [] st (empty_first es)))
  comes (suc k) p x st =
      let within : suc k < length (lists_of es) = slice_get_within (lists_of es) (suc k) (p ++ x ∷ []) st in
      let l : length (lists_of es) ≡ length es + 1 = length_lists es in
      let e = some_at es k (omega arith) in
      let low : e.0.from ≤ k = tree.from k e.0 e.1 in
      let q = some_at (lists_of es) e.0.from (omega arith) in
      comes_by k e.0 q.0 p x e.1 q.1 st

  first_empty : (m : ℕ) → Stands (lists_of es) m [] → m ≡ 0
  first_empty zero st = refl
  first_empty (suc k) st =
      let within : suc k < length (lists_of es) = slice_get_within (lists_of es) (suc k) [] st in
      let l : length (lists_of es) ≡ length es + 1 = length_lists es in
      let e = some_at es k (omega arith) in
      let low : e.0.from ≤ k = tree.from k e.0 e.1 in
      let q = some_at (lists_of es) e.0.from (omega arith) in
      absurd (cons_not_nil q.0 e.0.step [] (one_stands (lists_of es) (suc k) (q.0 ++ e.0.step ∷ []) []
      (leads k e.0 q.0 e.1 q.1) st))

  once_last : (m n : ℕ) (q : List Step) (x : Step)
      → ((i j : ℕ) → Stands (lists_of es) i q → Stands (lists_of es) j q → i ≡ j) → Stands (lists_of es) m (q ++ x ∷ [])
      → Stands (lists_of es) n (q ++ x ∷ []) → m ≡ n
  once_last m n q x same a b =
      let u = comes m q x a in
      let v = comes n q x b in
      let there : slice_get es v.k ≡ Some (edge_of u.n x) = subst (λ i. slice_get es v.k ≡ Some (edge_of i x))
      (sym (same u.n v.n u.at v.at)) v.edge in
      u.number ∙ ap suc (tree.once u.k v.k (edge_of u.n x) u.edge there) ∙ sym v.number

  once_by : (m n : ℕ) (p : List Step) → ((i j : ℕ) (q : List Step) → length q < length p → Stands (lists_of es) i q
      → Stands (lists_of es) j q → i ≡ j) → Stands (lists_of es) m p → Stands (lists_of es) n p → Ends p → m ≡ n
  once_by m n p less a b (Nil e) = first_empty m (subst (Stands (lists_of es) m) e a)
      ∙ sym (first_empty n (subst (Stands (lists_of es) n) e b))
  once_by m n p less a b (Last q x e) =
      let l : length p ≡ length q + 1 = ap length e ∙ length-append q (x ∷ []) in
      let shorter : length q < length p = omega arith in
      once_last m n q x (λ i j c d. less i j q shorter c d) (subst (Stands (lists_of es) m) e a)
      (subst (Stands (lists_of es) n) e b)

  once_upto : (t : ℕ) (m n : ℕ) (p : List Step) → length p ≤ t → Stands (lists_of es) m p → Stands (lists_of es) n p
      → m ≡ n
  once_upto zero m n p h a b = once_by m n p (λ i j q l c d. absurd (omega arith)) a b (ends p)
  once_upto (suc t) m n p h a b = once_by m n p (λ i j q l c d. once_upto t i j q (omega arith) c d) a b (ends p)

  pub closed : IsClosed (lists_of es)
  closed = record {
    empty = empty_first es;
    before = λ n p x st. let u = comes n p x st in (u.n, u.at);
    once = λ m n p a b. once_upto (length p) m n p (omega arith) a b;
  }

  pub no_child : (n : ℕ) (x : Step) (p : List Step) → ((k : ℕ) → slice_get es k ≡ Some (edge_of n x) → ⊥)
      → Stands (lists_of es) n p → Contains (lists_of es) (p ++ x ∷ []) → ⊥
  no_child n x p none st has =
      let at = at_contains (lists_of es) (p ++ x ∷ []) has in
      let u = comes at.0 p x at.1 in
      none u.k (subst (λ i. slice_get es u.k ≡ Some (edge_of i x)) (closed.once u.n n p u.at st) u.edge)
