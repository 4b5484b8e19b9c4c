-- Which contexts are visited, by their names.
use Rattle.std.proofs.Common.{◌≡◌, ◌⊎◌, inl, inr, ℕ, zero, suc, ◌+◌, ◌<◌, ◌≤◌, List, [], ◌∷◌, ◌++◌, length, Some, Bool}
use Rattle.std.proofs.Common.{true, false, cond, slice_get, refl, sym, ◌∙◌, ap, subst, arith, ◌||◌, Ordering, Contains}
use Rattle.std.specs.BTreeSet.{BTreeSet, contains}
use Rattle.std.specs.List.Sorted.{IsPermutation}
use Rattle.std.specs.Ordering.{is_eq, ordering_reverse}
use Rattle.std.specs.declared.cmp.Ordering.TheVariants.{Less, Equal, Greater}
use Rattle.std.specs.Cmp.{IsTotalOrder}
use Rattle.std.specs.FinMap.{IsAntisymmetric, slice_cmp-IsAntisymmetric, nat_cmp-IsAntisymmetric}
use Rattle.std.proofs.lemmas.Bool.{false≢true}
use Rattle.std.proofs.lemmas.Cmp.{on_total, then_total, lists_total, nat_cmp_total, tied_itself}
use Rattle.std.proofs.lemmas.List.Folds.{list_any-append}
use Rattle.ordered_lists.proofs.Comparisons.{eq_cases}
use Rattle.ordered_lists.proofs.ListMembers.{In, in_from_contains}
use Rattle.road_model.specs.declared.lists.PieceName.{PieceName}
use Rattle.road_model.proofs.TotalOrders.{name_cmp_total, name_cmp_exact, then_equal}
use Rattle.context_search.specs.declared.marks.ContextName.{ContextName}
use Rattle.context_search.specs.declared.marks.TreeVisit.{TreeVisit}
use Rattle.context_search.specs.declared.marks.Origin.{Origin}
use Rattle.context_search.specs.declared.spots.Spot.{Spot}
use Rattle.context_search.specs.Marks.{At, key_of}
use Rattle.context_search.specs.Visits.{IsVisited, Marks, AreKnown, StateKey, is_visited, visit_key, names_in}
use Rattle.context_search.specs.Visits.{unvisited, unvisited_at, unvisited_in, state_key, kept_cmp, context_cmp}
use Rattle.context_search.specs.Visits.{IsMarked}

abbrev Key : Type 0
Key = StateKey

abbrev Names : Type 0
Names = PieceName × List PieceName

abbrev in_phase : Names → ℕ → Key
in_phase k f = (k, f)

kept_total : IsTotalOrder kept_cmp
kept_total = then_total (on_total (λ (k : Key). k.0.0) name_cmp_total)
    (then_total (on_total (λ (k : Key). k.0.1) (lists_total name_cmp_total))
    (on_total (λ (k : Key). k.1) nat_cmp_total))

kept_exact : IsAntisymmetric kept_cmp
kept_exact a b e =
    let p = then_equal _ _ e in
    let q = then_equal _ _ p.1 in
    let n = name_cmp_exact a.0.0 b.0.0 p.0 in
    let l = slice_cmp-IsAntisymmetric name_cmp_exact a.0.1 b.0.1 q.0 in
    let f = nat_cmp-IsAntisymmetric a.1 b.1 q.1 in
    λ i. ((n i, l i), f i)

turned_equal : (r : Ordering) → is_eq (ordering_reverse r) ≡ is_eq r
turned_equal Less = refl
turned_equal Equal = refl
turned_equal Greater = refl

tied_turned : (a b : Key) → is_eq (kept_cmp a b) ≡ is_eq (kept_cmp b a)
tied_turned a b = ap is_eq (kept_total.antisymm a b) ∙ turned_equal (kept_cmp b a)

-- ---- whether some visit is of the context

or_true : (b : Bool) → (b || true) ≡ true
or_true true = refl
or_true false = refl

or_false : (b : Bool) → (b || false) ≡ b
or_false true = refl
or_false false = refl

not_true : (b : Bool) → (b ≡ true → ⊥) → b ≡ false
not_true true f = absurd (f refl)
not_true false f = refl

visit_later : (v : TreeVisit) (visits : List TreeVisit) (k : Key) → IsVisited visits k → IsVisited (v ∷ visits) k
visit_later v visits k h = record { place = suc h.place; visit = h.visit; at = h.at; named = h.named }

pub there : (visits : List TreeVisit) (k : Key) → is_visited visits k ≡ true → IsVisited visits k
there [] k e = absurd (false≢true e)
there (v ∷ visits) k e = elim (eq_cases (kept_cmp k (visit_key v))) [
  | inl tied ↦ record { place = 0; visit = v; at = refl; named = sym (kept_exact k (visit_key v) tied) }
  | inr not ↦ visit_later v visits k
      (there visits k (sym (ap (λ b. b || is_visited visits k) not) ∙ e))
]

of_key : (v : TreeVisit) (k : Key) → visit_key v ≡ k → is_eq (kept_cmp k (visit_key v)) ≡ true
of_key v k e = ap is_eq (subst (λ n. kept_cmp k n ≡ Equal) (sym e) (tied_itself kept_total k))

found_at : (visits : List TreeVisit) (place : ℕ) (v : TreeVisit) (k : Key) → slice_get visits place ≡ Some v
    → visit_key v ≡ k → is_visited visits k ≡ true
found_at [] place v k e n = cc
found_at (w ∷ visits) zero v k e n =
    let same : w ≡ v = cc in
    ap (λ b. b || is_visited visits k) (of_key w k (ap visit_key same ∙ n))
found_at (w ∷ visits) (suc place) v k e n =
    ap (λ b. is_eq (kept_cmp k (visit_key w)) || b) (found_at visits place v k e n)
    ∙ or_true (is_eq (kept_cmp k (visit_key w)))

pub is_there : (visits : List TreeVisit) (k : Key) → IsVisited visits k → is_visited visits k ≡ true
is_there visits k h = found_at visits h.place h.visit k h.at h.named

pub not_there : (visits : List TreeVisit) (k : Key) → (IsVisited visits k → ⊥) → is_visited visits k ≡ false
not_there visits k none = not_true (is_visited visits k) (λ e. none (there visits k e))

visited_more : (visits : List TreeVisit) (v : TreeVisit) (k : Key)
    → is_visited (visits ++ v ∷ []) k ≡ (is_visited visits k || is_eq (kept_cmp k (visit_key v)))
visited_more visits v k = list_any-append (λ w. is_eq (kept_cmp k (visit_key w))) visits (v ∷ [])
    ∙ ap (λ b. is_visited visits k || b) (or_false (is_eq (kept_cmp k (visit_key v))))

-- ---- how many contexts aren't visited

abbrev one_left : Bool → ℕ
one_left b = cond b 0 1

fewer : (a b : Bool) → one_left (a || b) ≤ one_left a
fewer true b = omega arith
fewer false true = omega arith
fewer false false = omega arith

-- the same phase is visited still
one_more : (visits : List TreeVisit) (v : TreeVisit) (k : Key)
    → one_left (is_visited (visits ++ v ∷ []) k) ≤ one_left (is_visited visits k)
one_more visits v k =
    let f = fewer (is_visited visits k) (is_eq (kept_cmp k (visit_key v))) in
    let g : one_left (is_visited (visits ++ v ∷ []) k)
    ≡ one_left (is_visited visits k || is_eq (kept_cmp k (visit_key v)))
    = ap (λ b. one_left b) (visited_more visits v k) in
    omega (arith, f, g)

none_more_in : (n : ℕ) (k : Names) (visits : List TreeVisit) (v : TreeVisit)
    → unvisited_in n k (visits ++ v ∷ []) ≤ unvisited_in n k visits
none_more_in zero k visits v = omega arith
none_more_in (suc n) k visits v =
    let h = none_more_in n k visits v in
    let f = one_more visits v (k, n) in
    omega (arith, h, f)

none_more_at : (k : Names) (visits : List TreeVisit) (v : TreeVisit)
    → unvisited_at k (visits ++ v ∷ []) ≤ unvisited_at k visits
unfolding unvisited_at
none_more_at k visits v = none_more_in 256 k visits v

none_more : (L : List At) (visits : List TreeVisit) (v : TreeVisit)
    → unvisited L (visits ++ v ∷ []) ≤ unvisited L visits
none_more [] visits v = omega arith
none_more (x ∷ L) visits v =
    let h = none_more L visits v in
    let f = none_more_at (key_of x) visits v in
    omega (arith, h, f)

-- one fewer in the phase of the visit
less_here : (visits : List TreeVisit) (v : TreeVisit) (k : Key) → visit_key v ≡ k → is_visited visits k ≡ false
    → one_left (is_visited (visits ++ v ∷ []) k) + 1 ≡ one_left (is_visited visits k)
less_here visits v k named e =
    let now : is_visited (visits ++ v ∷ []) k ≡ true
    = visited_more visits v k ∙ ap (λ b. is_visited visits k || b) (of_key v k named) ∙ or_true (is_visited visits k) in
    let a : one_left (is_visited (visits ++ v ∷ []) k) ≡ 0 = ap (λ b. one_left b) now in
    let c : one_left (is_visited visits k) ≡ 1 = ap (λ b. one_left b) e in
    omega (arith, a, c)

below_or_last : (f n : ℕ) → f < suc n → (f < n) ⊎ (f ≡ n)
below_or_last zero zero h = inr refl
below_or_last zero (suc n) h = inl (omega arith)
below_or_last (suc f) zero h = absurd (omega (arith, h))
below_or_last (suc f) (suc n) h = elim (below_or_last f n (omega (arith, h))) [
  | inl less ↦ inl (omega (arith, less))
  | inr same ↦ inr (ap suc same)
]

less_in : (n : ℕ) (k : Names) (visits : List TreeVisit) (v : TreeVisit) (f : ℕ) → f < n → visit_key v ≡ (k, f)
    → is_visited visits (k, f) ≡ false → unvisited_in n k (visits ++ v ∷ []) + 1 ≤ unvisited_in n k visits
less_in zero k visits v f h named e = absurd (omega (arith, h))
less_in (suc n) k visits v f h named e = elim (below_or_last f n h) [
  | inl less ↦
      let r = less_in n k visits v f less named e in
      let o = one_more visits v (k, n) in
      omega (arith, r, o)
  | inr same ↦
      let is : in_phase k f ≡ in_phase k n = ap (in_phase k) same in
      let o = less_here visits v (k, n) (named ∙ is) (subst (λ (q : Key). is_visited visits q ≡ false) is e) in
      let r = none_more_in n k visits v in
      omega (arith, r, o)
]

less_at : (k : Names) (visits : List TreeVisit) (v : TreeVisit) (f : ℕ) → f < 256 → visit_key v ≡ (k, f)
    → is_visited visits (k, f) ≡ false → unvisited_at k (visits ++ v ∷ []) + 1 ≤ unvisited_at k visits
unfolding unvisited_at
less_at k visits v f h named e = less_in 256 k visits v f h named e

less_among : (L : List At) (visits : List TreeVisit) (v : TreeVisit) (x : At) (f : ℕ) → In x L → f < 256
    → visit_key v ≡ (key_of x, f) → is_visited visits (key_of x, f) ≡ false
    → unvisited L (visits ++ v ∷ []) + 1 ≤ unvisited L visits
less_among [] visits v x f i h n e = absurd i
less_among (y ∷ L) visits v x f (inl same) h n e =
    let is : in_phase (key_of x) f ≡ in_phase (key_of y) f = ap (λ (z : At). in_phase (key_of z) f) same in
    let r = less_at (key_of y) visits v f h (n ∙ is) (subst (λ (q : Key). is_visited visits q ≡ false) is e) in
    let o = none_more L visits v in
    omega (arith, r, o)
less_among (y ∷ L) visits v x f (inr later) h n e =
    let r = less_among L visits v x f later h n e in
    let o = none_more_at (key_of y) visits v in
    omega (arith, r, o)

-- one fewer, where a listed context is visited in a phase in which it wasn't yet
pub less_by_one : (L : List At) (visits : List TreeVisit) (v : TreeVisit) (x : At) (f : ℕ) → Contains L x → f < 256
    → visit_key v ≡ (key_of x, f) → is_visited visits (key_of x, f) ≡ false
    → unvisited L (visits ++ v ∷ []) + 1 ≤ unvisited L visits
less_by_one L visits v x f has = less_among L visits v x f (in_from_contains L x has)

-- ---- what is known

swapped : (a b : Bool) → cond b true a ≡ (a || b)
swapped true true = refl
swapped true false = refl
swapped false true = refl
swapped false false = refl

module _ (cmp : ContextName → ContextName → Ordering) (by : (a b : ContextName) → cmp a b ≡ context_cmp a b) where
  same_cmp : cmp ≡ context_cmp
  same_cmp = λ i a b. by a b i

  -- what a set says of a name
  pub told : (m : Marks) (known : BTreeSet ContextName) → known ≡ m.known → AreKnown m → (q : ContextName) (k : Key)
      → names_in q ≡ k → (b : Bool) → b ≡ contains cmp known q → is_visited m.visits k ≡ b
  told m known same are q k named b e =
      ap (is_visited m.visits) (sym named) ∙ sym (are q)
      ∙ (λ i. contains (sym same_cmp i) (sym same i) q) ∙ sym e

  -- with one visit more, whose context's name is put into the set
  pub known_more : (old new : BTreeSet ContextName) (visits : List TreeVisit) (v : TreeVisit) (name : ContextName)
      → ((q : ContextName) → contains cmp new q ≡ cond (is_eq (cmp name q)) true (contains cmp old q))
      → names_in name ≡ visit_key v
      → ((q : ContextName) → contains context_cmp old q ≡ is_visited visits (names_in q))
      → (q : ContextName) → contains context_cmp new q ≡ is_visited (visits ++ v ∷ []) (names_in q)
  known_more old new visits v name put named known q =
      ap (λ c. contains c new q) (sym same_cmp) ∙ put q
      ∙ (λ i. cond (is_eq (by name q i)) true (contains (same_cmp i) old q))
      ∙ ap (λ b. cond b true (contains context_cmp old q)) (tied_turned (names_in name) (names_in q))
      ∙ swapped (contains context_cmp old q) (is_eq (context_cmp q name))
      ∙ (λ i. known q i || is_eq (kept_cmp (names_in q) (named i)))
      ∙ sym (visited_more visits v (names_in q))

-- the context was visited in the phase
pub marked_before : (m : Marks) (spot : Spot) (phase : ℕ) (origin : Origin)
    → is_visited m.visits (state_key spot phase) ≡ true → IsMarked spot phase origin m m
marked_before m spot phase origin e = inl (there m.visits (state_key spot phase) e, refl)

-- the context is visited anew
pub marked_anew : (m n : Marks) (spot : Spot) (phase : ℕ) (origin : Origin) (driven place : ℕ)
    (visits : List TreeVisit) (waiting : List ℕ) → phase < 256 → visits ≡ m.visits → waiting ≡ m.waiting
    → place ≡ length visits
    → n.visits ≡ visits ++ (record { spot = spot; phase = phase; origin = origin; driven = driven }) ∷ []
    → IsPermutation (place ∷ waiting) n.waiting → is_visited m.visits (state_key spot phase) ≡ false
    → IsMarked spot phase origin m n
marked_anew m n spot phase origin driven place visits waiting few same also at more waits not =
    let k = state_key spot phase in
    inr (record {
      fresh = λ h. false≢true (sym not ∙ is_there m.visits k h);
      few = few;
      driven = driven;
      visits = more
          ∙ ap (λ l. l ++ (record { spot = spot; phase = phase; origin = origin; driven = driven }) ∷ []) same;
      waiting = subst (λ l. IsPermutation (length m.visits ∷ l) n.waiting) also
          (subst (λ i. IsPermutation (i ∷ waiting) n.waiting) (at ∙ ap length same) waits);
    })
