-- The turns that visits give are those of the words, and with the links they tell which steps the words stop.
use Rattle.std.proofs.Common.{◌≡◌, ℕ, suc, ◌+◌, ◌≤◌, ◌↔◌, inl, inr, Bool, true, false, cond, not, IsTrue, List, [], ◌∷◌}
use Rattle.std.proofs.Common.{◌++◌, length, slice_get, Some, Contains, refl, sym, ap, subst, ◌∙◌, arith, append_assoc}
use Rattle.std.proofs.Common.{length-append}
use Rattle.std.proofs.lemmas.Bool.{false≢true}
use Rattle.std.proofs.lemmas.List.Elements.{Contains-append_left, Contains-push, Contains-push_cases}
use Rattle.std.specs.declared.cmp.Ordering.{Ordering}
use Rattle.std.specs.declared.cmp.Ordering.TheVariants.{Equal}
use Rattle.std.specs.Ordering.{nat_cmp}
use Rattle.std.specs.BTreeMap.{is_at}
use Rattle.std.specs.BTreeSet.{BTreeSet, contains, Updates}
use Rattle.std.proofs.lemmas.Map.Lookups.{exact_unsigned}
use Rattle.road_base.specs.declared.ids.Step.{Step}
use Rattle.restrictions.specs.declared.word_list.Word.{Word}
use Rattle.turn_automata.specs.declared.visits.Visit.{Visit}
use Rattle.turn_automata.specs.declared.turns.Turns.{Turns}
use Rattle.turn_automata.specs.Trees.{Stands, IsClosed}
use Rattle.turn_automata.specs.Watched.{IsWatchable, NoIn, Must, Stops}
use Rattle.turn_automata.specs.Visits.{Reaches, AreVisits}
use Rattle.turn_automata.specs.Turns.{edge_cmp, EndsAt, DemandsAt, DemandsFrom, Collects, AreMarked, AreTurns, StopsAt}
use Rattle.turn_automata.specs.Turns.{IsWatching}
use Rattle.ordered_lists.proofs.Splits.{Ends, Nil, Last, ends, same_last}
use Rattle.turn_automata.proofs.WatchedSteps.{no_watchable, must_watchable}
use Rattle.ordered_lists.proofs.ListPlaces.{one_stands, contains_at, at_contains}
use Rattle.turn_automata.proofs.WordVisits.{at_cut, visit_list}
use Rattle.turn_automata.proofs.LongestEnds.{IsLeft}
use Rattle.turn_automata.proofs.Keys.{edge_exact, found_exact}

module _ {K : Type 0} (Gives : Visit → K → Type 0) (vs : List Visit) (v : Visit) where
  -- a visit that gives nothing
  pub skipped : (has : K → Bool) → Collects Gives vs has → ((k : K) → Gives v k → ⊥) → Collects Gives (vs ++ v ∷ []) has
  skipped has old none k = (
    λ h. let g = (old k).0 h in (g.0, Contains-append_left vs (v ∷ []) g.0 g.1, g.2),
    λ g. elim (Contains-push_cases vs v g.0 g.1) [
      | inl h ↦ (old k).1 (g.0, h, g.2)
      | inr e ↦ absurd (none k (subst (λ (u : Visit). Gives u k) (sym e) g.2))
    ],
  )

  -- a visit that gives one key, which is put into the set
  module _ (cmp : K → K → Ordering) (exact : (a b : K) → cmp a b ≡ Equal → a ≡ b) (s t : BTreeSet K) (k : K)
      (old : Collects Gives vs (contains cmp s)) (updates : Updates cmp s t k true) (gives : Gives v k)
      (alone : (e : K) → Gives v e → e ≡ k) where
    put_sound : (e : K) → IsTrue (contains cmp t e) → (u : Visit) × Contains (vs ++ v ∷ []) u × Gives u e
    put_sound e h = by (is_at (cmp k) e) refl
      where
        by : (b : Bool) → is_at (cmp k) e ≡ b → (u : Visit) × Contains (vs ++ v ∷ []) u × Gives u e
        by true at = (v, Contains-push vs v, subst (Gives v) (found_exact cmp exact k e at) gives)
        by false at = let g = (old e).0 (sym (updates.2 e at) ∙ h)
            in (g.0, Contains-append_left vs (v ∷ []) g.0 g.1, g.2)

    put_kept : (e : K) → IsTrue (contains cmp s e) → IsTrue (contains cmp t e)
    put_kept e h = by (is_at (cmp k) e) refl
      where
        by : (b : Bool) → is_at (cmp k) e ≡ b → IsTrue (contains cmp t e)
        by true at = updates.0 e ∙ ap (λ b. cond b true (contains cmp s e)) at
        by false at = updates.2 e at ∙ h

    pub put : Collects Gives (vs ++ v ∷ []) (contains cmp t)
    put e = (
      put_sound e,
      λ g. elim (Contains-push_cases vs v g.0 g.1) [
        | inl h ↦ put_kept e ((old e).1 (g.0, h, g.2))
        | inr q ↦ ap (contains cmp t) (alone e (subst (λ (u : Visit). Gives u e) (sym q) g.2)) ∙ updates.1
      ],
    )

module _ (W : List Word) (vs : List Visit) (v : Visit) (w : Word) (of : slice_get W v.word ≡ Some w) where
  same_word : (u : Word) → slice_get W v.word ≡ Some u → u ≡ w
  same_word u h = one_stands W v.word u w h of

  -- a No word demands nothing, and an Only word forbids nothing
  no_demands : w.only ≡ false → (e : ℕ × Step) → DemandsAt W v e → ⊥
  no_demands never e d = false≢true (sym never ∙ ap (λ (u : Word). u.only) (sym (same_word d.word d.of)) ∙ d.only)

  only_ends : w.only ≡ true → (e : ℕ × Step) → EndsAt W v e → ⊥
  only_ends only e d = false≢true (sym d.no ∙ ap (λ (u : Word). u.only) (same_word d.word d.of) ∙ only)

  module _ (x : Step) (step : slice_get w.steps v.depth ≡ Some x) where
    same_edge : (e : ℕ × Step) (u : Word) → slice_get W v.word ≡ Some u → v.state ≡ e.0
        → slice_get u.steps v.depth ≡ Some e.1 → ◌≡◌ {A = ℕ × Step} e (v.state, x)
    same_edge e u h state at =
        let s : e.1 ≡ x = one_stands w.steps v.depth e.1 x
        (ap (λ (z : Word). slice_get z.steps v.depth) (sym (same_word u h)) ∙ at) step in
        λ j. (sym state j, s j)

    pub marked_end : (t : Turns) (new : BTreeSet (ℕ × Step)) → w.only ≡ false → length w.steps ≡ v.depth + 1
        → Updates edge_cmp t.ends new (v.state, x) true
        → AreMarked W vs t → AreMarked W (vs ++ v ∷ [])
        (record { ends = new; demanded = t.demanded; demanding = t.demanding })
    marked_end t new never last updates old = record {
      ends = put (EndsAt W) vs v edge_cmp edge_exact t.ends new (v.state, x) old.ends updates
          (record { word = w; of = of; no = never; last = last; state = refl; step = step })
          (λ e d. same_edge e d.word d.of d.state d.step);
      demanded = skipped (DemandsAt W) vs v (contains edge_cmp t.demanded) old.demanded (no_demands never);
      demanding = skipped (DemandsFrom W) vs v (contains nat_cmp t.demanding) old.demanding
          (λ n d. no_demands never (n, d.0) d.1);
    }

    pub marked_demand : (t : Turns) (new : BTreeSet (ℕ × Step)) (from : BTreeSet ℕ) → w.only ≡ true
        → w.binding ≤ v.depth
        → Updates edge_cmp t.demanded new (v.state, x) true → Updates nat_cmp t.demanding from v.state true
        → AreMarked W vs t → AreMarked W (vs ++ v ∷ []) (record { ends = t.ends; demanded = new; demanding = from })
    marked_demand t new from only bound updates begins old =
        let here : DemandsAt W v (v.state, x) = record
        { word = w; of = of; only = only; bound = bound; state = refl; step = step } in
        record {
          ends = skipped (EndsAt W) vs v (contains edge_cmp t.ends) old.ends (only_ends only);
          demanded = put (DemandsAt W) vs v edge_cmp edge_exact t.demanded new (v.state, x) old.demanded updates here
              (λ e d. same_edge e d.word d.of d.state d.step);
          demanding = put (DemandsFrom W) vs v nat_cmp exact_unsigned t.demanding from v.state old.demanding begins
              (x, here) (λ n d. sym d.1.state);
        }

-- a visit of the step behind a list
pub record Found (W : List Word) (vs : List Visit) (w : Word) (n : ℕ) (p : List Step) (x : Step) : Type 0 where
  pub visit : Visit
  pub among : Contains vs visit
  pub of : slice_get W visit.word ≡ Some w
  pub state : visit.state ≡ n
  pub depth : visit.depth ≡ length p
  pub step : slice_get w.steps visit.depth ≡ Some x

module _ (W : List Word) (ps : List (List Step)) (closed : IsClosed ps) (vs : List Visit) (visits : AreVisits W ps vs)
    (n : ℕ) (p : List Step) (at : Stands ps n p) where
  found_at : (w : Word) (x : Step) (rest : List Step) → w.steps ≡ p ++ x ∷ rest → (i : ℕ) → slice_get W i ≡ Some w
      → Reaches vs i (length p) → Found W vs w n p x
  found_at w x rest e i here r =
      let v = r.visit in
      let of : slice_get W v.word ≡ Some w = ap (slice_get W) r.of ∙ here in
      record {
        visit = v;
        among = r.among;
        of = of;
        state = closed.once v.state n p (visit_list W ps v (visits.sound v r.among) w p x rest of e r.at) at;
        depth = r.at;
        step = ap (λ k. slice_get w.steps k) r.at ∙ ap (λ xs. slice_get xs (length p)) e ∙ at_cut p x rest;
      }

  found : (w : Word) (x : Step) (rest : List Step) → Contains W w → w.steps ≡ p ++ x ∷ rest → Found W vs w n p x
  found w x rest among e =
      let i = at_contains W w among in
      let l : length w.steps ≡ length p + suc (length rest) = ap length e ∙ length-append p (x ∷ rest) in
      found_at w x rest e i.0 i.1 (visits.complete i.0 w (length p) i.1 (omega arith))

  -- what stands behind the list in the visited word
  spelled : (v : Visit) → Contains vs v → (w : Word) → slice_get W v.word ≡ Some w → v.state ≡ n → (x : Step)
      → slice_get w.steps v.depth ≡ Some x
      → (rest : List Step) × (w.steps ≡ p ++ x ∷ rest) × (length p ≡ v.depth)
  spelled v has w of state x step =
      let is = visits.sound v has in
      let same : is.word ≡ w = one_stands W v.word is.word w is.of of in
      let e : w.steps ≡ is.before ++ is.next ∷ is.rest = ap (λ (z : Word). z.steps) (sym same) ∙ is.steps in
      let b : is.before ≡ p = one_stands ps n is.before p (subst (λ i. Stands ps i is.before) state is.at) at in
      let y : is.next ≡ x = one_stands w.steps v.depth is.next x
      (ap (λ xs. slice_get xs v.depth) e ∙ ap (slice_get (is.before ++ is.next ∷ is.rest)) (sym is.depth)
      ∙ at_cut is.before is.next is.rest) step in
      (is.rest, e ∙ ap (λ q. q ++ is.next ∷ is.rest) b ∙ ap (λ z. p ++ z ∷ is.rest) y, ap length (sym b) ∙ is.depth)

  no_rest : (w : Word) (x : Step) (rest : List Step) → w.steps ≡ p ++ x ∷ rest → length w.steps ≡ length p + 1
      → w.steps ≡ p ++ x ∷ []
  no_rest w x [] e l = e
  no_rest w x (y ∷ rest) e l = let m : length w.steps ≡ length p + suc (suc (length rest)) = ap length e
      ∙ length-append p (x ∷ (y ∷ rest)) in absurd (omega arith)

  end_gives : (x : Step) → NoIn W (p ++ x ∷ []) ↔ ((v : Visit) × Contains vs v × EndsAt W v (n, x))
  end_gives x = (
    λ k.
        let f = found k.word x [] k.among k.is in
        let l : length k.word.steps ≡ length p + 1 = ap length k.is ∙ length-append p (x ∷ []) in (
          f.visit,
          f.among,
          record {
            word = k.word;
            of = f.of;
            no = k.no;
            last = l
                ∙ ap (λ m. m + 1) (sym f.depth);
            state = f.state;
            step = f.step;
          },
        ),
    λ g.
        let d = g.2 in
        let s = spelled g.0 g.1 d.word d.of d.state x d.step in
        record {
          word = d.word;
          among = contains_at W g.0.word d.word d.of;
          no = d.no;
          is = no_rest d.word x s.0 s.1
              (d.last ∙ ap (λ m. m + 1) (sym s.2));
        },
  )

  demand_gives : (x : Step) → Must W p x ↔ ((v : Visit) × Contains vs v × DemandsAt W v (n, x))
  demand_gives x = (
    λ m.
        let k = m.word in
        let f = found k.word x m.rest k.among k.is in
        let b : k.word.binding ≤ f.visit.depth = let bound = m.bound in let e = k.bound in let d = f.depth in omega
        arith in (
          f.visit,
          f.among,
          record {
            word = k.word;
            of = f.of;
            only = k.only;
            bound = b;
            state = f.state;
            step
                = f.step;
          },
        ),
    λ g.
        let d = g.2 in
        let s = spelled g.0 g.1 d.word d.of d.state x d.step in
        record {
          binding = d.word.binding;
          rest = s.0;
          word = record {
            word = d.word;
            among = contains_at W g.0.word d.word d.of;
            only = d.only;
            bound = refl;
            is
                = s.1;
          };
          bound = let l = s.2 in let b = d.bound in omega arith;
        },
  )

pub turns_are : (W : List Word) (ps : List (List Step)) → IsClosed ps → (vs : List Visit) → AreVisits W ps vs
    → (t : Turns) → AreMarked W vs t → AreTurns W ps t
turns_are W ps closed vs visits t marked = record {
  ends = λ n p x at. (
    λ h. (end_gives W ps closed vs visits n p at x).1 ((marked.ends (n, x)).0 h),
    λ k.
        (marked.ends (n, x)).1 ((end_gives W ps closed vs visits n p at x).0 k),
  );
  demanded = λ n p x at. (
    λ h. (demand_gives W ps closed vs visits n p at x).1 ((marked.demanded (n, x)).0 h),
    λ m.
        (marked.demanded (n, x)).1 ((demand_gives W ps closed vs visits n p at x).0 m),
  );
  demanding = λ n p at. (
    λ h. let g = (marked.demanding n).0 h in (
      g.2.0,
      (demand_gives W ps closed vs visits n p at g.2.0).1
          (g.0, g.1, g.2.1),
    ),
    λ m. let g = (demand_gives W ps closed vs visits n p at m.0).0 m.1 in (marked.demanding n).1 (g.0, g.1, (m.0, g.2)),
  );
}

-- whether the words stop the step behind the list itself
module _ (W : List Word) (ps : List (List Step)) (t : Turns) (turns : AreTurns W ps t) (n : ℕ) (p : List Step)
    (at : Stands ps n p) (s : Step) where
  pub stop_end : IsTrue (contains edge_cmp t.ends (n, s)) → IsTrue true ↔ StopsAt W p s
  stop_end h = (λ _. inl ((turns.ends n p s at).0 h), λ _. refl)

  pub stop_none : contains edge_cmp t.ends (n, s) ≡ false → contains nat_cmp t.demanding n ≡ false
      → IsTrue false ↔ StopsAt W p s
  stop_none a b = (
    λ h. absurd (false≢true h),
    λ g. absurd (elim g [
      | inl k ↦ false≢true (sym a ∙ (turns.ends n p s at).1 k)
      | inr d
          ↦ false≢true (sym b ∙ (turns.demanding n p at).1 (d.0, d.1))
    ]),
  )

  pub stop_other : contains edge_cmp t.ends (n, s) ≡ false → contains nat_cmp t.demanding n ≡ true → (b : Bool)
      → b ≡ contains edge_cmp t.demanded (n, s) → IsTrue (not b) ↔ StopsAt W p s
  stop_other a d true e = (
    λ h. absurd (false≢true h),
    λ g. absurd (elim g [
      | inl k ↦ false≢true (sym a ∙ (turns.ends n p s at).1 k)
      | inr r
          ↦ r.2 ((turns.demanded n p s at).0 (sym e))
    ]),
  )
  stop_other a d false e = (
    λ _. let m = (turns.demanding n p at).0 d in inr (m.0, m.1, λ k. false≢true (e ∙ (turns.demanded n p s at).1 k)),
    λ _. refl,
  )

-- the watched lists behind which the step is stopped
abbrev pub IsStopped : List Word → List (List Step) → Step → List Step → Type 0
IsStopped W ps s b = Contains ps b × StopsAt W b s

module _ (W : List Word) (p : List Step) (s : Step) where
  pub stops_behind : (front end : List Step) → p ≡ front ++ end → StopsAt W end s → Stops W p s
  stops_behind front end e g = elim g [
    | inl k ↦ inl (record {
      word = end ++ s ∷ [];
      no = k;
      front = front;
      is = ap (λ v. v ++ s ∷ []) e
          ∙ append_assoc front end (s ∷ []);
    })
    | inr d ↦ inr (record { end = end; front = front; is = e; other = d.0; must = d.1; lacks = d.2 })
  ]

  -- where the words stop the step, they do so behind some watched end
  stopped : (ps : List (List Step)) → ((q : List Step) → Contains ps q ↔ IsWatchable W q) → (NoIn W [] → ⊥)
      → Stops W p s → (a : List Step) × (b : List Step) × (p ≡ a ++ b) × IsStopped W ps s b
  stopped ps lists some (inl f) = by (ends f.word)
    where
      by : Ends f.word → (a : List Step) × (b : List Step) × (p ≡ a ++ b) × IsStopped W ps s b
      by (Nil e) = absurd (some (subst (NoIn W) e f.no))
      by (Last b y e) =
          let same = same_last p s (f.front ++ b) y
          (f.is ∙ ap (λ v. f.front ++ v) e ∙ sym (append_assoc f.front b (y ∷ []))) in
          let no : NoIn W (b ++ s ∷ []) = subst (NoIn W) (e ∙ ap (λ z. b ++ z ∷ []) (sym same.last)) f.no in
          (f.front, b, same.front, ((lists b).1 (no_watchable W b s no), inl no))
  stopped ps lists some (inr r) = (
    r.front,
    r.end,
    r.is,
    ((lists r.end).1 (must_watchable W r.end r.other r.must), inr (r.other, r.must, r.lacks)),
  )

  empty_of : (b c : List Step) → length b ≤ length c → c ≡ [] → b ≡ c
  empty_of [] c l e = sym e
  empty_of (x ∷ b) c l e = let m : length c ≡ 0 = ap length e in absurd (omega arith)

  -- nothing is left but the empty list
  pub stops_last : (ps : List (List Step)) (fs : List ℕ) (t : Turns) → IsWatching W ps fs t → (NoIn W [] → ⊥)
      → (left : IsLeft ps (IsStopped W ps s) p 0) → (r : Bool) → (IsTrue r ↔ StopsAt W left.end s)
      → IsTrue r ↔ Stops W p s
  stops_last ps fs t is some left r same = (
    λ h. stops_behind left.front left.end left.is (same.0 h),
    λ g.
        let f = stopped ps is.lists some g in
        let none : left.end ≡ [] = one_stands ps 0 left.end [] left.at is.closed.empty in
        let e : f.1 ≡ left.end = empty_of f.1 left.end (left.others f.0 f.1 f.2 f.3) none in
        same.1 (subst (λ b. StopsAt W b s) e f.3.1),
  )
