-- The words near a way decide what may go on behind steps that end on it or are all near it.
use Rattle.std.proofs.Common.{◌≡◌, ℕ, ◌≤◌, ◌↔◌, List, [], ◌∷◌, ◌++◌, length, ◌⊎◌, inl, inr, refl, sym, ap, ◌∙◌, subst}
use Rattle.std.proofs.Common.{arith, Bool, true, false, Contains}
use Rattle.std.specs.Ordering.{int_eq}
use Rattle.std.proofs.lemmas.Bool.{false≢true, cases_Bool, cases_eq}
use Rattle.std.proofs.lemmas.Bool.Decides.{Decides-int_eq}
use Rattle.std.proofs.lemmas.List.{same_from_push}
use Rattle.road_base.specs.declared.ids.WayId.{WayId}
use Rattle.road_base.specs.declared.ids.RelationId.{RelationId}
use Rattle.road_base.specs.declared.ids.Dir.{Dir}
use Rattle.road_base.specs.declared.ids.Dir.TheVariants.{Forward, Backward}
use Rattle.road_base.specs.declared.ids.Step.{Step}
use Rattle.road_base.specs.Objects.{Objects}
use Rattle.road_model.specs.Rules.{Rules}
use Rattle.road_model.specs.Restrictions.{vias}
use Rattle.road_model.specs.Driving.{Passes}
use Rattle.road_model.specs.Words.{IsWord, binding_of}
use Rattle.road_model.specs.Network.{NoWord, Must, GoesOn}
use Rattle.road_model.specs.Turning.{BeginsWord}
use Rattle.restrictions.specs.declared.word_list.Word.{Word}
use Rattle.turn_automata.specs.Watched.{IsProperPrefix, NoIn, Must as MustIn, Stops}
use Rattle.expanded_graph.specs.Near.{IsStepNear, AreWordsNear}
use Rattle.ordered_lists.proofs.ListMembers.{In, in_from_contains, contains_from_in, in_end, in_left, in_right}
use Rattle.ordered_lists.proofs.Splits.{cons_not_nil}
use Rattle.road_model.proofs.Shapes.{binding_positive}
use Rattle.expanded_graph.proofs.TurnStepLists.{cut_last}

-- ---- steps and words can be told apart

same_way : (a b : WayId) → (a ≡ b) ⊎ (a ≡ b → ⊥)
same_way a b = elim (cases_Bool (int_eq a.0 b.0)) [
  | inl e ↦ inl (let same : a.0 ≡ b.0 = (Decides-int_eq a.0 b.0).0 e in λ i. record { 0 = same i })
  | inr n ↦ inr (λ e. false≢true (sym n ∙ (Decides-int_eq a.0 b.0).1 (ap (λ w. w.0) e)))
]

same_dir : (a b : Dir) → (a ≡ b) ⊎ (a ≡ b → ⊥)
same_dir Forward Forward = inl refl
same_dir Forward Backward = inr (λ e. cc)
same_dir Backward Forward = inr (λ e. cc)
same_dir Backward Backward = inl refl

pub same_or_not : (s t : Step) → (s ≡ t) ⊎ (s ≡ t → ⊥)
same_or_not s t = elim (same_way s.way t.way) [
  | inr n ↦ inr (λ e. n (ap (λ x. x.way) e))
  | inl w ↦ elim (cases_eq s.index t.index) [
    | inr n ↦ inr (λ e. n (ap (λ x. x.index) e))
    | inl i ↦ elim (same_dir s.dir t.dir) [
      | inr n ↦ inr (λ e. n (ap (λ x. x.dir) e))
      | inl d ↦ inl (λ k. record { way = w k; index = i k; dir = d k })
    ]
  ]
]

-- the steps u go on behind p with x
abbrev Goes : List Step → List Step → Step → Type 0
Goes u p x = (rest : List Step) × (u ≡ p ++ x ∷ rest)

goes_or_not : (u p : List Step) (x : Step) → Goes u p x ⊎ (Goes u p x → ⊥)
goes_or_not [] p x = inr (λ g. cons_not_nil p x g.0 (sym g.1))
goes_or_not (y ∷ u) [] x = elim (same_or_not y x) [
  | inl e ↦ inl (u, ap (λ s. s ∷ u) e)
  | inr n ↦ inr (λ g. n (let e = g.1 in cc))
]
goes_or_not (y ∷ u) (z ∷ p) x = elim (same_or_not y z) [
  | inr n ↦ inr (λ g. n (let e = g.1 in cc))
  | inl e ↦ elim (goes_or_not u p x) [
    | inl g ↦ inl (g.0, let f = g.1 in cc)
    | inr n ↦ inr (λ g. n (g.0, let f = g.1 in cc))
  ]
]

-- the word demands x behind p
record Demands (v : Word) (p : List Step) (x : Step) : Type 0 where
  only : v.only ≡ true
  bound : v.binding ≤ length p
  goes : Goes v.steps p x

below_or_not : (a b : ℕ) → (a ≤ b) ⊎ (a ≤ b → ⊥)
below_or_not a b = grind arith

demands_or_not : (v : Word) (p : List Step) (x : Step) → Demands v p x ⊎ (Demands v p x → ⊥)
demands_or_not v p x = elim (cases_Bool v.only) [
  | inr n ↦ inr (λ d. false≢true (sym n ∙ d.only))
  | inl o ↦ elim (below_or_not v.binding (length p)) [
    | inr n ↦ inr (λ d. n d.bound)
    | inl b ↦ elim (goes_or_not v.steps p x) [
      | inr n ↦ inr (λ d. n d.goes)
      | inl g ↦ inl (record { only = o; bound = b; goes = g })
    ]
  ]
]

abbrev Found : List Word → List Step → Step → Type 0
Found vs p x = (v : Word) × In v vs × Demands v p x

found_or_not : (vs : List Word) (p : List Step) (x : Step) → Found vs p x ⊎ (Found vs p x → ⊥)
found_or_not [] p x = inr (λ f. absurd f.1)
found_or_not (v ∷ vs) p x = elim (demands_or_not v p x) [
  | inl d ↦ inl (v, inl refl, d)
  | inr n ↦ elim (found_or_not vs p x) [
    | inl f ↦ inl (f.0, inr f.1, f.2)
    | inr k ↦ inr (λ f. elim f.1 [ inl e ↦ n (subst (λ w. Demands w p x) e f.2) | inr i ↦ k (f.0, i, f.2) ])
  ]
]

must_or_not : (W : List Word) (p : List Step) (x : Step) → MustIn W p x ⊎ (MustIn W p x → ⊥)
must_or_not W p x = elim (found_or_not W p x) [
  | inl f ↦ let d = f.2 in let g = d.goes in inl (record {
    binding = f.0.binding;
    rest = g.0;
    word = record
        { word = f.0; among = contains_from_in W f.0 f.1; only = d.only; bound = refl; is = g.1 };
    bound = d.bound;
  })
  | inr n ↦ inr (λ m. let w = m.word in n (
    w.word,
    in_from_contains W w.word w.among,
    record
        { only = w.only; bound = subst (λ b. b ≤ length p) (sym w.bound) m.bound; goes = (m.rest, w.is) },
  ))
]

-- ---- words near a way

-- that words have two steps or more
abbrev pub LongWords : Objects → Rules → Type 0
LongWords M P = (r : RelationId) (only : Bool) (binding : ℕ) (u : List Step) → IsWord M P r only binding u
    → (first : Step) × (middle : List Step) × (last : Step) × (u ≡ first ∷ (middle ++ last ∷ []))

-- the word as it stands in a list
abbrev pub as_word : RelationId → Bool → ℕ → List Step → Word
as_word r o b u = record { relation = r; only = o; binding = b; steps = u }

-- All words of the map that decide what may follow behind q stand in the list: the No words of which all steps but the
-- last are last steps of q, and the Only words that begin with as many of the last steps of q as bind, or more.
pub record Tells (M : Objects) (P : Rules) (W : List Word) (q : List Step) : Type 0 where
  pub no : (a p : List Step) (x : Step) → q ≡ a ++ p → (p ≡ [] → ⊥) → (r : RelationId) (b : ℕ)
      → IsWord M P r false b (p ++ x ∷ []) → Contains W (as_word r false b (p ++ x ∷ []))
  pub must : (a p : List Step) (y : Step) (rest : List Step) → q ≡ a ++ p → (p ≡ [] → ⊥) → (r : RelationId) (b : ℕ)
      → IsWord M P r true b (p ++ y ∷ rest) → b ≤ length p → Contains W (as_word r true b (p ++ y ∷ rest))

module _ (M : Objects) (P : Rules) (w : WayId) (W : List Word) (near : AreWordsNear M P w W) where
  word_is : (v : Word) → Contains W v → (o : Bool) (b : ℕ) (u : List Step) → v.only ≡ o → v.binding ≡ b → v.steps ≡ u
      → IsWord M P v.relation o b u
  word_is v has o b u e f g =
      let h = near.sound v has in
      subst (λ x. IsWord M P v.relation o b x) g (subst (λ x. IsWord M P v.relation o x v.steps) f
      (subst (λ x. IsWord M P v.relation x v.binding v.steps) e h))

  among : (r : RelationId) (o : Bool) (b : ℕ) (u : List Step) (s : Step) → IsWord M P r o b u → In s u → s.way ≡ w
      → Contains W (as_word r o b u)
  among r o b u s h i e = near.on (as_word r o b u) h (record { step = s; among = contains_from_in u s i; on = e })

  last_in : (q front : List Step) (last : Step) → q ≡ front ++ last ∷ [] → (a p : List Step) → q ≡ a ++ p → (p ≡ [] → ⊥)
      → In last p
  last_in q front last ends a p e some = elim (cut_last front a p last (sym ends ∙ e)) [
    | inl n ↦ absurd (some n)
    | inr r ↦ subst (In last) (sym r.is) (in_end r.rest last [])
  ]

  -- where the last of the steps lies on the way
  pub tells_on : (q front : List Step) (last : Step) → q ≡ front ++ last ∷ [] → last.way ≡ w → Tells M P W q
  tells_on q front last ends here =
      let there : (a p more : List Step) → q ≡ a ++ p → (p ≡ [] → ⊥)
      → In last (p ++ more) = λ a p more e some. in_left p more last (last_in q front last ends a p e some) in
      record {
        no = λ a p x e some r b h. among r false b (p ++ x ∷ []) last h (there a p (x ∷ []) e some) here;
        must = λ a p y rest e some r b h bound. among r true b (p ++ y ∷ rest) last h (there a p (y ∷ rest) e some)
            here;
      }

  module _ (q : List Step) (all : (s : Step) → Contains q s → IsStepNear M P w s) where
    near_in : (a p : List Step) (s : Step) → q ≡ a ++ p → In s p → IsStepNear M P w s
    near_in a p s e i = all s (contains_from_in q s (subst (In s) (sym e) (in_right a p s i)))

    -- a word that begins with some of the steps
    near_word : (a p more : List Step) (s : Step) → q ≡ a ++ s ∷ p → (r : RelationId) (o : Bool) (b : ℕ)
        → IsWord M P r o b (s ∷ (p ++ more)) → Contains W (as_word r o b (s ∷ (p ++ more)))
    near_word a p more s e r o b h =
        near.from (as_word r o b (s ∷ (p ++ more))) h s (p ++ more) refl (near_in a (s ∷ p) s e (inl refl))

    near_no : (a p : List Step) (x : Step) → q ≡ a ++ p → (p ≡ [] → ⊥) → (r : RelationId) (b : ℕ)
        → IsWord M P r false b (p ++ x ∷ []) → Contains W (as_word r false b (p ++ x ∷ []))
    near_no a [] x e some r b h = absurd (some refl)
    near_no a (s ∷ p) x e some r b h = near_word a p (x ∷ []) s e r false b h

    near_must : (a p : List Step) (y : Step) (rest : List Step) → q ≡ a ++ p → (p ≡ [] → ⊥) → (r : RelationId) (b : ℕ)
        → IsWord M P r true b (p ++ y ∷ rest) → b ≤ length p → Contains W (as_word r true b (p ++ y ∷ rest))
    near_must a [] y rest e some r b h bound = absurd (some refl)
    near_must a (s ∷ p) y rest e some r b h bound = near_word a p (y ∷ rest) s e r true b h

    -- where all of the steps are near the way
    pub tells_near : Tells M P W q
    tells_near = record { no = near_no; must = near_must }

  no_from : (u : List Step) → NoIn W u → NoWord M P u
  no_from u n = record {
    relation = n.word.relation;
    binding = n.word.binding;
    word = word_is n.word n.among false
        n.word.binding u n.no refl n.is;
  }

  must_from : (p : List Step) (x : Step) → MustIn W p x → Must M P p x
  must_from p x m = let v = m.word in record {
    binding = m.binding;
    rest = m.rest;
    word = record {
      relation = v.word.relation;
      word = word_is v.word v.among true m.binding (p ++ x ∷ m.rest) v.only v.bound v.is;
    };
    bound = m.bound;
  }

  pub begins_from : (p : List Step) → (p ≡ [] → ⊥) → IsProperPrefix W p → BeginsWord M P p
  begins_from p some v = record {
    some = some;
    next = v.next;
    more = v.rest;
    word = record {
      relation = v.word.relation;
      only = v.word.only;
      binding = v.word.binding;
      word = word_is v.word v.among
          v.word.only v.word.binding (p ++ v.next ∷ v.rest) refl refl v.is;
    };
  }

  pub begins_to : (p : List Step) (s : Step) → In s p → s.way ≡ w → BeginsWord M P p → IsProperPrefix W p
  begins_to p s i e b =
      let a = b.word in
      let u = p ++ b.next ∷ b.more in
      record {
        word = as_word a.relation a.only a.binding u;
        among = among a.relation a.only a.binding u s a.word
            (in_left p (b.next ∷ b.more) s i) e;
        next = b.next;
        rest = b.more;
        is = refl;
      }

  -- what must follow follows some step
  must_behind : (p : List Step) (x : Step) → Must M P p x → p ≡ [] → ⊥
  must_behind p x m e =
      let h = m.word.word in
      let b = m.bound in
      let one = binding_positive (vias h.body) in
      let same : m.binding ≡ binding_of (vias h.body) = h.bound in
      let none : length p ≡ 0 = ap length e in
      omega (arith, one)

  module _ (long : LongWords M P) (q front : List Step) (last x : Step) (ends : q ≡ front ++ last ∷ [])
      (tells : Tells M P W q) where
    no_to : (a p u : List Step) (y : Step) → q ≡ a ++ p → (p ≡ [] → ⊥) → u ≡ p ++ y ∷ [] → NoWord M P u → NoIn W u
    no_to a p u y e some is h =
        let there = tells.no a p y e some h.relation h.binding
        (subst (IsWord M P h.relation false h.binding) is h.word) in
        record { word = as_word h.relation false h.binding (p ++ y ∷ []); among = there; no = refl; is = sym is }

    must_to : (a p : List Step) (y : Step) → q ≡ a ++ p → Must M P p y → MustIn W p y
    must_to a p y e m =
        let h = m.word in
        let u = p ++ y ∷ m.rest in
        record {
          binding = m.binding;
          rest = m.rest;
          word = record {
            word = as_word h.relation true m.binding u;
            among = tells.must a p y m.rest e (must_behind p y m)
                h.relation m.binding h.word m.bound;
            only = refl;
            bound = refl;
            is = refl;
          };
          bound = m.bound;
        }

    no_stop : GoesOn M P q x → Stops W q x → ⊥
    no_stop g (inl f) = g.no f.front f.word f.is (no_from f.word f.no)
    no_stop g (inr r) = r.lacks (must_to r.front r.end x r.is
        (g.only r.front r.end r.is r.other (must_from r.end r.other r.must)))

    no_word_ends : (Stops W q x → ⊥) → (a u : List Step) → q ++ x ∷ [] ≡ a ++ u → NoWord M P u → ⊥
    no_word_ends goes a u e n =
        let l = long n.relation false n.binding u n.word in
        elim (cut_last q a u x e) [
          | inl none ↦ cons_not_nil [] l.0 (l.1 ++ l.2 ∷ []) (sym l.3 ∙ none)
          | inr r ↦
              let some : r.rest ≡ [] → ⊥ = λ z. cons_not_nil l.1 l.2 []
              (let k : l.0 ∷ (l.1 ++ l.2 ∷ []) ≡ x ∷ [] = sym l.3 ∙ (r.is ∙ ap (λ v. v ++ x ∷ []) z) in cc) in
              goes (inl (record { word = u; no = no_to a r.rest u x r.front some r.is n; front = a; is = e }))
        ]

    demanded : (Stops W q x → ⊥) → (a p : List Step) → q ≡ a ++ p → (y : Step) → Must M P p y → Must M P p x
    demanded goes a p e y m = elim (must_or_not W p x) [
      | inl k ↦ must_from p x k
      | inr n ↦ absurd (goes (inr (record {
        end = p;
        front = a;
        is = e;
        other = y;
        must = must_to a p y e m;
        lacks = n;
      })))
    ]

    -- x may go on behind q exactly where it may follow q's last step and the words near the way don't stop it
    pub goes_on_near : GoesOn M P q x ↔ (Passes M P last x × (Stops W q x → ⊥))
    goes_on_near = (
      λ g. (g.passes front last ends, no_stop g),
      λ h. record {
        passes = λ a s e. subst (λ t. Passes M P t x) (same_from_push front a last s (sym ends ∙ e)).1 h.0;
        no = no_word_ends h.1;
        only = demanded h.1;
      },
    )
