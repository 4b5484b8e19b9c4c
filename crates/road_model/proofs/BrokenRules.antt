-- A drive breaks one rule first, at one step.
use Rattle.std.proofs.Common.{◌≡◌, ℕ, ◌+◌, ◌≤◌, List, [], ◌∷◌, ◌++◌, length, refl, sym, ap, ◌∙◌, subst, arith}
use Rattle.std.proofs.Common.{append_assoc, append-nil, Ordering, IsTrue}
use Rattle.std.specs.declared.cmp.Ordering.TheVariants.{Less, Equal, Greater}
use Rattle.std.specs.Ordering.{is_le, ordering_reverse}
use Rattle.std.proofs.lemmas.Bool.{false≢true}
use Rattle.road_base.specs.declared.ids.NodeId.{NodeId}
use Rattle.road_base.specs.declared.ids.RelationId.{RelationId}
use Rattle.road_base.specs.declared.ids.Step.{Step}
use Rattle.road_base.specs.Objects.{Objects}
use Rattle.road_model.specs.declared.answers.Access.{Access}
use Rattle.road_model.specs.declared.answers.Access.TheVariants.{Closed as ClosedAccess}
use Rattle.road_model.specs.Rules.{Rules}
use Rattle.road_model.specs.Driving.{located}
use Rattle.road_model.specs.Network.{Legal}
use Rattle.road_model.specs.Orders.{relation_cmp}
use Rattle.road_model.specs.Broken.{BrokenRule, NoStep, NoNode, Closed, WrongWay, Apart, Barrier, Reversal, No, Only}
use Rattle.road_model.specs.Broken.{place, LacksNode, AtTail, AtHead, IsAnswered, IsBehind, Meets, IsLeast, Applies}
use Rattle.road_model.specs.Broken.{Broken}
use Rattle.ordered_lists.proofs.Splits.{Behind, Before, cut, cons_not_nil, same_last}
use Rattle.road_model.proofs.TotalOrders.{relation_cmp_total, relation_cmp_exact}
use Rattle.road_model.proofs.WalkLists.{inner_legal}

both_ways : (a b : RelationId) (r s : Ordering) → relation_cmp a b ≡ r → relation_cmp b a ≡ s → r ≡ ordering_reverse s
    → IsTrue (is_le r) → IsTrue (is_le s) → a ≡ b
both_ways a b Less Less e f g h k = cc
both_ways a b Less Equal e f g h k = cc
both_ways a b Less Greater e f g h k = absurd (false≢true k)
both_ways a b Equal s e f g h k = relation_cmp_exact a b e
both_ways a b Greater s e f g h k = absurd (false≢true h)

one_least : (Q : RelationId → Type 0) (r s : RelationId) → IsLeast Q r → IsLeast Q s → r ≡ s
one_least Q r s a b = both_ways r s _ _ refl refl (relation_cmp_total.antisymm r s) (a.least s b.holds)
    (b.least r a.holds)

one_lacking : (M : Objects) (s : Step) (v w : NodeId) → LacksNode M s v → LacksNode M s w → v ≡ w
one_lacking M s v w (AtTail e h) (AtTail f k) = cc
one_lacking M s v w (AtTail e h) (AtHead l f k) = cc (ap (located M) e)
one_lacking M s v w (AtHead l e h) (AtTail f k) = cc (ap (located M) f)
one_lacking M s v w (AtHead l e h) (AtHead m f k) = cc

pub one_answer : (M : Objects) (P : Rules) (s : Step) (x y : Access) → IsAnswered M P s x → IsAnswered M P s y → x ≡ y
one_answer M P s x y a b =
    let e : a.way ≡ b.way = let f = a.visible in let g = b.visible in cc in
    sym a.says ∙ ap (λ w. P.direction w.tags s.dir) e ∙ b.says

pub one_before : (before : List Step) (x y : Step) → IsBehind before x → IsBehind before y → x ≡ y
one_before before x y a b = (same_last a.0 x b.0 y (sym a.1 ∙ b.1)).last

one_meeting : (M : Objects) (s t x : Step) (v w : NodeId) → s ≡ t → Meets M s x v → Meets M t x w → v ≡ w
one_meeting M s t x v w e a b = let f = a.to in let g = b.to in cc

module _ (M : Objects) (P : Rules) where
  -- a rule that applies names one thing
  one_of_place : (before : List Step) (s : Step) (a b : BrokenRule) → place a ≡ place b → Applies M P before s a
      → Applies M P before s b → a ≡ b
  one_of_place before s NoStep NoStep e h k = refl
  one_of_place before s (NoNode v) (NoNode w) e h k = ap NoNode (one_lacking M s v w h k)
  one_of_place before s (Closed x) (Closed y) e h k = let f = one_answer M P s (ClosedAccess x) (ClosedAccess y) h k
      in cc (f)
  one_of_place before s WrongWay WrongWay e h k = refl
  one_of_place before s Apart Apart e h k = refl
  one_of_place before s (Barrier v) (Barrier w) e h k = ap Barrier
      (one_meeting M _ _ s v w (one_before before _ _ h.behind k.behind) h.meets k.meets)
  one_of_place before s (Reversal v) (Reversal w) e h k = ap Reversal
      (one_meeting M _ _ s v w (one_before before _ _ h.behind k.behind) h.meets k.meets)
  one_of_place before s (No r) (No q) e h k = ap No (one_least _ r q h k)
  one_of_place before s (Only r) (Only q) e h k = ap Only (one_least _ r q h k)
  one_of_place before s a b e h k = absurd (omega arith)

  one_at : (before : List Step) (s : Step) (a b : BrokenRule) → Applies M P before s a → Applies M P before s b
      → ((o : BrokenRule) → Applies M P before s o → place a ≤ place o)
      → ((o : BrokenRule) → Applies M P before s o → place b ≤ place o) → a ≡ b
  one_at before s a b h k p q = let l = p b k in let m = q a h in one_of_place before s a b (omega arith) h k

  -- two rules that are first at one step are one
  one_there : (m n : List Step) (x y : Step) (a b : BrokenRule) → m ≡ n → x ≡ y → Applies M P m x a → Applies M P n y b
      → ((o : BrokenRule) → Applies M P m x o → place a ≤ place o)
      → ((o : BrokenRule) → Applies M P n y o → place b ≤ place o) → a ≡ b
  one_there m n x y a b e f h k p q =
      let back = λ (o : BrokenRule) (i : Applies M P m x o). subst (λ v. Applies M P n v o) f
      (subst (λ v. Applies M P v x o) e i) in
      let to = λ (o : BrokenRule) (i : Applies M P n y o). subst (λ v. Applies M P v x o) (sym e)
      (subst (λ v. Applies M P n v o) (sym f) i) in
      one_at m x a b h (to b k) p (λ o i. q o (back o i))

  -- a front that isn't legal doesn't stand before the step of another one
  not_before : (d : List Step) (k : ℕ) (a : BrokenRule) (h : Broken M P d k a) (m : List Step) (x : Step)
      (c : List Step) → (Legal M P (m ++ x ∷ []) → ⊥) → h.before ≡ m ++ x ∷ c → ⊥
  not_before d k a h m x c n e = n (h.legal (m ++ x ∷ []) c (e ∙ sym (append_assoc m (x ∷ []) c))
      (λ z. cons_not_nil m x [] z))

  same_step : (d : List Step) (j k : ℕ) (a b : BrokenRule) (g : Broken M P d j a) (h : Broken M P d k b)
      → g.before ≡ h.before → g.step ≡ h.step → (j ≡ k) × (a ≡ b)
  same_step d j k a b g h e f = (
    g.counted ∙ ap (λ v. length v + 1) e
        ∙ sym h.counted,
    one_there g.before h.before g.step h.step a b e f g.applies h.applies g.first h.first,
  )

  one_behind : (d : List Step) (j k : ℕ) (a b : BrokenRule) (g : Broken M P d j a) (h : Broken M P d k b)
      (c : List Step) → h.before ≡ g.before ++ c → g.step ∷ g.behind ≡ c ++ h.step ∷ h.behind → (j ≡ k) × (a ≡ b)
  one_behind d j k a b g h [] p q = same_step d j k a b g h (sym (p ∙ append-nil g.before)) (cc)
  one_behind d j k a b g h (z ∷ c) p q = absurd
      (not_before d k b h g.before g.step c g.illegal (p ∙ ap (λ v. g.before ++ v) (cc)))

  pub one_first : (d : List Step) (j k : ℕ) (a b : BrokenRule) → Broken M P d j a → Broken M P d k b → (j ≡ k) × (a ≡ b)
  one_first d j k a b g h = elim (cut g.before (g.step ∷ g.behind) h.before (h.step ∷ h.behind) (sym g.is ∙ h.is)) [
    | Behind c p q ↦ one_behind d j k a b g h c p q
    | Before z c p q ↦ absurd (not_before d j a g h.before h.step c h.illegal (p ∙ ap (λ v. h.before ++ v) (cc)))
  ]

  pub broken_illegal : (d : List Step) (k : ℕ) (a : BrokenRule) → Broken M P d k a → Legal M P d → ⊥
  broken_illegal d k a h l = h.illegal (inner_legal M P [] (h.before ++ h.step ∷ []) h.behind
      (λ z. cons_not_nil h.before h.step [] z)
      (subst (Legal M P) (h.is ∙ sym (append_assoc h.before (h.step ∷ []) h.behind)) l))
