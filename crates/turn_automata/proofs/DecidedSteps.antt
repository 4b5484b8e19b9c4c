-- Whether a step must come is decided by the words, so what isn't stopped is among the steps that must.
use Rattle.std.proofs.Common.{◌≡◌, zero, suc, ◌≤◌, inl, inr, true, List, [], ◌∷◌, ◌++◌, length}
use Rattle.std.proofs.Common.{Contains, refl, sym, ap, subst, arith}
use Rattle.std.proofs.lemmas.List.Elements.{Contains-append_right}
use Rattle.road_base.specs.declared.ids.Step.{Step}
use Rattle.restrictions.specs.declared.word_list.Word.{Word}
use Rattle.turn_automata.specs.Watched.{Must, Stops}
use Rattle.ordered_lists.proofs.Splits.{cons_not_nil, same_head}
use Rattle.ordered_lists.proofs.Decided.{Decided, decided_both, decided_like, decided_true}
use Rattle.road_model.proofs.FiniteWords.{decided_step}
use Rattle.road_model.proofs.RulesDecided.{decided_upto}

-- whether the list goes on by s behind q
goes_by : (xs q : List Step) (s : Step) → Decided ((rest : List Step) × (xs ≡ q ++ s ∷ rest))
goes_by [] q s = inr (λ r. cons_not_nil q s r.0 (sym r.1))
goes_by (x ∷ xs) [] s = decided_like (λ e. (xs, ap (λ z. z ∷ xs) e)) (λ r. same_head x s xs r.0 r.1) (decided_step x s)
goes_by (x ∷ xs) (y ∷ q) s = elim (decided_step x y) [
  | inl e ↦ decided_like (λ r. (r.0, cc)) (λ r. (r.0, cc)) (goes_by xs q s)
  | inr n ↦ inr (λ r. n (same_head x y xs (q ++ s ∷ r.0) r.1))
]

in_rest : (P : Word → Type 0) (w : Word) (W : List Word) → (P w → ⊥) → (u : Word) → Contains (w ∷ W) u → P u
    → Contains W u
in_rest P w W none u (zero, l, is) p = absurd (none (subst P (sym is) p))
in_rest P w W none u (suc k, l, is) p = (k, omega arith, is)

some_word : (P : Word → Type 0) → ((w : Word) → Decided (P w)) → (W : List Word)
    → Decided ((w : Word) × Contains W w × P w)
some_word P each [] = inr (λ r. let l = r.1.1 in absurd (omega arith))
some_word P each (w ∷ W) = elim (each w) [
  | inl p ↦ inl (w, (0, omega arith, refl), p)
  | inr n ↦ decided_like (λ r. (r.0, Contains-append_right (w ∷ []) W r.0 r.1, r.2))
      (λ r. (r.0, in_rest P w W n r.0 r.1 r.2, r.2)) (some_word P each W)
]

-- the word demands s behind q
abbrev Demands : List Step → Step → Word → Type 0
Demands q s w = (w.only ≡ true) × ((w.binding ≤ length q) × ((rest : List Step) × (w.steps ≡ q ++ s ∷ rest)))

demands : (q : List Step) (s : Step) (w : Word) → Decided (Demands q s w)
demands q s w =
    decided_both (decided_true w.only) (decided_both (decided_upto w.binding (length q)) (goes_by w.steps q s))

must_decided : (W : List Word) (q : List Step) (s : Step) → Decided (Must W q s)
must_decided W q s =
    decided_like
    (λ r. record {
      binding = r.0.binding;
      rest = r.2.1.1.0;
      word = record { word = r.0; among = r.1; only = r.2.0; bound = refl; is = r.2.1.1.1 };
      bound = r.2.1.0;
    })
    (λ m. (
      m.word.word,
      m.word.among,
      (
        m.word.only,
        (subst (λ n. n ≤ length q) (sym m.word.bound) m.bound, (m.rest, m.word.is)),
      ),
    ))
    (some_word (Demands q s) (demands q s) W)

pub demanded : (W : List Word) (p : List Step) (s : Step) → (Stops W p s → ⊥) → (front end : List Step) (x : Step)
    → p ≡ front ++ end → Must W end x → Must W end s
demanded W p s free front end x is must = elim (must_decided W end s) [
  | inl m ↦ m
  | inr lacks ↦ absurd (free (inr (record {
    end = end;
    front = front;
    is = is;
    other = x;
    must = must;
    lacks
        = lacks;
  })))
]
