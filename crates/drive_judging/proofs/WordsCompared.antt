-- Words beside the steps that were driven, and the least relation with a word of a kind.
use Rattle.std.proofs.Common.{◌≡◌, ℕ, ◌+◌, ◌-◌, ◌<◌, ◌≤◌, ◌⊎◌, inl, inr, List, [], ◌∷◌, ◌++◌, length, take, drop}
use Rattle.std.proofs.Common.{get_or, slice_get, Contains, cond, Option, Some, None, IfSome, IfNone, Bool, true, false}
use Rattle.std.proofs.Common.{IsTrue, refl, sym, ap, ◌∙◌, subst, arith, append_assoc, append-nil, Ordering}
use Rattle.std.specs.Bool.{Decides}
use Rattle.std.specs.Ordering.{is_le, ordering_reverse}
use Rattle.std.specs.declared.cmp.Ordering.TheVariants.{Less, Equal, Greater}
use Rattle.std.proofs.lemmas.Bool.{false≢true}
use Rattle.std.proofs.lemmas.Cmp.{tied_itself}
use Rattle.std.proofs.lemmas.List.{take_all, take-append-drop, length-drop, length-append}
use Rattle.std.proofs.lemmas.Option.{slice_get-get_or}
use Rattle.std.proofs.lemmas.List.Prefix.{end_rest}
use Rattle.road_base.specs.declared.ids.RelationId.{RelationId}
use Rattle.road_base.specs.declared.ids.Step.{Step}
use Rattle.road_base.specs.contracts.ids.StepPartialEq.TheImpl.{ghosts as step_equality}
use Rattle.road_base.proofs.EqualSteps.{step_same, step_itself}
use Rattle.ordered_lists.proofs.Splits.{same_last}
use Rattle.road_model.specs.Orders.{relation_cmp}
use Rattle.road_model.specs.Broken.{IsLeast}
use Rattle.restrictions.specs.declared.word_list.Word.{Word}
use Rattle.turn_automata.specs.Machines.{Machine, Watches, StandsFor}
use Rattle.turn_automata.specs.Watched.{IsWatchable, Must, Stops}
use Rattle.drive_judging.specs.Judging.{WordWith, EndsDriven, DemandsNext, Demands, LeavesBehind, LeavesIn, IsLeastIf}
use Rattle.drive_judging.specs.Judging.{lesser}
use Rattle.ordered_lists.proofs.ListFronts.{among_more, among_before, among_last}
use Rattle.ordered_lists.proofs.ListMembers.{contains_none}
use Rattle.road_model.proofs.TotalOrders.{relation_cmp_total}
use Rattle.road_model.proofs.RulesDecided.{Upto, through}

pub step_decides : (a b : Step) → Decides (step_equality.eq a b) (a ≡ b)
step_decides a b = (step_same a b, λ e. subst (λ x. step_equality.eq a x ≡ true) e (step_itself a))

-- ---- the order of relations

turned : (r s : Ordering) → r ≡ ordering_reverse s → is_le r ≡ false → is_le s ≡ true
turned Less s e h = absurd (false≢true (sym h))
turned Equal s e h = absurd (false≢true (sym h))
turned Greater Less e h = refl
turned Greater Equal e h = refl
turned Greater Greater e h = cc

other_way : (a b : RelationId) → is_le (relation_cmp a b) ≡ false → Upto b a
unfolding Upto
other_way a b h = turned _ _ (relation_cmp_total.antisymm a b) h

-- ---- the least relation of which a fact holds

pub least_same : (Q R : RelationId → Type 0) → ((r : RelationId) → Q r → R r) → ((r : RelationId) → R r → Q r)
    → (o : Option RelationId) → IsLeastIf Q o → IsLeastIf R o
least_same Q R to back None h = λ r k. h r (back r k)
least_same Q R to back (Some a) h = record { holds = to a h.holds; least = λ q k. h.least q (back q k) }

module _ (A B : RelationId → Type 0) where
  least_two : (a b : RelationId) → IsLeast A a → IsLeast B b → (t : Bool) → is_le (relation_cmp a b) ≡ t
      → IsLeastIf (λ r. A r ⊎ B r) (cond t (Some a) (Some b))
  unfolding Upto
  least_two a b h k true e = record {
    holds = inl h.holds;
    least = λ q i. elim i [ inl x ↦ h.least q x | inr y ↦ through a b q e (k.least q y) ];
  }
  least_two a b h k false e = record {
    holds = inr k.holds;
    least = λ q i. elim i [ inl x ↦ through b a q (other_way a b e) (h.least q x) | inr y ↦ k.least q y ];
  }

  pub least_of_two : (a b : Option RelationId) → IsLeastIf A a → IsLeastIf B b → IsLeastIf (λ r. A r ⊎ B r) (lesser a b)
  least_of_two None None h k = λ r i. elim i [ inl x ↦ h r x | inr y ↦ k r y ]
  least_of_two None (Some b) h k = record {
    holds = inr k.holds;
    least = λ q i. elim i [ inl x ↦ absurd (h q x) | inr y ↦ k.least q y ];
  }
  least_of_two (Some a) None h k = record {
    holds = inl h.holds;
    least = λ q i. elim i [ inl x ↦ h.least q x | inr y ↦ absurd (k q y) ];
  }
  least_of_two (Some a) (Some b) h k = least_two a b h k _ refl

-- ---- words of a list, one after the other

module _ (Q : Word → Type 0) where
  one_word : (w : Word) (o : Option RelationId) → IfSome o (λ r. (r ≡ w.relation) × Q w) → IfNone o (Q w → ⊥)
      → IsLeastIf (λ r. (r ≡ w.relation) × Q w) o
  one_word w None s n = λ r h. n h.1
  one_word w (Some a) s n = record {
    holds = s;
    least = λ q h. subst (λ x. IsTrue (is_le (relation_cmp a x))) (s.0 ∙ sym h.0) (itself_le a);
  }
    where
      itself_le : (a : RelationId) → IsTrue (is_le (relation_cmp a a))
      itself_le a = ap is_le (tied_itself relation_cmp_total a)

  pub no_word : IsLeastIf (WordWith [] Q) None
  no_word r h = contains_none h.word h.among

  pub word_more : (W : List Word) (i : ℕ) (d : Word) (least one : Option RelationId) → i < length W
      → IsLeastIf (WordWith (take i W) Q) least
      → IfSome one (λ r. (r ≡ (get_or W i d).relation) × Q (get_or W i d))
      → IfNone one (Q (get_or W i d) → ⊥)
      → IsLeastIf (WordWith (take (i + 1) W) Q) (lesser least one)
  word_more W i d least one l h s n = least_same
      (λ r. WordWith (take i W) Q r ⊎ ((r ≡ (get_or W i d).relation) × Q (get_or W i d)))
      (WordWith (take (i + 1) W) Q)
      (λ r k. elim k [
        | inl old ↦
            let has = among_before W i d l old.word old.among in
            record { word = old.word; among = has; of = old.of; is = old.is }
        | inr new ↦ record { word = get_or W i d; among = among_last W i d l; of = new.0; is = new.1 }
      ])
      (λ r k. elim (among_more W i d l k.word k.among) [
        | inl old ↦ inl (record { word = k.word; among = old; of = k.of; is = k.is })
        | inr e ↦ inr (k.of ∙ ap (λ (w : Word). w.relation) (sym e), subst Q (sym e) k.is)
      ])
      (lesser least one)
      (least_of_two (WordWith (take i W) Q) (λ r. (r ≡ (get_or W i d).relation) × Q (get_or W i d)) least one h
      (one_word (get_or W i d) one s n))

  pub word_next : (W : List Word) (i : ℕ) (w : Word) (least one next : Option RelationId) → i < length W
      → w ≡ get_or W i w → next ≡ lesser least one → IsLeastIf (WordWith (take i W) Q) least
      → IfSome one (λ r. (r ≡ w.relation) × Q w) → IfNone one (Q w → ⊥)
      → IsLeastIf (WordWith (take (i + 1) W) Q) next
  word_next W i w least one next l at is h s n =
      subst (IsLeastIf (WordWith (take (i + 1) W) Q)) (sym is)
      (word_more W i w least one l h
      (subst (λ v. IfSome one (λ r. (r ≡ v.relation) × Q v)) at s) (subst (λ v. IfNone one (Q v → ⊥)) at n))

-- ---- the end of the driven steps

pub nothing_ends : (steps word : List Step) → length word ≡ 0 → (front : List Step) × (steps ≡ front ++ word)
nothing_ends steps [] e = (steps, sym (append-nil steps))
nothing_ends steps (x ∷ word) e = absurd (omega arith)

next_is : (driven rest : List Step) (x : Step) → slice_get (driven ++ rest) (length driven) ≡ Some x
    → (more : List Step) × (driven ++ rest ≡ driven ++ x ∷ more)
next_is [] [] x e = cc
next_is [] (y ∷ rest) x e = let f : y ≡ x = cc in (rest, ap (λ v. v ∷ rest) f)
next_is (z ∷ driven) rest x e = let r = next_is driven rest x e in (r.0, ap (λ v. z ∷ v) r.1)

pub ends_more : (before : List Step) (s : Step) (word start : List Step) (last : Step) → word ≡ start ++ last ∷ []
    → (last ≡ s) → (front : List Step) → before ≡ front ++ start
    → (front : List Step) × (before ++ s ∷ [] ≡ front ++ word)
ends_more before s word start last e f front g = (
  front,
  ap (λ v. v ++ s ∷ []) g ∙ append_assoc front start (s ∷ [])
      ∙ ap (λ x. front ++ (start ++ x ∷ [])) (sym f) ∙ ap (λ v. front ++ v) (sym e),
)

pub ends_less : (before : List Step) (s : Step) (word start : List Step) (last : Step) → word ≡ start ++ last ∷ []
    → (front : List Step) → before ++ s ∷ [] ≡ front ++ word → (last ≡ s) × (before ≡ front ++ start)
ends_less before s word start last e front f =
    let g = f ∙ ap (λ v. front ++ v) e ∙ sym (append_assoc front start (last ∷ [])) in
    let same = same_last before s (front ++ start) last g in
    (sym same.last, same.front)

pub next_at : (driven word rest : List Step) (x : Step) → word ≡ driven ++ rest → length driven < length word
    → x ≡ get_or word (length driven) x → (more : List Step) × (word ≡ driven ++ x ∷ more)
next_at driven word rest x e l at =
    let g = slice_get-get_or word (length driven) x l ∙ ap Some (sym at) in
    let h = next_is driven rest x (subst (λ v. slice_get v (length driven) ≡ Some x) e g) in (h.0, e ∙ h.1)

-- ---- what Only words demand

same_next : (driven : List Step) (x y : Step) (a b : List Step) → driven ++ x ∷ a ≡ driven ++ y ∷ b → x ≡ y
same_next [] x y a b e = cc
same_next (z ∷ driven) x y a b e = same_next driven x y a b (cc)

pub one_demanded : (driven : List Step) (w : Word) (x y : Step) → DemandsNext driven w x → DemandsNext driven w y
    → x ≡ y
one_demanded driven w x y a b = same_next driven x y a.rest b.rest (sym a.is ∙ b.is)

module _ (W : List Word) (driven : List Step) (s : Step) where
  pub must_by : (w : Word) → Contains W w → DemandsNext driven w s → Must W driven s
  must_by w c d = record {
    binding = w.binding;
    rest = d.rest;
    word = record { word = w; among = c; only = d.only; bound = refl; is = d.is };
    bound = d.bound;
  }

  pub must_of : Must W driven s → (w : Word) × Contains W w × DemandsNext driven w s
  must_of m =
      let w = m.word in (
        w.word,
        w.among,
        record {
          only = w.only;
          bound = subst (λ n. n ≤ length driven) (sym w.bound) m.bound;
          rest = m.rest;
          is = w.is;
        },
      )

  pub left_least : (Must W driven s → ⊥) → (o : Option RelationId) → IsLeastIf (WordWith W (Demands driven)) o
      → IsLeastIf (LeavesBehind W driven s) o
  left_least n o h = least_same (WordWith W (Demands driven)) (LeavesBehind W driven s)
      (λ r k. record { lacks = n; word = k }) (λ r k. k.word) o h

-- ---- the ends of the steps before, one after the other

pub whole_end : (k : ℕ) (steps : List Step) → take (length steps - k) (drop k steps) ≡ drop k steps
whole_end k steps = take_all (length steps - k) (drop k steps) (let e = length-drop k steps in omega arith)

-- what is left behind an end of less than so many steps
pub record LeavesShort (W : List Word) (before : List Step) (s : Step) (n : ℕ) (r : RelationId) : Type 0 where
  pub front : List Step
  pub driven : List Step
  pub ends : before ≡ front ++ driven
  pub short : length driven < n
  pub leaves : LeavesBehind W driven s r

module _ (W : List Word) (before : List Step) (s : Step) where
  end_is : (n : ℕ) (front driven : List Step) → before ≡ front ++ driven → length driven ≡ n
      → drop (length before - n) before ≡ driven
  end_is n front driven e l =
      subst (λ m. drop (length before - m) before ≡ driven) l (end_rest before driven front e)

  long_or_short : (a n : ℕ) → a < n + 1 → (a < n) ⊎ (a ≡ n)
  long_or_short a n l = grind arith

  drop_length : (n : ℕ) → n ≤ length before → length (drop (length before - n) before) ≡ n
  drop_length n l = let e = length-drop (length before - n) before in omega arith

  pub short_more : (n : ℕ) (driven : List Step) → n ≤ length before → driven ≡ drop (length before - n) before
      → (least one : Option RelationId) → IsLeastIf (LeavesShort W before s n) least
      → IsLeastIf (LeavesBehind W driven s) one
      → IsLeastIf (LeavesShort W before s (n + 1)) (lesser least one)
  short_more n driven l e least one h k = least_same
      (λ r. LeavesShort W before s n r ⊎ LeavesBehind W driven s r)
      (LeavesShort W before s (n + 1))
      (λ r i. elim i [
        | inl old ↦ let m = old.short in record {
          front = old.front;
          driven = old.driven;
          ends = old.ends;
          short = omega arith;
          leaves = old.leaves;
        }
        | inr new ↦
            let m = drop_length n l in
            let d = ap (λ (v : List Step). length v) e in record {
              front = take (length before - n) before;
              driven = driven;
              ends = sym (take-append-drop (length before - n) before)
                  ∙ ap (λ v. take (length before - n) before ++ v) (sym e);
              short = omega arith;
              leaves = new;
            }
      ])
      (λ r i. elim (long_or_short (length i.driven) n i.short) [
        | inl m ↦ inl (record
            { front = i.front; driven = i.driven; ends = i.ends; short = m; leaves = i.leaves })
        | inr m ↦ inr (subst (λ v. LeavesBehind W v s r) (sym (e ∙ end_is n i.front i.driven i.ends m)) i.leaves)
      ])
      (lesser least one)
      (least_of_two (LeavesShort W before s n) (LeavesBehind W driven s) least one h k)

  -- a word goes on behind what is left, so that isn't longer than what is watched
  pub short_all : (m : Machine) (n longest : ℕ) → m.words ≡ W → Watches m n before
      → ((p : List Step) → StandsFor m n p → longest ≡ length p)
      → (o : Option RelationId) → IsLeastIf (LeavesShort W before s (longest + 1)) o → IsLeastIf (LeavesIn W before s) o
  short_all m n longest is watches len o h = least_same (LeavesShort W before s (longest + 1)) (LeavesIn W before s)
      (λ r k. record { front = k.front; driven = k.driven; ends = k.ends; leaves = k.leaves })
      (λ r k.
      let w = k.leaves.word in
      let watched : IsWatchable m.words k.driven = inl (record {
        word = w.word;
        among = subst (λ l. Contains l w.word) (sym is) w.among;
        next = w.is.0;
        rest = w.is.1.rest;
        is = w.is.1.is;
      }) in
      let upto = watches.watched.longest k.front k.driven k.ends watched in
      let e = len watches.list watches.is in record {
        front = k.front;
        driven = k.driven;
        ends = k.ends;
        short = omega arith;
        leaves = k.leaves;
      })
      o h

  -- where the words stop the step, some word is found
  pub stops_some : Stops W before s → ((r : RelationId) → WordWith W (EndsDriven before s) r → ⊥)
      → ((r : RelationId) → LeavesIn W before s r → ⊥) → ⊥
  stops_some (inl forbids) none only =
      let w = forbids.no in
      none w.word.relation (record {
        word = w.word;
        among = w.among;
        of = refl;
        is = record {
          no = w.no;
          front = forbids.front;
          ends = forbids.is ∙ ap (λ v. forbids.front ++ v) (sym w.is);
        };
      })
  stops_some (inr refuses) none only =
      let w = must_of W refuses.end refuses.other refuses.must in
      only w.0.relation (record {
        front = refuses.front;
        driven = refuses.end;
        ends = refuses.is;
        leaves = record {
          lacks = refuses.lacks;
          word = record { word = w.0; among = w.1; of = refl; is = (refuses.other, w.2) };
        };
      })

  pub watched_short : (m : Machine) (n longest : ℕ) → Watches m n before
      → ((p : List Step) → StandsFor m n p → longest ≡ length p) → longest ≤ length before
  watched_short m n longest watches len =
      let e = len watches.list watches.is in
      let f = ap (λ (v : List Step). length v) watches.watched.is ∙ length-append watches.watched.front watches.list in
      omega arith
