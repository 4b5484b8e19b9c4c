-- The longest end of a list that has a property: there is at most one, and how it changes when the list grows.
use Rattle.std.proofs.Common.{◌≡◌, ◌+◌, ◌≤◌, List, [], ◌∷◌, ◌++◌, length, refl, sym, ap, subst, ◌∙◌, arith}
use Rattle.std.proofs.Common.{append_assoc, append-nil, length-append}
use Rattle.road_model.specs.Contexts.{IsLongestEnd}
use Rattle.ordered_lists.proofs.Splits.{Ends, Nil, Last, ends, same_last}

module _ {S : Type 0} where
  -- of two ends of a list the shorter one ends the longer one
  pub shorter_end : (a b p q : List S) → a ++ p ≡ b ++ q → length q ≤ length p → (c : List S) × (p ≡ c ++ q)
  shorter_end [] b p q e h = (b, e)
  shorter_end (x ∷ a) [] p q e h =
      let n : length (x ∷ (a ++ p)) ≡ length q = ap length e in
      let m : length (a ++ p) ≡ length a + length p = length-append a p in
      absurd (omega arith)
  shorter_end (x ∷ a) (y ∷ b) p q e h = shorter_end a b p q (cc) h

  no_front : (c q : List S) → length (c ++ q) ≤ length q → c ++ q ≡ q
  no_front [] q h = refl
  no_front (x ∷ c) q h = let m : length (c ++ q) ≡ length c + length q = length-append c q in absurd (omega arith)

  module _ (Q : List S → Type 0) where
    pub one_longest : (d p q : List S) → IsLongestEnd Q d p → IsLongestEnd Q d q → p ≡ q
    one_longest d p q l m =
        let less : length q ≤ length p = l.longest m.front q m.is m.holds in
        let more : length p ≤ length q = m.longest l.front p l.is l.holds in
        let c = shorter_end l.front m.front p q (sym l.is ∙ m.is) less in
        c.1 ∙ no_front c.0 q (subst (λ v. length v ≤ length q) c.1 more)

    module _ (closed : (p : List S) (s : S) → Q (p ++ s ∷ []) → Q p) where
      -- an end with the property of the list with s behind it ends the longest end with s behind it
      pub ends_longest : (d p : List S) (s : S) → IsLongestEnd Q d p → (a b : List S) → d ++ s ∷ [] ≡ a ++ b → Q b
          → (c : List S) × (p ++ s ∷ [] ≡ c ++ b)
      ends_longest d p s l a b e h = by (ends b)
        where
          by : Ends b → (c : List S) × (p ++ s ∷ [] ≡ c ++ b)
          by (Nil n) = (p ++ s ∷ [], sym (append-nil (p ++ s ∷ [])) ∙ ap (λ v. (p ++ s ∷ []) ++ v) (sym n))
          by (Last b' y n) =
              let same = same_last d s (a ++ b') y (e ∙ ap (λ v. a ++ v) n ∙ sym (append_assoc a b' (y ∷ []))) in
              let less : length b' ≤ length p = l.longest a b' same.front (closed b' y (subst Q n h)) in
              let c = shorter_end l.front a p b' (sym l.is ∙ same.front) less in (
                c.0,
                ap (λ v. v ++ s ∷ []) c.1 ∙ append_assoc c.0 b' (s ∷ []) ∙ ap (λ v. c.0 ++ (b' ++ v ∷ [])) same.last
                    ∙ ap (λ v. c.0 ++ v) (sym n),
              )

      pub longest_grows : (d p r : List S) (s : S) → IsLongestEnd Q d p → IsLongestEnd Q (p ++ s ∷ []) r
          → IsLongestEnd Q (d ++ s ∷ []) r
      longest_grows d p r s l m = record {
        front = l.front ++ m.front;
        is = ap (λ v. v ++ s ∷ []) l.is ∙ append_assoc l.front p (s ∷ []) ∙ ap (λ v. l.front ++ v) m.is
            ∙ sym (append_assoc l.front m.front r);
        holds = m.holds;
        longest = λ a b e h. let c = ends_longest d p s l a b e h in m.longest c.0 b c.1 h;
      }

      pub longest_before : (d p r : List S) (s : S) → IsLongestEnd Q d p → IsLongestEnd Q (d ++ s ∷ []) r
          → IsLongestEnd Q (p ++ s ∷ []) r
      longest_before d p r s l m =
          let c = ends_longest d p s l m.front r m.is m.holds in
          record {
            front = c.0;
            is = c.1;
            holds = m.holds;
            longest = λ a b e h. m.longest (l.front ++ a) b
                (ap (λ v. v ++ s ∷ []) l.is ∙ append_assoc l.front p (s ∷ []) ∙ ap (λ v. l.front ++ v) e
                ∙ sym (append_assoc l.front a b)) h;
          }
