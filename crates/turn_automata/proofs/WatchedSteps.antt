-- The steps that are watched grow with the drive, and decide as the whole drive does.
use Rattle.std.proofs.Common.{◌≤◌, ◌↔◌, inl, inr, List, [], ◌∷◌, ◌++◌, length, sym, ap, subst, ◌∙◌, append_assoc}
use Rattle.std.proofs.Common.{append-nil}
use Rattle.road_base.specs.declared.ids.Step.{Step}
use Rattle.restrictions.specs.declared.word_list.Word.{Word}
use Rattle.turn_automata.specs.Watched.{IsWatchable, Watched, NoIn, Must, Forbids, Refuses, Stops}
use Rattle.ordered_lists.proofs.Splits.{Ends, Nil, Last, ends, same_last, cons_not_nil}
use Rattle.turn_automata.proofs.Ends.{shorter_end, longest_grows}
use Rattle.turn_automata.proofs.Ends.{longest_before}

pub watchable_closed : (W : List Word) (p : List Step) (s : Step) → IsWatchable W (p ++ s ∷ []) → IsWatchable W p
watchable_closed W p s (inl k) = inl (record {
  word = k.word;
  among = k.among;
  next = s;
  rest = k.next ∷ k.rest;
  is = k.is ∙ append_assoc p (s ∷ []) (k.next ∷ k.rest);
})
watchable_closed W p s (inr e) = absurd (cons_not_nil p s [] e)

pub watched_grows : (W : List Word) (d p r : List Step) (s : Step) → Watched W d p
    → Watched W (d ++ s ∷ []) r ↔ Watched W (p ++ s ∷ []) r
watched_grows W d p r s l = (
  longest_before (IsWatchable W) (watchable_closed W) d p r s l,
  longest_grows (IsWatchable W) (watchable_closed W) d
      p r s l,
)

pub must_watchable : (W : List Word) (p : List Step) (x : Step) → Must W p x → IsWatchable W p
must_watchable W p x m = inl (record {
  word = m.word.word;
  among = m.word.among;
  next = x;
  rest = m.rest;
  is
      = m.word.is;
})

pub no_watchable : (W : List Word) (p : List Step) (x : Step) → NoIn W (p ++ x ∷ []) → IsWatchable W p
no_watchable W p x n = inl (record { word = n.word; among = n.among; next = x; rest = []; is = n.is })

module _ (W : List Word) (d p : List Step) (s : Step) (l : Watched W d p) where
  forbids_before : Forbids W d s → Forbids W p s
  forbids_before f = by (ends f.word)
    where
      by : Ends f.word → Forbids W p s
      by (Nil n) = record {
        word = f.word;
        no = f.no;
        front = p ++ s ∷ [];
        is = sym (append-nil (p ++ s ∷ []))
            ∙ ap (λ v. (p ++ s ∷ []) ++ v) (sym n);
      }
      by (Last u y n) =
          let same = same_last d s (f.front ++ u) y
          (f.is ∙ ap (λ v. f.front ++ v) n ∙ sym (append_assoc f.front u (y ∷ []))) in
          let less : length u ≤ length p = l.longest f.front u same.front (no_watchable W u y (subst (NoIn W) n f.no))
          in
          let c = shorter_end l.front f.front p u (sym l.is ∙ same.front) less in
          record {
            word = f.word;
            no = f.no;
            front = c.0;
            is = ap (λ v. v ++ s ∷ []) c.1 ∙ append_assoc c.0 u (s ∷ []) ∙ ap (λ v. c.0 ++ (u ++ v ∷ [])) same.last
                ∙ ap (λ v. c.0 ++ v) (sym n);
          }

  forbids_after : Forbids W p s → Forbids W d s
  forbids_after f = record {
    word = f.word;
    no = f.no;
    front = l.front ++ f.front;
    is = ap (λ v. v ++ s ∷ []) l.is ∙ append_assoc l.front p (s ∷ []) ∙ ap (λ v. l.front ++ v) f.is
        ∙ sym (append_assoc l.front f.front f.word);
  }

  refuses_before : Refuses W d s → Refuses W p s
  refuses_before r =
      let less : length r.end ≤ length p = l.longest r.front r.end r.is (must_watchable W r.end r.other r.must) in
      let c = shorter_end l.front r.front p r.end (sym l.is ∙ r.is) less in
      record { end = r.end; front = c.0; is = c.1; other = r.other; must = r.must; lacks = r.lacks }

  refuses_after : Refuses W p s → Refuses W d s
  refuses_after r = record {
    end = r.end;
    front = l.front ++ r.front;
    is = l.is ∙ ap (λ v. l.front ++ v) r.is ∙ sym (append_assoc l.front r.front r.end);
    other = r.other;
    must = r.must;
    lacks = r.lacks;
  }

  pub stops_same : Stops W d s ↔ Stops W p s
  stops_same = (
    λ h. elim h [ inl f ↦ inl (forbids_before f) | inr r ↦ inr (refuses_before r) ],
    λ h. elim h [ inl f ↦ inl (forbids_after f) | inr r ↦ inr (refuses_after r) ],
  )
