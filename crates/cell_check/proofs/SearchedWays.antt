-- The ways to which the search didn't come pass, and the others don't.
use Rattle.std.proofs.Common.{◌≡◌, ◌↔◌, ◌⊎◌, inl, inr, ℕ, ◌+◌, ◌<◌, Bool, true, IsTrue, cond, List, [], ◌∷◌, ◌++◌}
use Rattle.std.proofs.Common.{map, length, take, get_or}
use Rattle.std.proofs.lemmas.List.{take_more}
use Rattle.std.proofs.lemmas.List.Elements.{filter_more, filter_map-append, Contains-append_left, Contains-append_right}
use Rattle.std.proofs.Common.{Contains, Option, Some, None, refl, sym, ap, subst, ◌∙◌, append_assoc}
use Rattle.std.specs.Prelude.{filter, filter_map, is_some, is_none}
use Rattle.std.specs.List.{cons_option}
use Rattle.std.specs.Option.{option_map}
use Rattle.std.specs.Cmp.{IsTotalOrder}
use Rattle.std.specs.BTreeMap.{get}
use Rattle.std.proofs.lemmas.Bool.{false≢true}
use Rattle.road_base.specs.declared.ids.WayId.{WayId}
use Rattle.road_base.specs.declared.ids.Key.{Key}
use Rattle.road_base.specs.declared.ids.Key.TheVariants.{Way as WayKey}
use Rattle.road_base.specs.Objects.{Objects, key_cmp}
use Rattle.road_model.specs.Links.{IsWithin}
use Rattle.ordered_lists.specs.Orders.{Lists, rises}
use Rattle.road_model.specs.Orders.{way_cmp}
use Rattle.ordered_lists.proofs.AscendingLists.{rises_kept}
use Rattle.ordered_lists.proofs.FilteredLists.{contains_filter, contains_from_filter}
use Rattle.ordered_lists.proofs.ListMembers.{In, in_from_contains, contains_from_in}
use Rattle.map_cells.specs.declared.area.Area.{Area}
use Rattle.map_cells.specs.Cells.{Passes, closed_radius}
use Rattle.map_cells.specs.Owners.{IsOwn}
use Rattle.cell_check.specs.declared.checking.Failing.{Failing}
use Rattle.cell_check.specs.declared.search.LinkSearch.{LinkSearch}
use Rattle.cell_check.specs.Candidates.{IsCandidate}
use Rattle.cell_check.specs.Checks.{AreFailing}
use Rattle.cell_check.specs.Closing.{AddsOpen}
use Rattle.cell_check.specs.Outcomes.{AreOpenStarts, IsSearchDone, is_passed, failing_in}
use Rattle.cell_check.specs.Searches.{IsAt, IsBegun, AreRounds}
use Rattle.cell_check.proofs.LinkRounds.{begun_round, all_rounds, leads}
use Rattle.cell_check.proofs.ClosedKeys.{none_open}
use Rattle.cell_check.proofs.OwnWays.{same_ways}

-- ---- the search from all that aren't closed

pub started : (M : Objects) (area : Area) (keys ls some starts : List Key)
    → ((k : Key) → IsCandidate M k → Contains keys k ⊎ Contains ls k) → AddsOpen M area keys [] some
    → AddsOpen M area ls some starts → AreOpenStarts M area starts
started M area keys ls some starts candidates first second =
    let opens = second keys (first [] (none_open M area [] refl)) in
    record {
      none = opens.none;
      all = λ k candidate. opens.all k (elim (candidates k candidate) [
        | inl by_way ↦ Contains-append_left keys ls k by_way
        | inr by_rule ↦ Contains-append_right keys ls k by_rule
      ]);
    }

-- the same keys
pub same_starts : (M : Objects) (area : Area) (starts once : List Key)
    → ((k : Key) → Contains once k ↔ Contains starts k) → AreOpenStarts M area starts → AreOpenStarts M area once
same_starts M area starts once same are = record {
  none = λ k has. are.none k ((same k).0 has);
  all = λ k candidate. elim (are.all k candidate) [ inl closed ↦ inl closed | inr has ↦ inr ((same k).1 has) ];
}

pub searched : (M : Objects) (area : Area) (starts : List Key) (s t : LinkSearch) → AreOpenStarts M area starts
    → IsBegun starts s → AreRounds M closed_radius s t → IsSearchDone M area t
searched M area starts s t are begun rounds =
    let round = all_rounds M starts closed_radius s t (begun_round M starts s begun) rounds in
    record {
      open_start = λ k v at. are.none v (round.sound k v at).0;
      near = λ k v at. (round.sound k v at).1;
      all = λ k v candidate near. elim (are.all v candidate)
          [ inl closed ↦ inl closed | inr is ↦ inr (round.all k v is near) ];
    }

-- ---- one way more is looked at

pub kept_next : (p : WayId → Bool) (first old new ws : List WayId) (i : ℕ) (d : WayId) → i < length ws
    → old ≡ first ++ filter p (take i ws) → new ≡ old ++ filter p (get_or ws i d ∷ [])
    → new ≡ first ++ filter p (take (i + 1) ws)
kept_next p first old new ws i d within before here =
    here ∙ ap (λ l. l ++ filter p (get_or ws i d ∷ [])) before
    ∙ append_assoc first (filter p (take i ws)) (filter p (get_or ws i d ∷ []))
    ∙ ap (λ l. first ++ l) (sym (filter_more p ws i d within))

pub told_next : (f : WayId → Option Failing) (first old new : List Failing) (ws : List WayId) (i : ℕ) (d : WayId)
    → i < length ws → old ≡ first ++ filter_map f (take i ws) → new ≡ old ++ filter_map f (get_or ws i d ∷ [])
    → new ≡ first ++ filter_map f (take (i + 1) ws)
told_next f first old new ws i d within before here =
    here ∙ ap (λ l. l ++ filter_map f (get_or ws i d ∷ [])) before
    ∙ append_assoc first (filter_map f (take i ws)) (filter_map f (get_or ws i d ∷ []))
    ∙ ap (λ l. first ++ l) (sym (filter_map-append f (take i ws) (get_or ws i d ∷ []))
    ∙ ap (filter_map f) (sym (take_more ws i d within)))

-- ---- ways that pass

module _ (M : Objects) (area cell : Area) (s : LinkSearch) (done : IsSearchDone M area s) where
  candidate : (w : WayId) → IsOwn M cell w → (k : Key) → IsWithin M closed_radius k (WayKey w) → IsCandidate M k
  candidate w own k near = elim (leads M closed_radius k (WayKey w) near)
      [ inl same ↦ inr (w, same, own.highway) | inr linked ↦ inl linked ]

  pub passes : (w : WayId) → IsOwn M cell w → get key_cmp s.starts (WayKey w) ≡ None → Passes M area w
  passes w own none k near = elim (done.all (WayKey w) k (candidate w own k near) near) [
    | inl closed ↦ closed
    | inr come ↦ let both : None ≡ Some come.0 = sym none ∙ come.1 in absurd (cc)
  ]

  pub fails : (w : WayId) (v : Key) → IsAt s (WayKey w) v → Passes M area w → ⊥
  fails w v at pass = done.open_start (WayKey w) v at (pass v (done.near (WayKey w) v at))

  none_there : (o : Option Key) → is_none o ≡ true → o ≡ None
  none_there None e = refl
  none_there (Some v) e = absurd (false≢true e)

  is_none_where : (w : WayId) → Passes M area w → (o : Option Key) → get key_cmp s.starts (WayKey w) ≡ o
      → is_none o ≡ true
  is_none_where w pass None e = refl
  is_none_where w pass (Some v) e = absurd (fails w v e pass)

  module _ (total : IsTotalOrder way_cmp) (own : List WayId) (lists : Lists (λ w. w) way_cmp (IsOwn M cell) own)
    where
      pub passing_lists : (ways : List WayId) → ways ≡ filter (is_passed s) own
          → Lists (λ w. w) way_cmp (λ w. IsOwn M cell w × Passes M area w) ways
      passing_lists ways is = subst (Lists (λ w. w) way_cmp (λ w. IsOwn M cell w × Passes M area w)) (sym is) (record {
        ascending = rises_kept (λ w. w) way_cmp total (is_passed s) own lists.ascending;
        sound = λ w has.
            let r = contains_from_filter (is_passed s) own w has in
            let o = lists.sound w r.0 in
            (o, passes w o (none_there (get key_cmp s.starts (WayKey w)) r.1));
        complete = λ w h. contains_filter (is_passed s) own w (lists.complete w h.0)
            (is_none_where w h.1 (get key_cmp s.starts (WayKey w)) refl);
      })

-- ---- ways that don't

module _ (s : LinkSearch) where
  abbrev came : WayId → Bool
  came w = is_some (get key_cmp s.starts (WayKey w))

  told_way : (w : WayId) (o : Option Key) (fs : List Failing)
      → map (λ f. f.way) (cons_option (option_map (λ v. record { way = w; key = v }) o) fs)
      ≡ cond (is_some o) (w ∷ map (λ f. f.way) fs) (map (λ f. f.way) fs)
  told_way w None fs = refl
  told_way w (Some v) fs = refl

  told_ways : (ws : List WayId) → map (λ f. f.way) (filter_map (failing_in s) ws) ≡ filter came ws
  told_ways [] = refl
  told_ways (w ∷ ws) = told_way w (get key_cmp s.starts (WayKey w)) (filter_map (failing_in s) ws)
      ∙ ap (λ l. cond (came w) (w ∷ l) l) (told_ways ws)

  told_one : (w : WayId) (o : Option Key) (fs : List Failing) (f : Failing)
      → In f (cons_option (option_map (λ v. record { way = w; key = v }) o) fs)
      → ((f.way ≡ w) × (o ≡ Some f.key)) ⊎ In f fs
  told_one w None fs f i = inr i
  told_one w (Some v) fs f (inl e) =
      inl (ap (λ (g : Failing). g.way) e, ap (λ (g : Failing). Some g.key) (sym e))
  told_one w (Some v) fs f (inr i) = inr i

  from_told : (ws : List WayId) (f : Failing) → In f (filter_map (failing_in s) ws)
      → In f.way ws × IsAt s (WayKey f.way) f.key
  from_told [] f i = absurd i
  from_told (w ∷ ws) f i =
      elim (told_one w (get key_cmp s.starts (WayKey w)) (filter_map (failing_in s) ws) f i) [
        | inl here ↦ (inl here.0, ap (λ v. get key_cmp s.starts (WayKey v)) here.0 ∙ here.1)
        | inr later ↦ let r = from_told ws f later in (inr r.0, r.1)
      ]

some_there : (o : Option Key) → (o ≡ None → ⊥) → is_some o ≡ true
some_there None not = absurd (not refl)
some_there (Some v) not = refl

module _ (M : Objects) (area cell : Area) (s : LinkSearch) (done : IsSearchDone M area s)
    (total : IsTotalOrder way_cmp) (own : List WayId) (lists : Lists (λ w. w) way_cmp (IsOwn M cell) own) where
  pub failing_are : (list : List Failing) → list ≡ filter_map (failing_in s) own → AreFailing M area cell list
  failing_are list is = subst (AreFailing M area cell) (sym is) (record {
    ascending = subst (λ (l : List WayId). IsTrue (rises way_cmp l)) (sym (told_ways s own))
        (subst (λ (l : List WayId). IsTrue (rises way_cmp l)) (same_ways (filter (came s) own))
        (rises_kept (λ w. w) way_cmp total (came s) own lists.ascending));
    each = λ f has.
        let r = from_told s own f (in_from_contains (filter_map (failing_in s) own) f has) in
        record {
          own = lists.sound f.way (contains_from_in own f.way r.0);
          near = done.near (WayKey f.way) f.key r.1;
          is_open = done.open_start (WayKey f.way) f.key r.1;
        };
    all = λ w o not. subst (λ (l : List WayId). Contains l w) (sym (told_ways s own))
        (contains_filter (came s) own w (lists.complete w o)
        (some_there (get key_cmp s.starts (WayKey w)) (λ none. not (passes M area cell s done w o none))));
  })
