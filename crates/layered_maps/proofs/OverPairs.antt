-- Pairs with what has changed over them: what is found there, and what comes into a floor.
use Rattle.std.proofs.Common.{◌≡◌, Bool, true, false, cond, not, IsTrue, List, [], ◌∷◌, ◌++◌, map, filter, Option, Some}
use Rattle.std.proofs.Common.{None, is_some, inl, inr, refl, sym, ap, ◌∙◌, subst, Ordering, T}
use Rattle.std.specs.declared.cmp.Ordering.TheVariants.{Equal}
use Rattle.std.specs.Prelude.{◌&&◌}
use Rattle.std.specs.Ordering.{eq_by_cmp, is_eq}
use Rattle.std.specs.Option.{option_or}
use Rattle.std.specs.Cmp.{IsTotalOrder, Equal-is}
use Rattle.std.specs.FinMap.{IsAntisymmetric, find, put}
use Rattle.std.specs.FinMap.Entries.{find-put, find-where_key, is_sorted-where_key}
use Rattle.ordered_lists.proofs.FilteredLists.{from_filter}
use Rattle.layered_maps.specs.declared.change.Change.{Change}
use Rattle.layered_maps.specs.declared.change.Change.TheVariants.{Put, Gone}
use Rattle.layered_maps.specs.Layers.{Rise, put_all}
use Rattle.layered_maps.specs.Maps.{change_pair, keyed, over, AreKeyed, replaced, replaced_by, sinks, stays, sunk}
use Rattle.layered_maps.specs.Maps.{sunk_of}
use Rattle.layered_maps.proofs.SplitPairs.{put_rises, right_rises}
use Rattle.layered_maps.proofs.LayerPairs.{find_put_all}
use Rattle.layered_maps.proofs.FoundPairs.{member_found, found_member, first_alone, same_found, key_found}

-- what has changed at a key, and else what was there
abbrev pub settled : {V : Type 0} → Option (Option V) → Option V → Option V
settled None was = was
settled (Some v) was = v

told : (b : Bool) → T b → IsTrue b
told true t = refl
told false t = absurd t

-- what is put, chosen by a test
put_chosen : {V : Type 0} (b : Bool) (v : V) (f : Option (Option V)) (o r : Option V) → r ≡ settled f o
    → cond b (Some v) r ≡ settled (cond b (Some (Some v)) f) o
put_chosen true v f o r e = refl
put_chosen false v f o r e = e

-- what is gone, chosen by a test
gone_chosen : {V : Type 0} (b : Bool) (f : Option (Option V)) (o r : Option V) → r ≡ settled f o
    → cond (not b) r None ≡ settled (cond b (Some None) f) o
gone_chosen true f o r e = refl
gone_chosen false f o r e = e

-- what has changed last, and before
pub settled_twice : {V : Type 0} (f g : Option (Option V)) (o : Option V)
    → settled (option_or f g) o ≡ settled f (settled g o)
settled_twice None g o = refl
settled_twice (Some v) g o = refl

module _ {K V : Type 0} (R : K → K → Ordering) (total : IsTotalOrder R) where
  pub find_over : (k : K) (more : List (K × Option V)) (pairs : List (K × V))
      → find R k (over R more pairs) ≡ settled (find R k more) (find R k pairs)
  find_over k [] pairs = refl
  find_over k ((q, None) ∷ more) pairs =
      find-where_key R (λ j. not (eq_by_cmp R j q)) k (λ x t. ap (λ r. not (is_eq r)) (sym (total.congr k x q t)))
      (over R more pairs)
      ∙ gone_chosen (eq_by_cmp R k q) (find R k more) (find R k pairs) _ (find_over k more pairs)
  find_over k ((q, Some v) ∷ more) pairs =
      find-put R total k q v (over R more pairs)
      ∙ put_chosen (eq_by_cmp R k q) v (find R k more) (find R k pairs) _ (find_over k more pairs)

  pub over_rises : (more : List (K × Option V)) (pairs : List (K × V)) → Rise R pairs → Rise R (over R more pairs)
  over_rises [] pairs up = up
  over_rises ((q, None) ∷ more) pairs up =
      told _ (is_sorted-where_key R (λ j. not (eq_by_cmp R j q)) (over R more pairs)
      (subst T (sym (over_rises more pairs up)) tt))
  over_rises ((q, Some v) ∷ more) pairs up = put_rises R total q v (over R more pairs) (over_rises more pairs up)

  -- what lies over a map may lie over its floor, before what lies there
  pub over_all : IsAntisymmetric R → (run layers : List (K × Option V)) (pairs : List (K × V)) → Rise R pairs
      → over R (put_all R run layers) pairs ≡ over R run (over R layers pairs)
  over_all exact run layers pairs up =
      same_found R total exact (over R (put_all R run layers) pairs) (over R run (over R layers pairs))
      (over_rises (put_all R run layers) pairs up) (over_rises run (over R layers pairs) (over_rises layers pairs up))
      (λ k. find_over k (put_all R run layers) pairs
      ∙ ap (λ o. settled o (find R k pairs)) (find_put_all R total k run layers)
      ∙ settled_twice (find R k run) (find R k layers) (find R k pairs)
      ∙ ap (settled (find R k run)) (sym (find_over k layers pairs))
      ∙ sym (find_over k run (over R layers pairs)))

-- ---- values at their keys

pub none_keyed : {K V : Type 0} (key : V → K) (R : K → K → Ordering) → AreKeyed key R []
none_keyed key R k v e = cc

module _ {K V : Type 0} (key : V → K) (R : K → K → Ordering) (total : IsTotalOrder R) (exact : IsAntisymmetric R) where
  pub keyed_all : (run layers : List (K × Option V)) → AreKeyed key R run → AreKeyed key R layers
      → AreKeyed key R (put_all R run layers)
  keyed_all run layers own others k v e =
      elim (find R k run) as (λ o. find R k run ≡ o → option_or o (find R k layers) ≡ Some (Some v) → key v ≡ k) [
        | Some x ↦ λ is h. own k v (is ∙ h)
        | None ↦ λ is h. others k v h
      ] refl (sym (find_put_all R total k run layers) ∙ e)

  -- some of what is keyed is
  pub keyed_some : (p : K × Option V → Bool) (run : List (K × Option V)) → Rise R run → AreKeyed key R run
      → AreKeyed key R (filter p run)
  keyed_some p run up are k v e =
      let m = member_found R k (filter p run) (Some v) e in
      let i = (from_filter p run (m.0, Some v) m.1).0 in
      are m.0 v (found_member R total run up (m.0, Some v) i) ∙ sym (exact k m.0 m.2)

  -- what is found in a map has the key
  pub map_keyed : (layers : List (K × Option V)) (vs : List V) → AreKeyed key R layers → (k : K) (v : V)
      → find R k (over R layers (map (keyed key) vs)) ≡ Some v → key v ≡ k
  map_keyed layers vs are k v e =
      elim (find R k layers) as (λ o. find R k layers ≡ o → settled o (find R k (map (keyed key) vs)) ≡ Some v
      → key v ≡ k) [
        | None ↦ λ is h. key_found key R total exact k vs v h
        | Some x ↦ λ is h. are k v (is ∙ ap Some h)
      ] refl (sym (find_over R total k layers (map (keyed key) vs)) ∙ e)

  -- ---- what comes into a floor

  has_put : (k : K) (v : V) (pairs : List (K × V)) (j : K) → is_some (find R k pairs) ≡ true → (b : Bool)
      → eq_by_cmp R j k ≡ b → is_some (cond b (Some v) (find R j pairs)) ≡ is_some (find R j pairs)
  has_put k v pairs j has true t =
      sym (ap (λ q. is_some (find R q pairs)) (exact j k ((Equal-is _).0 t)) ∙ has)
  has_put k v pairs j has false t = refl

  has_replaced : (v : V) (pairs : List (K × V)) (j : K) (b : Bool) → is_some (find R (key v) pairs) ≡ b
      → is_some (find R j (cond b (put R (key v) v pairs) pairs)) ≡ is_some (find R j pairs)
  has_replaced v pairs j true has =
      ap is_some (find-put R total j (key v) v pairs) ∙ has_put (key v) v pairs j has (eq_by_cmp R j (key v)) refl
  has_replaced v pairs j false has = refl

  -- what has been replaced has the same keys
  pub has_same : (vs : List V) (pairs : List (K × V)) (j : K)
      → is_some (find R j (replaced_by key R vs pairs)) ≡ is_some (find R j pairs)
  has_same [] pairs j = refl
  has_same (v ∷ vs) pairs j =
      has_replaced v (replaced_by key R vs pairs) j (is_some (find R (key v) (replaced_by key R vs pairs))) refl
      ∙ has_same vs pairs j

  replaced_rises : (v : V) (pairs : List (K × V)) → Rise R pairs → Rise R (replaced key R v pairs)
  replaced_rises v pairs up =
      elim (is_some (find R (key v) pairs)) as (λ b. Rise R (cond b (put R (key v) v pairs) pairs)) [
        | true ↦ put_rises R total (key v) v pairs up
        | false ↦ up
      ]

  pub replaced_all_rises : (vs : List V) (pairs : List (K × V)) → Rise R pairs → Rise R (replaced_by key R vs pairs)
  replaced_all_rises [] pairs up = up
  replaced_all_rises (v ∷ vs) pairs up =
      replaced_rises v (replaced_by key R vs pairs) (replaced_all_rises vs pairs up)

  -- one more is replaced, before all others
  pub replaced_last : (vs : List V) (v : V) (pairs : List (K × V))
      → replaced_by key R (vs ++ v ∷ []) pairs ≡ replaced_by key R vs (replaced key R v pairs)
  replaced_last [] v pairs = refl
  replaced_last (w ∷ vs) v pairs = ap (replaced key R w) (replaced_last vs v pairs)

  module _ (layers : List (K × Option V)) (pairs : List (K × V)) where
    -- what stays over the floor
    abbrev kept : List (K × Option V) → List (K × Option V)
    kept run = filter (stays R layers pairs) run

    -- what comes into it
    abbrev down : List (K × Option V) → List V
    down run = sunk R layers pairs run

    -- a pair that sinks has a value, and its key stands in the floor and in nothing over it
    has_sunk : (o : Option V) (a b : Bool) → is_some o && (not a && b) ≡ true
        → (v : V) × (o ≡ Some v) × (a ≡ false) × (b ≡ true)
    has_sunk None a b e = cc
    has_sunk (Some v) true b e = cc
    has_sunk (Some v) false b e = (v, refl, refl, e)

    none_there : {A : Type 0} (o : Option A) → is_some o ≡ false → o ≡ None
    none_there None e = refl
    none_there (Some x) e = cc

    abbrev both_at : K → List (K × Option V) → Type 0
    both_at k run = settled (option_or (find R k (kept run)) (find R k layers))
        (find R k (replaced_by key R (down run) pairs))
        ≡ settled (option_or (find R k run) (find R k layers)) (find R k pairs)

    -- at a key, where the first pair sinks
    sunk_first : (k : K) (q : K) (v : V) (run : List (K × Option V)) → Rise R ((q, Some v) ∷ run) → key v ≡ q
        → find R q layers ≡ None → is_some (find R q pairs) ≡ true → both_at k run
        → settled (option_or (find R k (kept run)) (find R k layers))
        (find R k (replaced_by key R (v ∷ down run) pairs))
        ≡ settled (option_or (find R k ((q, Some v) ∷ run)) (find R k layers)) (find R k pairs)
    sunk_first k q v run up own none has both =
        let M = replaced_by key R (down run) pairs in
        let there : is_some (find R (key v) M) ≡ true
        = has_same (down run) pairs (key v) ∙ ap (λ j. is_some (find R j pairs)) own ∙ has in
        let got : find R k (replaced_by key R (v ∷ down run) pairs) ≡ cond (eq_by_cmp R k q) (Some v) (find R k M)
        = ap (λ b. find R k (cond b (put R (key v) v M) M)) there ∙ find-put R total k (key v) v M
        ∙ ap (λ j. cond (eq_by_cmp R k j) (Some v) (find R k M)) own in
        ap (settled (option_or (find R k (kept run)) (find R k layers))) got
        ∙ elim (eq_by_cmp R k q) as (λ b. eq_by_cmp R k q ≡ b
        → settled (option_or (find R k (kept run)) (find R k layers)) (cond b (Some v) (find R k M))
        ≡ settled (option_or (cond b (Some (Some v)) (find R k run)) (find R k layers)) (find R k pairs)) [
          | true ↦ λ t.
              let tie : R k q ≡ Equal = (Equal-is _).0 t in
              let alone : find R k (kept run) ≡ None
              = first_alone R total (q, Some v) run (kept run) up
              (λ p i. (from_filter (stays R layers pairs) run p i).0) k tie in
              let bare : find R k layers ≡ None = ap (λ j. find R j layers) (exact k q tie) ∙ none in
              ap (λ o. settled (option_or o (find R k layers)) (Some v)) alone
              ∙ ap (λ o. settled o (Some v)) bare
          | false ↦ λ t. both
        ] refl

    -- at a key, where it stays
    kept_first : (k : K) (x : K × Option V) (run : List (K × Option V)) → both_at k run
        → settled (option_or (find R k (x ∷ kept run)) (find R k layers))
        (find R k (replaced_by key R (down run) pairs))
        ≡ settled (option_or (find R k (x ∷ run)) (find R k layers)) (find R k pairs)
    kept_first k x run both =
        elim (eq_by_cmp R k x.0) as (λ b.
        settled (option_or (cond b (Some x.1) (find R k (kept run))) (find R k layers))
        (find R k (replaced_by key R (down run) pairs))
        ≡ settled (option_or (cond b (Some x.1) (find R k run)) (find R k layers)) (find R k pairs)) [
          | true ↦ refl
          | false ↦ both
        ]

    pub both_found : (run : List (K × Option V)) → Rise R run → AreKeyed key R run → (k : K) → both_at k run
    both_found [] up are k = refl
    both_found (x ∷ run) up are k =
        let below : AreKeyed key R run = keyed_rest x run up are in
        let rest = both_found run (right_rises R (x ∷ []) run up) below k in
        elim (sinks R layers pairs x) as (λ b. sinks R layers pairs x ≡ b
        → settled (option_or (find R k (cond (not b) (x ∷ kept run) (kept run))) (find R k layers))
        (find R k (replaced_by key R (sunk_of b x.1 ++ down run) pairs))
        ≡ settled (option_or (find R k (x ∷ run)) (find R k layers)) (find R k pairs)) [
          | false ↦ λ t. ap (λ l. settled (option_or (find R k (x ∷ kept run)) (find R k layers))
              (find R k (replaced_by key R (l ++ down run) pairs))) (none_sunk x.1)
              ∙ kept_first k x run rest
          | true ↦ λ t.
              let h = has_sunk x.1 (is_some (find R x.0 layers)) (is_some (find R x.0 pairs)) t in
              let own : key h.0 ≡ x.0 = are x.0 h.0 (found_member R total (x ∷ run) up x (inl refl) ∙ ap Some h.1) in
              ap (λ o. settled (option_or (find R k (kept run)) (find R k layers))
              (find R k (replaced_by key R (sunk_of true o ++ down run) pairs))) h.1
              ∙ sunk_first k x.0 h.0 run
              (subst (λ o. Rise R ((x.0, o) ∷ run)) h.1 up) own (none_there _ h.2) h.3 rest
              ∙ ap (λ o. settled (option_or (find R k ((x.0, o) ∷ run)) (find R k layers)) (find R k pairs)) (sym h.1)
        ] refl
      where
        none_sunk : (o : Option V) → sunk_of false o ≡ []
        none_sunk None = refl
        none_sunk (Some v) = refl

        keyed_rest : (x : K × Option V) (run : List (K × Option V)) → Rise R (x ∷ run) → AreKeyed key R (x ∷ run)
            → AreKeyed key R run
        keyed_rest x run up are k v e =
            let m = member_found R k run (Some v) e in
            are m.0 v (found_member R total (x ∷ run) up (m.0, Some v) (inr m.1)) ∙ sym (exact k m.0 m.2)

    -- some of a run in the floor, and the others over it, are the run over it
    pub sunken : (run : List (K × Option V)) → Rise R run → AreKeyed key R run → Rise R pairs
        → over R (put_all R (filter (stays R layers pairs) run) layers)
        (replaced_by key R (sunk R layers pairs run) pairs)
        ≡ over R (put_all R run layers) pairs
    sunken run up are floor =
        same_found R total exact
        (over R (put_all R (kept run) layers) (replaced_by key R (down run) pairs))
        (over R (put_all R run layers) pairs)
        (over_rises R total (put_all R (kept run) layers) (replaced_by key R (down run) pairs)
        (replaced_all_rises (down run) pairs floor))
        (over_rises R total (put_all R run layers) pairs floor)
        (λ k. find_over R total k (put_all R (kept run) layers) (replaced_by key R (down run) pairs)
        ∙ ap (λ o. settled o (find R k (replaced_by key R (down run) pairs)))
        (find_put_all R total k (kept run) layers)
        ∙ both_found run up are k
        ∙ ap (λ o. settled o (find R k pairs)) (sym (find_put_all R total k run layers))
        ∙ sym (find_over R total k (put_all R run layers) pairs))

  -- the same, for what equals these
  pub sunken_as : (run layers : List (K × Option V)) (floor : List (K × V)) (es : List (K × Option V))
      (here : List (K × V)) (new rest : List (K × Option V)) (values : List V) → es ≡ run → here ≡ floor
      → rest ≡ filter (stays R layers here) es → values ≡ sunk R layers here es → new ≡ put_all R rest layers
      → Rise R run → AreKeyed key R run → AreKeyed key R layers → Rise R floor
      → AreKeyed key R new × (over R new (replaced_by key R values floor) ≡ over R (put_all R run layers) floor)
  sunken_as run layers floor es here new rest values e f r v n up own others floor_up =
      let is : new ≡ put_all R (filter (stays R layers floor) run) layers
      = n ∙ ap (λ l. put_all R l layers) (r ∙ (λ i. filter (stays R layers (f i)) (e i))) in
      let told : values ≡ sunk R layers floor run = v ∙ (λ i. sunk R layers (f i) (e i)) in (
        subst (AreKeyed key R) (sym is) (keyed_all (filter (stays R layers floor) run) layers
            (keyed_some (stays R layers floor) run up own) others),
        (λ i. over R (is i) (replaced_by key R (told i) floor)) ∙ sunken layers floor run up own floor_up,
      )

  -- changes stand at their keys
  pub changes_keyed : (changes : List (Change K V)) → AreKeyed key R (map (change_pair key) changes)
  changes_keyed [] k v e = cc
  changes_keyed (Put w ∷ changes) k v e =
      elim (eq_by_cmp R k (key w)) as (λ b. eq_by_cmp R k (key w) ≡ b
      → cond b (Some (Some w)) (find R k (map (change_pair key) changes)) ≡ Some (Some v) → key v ≡ k) [
        | true ↦ λ t is. let same : w ≡ v = cc in
            ap key (sym same) ∙ sym (exact k (key w) ((Equal-is _).0 t))
        | false ↦ λ t is. changes_keyed changes k v is
      ] refl e
  changes_keyed (Gone q ∷ changes) k v e =
      elim (eq_by_cmp R k q) as (λ b. cond b (Some None) (find R k (map (change_pair key) changes)) ≡ Some (Some v)
      → key v ≡ k) [
        | true ↦ λ is. cc
        | false ↦ λ is. changes_keyed changes k v is
      ] e
