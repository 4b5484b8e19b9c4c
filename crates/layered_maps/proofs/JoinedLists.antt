-- Lists in parts: which item stands at a position, and what is left where one is put in the place of another.
use Rattle.std.proofs.Common.{◌≡◌, ◌<◌, ◌≤◌, ◌+◌, ◌*◌, ◌/◌, ◌%◌, ℕ, zero, suc, List, [], ◌∷◌, ◌++◌, map, length}
use Rattle.std.proofs.Common.{Option, Some, None, refl, sym, ap, ◌∙◌, subst, arith, slice_get, slice_set}
use Rattle.std.proofs.Common.{suc-mul, zero-mul, div-add-mod'}
use Rattle.std.proofs.Common.{append_assoc, append-nil, drop, get_or, Result, Ok, Err, OnOk}
use Rattle.std.proofs.lemmas.List.{drop-drop, drop_all}
use Rattle.std.proofs.lemmas.Nat.{mod_below}
use Rattle.std.proofs.lemmas.Option.{slice_get-map, slice_get_past, slice_get_within}
use Rattle.std.specs.Option.{option_map}
use Rattle.std.specs.declared.rc.Rc.{Rc}
use Rattle.layered_maps.specs.Layers.{values_of}
use Rattle.layered_maps.specs.PartLists.{AreFull, AreWhole, IsPutAt, IsPutIn, joined, leaf_lists}

-- the position of the item at a place of a part
abbrev pub place : ℕ → ℕ → ℕ → ℕ
place n zero r = r
place n (suc q) r = n + place n q r

-- the item of the part, if there is one
abbrev pub at_part : {A : Type 0} → Option (List A) → ℕ → Option A
at_part None r = None
at_part (Some x) r = slice_get x r

module _ {A : Type 0} where
  pub joined_more : (xs : List (List A)) (x : List A) → joined (xs ++ x ∷ []) ≡ joined xs ++ x
  joined_more [] x = append-nil x
  joined_more (y ∷ xs) x = ap (λ l. y ++ l) (joined_more xs x) ∙ sym (append_assoc y (joined xs) x)

  pub whole_more : (n : ℕ) (xs : List (List A)) (x : List A) → AreWhole n xs → length x ≡ n → AreWhole n (xs ++ x ∷ [])
  whole_more n [] x h e = (e, tt)
  whole_more n (y ∷ xs) x h e = (h.0, whole_more n xs x h.1 e)

  -- whole parts, and a last one that may be shorter
  pub full_last : (n : ℕ) (xs : List (List A)) (x : List A) → AreWhole n xs → length x ≤ n → AreFull n (xs ++ x ∷ [])
  full_last n [] x h l = (l, tt)
  full_last n (y ∷ []) x h l = (h.0, (l, tt))
  full_last n (y ∷ z ∷ xs) x h l = (h.0, full_last n (z ∷ xs) x h.1 l)

  get_front : (x l : List A) (r : ℕ) → r < length x → slice_get (x ++ l) r ≡ slice_get x r
  get_front [] l r h = absurd (omega (arith, h))
  get_front (a ∷ x) l zero h = refl
  get_front (a ∷ x) l (suc r) h = get_front x l r (omega (arith, h))

  get_behind : (x l : List A) (i j : ℕ) → i ≡ length x + j → slice_get (x ++ l) i ≡ slice_get l j
  get_behind [] l i j e = ap (slice_get l) (omega (arith, e))
  get_behind (a ∷ x) l zero j e = absurd (omega (arith, e))
  get_behind (a ∷ x) l (suc i) j e = get_behind x l i j (omega (arith, e))

  set_front : (x l : List A) (r : ℕ) (v : A) → r < length x → slice_set x r v ++ l ≡ slice_set (x ++ l) r v
  set_front [] l r v h = absurd (omega (arith, h))
  set_front (a ∷ x) l zero v h = refl
  set_front (a ∷ x) l (suc r) v h = ap (λ m. a ∷ m) (set_front x l r v (omega (arith, h)))

  set_behind : (x l : List A) (i j : ℕ) (v : A) → i ≡ length x + j → x ++ slice_set l j v ≡ slice_set (x ++ l) i v
  set_behind [] l i j v e = ap (λ k. slice_set l k v) (omega (arith, e))
  set_behind (a ∷ x) l zero j v e = absurd (omega (arith, e))
  set_behind (a ∷ x) l (suc i) j v e = ap (λ m. a ∷ m) (set_behind x l i j v (omega (arith, e)))

  pub set_long : (x : List A) (r : ℕ) (v : A) → length (slice_set x r v) ≡ length x
  set_long [] r v = refl
  set_long (a ∷ x) zero v = refl
  set_long (a ∷ x) (suc r) v = ap suc (set_long x r v)

  pub joined_get : (n : ℕ) (xs : List (List A)) → AreFull n xs → (q r : ℕ) → r < n
      → slice_get (joined xs) (place n q r) ≡ at_part (slice_get xs q) r
  joined_get n [] full q r l = refl
  joined_get n (x ∷ []) full zero r l = ap (λ m. slice_get m r) (append-nil x)
  joined_get n (x ∷ y ∷ xs) full zero r l = get_front x (joined (y ∷ xs)) r (omega (arith, l, full.0))
  joined_get n (x ∷ []) full (suc q) r l =
      ap (λ m. slice_get m (n + place n q r)) (append-nil x)
      ∙ slice_get_past x (n + place n q r) (omega (arith, full.0))
  joined_get n (x ∷ y ∷ xs) full (suc q) r l =
      get_behind x (joined (y ∷ xs)) (n + place n q r) (place n q r) (omega (arith, full.0))
      ∙ joined_get n (y ∷ xs) full.1 q r l

  pub joined_set : (n : ℕ) (xs : List (List A)) → AreFull n xs → (q r : ℕ) (x : List A) (v : A)
      → slice_get xs q ≡ Some x → r < length x
      → joined (slice_set xs q (slice_set x r v)) ≡ slice_set (joined xs) (place n q r) v
  joined_set n [] full q r x v e l = cc
  joined_set n (y ∷ xs) full zero r x v e l =
      let same : y ≡ x = cc in
      ap (λ z. slice_set z r v ++ joined xs) (sym same)
      ∙ set_front y (joined xs) r v (subst (λ z. r < length z) (sym same) l)
  joined_set n (y ∷ []) full (suc q) r x v e l = cc
  joined_set n (y ∷ z ∷ xs) full (suc q) r x v e l =
      ap (λ m. y ++ m) (joined_set n (z ∷ xs) full.1 q r x v e l)
      ∙ set_behind y (joined (z ∷ xs)) (n + place n q r) (place n q r) v (omega (arith, full.0))

  pub full_set : (n : ℕ) (xs : List (List A)) → AreFull n xs → (q : ℕ) (x new : List A) → slice_get xs q ≡ Some x
      → length new ≡ length x → AreFull n (slice_set xs q new)
  full_set n [] full q x new e l = tt
  full_set n (y ∷ []) full zero x new e l =
      let same : y ≡ x = cc in (subst (λ k. k ≤ n) (sym (l ∙ ap length (sym same))) full.0, tt)
  full_set n (y ∷ z ∷ xs) full zero x new e l = let same : y ≡ x = cc in (l ∙ ap length (sym same) ∙ full.0, full.1)
  full_set n (y ∷ []) full (suc q) x new e l = full
  full_set n (y ∷ z ∷ xs) full (suc zero) x new e l = (full.0, full_set n (z ∷ xs) full.1 zero x new e l)
  full_set n (y ∷ z ∷ xs) full (suc (suc q)) x new e l = (full.0, full_set n (z ∷ xs) full.1 (suc q) x new e l)

pub on_ok : {A E P : Type 0} (r : Result A E) → P → OnOk r P
on_ok (Ok x) p = p
on_ok (Err e) p = tt

module _ {A : Type 0} where
  get_drop : (l : List A) (r k : ℕ) → slice_get (drop r l) k ≡ slice_get l (r + k)
  get_drop l zero k = ap (slice_get l) (omega arith)
  get_drop [] (suc r) k = refl
  get_drop (x ∷ l) (suc r) k =
      get_drop l r k ∙ ap (slice_get (x ∷ l)) (let e : suc (r + k) ≡ suc r + k = omega arith in e)

  -- what is left from a position on
  pub first_left : (l : List A) (at : ℕ) → slice_get l at ≡ slice_get (drop at l) 0
  first_left l at = ap (slice_get l) (let e : at ≡ at + 0 = omega arith in e) ∙ sym (get_drop l at 0)

  pub one_left : (l : List A) (at : ℕ) → drop (at + 1) l ≡ drop 1 (drop at l)
  one_left l at = sym (drop-drop 1 at l)

  pub none_left : (l : List A) (at : ℕ) → length l ≤ at → drop at l ≡ drop 1 (drop at l)
  none_left l at h = drop_all at l h ∙ ap (drop 1) (sym (drop_all at l h))

  pub head_split : (l : List A) (v : A) → Some v ≡ slice_get l 0 → l ≡ v ∷ drop 1 l
  head_split [] v e = cc
  head_split (x ∷ l) v e = let same : x ≡ v = cc in ap (λ y. y ∷ l) same

  pub head_none : (l : List A) → None ≡ slice_get l 0 → l ≡ []
  head_none [] e = refl
  head_none (x ∷ l) e = cc

  pub held_at : (l : List A) (at : ℕ) (x : A) → at < length l → x ≡ get_or l at x → slice_get l at ≡ Some x
  held_at [] at x h e = absurd (omega (arith, h))
  held_at (y ∷ l) zero x h e = ap Some (sym e)
  held_at (y ∷ l) (suc at) x h e = held_at l at x (omega (arith, h)) e

  pub set_same : (l : List A) (at : ℕ) (x : A) → slice_get l at ≡ Some x → slice_set l at x ≡ l
  set_same [] at x e = refl
  set_same (y ∷ l) zero x e = let same : y ≡ x = cc in ap (λ z. z ∷ l) (sym same)
  set_same (y ∷ l) (suc at) x e = ap (λ m. y ∷ m) (set_same l at x e)

  full_at : (n : ℕ) (xs : List (List A)) → AreFull n xs → (q : ℕ) (x : List A) → slice_get xs q ≡ Some x
      → length x ≤ n
  full_at n [] full q x e = cc
  full_at n (y ∷ []) full zero x e = let same : y ≡ x = cc in subst (λ z. length z ≤ n) same full.0
  full_at n (y ∷ []) full (suc q) x e = cc
  full_at n (y ∷ z ∷ xs) full zero x e =
      let same : y ≡ x = cc in subst (λ z. length z ≤ n) same (omega (arith, full.0))
  full_at n (y ∷ z ∷ xs) full (suc q) x e = full_at n (z ∷ xs) full.1 q x e

-- the position by the product, and that of what stands at a quotient and a remainder
placed : (n q r : ℕ) → place n q r ≡ q * n + r
placed n zero r = omega (arith, zero-mul n)
placed n (suc q) r = ap (λ i. n + i) (placed n q r) ∙ omega (arith, suc-mul q n)

is_placed : (n at : ℕ) → place n (at / n) (at % n) ≡ at
is_placed n at = placed n (at / n) (at % n) ∙ div-add-mod' at n

module _ {A : Type 0} (xs : List (List A)) (at : ℕ) where
  module _ (n : ℕ) (some : 0 < n) (full : AreFull n xs) where
    pub get_placed : slice_get (joined xs) at ≡ at_part (slice_get xs (at / n)) (at % n)
    get_placed = ap (slice_get (joined xs)) (sym (is_placed n at))
        ∙ joined_get n xs full (at / n) (at % n) (mod_below at n some)

    -- items side by side in a part, from a position on
    pub run_placed : (x run : List A) → slice_get xs (at / n) ≡ Some x → run ≡ drop (at % n) x
        → (k : ℕ) (v : A) → slice_get run k ≡ Some v → slice_get (joined xs) (at + k) ≡ Some v
    run_placed x run e is k v h =
        let there : slice_get x (at % n + k) ≡ Some v
        = sym (get_drop x (at % n) k) ∙ ap (λ l. slice_get l k) (sym is) ∙ h in
        let within : at % n + k < n
        = omega (arith, slice_get_within x (at % n + k) v there, full_at n xs full (at / n) x e) in
        let place_is : at + k ≡ place n (at / n) (at % n + k)
        = sym (placed n (at / n) (at % n + k) ∙ omega (arith, div-add-mod' at n)) in
        ap (slice_get (joined xs)) place_is ∙ joined_get n xs full (at / n) (at % n + k) within
        ∙ ap (λ o. at_part o (at % n + k)) e ∙ there

    pub set_placed : (x new : List A) (v : A) → slice_get xs (at / n) ≡ Some x → at % n < length x
        → new ≡ slice_set x (at % n) v → (joined (slice_set xs (at / n) new) ≡ slice_set (joined xs) at v)
        × AreFull n (slice_set xs (at / n) new)
    set_placed x new v e l is = (
      ap (λ z. joined (slice_set xs (at / n) z)) is ∙ joined_set n xs full (at / n) (at % n) x v e l
          ∙ ap (λ i. slice_set (joined xs) i v) (is_placed n at),
      full_set n xs full (at / n) x new e (ap length is ∙ set_long x (at % n) v),
    )

-- ---- what the parts hold

map_joined : {A B : Type 0} (f : A → B) (xs ys : List A) → map f (xs ++ ys) ≡ map f xs ++ map f ys
map_joined f [] ys = refl
map_joined f (x ∷ xs) ys = ap (λ l. f x ∷ l) (map_joined f xs ys)

values_long : {A Z : Type 0} (xs : List (Rc A Z)) → length (values_of xs) ≡ length xs
values_long [] = refl
values_long (x ∷ xs) = ap suc (values_long xs)

values_set : {A Z : Type 0} (xs : List (Rc A Z)) (q : ℕ) (b : Rc A Z)
    → values_of (slice_set xs q b) ≡ slice_set (values_of xs) q b.value
values_set [] q b = refl
values_set (x ∷ xs) zero b = refl
values_set (x ∷ xs) (suc q) b = ap (λ l. x.value ∷ l) (values_set xs q b)

module _ {A Y Z : Type 0} where
  pub leaves_joined : (branches : List (Rc (List (Rc A Z)) Y))
      → joined (leaf_lists branches) ≡ values_of (joined (values_of branches))
  leaves_joined [] = refl
  leaves_joined (b ∷ branches) =
      ap (λ l. values_of b.value ++ l) (leaves_joined branches)
      ∙ sym (map_joined (λ v. v.value) b.value (joined (values_of branches)))

  leaves_of : (branches : List (Rc (List (Rc A Z)) Y)) → leaf_lists branches ≡ map values_of (values_of branches)
  leaves_of [] = refl
  leaves_of (b ∷ branches) = ap (λ l. values_of b.value ∷ l) (leaves_of branches)

  pub same_leaves : (new old : List (Rc (List (Rc A Z)) Y)) → values_of new ≡ values_of old
      → leaf_lists new ≡ leaf_lists old
  same_leaves new old e = leaves_of new ∙ ap (map values_of) e ∙ sym (leaves_of old)

  pub leaves_full : (n : ℕ) (branches : List (Rc (List (Rc A Z)) Y)) → AreFull n (values_of branches)
      → AreFull n (leaf_lists branches)
  leaves_full n [] full = tt
  leaves_full n (b ∷ []) full = (subst (λ k. k ≤ n) (sym (values_long b.value)) full.0, tt)
  leaves_full n (b ∷ c ∷ branches) full = (values_long b.value ∙ full.0, leaves_full n (c ∷ branches) full.1)

  leaf_set : (branches : List (Rc (List (Rc A Z)) Y)) (q : ℕ) (b : Rc (List (Rc A Z)) Y)
      → leaf_lists (slice_set branches q b) ≡ slice_set (leaf_lists branches) q (values_of b.value)
  leaf_set [] q b = refl
  leaf_set (x ∷ branches) zero b = refl
  leaf_set (x ∷ branches) (suc q) b = ap (λ l. values_of x.value ∷ l) (leaf_set branches q b)

  module _ (branches : List (Rc (List (Rc A Z)) Y)) (full : AreFull 64 (leaf_lists branches)) (at : ℕ) where
    -- the leaf at a position, in the branch that has it
    pub leaf_there : (b : Rc (List (Rc A Z)) Y) → slice_get branches (at / 64) ≡ Some b
        → slice_get (values_of b.value) (at % 64) ≡ slice_get (joined (leaf_lists branches)) at
    leaf_there b e =
        sym (get_placed (leaf_lists branches) at 64 (omega arith) full
        ∙ ap (λ o. at_part o (at % 64)) (slice_get-map (λ c. values_of c.value) branches (at / 64)
        ∙ ap (option_map (λ c. values_of c.value)) e))

    pub no_leaf : slice_get branches (at / 64) ≡ None → None ≡ slice_get (joined (leaf_lists branches)) at
    no_leaf e =
        sym (get_placed (leaf_lists branches) at 64 (omega arith) full
        ∙ ap (λ o. at_part o (at % 64)) (slice_get-map (λ c. values_of c.value) branches (at / 64)
        ∙ ap (option_map (λ c. values_of c.value)) e))

  -- another branch in the place of one
  module _ (branches new : List (Rc (List (Rc A Z)) Y)) (at : ℕ) (b c : Rc (List (Rc A Z)) Y)
      (there : slice_get branches (at / 64) ≡ Some b) (set : new ≡ slice_set branches (at / 64) c) where
    held : slice_get (leaf_lists branches) (at / 64) ≡ Some (values_of b.value)
    held = slice_get-map (λ x. values_of x.value) branches (at / 64) ∙ ap (option_map (λ x. values_of x.value)) there

    now : leaf_lists new ≡ slice_set (leaf_lists branches) (at / 64) (values_of c.value)
    now = ap leaf_lists set ∙ leaf_set branches (at / 64) c

    -- with the same leaves
    pub same_branch : values_of c.value ≡ values_of b.value → leaf_lists new ≡ leaf_lists branches
    same_branch same =
        now ∙ ap (slice_set (leaf_lists branches) (at / 64)) same
        ∙ set_same (leaf_lists branches) (at / 64) (values_of b.value) held

-- another leaf in the place of one
module _ {A Z : Type 0} (leaves new : List (Rc A Z)) (at : ℕ) (b c : Rc A Z) (there : slice_get leaves at ≡ Some b)
    (set : new ≡ slice_set leaves at c) where
  leaf_held : slice_get (values_of leaves) at ≡ Some b.value
  leaf_held = slice_get-map (λ x. x.value) leaves at ∙ ap (option_map (λ x. x.value)) there

  -- of the same values
  pub same_leaf : c.value ≡ b.value → values_of new ≡ values_of leaves
  same_leaf same =
      ap values_of set ∙ values_set leaves at c ∙ ap (slice_set (values_of leaves) at) same
      ∙ set_same (values_of leaves) at b.value leaf_held

module _ {W : Type 0} where
  -- a value put into a leaf
  pub put_leaf : {Z : Type 0} (leaves new : List (Rc (List W) Z)) (at : ℕ) (b c : Rc (List W) Z)
      → slice_get leaves at ≡ Some b → new ≡ slice_set leaves at c → (place : ℕ) (v : W) → place < length b.value
      → c.value ≡ slice_set b.value place v → IsPutIn at place v (values_of leaves) (values_of new)
  put_leaf leaves new at b c there set place v within is =
      subst (λ o. IsPutAt at place v o (values_of leaves) (values_of new)) (sym (leaf_held leaves new at b c there set))
      (within, ap values_of set ∙ values_set leaves at c ∙ ap (slice_set (values_of leaves) at) is)

  -- in the branch of that
  put_64 : (xs : List (List (List W))) → AreFull 64 xs → (i place : ℕ) (v : W) (old new : List (List W))
      → slice_get xs (i / 64) ≡ Some old → IsPutIn (i % 64) place v old new
      → IsPutIn i place v (joined xs) (joined (slice_set xs (i / 64) new)) × AreFull 64 (slice_set xs (i / 64) new)
  put_64 xs full i place v old new e put =
      elim (slice_get old (i % 64)) as (λ o. slice_get old (i % 64) ≡ o → IsPutAt (i % 64) place v o old new
      → IsPutIn i place v (joined xs) (joined (slice_set xs (i / 64) new)) × AreFull 64 (slice_set xs (i / 64) new)) [
        | None ↦ λ t h. absurd h
        | Some values ↦ λ t h.
            let both = set_placed xs i 64 (omega arith) full old new (slice_set values place v) e
            (slice_get_within old (i % 64) values t) h.1 in (
              subst (λ o. IsPutAt i place v o (joined xs) (joined (slice_set xs (i / 64) new)))
                  (sym (get_placed xs i 64 (omega arith) full ∙ ap (λ o. at_part o (i % 64)) e ∙ t)) (h.0, both.0),
              both.1,
            )
      ] refl put

  pub put_branch : {Y Z : Type 0} (branches new : List (Rc (List (Rc (List W) Z)) Y)) (i : ℕ)
      (b c : Rc (List (Rc (List W) Z)) Y) → slice_get branches (i / 64) ≡ Some b → new ≡ slice_set branches (i / 64) c
      → AreFull 64 (leaf_lists branches) → (place : ℕ) (v : W)
      → IsPutIn (i % 64) place v (values_of b.value) (values_of c.value)
      → IsPutIn i place v (joined (leaf_lists branches)) (joined (leaf_lists new)) × AreFull 64 (leaf_lists new)
  put_branch branches new i b c there set full place v put =
      subst (λ l. IsPutIn i place v (joined (leaf_lists branches)) (joined l) × AreFull 64 l)
      (sym (now branches new i b c there set))
      (put_64 (leaf_lists branches) full i place v (values_of b.value) (values_of c.value)
      (held branches new i b c there set) put)

  -- and in the list
  pub put_placed : (n : ℕ) → 0 < n → (xs new : List (List W)) → AreFull n xs → (i : ℕ) (v : W)
      → IsPutIn (i / n) (i % n) v xs new → (joined new ≡ slice_set (joined xs) i v) × AreFull n new
  put_placed n some xs new full i v put =
      elim (slice_get xs (i / n)) as (λ o. slice_get xs (i / n) ≡ o → IsPutAt (i / n) (i % n) v o xs new
      → (joined new ≡ slice_set (joined xs) i v) × AreFull n new) [
        | None ↦ λ t h. absurd h
        | Some values ↦ λ t h.
            let both = set_placed xs i n some full values (slice_set values (i % n) v) v t h.0 refl in
            (ap joined h.1 ∙ both.0, subst (AreFull n) (sym h.1) both.1)
      ] refl put
