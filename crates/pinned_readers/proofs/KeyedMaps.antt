-- Ordered maps by keys that are compared as numbers, seen as finite maps from these numbers.
use Rattle.std.proofs.Common.{arith, ◌≡◌, ◌+◌, ◌∙◌, ℕ, Bool, true, false, cond, List, [], ◌∷◌, map, length}
use Rattle.std.proofs.Common.{refl, sym, ap, subst}
use Rattle.std.specs.Prelude.{Option, Some, None, is_some}
use Rattle.std.specs.Option.{option_map}
use Rattle.std.specs.Ordering.{nat_cmp, is_eq, eq_by_cmp}
use Rattle.std.specs.declared.cmp.Ordering.{Ordering}
use Rattle.std.specs.Cmp.{IsTotalOrder, nat_cmp_total, tied_itself, eq_by_cmp_equiv}
use Rattle.std.specs.List.{IsDistinct}
use Rattle.std.specs.Map.{lookup, keys_of}
use Rattle.std.specs.BTreeMap as tree
use Rattle.std.specs.BTreeMap.{BTreeMap, is_at}
use Rattle.std.specs.FinMap.{FinMap, get, insert, remove, len, find, from_entries, same_map, nat_cmp-IsAntisymmetric}
use Rattle.std.specs.FinMap.{get-from_entries, get-insert, get-remove, len-insert, len-empty}
use Rattle.std.proofs.lemmas.Map.{lookup-none}
use Rattle.std.proofs.lemmas.Map.Entries.{none_past_head}
use Rattle.std.proofs.lemmas.Map.Keys.{IsDistinct-from_sorted, IsDistinct-tail}

map_cond : {X Y : Type 0} (g : X → Y) (b : Bool) (x o : Option X)
    → option_map g (cond b x o) ≡ cond b (option_map g x) (option_map g o)
map_cond g true x o = refl
map_cond g false x o = refl

-- keys that are compared by the numbers of them, where each number is that of a key
pub record NumberedKeys {K : Type 0} (R : K → K → Ordering) (f : K → ℕ) : Type 0 where
  pub total : IsTotalOrder R
  pub by : (a b : K) → R a b ≡ nat_cmp (f a) (f b)
  pub key : ℕ → K
  pub back : (n : ℕ) → f (key n) ≡ n

module _ {K X Y : Type 0} {R : K → K → Ordering} {f : K → ℕ} (keys : NumberedKeys R f) (g : X → Y) where
  -- the entries as a map from numbers
  abbrev pub numbered : List (K × X) → FinMap nat_cmp Y
  numbered es = from_entries (map (λ e. (f e.0, g e.1)) es)

  tied : (a b : K) → is_eq (R a b) ≡ eq_by_cmp nat_cmp (f b) (f a)
  tied a b = ap is_eq (keys.by a b) ∙ (eq_by_cmp_equiv nat_cmp_total).symm (f a) (f b)

  find_numbered : (q : K) (es : List (K × X))
      → find nat_cmp (f q) (map (λ e. (f e.0, g e.1)) es) ≡ option_map g (lookup (is_at (R q)) es)
  find_numbered q [] = refl
  find_numbered q (e ∷ es) =
      ap (λ o. cond (eq_by_cmp nat_cmp (f q) (f e.0)) (Some (g e.1)) o) (find_numbered q es)
      ∙ ap (λ r. cond (is_eq r) (Some (g e.1)) (option_map g (lookup (is_at (R q)) es))) (sym (keys.by q e.0))
      ∙ sym (map_cond g (is_eq (R q e.0)) (Some e.1) (lookup (is_at (R q)) es))

  pub get_numbered : (q : K) (es : List (K × X)) → get (numbered es) (f q) ≡ option_map g (lookup (is_at (R q)) es)
  get_numbered q es = get-from_entries nat_cmp_total (map (λ e. (f e.0, g e.1)) es) (f q) ∙ find_numbered q es

  -- what holds of the number of each key holds of each number
  each : (P : ℕ → Type 0) → ((k : K) → P (f k)) → (n : ℕ) → P n
  each P all n = subst P (keys.back n) (all (keys.key n))

  pub inserted : (m n : BTreeMap K X) (k : K) (v : X) → tree.Updates R m n k (Some v)
      → numbered n.entries ≡ insert (numbered m.entries) (f k) (g v)
  inserted m n k v u =
      same_map nat_cmp_total nat_cmp-IsAntisymmetric (numbered n.entries) (insert (numbered m.entries) (f k) (g v))
      (each (λ q. get (numbered n.entries) q ≡ get (insert (numbered m.entries) (f k) (g v)) q) (λ q.
      get_numbered q n.entries
      ∙ ap (option_map g) (u.0 q)
      ∙ map_cond g (is_eq (R k q)) (Some v) (lookup (is_at (R q)) m.entries)
      ∙ ap (λ b. cond b (Some (g v)) (option_map g (lookup (is_at (R q)) m.entries))) (tied k q)
      ∙ ap (λ o. cond (eq_by_cmp nat_cmp (f q) (f k)) (Some (g v)) o) (sym (get_numbered q m.entries))
      ∙ sym (get-insert nat_cmp_total (numbered m.entries) (f k) (g v) (f q))))

  pub removed : (m n : BTreeMap K X) (k : K) → tree.Updates R m n k None
      → numbered n.entries ≡ remove (numbered m.entries) (f k)
  removed m n k u =
      same_map nat_cmp_total nat_cmp-IsAntisymmetric (numbered n.entries) (remove (numbered m.entries) (f k))
      (each (λ q. get (numbered n.entries) q ≡ get (remove (numbered m.entries) (f k)) q) (λ q.
      get_numbered q n.entries
      ∙ ap (option_map g) (u.0 q)
      ∙ map_cond g (is_eq (R k q)) None (lookup (is_at (R q)) m.entries)
      ∙ ap (λ b. cond b None (option_map g (lookup (is_at (R q)) m.entries))) (tied k q)
      ∙ ap (λ o. cond (eq_by_cmp nat_cmp (f q) (f k)) None o) (sym (get_numbered q m.entries))
      ∙ sym (get-remove nat_cmp_total (numbered m.entries) (f k) (f q))))

  len_distinct : (es : List (K × X)) → IsDistinct (eq_by_cmp R) (keys_of es) → len (numbered es) ≡ length es
  len_distinct [] d = len-empty nat_cmp Y
  len_distinct (e ∷ es) d =
      let none : get (numbered es) (f e.0) ≡ None =
      get_numbered e.0 es
      ∙ ap (option_map g) (lookup-none (is_at (R e.0)) es
      (none_past_head (eq_by_cmp_equiv keys.total) e.0 e es d (ap is_eq (tied_itself keys.total e.0)))) in
      let more : len (numbered (e ∷ es)) ≡ len (numbered es) + 1 =
      len-insert nat_cmp_total (numbered es) (f e.0) (g e.1)
      ∙ ap (λ o. cond (is_some o) (len (numbered es)) (len (numbered es) + 1)) none in
      let rest = len_distinct es (IsDistinct-tail (eq_by_cmp R) e.0 (keys_of es) d) in
      omega (arith, more, rest)

  pub len_numbered : (m : BTreeMap K X) → tree.IsOrdered R m → len (numbered m.entries) ≡ length m.entries
  len_numbered m ordered = len_distinct m.entries (IsDistinct-from_sorted R (keys_of m.entries) ordered)
