-- Contexts as they are written, each in one way, and the numbers that a list gives to them.
use Rattle.std.proofs.Common.{◌≡◌, ℕ, zero, suc, List, [], ◌∷◌, ◌++◌, length, map, Option, Some, None, slice_get}
use Rattle.std.proofs.Common.{Ordering, refl, sym, ap, ◌∙◌, subst, IsTrue, Contains, arith}
use Rattle.std.specs.declared.cmp.Ordering.TheVariants.{Less, Equal, Greater}
use Rattle.std.specs.Ordering.{is_lt}
use Rattle.std.proofs.lemmas.Cmp.{tied_itself}
use Rattle.std.proofs.lemmas.List.{map-append}
use Rattle.road_base.specs.Objects.{Objects}
use Rattle.road_model.specs.declared.lists.PieceName.{PieceName}
use Rattle.road_model.specs.declared.lists.TurnArc.{TurnArc}
use Rattle.road_model.specs.Rules.{Rules}
use Rattle.road_model.specs.Pieces.{Span}
use Rattle.road_model.specs.Network.{IsContext}
use Rattle.road_model.specs.Blocks.{name_of, IsPieceEntry, IsArcEntry, IsSourceEntry}
use Rattle.road_model.specs.Orders.{name_cmp, names_cmp}
use Rattle.road_model.proofs.TotalOrders.{name_cmp_total, names_cmp_total, names_cmp_exact}
use Rattle.road_model.proofs.UniqueEntries.{one_entry}
use Rattle.ordered_lists.specs.Orders.{Lists}
use Rattle.ordered_lists.proofs.AscendingLists.{Climbs, climbs, lists_unique}
use Rattle.ordered_lists.proofs.Comparisons.{not_itself}
use Rattle.ordered_lists.proofs.ListMembers.{in_at}
use Rattle.ordered_lists.proofs.Splits.{same_last}
use Rattle.context_search.specs.Marks.{At, key_of, key_cmp}
use Rattle.context_search.specs.Sought.{IsSpot, AreSpots}
use Rattle.context_search.proofs.SearchKeys.{key_total}
use Rattle.least_cost.specs.Certified.{Agrees}

-- the names of a context's pieces, as it is written
abbrev pub names_in : At → List PieceName
names_in x = x.context.before ++ x.piece.name ∷ []

-- what stands with equal names
abbrev pub pick : Ordering → Option ℕ → Option ℕ → Option ℕ
pick Equal n more = n
pick Less n more = more
pick Greater n more = more

-- what the list has for the context with these names, nothing where there is none
abbrev pub number_by : List At → List (Option ℕ) → List PieceName → Option ℕ
number_by [] list names = None
number_by (x ∷ L) [] names = None
number_by (x ∷ L) (n ∷ list) names = pick (names_cmp (names_in x) names) n (number_by L list names)

-- what the list has for a context, nothing for what is none
abbrev pub numbers_of : List At → List (Option ℕ) → List Span → Option ℕ
numbers_of L list c = number_by L list (map name_of c)

-- ---- a context is written in one way

module _ (M : Objects) (P : Rules) where
  pub spot_names : (c : List Span) (x : At) → IsSpot M P c x → names_in x ≡ map name_of c
  spot_names c x s = ap (λ v. v ++ x.piece.name ∷ []) s.entry.named
      ∙ ap (λ v. map name_of s.entry.before ++ v ∷ []) s.listed.named
      ∙ sym (map-append name_of s.entry.before (s.listed.piece ∷ []))
      ∙ ap (map name_of) (sym s.is)

  pub spot_context : (c : List Span) (x : At) → IsSpot M P c x → IsContext M P c
  spot_context c x s = subst (IsContext M P) (sym s.is) s.entry.context

  pub one_spot : (c : List Span) (x y : At) → IsSpot M P c x → IsSpot M P c y → x ≡ y
  one_spot c x y s t =
      let whole : s.entry.before ++ s.listed.piece ∷ [] ≡ t.entry.before ++ t.listed.piece ∷ [] = sym s.is ∙ t.is in
      let same = same_last s.entry.before s.listed.piece t.entry.before t.listed.piece whole in
      let way : s.way ≡ t.way = sym s.listed.of ∙ ap (λ p. p.way) same.last ∙ t.listed.of in
      let name : x.piece.name ≡ y.piece.name = s.listed.named ∙ ap name_of same.last ∙ sym t.listed.named in
      let piece : x.piece ≡ y.piece = one_entry M P t.way x.piece y.piece
      (subst (λ v. IsPieceEntry M P v x.piece) way s.listed) t.listed name in
      let before : x.context.before ≡ y.context.before =
      s.entry.named ∙ ap (map name_of) same.front ∙ sym t.entry.named in
      let arcs : x.context.arcs ≡ y.context.arcs = lists_unique (λ (a : TurnArc). a.piece) name_cmp name_cmp_total
      (IsArcEntry M P (t.entry.before ++ t.listed.piece ∷ [])) x.context.arcs y.context.arcs
      (subst (λ v. Lists (λ a. a.piece) name_cmp (IsArcEntry M P v) x.context.arcs) whole s.entry.arcs) t.entry.arcs in
      let sources : x.context.sources ≡ y.context.sources = lists_unique (λ (n : List PieceName). n) names_cmp
      names_cmp_total (IsSourceEntry M P t.listed.piece (t.entry.before ++ t.listed.piece ∷ []))
      x.context.sources y.context.sources
      (subst (λ p. Lists (λ n. n) names_cmp (IsSourceEntry M P p (t.entry.before ++ t.listed.piece ∷ []))
      x.context.sources) same.last
      (subst (λ v. Lists (λ n. n) names_cmp (IsSourceEntry M P s.listed.piece v) x.context.sources) whole
      s.entry.sources)) t.entry.sources in
      λ i. record { piece = piece i; context = record { before = before i; arcs = arcs i; sources = sources i } }

  abbrev Spotted : At → Type 0
  Spotted x = (c : List Span) × IsSpot M P c x

  spotted : (L : List At) → AreSpots M P L → Lists key_of key_cmp Spotted L
  spotted L a = record {
    ascending = a.up;
    sound = a.sound;
    complete = λ x s.
        let there = a.complete s.0 (spot_context s.0 x s.1) in
        subst (λ v. Contains L v) (one_spot s.0 there.0 x there.2 s.1) there.1;
  }

  -- all contexts are listed in one way
  pub one_spots : (L K : List At) → AreSpots M P L → AreSpots M P K → L ≡ K
  one_spots L K a b = lists_unique key_of key_cmp (key_total name_cmp_total names_cmp_total) Spotted L K (spotted L a)
      (spotted K b)

-- ---- the numbers of a list

abbrev Rising : List At → Type 0
Rising = Climbs key_of key_cmp (key_total name_cmp_total names_cmp_total)

same_key : (x y : At) → names_in x ≡ names_in y → key_of x ≡ key_of y
same_key x y e =
    let same = same_last x.context.before x.piece.name y.context.before y.piece.name e in
    λ i. (same.last i, same.front i)

pick_more : (r : Ordering) (n more : Option ℕ) → (r ≡ Equal → ⊥) → pick r n more ≡ more
pick_more Equal n more h = absurd (h refl)
pick_more Less n more h = refl
pick_more Greater n more h = refl

apart : (x y : At) → IsTrue (is_lt (key_cmp (key_of x) (key_of y))) → names_cmp (names_in x) (names_in y) ≡ Equal → ⊥
apart x y l e =
    let same = same_key x y (names_cmp_exact (names_in x) (names_in y) e) in
    not_itself key_cmp (key_total name_cmp_total names_cmp_total) (key_of y)
    (subst (λ k. IsTrue (is_lt (key_cmp k (key_of y)))) same l)

-- what stands at the place of a context is what the list has for it
pub number_stands : (L : List At) (list : List (Option ℕ)) → Rising L → length list ≡ length L → (n : ℕ) (x : At)
    → slice_get L n ≡ Some x → slice_get list n ≡ Some (number_by L list (names_in x))
number_stands [] list up l n x h = absurd (cc (h))
number_stands (y ∷ L) [] up l n x h = absurd (omega arith)
number_stands (y ∷ L) (m ∷ list) up l zero x h =
    let same : y ≡ x = cc in
    let tie : names_cmp (names_in y) (names_in x) ≡ Equal =
    subst (λ v. names_cmp (names_in v) (names_in x) ≡ Equal) (sym same) (tied_itself names_cmp_total (names_in x)) in
    ap (λ r. Some (pick r m (number_by L list (names_in x)))) (sym tie)
number_stands (y ∷ L) (m ∷ list) up l (suc n) x h =
    number_stands L list up.1 (omega arith) n x h
    ∙ ap Some (sym (pick_more (names_cmp (names_in y) (names_in x)) m (number_by L list (names_in x))
    (apart y x (up.0 x (in_at L x n h)))))

module _ (M : Objects) (P : Rules) where
  pub number_at_spot : (L : List At) (list : List (Option ℕ)) → AreSpots M P L → length list ≡ length L → (n : ℕ)
      (x : At) (c : List Span) → slice_get L n ≡ Some x → IsSpot M P c x → slice_get list n ≡ Some (numbers_of L list c)
  number_at_spot L list a l n x c h s =
      number_stands L list (climbs key_of key_cmp (key_total name_cmp_total names_cmp_total) L a.up) l n x h
      ∙ ap (λ v. Some (number_by L list v)) (spot_names M P c x s)

  -- a list of as many numbers as there are contexts gives each context one
  pub numbers_agree : (L : List At) (list : List (Option ℕ)) → AreSpots M P L → length list ≡ length L
      → Agrees M P list (numbers_of L list)
  numbers_agree L list a l =
      record { contexts = L; are = a; count = l; entries = number_at_spot L list a l }
