-- Contexts that were written with their sources, and the form in which they are written.
use Rattle.std.proofs.Common.{◌≡◌, ◌≤◌, ◌<◌, ◌+◌, ◌^◌, List, [], ◌∷◌, ◌++◌, length, map, refl, sym, ap, ◌∙◌, subst}
use Rattle.std.proofs.Common.{inl, inr, true, arith, IsTrue, Contains, length-append}
use Rattle.std.specs.Cmp.{IsTotalOrder}
use Rattle.std.specs.List.{AllByRecursion}
use Rattle.std.proofs.lemmas.List.{length-map, map-append}
use Rattle.road_base.specs.Objects.{Objects}
use Rattle.road_model.specs.declared.lists.PieceName.{PieceName}
use Rattle.road_model.specs.declared.lists.TurnArc.{TurnArc}
use Rattle.road_model.specs.declared.lists.Context.{Context}
use Rattle.road_model.specs.Rules.{Rules}
use Rattle.road_model.specs.Pieces.{Span, IsPiece}
use Rattle.road_model.specs.Network.{IsContext}
use Rattle.ordered_lists.specs.Orders.{Lists, rises}
use Rattle.road_model.specs.Orders.{name_cmp, names_cmp}
use Rattle.road_model.specs.Blocks.{name_of, IsArcEntry, IsSourceEntry, IsContextEntry}
use Rattle.road_model.specs.Format.{IsContextForm, begins_alone}
use Rattle.road_model.specs.Naming.{OnePiece}
use Rattle.expanded_graph.specs.Contexts.{IsBareContext}
use Rattle.ordered_lists.proofs.AscendingLists.{lists_unique}
use Rattle.ordered_lists.proofs.ListMembers.{In, push_cases, in_map, from_map, in_from_contains, contains_from_in}
use Rattle.road_model.proofs.LongestContext.{Every-front}
use Rattle.road_model.proofs.WalkLists.{context_pieces, some_context}
use Rattle.expanded_graph.proofs.DistinctNames.{each_member}
use Rattle.expanded_graph.proofs.ContextStates.{same_pieces}

abbrev pub names_of : List Context → List (List PieceName)
names_of cs = map (λ c. c.before) cs

-- one context more was written
pub names_more : (front es fs : List Context) (e f : Context) → names_of es ≡ names_of front → f.before ≡ e.before
    → fs ≡ es ++ f ∷ [] → names_of fs ≡ names_of (front ++ e ∷ [])
names_more front es fs e f so_far same grown =
    ap names_of grown ∙ (map-append (λ (c : Context). c.before) es (f ∷ [])
    ∙ (ap (λ l. l ++ f.before ∷ []) so_far ∙ (ap (λ n. names_of front ++ n ∷ []) same
    ∙ sym (map-append (λ (c : Context). c.before) front (e ∷ [])))))

pub each_more : (Is : Context → Type 0) (es fs : List Context) (f : Context) → ((e : Context) → In e es → Is e) → Is f
    → fs ≡ es ++ f ∷ [] → (e : Context) → In e fs → Is e
each_more Is es fs f so_far is grown e i = elim (push_cases es f e (subst (In e) grown i))
    [ inl j ↦ so_far e j | inr same ↦ subst Is (sym same) is ]

-- contexts with the names of others, of which the first is alone
pub begins_same : (es fs : List Context) → names_of es ≡ names_of fs → begins_alone fs → begins_alone es
begins_same [] [] same alone = alone
begins_same [] (f ∷ fs) same alone = cc
begins_same (e ∷ es) [] same alone = absurd alone
begins_same (e ∷ es) (f ∷ fs) same alone = let head : e.before ≡ f.before = cc in head ∙ alone

module _ (M : Objects) (P : Rules) (one : OnePiece M P) (names : IsTotalOrder name_cmp)
    (lists : IsTotalOrder names_cmp) (p : Span) where
  -- a context is written in one way
  one_entry : (e f : Context) → IsContextEntry M P p e → IsContextEntry M P p f → e.before ≡ f.before → e ≡ f
  one_entry e f h k same =
      let before : h.before ≡ k.before =
      same_pieces M P one h.before k.before
      (Every-front (IsPiece M P) h.before (p ∷ []) (context_pieces M P (h.before ++ p ∷ []) h.context))
      (Every-front (IsPiece M P) k.before (p ∷ []) (context_pieces M P (k.before ++ p ∷ []) k.context))
      (sym h.named ∙ (same ∙ k.named)) in
      let arcs = lists_unique (λ (a : TurnArc). a.piece) name_cmp names (IsArcEntry M P (k.before ++ p ∷ [])) e.arcs
      f.arcs (subst (λ b. Lists (λ a. a.piece) name_cmp (IsArcEntry M P (b ++ p ∷ [])) e.arcs) before h.arcs)
      k.arcs in
      let sources = lists_unique (λ (s : List PieceName). s) names_cmp lists
      (IsSourceEntry M P p (k.before ++ p ∷ [])) e.sources f.sources
      (subst (λ b. Lists (λ s. s) names_cmp (IsSourceEntry M P p (b ++ p ∷ [])) e.sources) before h.sources)
      k.sources in
      λ i. record { before = same i; arcs = arcs i; sources = sources i }

  -- each of the contexts was written with its sources
  pub all_written : (cs es : List Context) → Lists (λ c. c.before) names_cmp (IsBareContext M P p) cs
      → names_of es ≡ names_of cs → ((e : Context) → In e es → IsContextEntry M P p e)
      → Lists (λ c. c.before) names_cmp (IsContextEntry M P p) es
  all_written cs es bare same each = record {
    ascending = ap (rises names_cmp) same ∙ bare.ascending;
    sound = λ e has. each e (in_from_contains es e has);
    complete = λ e k.
        let b : Context = record { before = e.before; arcs = e.arcs; sources = [] } in
        let is : IsBareContext M P p b =
        record { before = k.before; context = k.context; named = k.named; arcs = k.arcs; none = refl } in
        let there = in_map (λ (c : Context). c.before) cs b (in_from_contains cs b (bare.complete b is)) in
        let f = from_map (λ (c : Context). c.before) es e.before (subst (In e.before) (sym same) there) in
        subst (Contains es) (one_entry f.0 e (each f.0 f.1) k (sym f.2)) (contains_from_in es f.0 f.1);
  }

  -- ---- forms

  module _ (short : (c : List Span) → IsContext M P c → length c ≤ 1026) where
    source : (e : Context) (h : IsContextEntry M P p e) (s : List PieceName) → In s e.sources
        → (1 ≤ length s) × (length e.before ≤ length s) × (length s < 2 ^ 32)
    source e h s i =
        let k = h.sources.sound s (contains_from_in e.sources s i) in
        let low = some_context M P k.from k.arc.from in
        let few = short k.from k.arc.from in
        let l : length s ≡ length k.from = ap length k.named ∙ length-map k.from name_of in
        let b : length e.before ≡ length h.before = ap length h.named ∙ length-map h.before name_of in
        let whole = ap length k.arc.to.is in
        let f = length-append k.from (p ∷ []) in
        let g = length-append k.arc.to.front (h.before ++ p ∷ []) in
        let t = length-append h.before (p ∷ []) in
        (omega (arith, l), omega (arith, l, b, whole, f, g, t), omega (arith, l))

    target : (e : Context) (h : IsContextEntry M P p e) (a : TurnArc) → In a e.arcs → (1 ≤ a.length)
        × (a.length ≤ length e.before + 2)
    target e h a i =
        let k = h.arcs.sound a (contains_from_in e.arcs a i) in
        let low = some_context M P k.target k.arc.to.holds in
        let whole = ap length k.arc.to.is in
        let l = length-append k.arc.to.front k.target in
        let m = length-append (h.before ++ p ∷ []) (k.piece ∷ []) in
        let n = length-append h.before (p ∷ []) in
        let b : length e.before ≡ length h.before = ap length h.named ∙ length-map h.before name_of in
        let count = k.length_is in
        (omega arith, omega (arith, whole, l, m, n))

    map_itself : (ss : List (List PieceName)) → map (λ s. s) ss ≡ ss
    map_itself [] = refl
    map_itself (s ∷ ss) = ap (λ l. s ∷ l) (map_itself ss)

    form : (e : Context) → IsContextEntry M P p e → IsContextForm true e
    form e h =
        let few = short (h.before ++ p ∷ []) h.context in
        let n = length-append h.before (p ∷ []) in
        let b : length e.before ≡ length h.before = ap length h.named ∙ length-map h.before name_of in
        record {
          short = omega arith;
          arcs_ascend = h.arcs.ascending;
          targets = each_member (λ a. (1 ≤ a.length) × (a.length ≤ length e.before + 2)) e.arcs (target e h);
          sources = λ sourced. record {
            some =
                each_member (λ s. (1 ≤ length s) × (length e.before ≤ length s) × (length s < 2 ^ 32)) e.sources
                (source e h);
            ascend = subst (λ l. IsTrue (rises names_cmp l)) (map_itself e.sources) h.sources.ascending;
          };
        }

    pub forms : (es : List Context) → Lists (λ c. c.before) names_cmp (IsContextEntry M P p) es
        → AllByRecursion (IsContextForm true) es
    forms es listed = each_member (IsContextForm true) es (λ e i. form e (listed.sound e (contains_from_in es e i)))
