-- The sources of a context, of the arcs by its piece.
use Rattle.std.proofs.Common.{◌≡◌, List, [], ◌∷◌, ◌++◌, map, refl, sym, ap, ◌∙◌, subst, Bool, true, IsTrue, Contains}
use Rattle.std.specs.Ordering.{is_eq}
use Rattle.std.specs.Cmp.{IsTotalOrder, Equal-is}
use Rattle.std.specs.FinMap.{IsAntisymmetric}
use Rattle.std.specs.List.{filter}
use Rattle.std.specs.List.Sorted.{IsStableByKey}
use Rattle.std.proofs.lemmas.Cmp.{tied_itself}
use Rattle.std.proofs.lemmas.List.{same_from_push}
use Rattle.road_base.specs.Objects.{Objects}
use Rattle.road_model.specs.declared.lists.PieceName.{PieceName}
use Rattle.road_model.specs.declared.lists.TurnArc.{TurnArc}
use Rattle.road_model.specs.declared.lists.Context.{Context}
use Rattle.road_model.specs.Rules.{Rules}
use Rattle.road_model.specs.Pieces.{Span, IsPiece}
use Rattle.road_model.specs.Contexts.{Every}
use Rattle.road_model.specs.Network.{IsContext, IsArc}
use Rattle.ordered_lists.specs.Orders.{Lists, rises}
use Rattle.road_model.specs.Orders.{name_cmp, names_cmp}
use Rattle.road_model.specs.Blocks.{name_of, IsArcEntry, IsSourceEntry, IsContextEntry}
use Rattle.road_model.specs.Naming.{OnePiece}
use Rattle.expanded_graph.specs.declared.sources.Leading.{Leading}
use Rattle.expanded_graph.specs.Contexts.{IsBareContext}
use Rattle.expanded_graph.specs.Sources.{AreLeadingBy, AreOneBySource, IsLeading, same_names}
use Rattle.ordered_lists.proofs.AscendingLists.{rises_kept}
use Rattle.ordered_lists.proofs.FilteredLists.{contains_filter, contains_from_filter}
use Rattle.ordered_lists.proofs.ListMembers.{contains_map, contains_from_map}
use Rattle.ordered_lists.proofs.SortedParts.{kept_by_sort}
use Rattle.road_model.proofs.LongestContext.{Every-front}
use Rattle.road_model.proofs.WalkLists.{context_pieces}
use Rattle.expanded_graph.proofs.ContextStates.{same_pieces}

abbrev pub target_of : Leading → List PieceName
target_of l = l.before

abbrev pub source_of : Leading → List PieceName
source_of l = l.source

abbrev leads_to : List PieceName → Leading → Bool
leads_to names l = same_names l.before names

-- the sources of the arcs to the context with these names before its piece
abbrev pub sources_to : List PieceName → List Leading → List (List PieceName)
sources_to names ls = map source_of (filter (leads_to names) ls)

map_itself : {N : Type 0} (xs : List N) → map (λ x. x) xs ≡ xs
map_itself [] = refl
map_itself (x ∷ xs) = ap (λ l. x ∷ l) (map_itself xs)

-- sorted by their sources, and then by their targets
pub sources_rise : IsTotalOrder names_cmp → (names : List PieceName) (ls ms : List Leading)
    → IsTrue (rises names_cmp (map source_of ls)) → IsStableByKey target_of names_cmp ls ms
    → IsTrue (rises names_cmp (sources_to names ms))
sources_rise total names ls ms up stable =
    subst (λ l. IsTrue (rises names_cmp (map source_of l)))
    (kept_by_sort target_of names_cmp total (record { before = names; source = names }) ls ms stable)
    (rises_kept source_of names_cmp total (leads_to names) ls up)

module _ (M : Objects) (P : Rules) (one : OnePiece M P) (total : IsTotalOrder names_cmp)
    (ties : IsAntisymmetric names_cmp) (p : Span) (ls : List Leading) (each : AreLeadingBy M P p ls) where
  module _ (e : Context) (h : IsBareContext M P p e)
      (up : IsTrue (rises names_cmp (sources_to e.before ls))) where
    abbrev context : List Span
    context = h.before ++ p ∷ []

    front_pieces : (before : List Span) → IsContext M P (before ++ p ∷ []) → Every (IsPiece M P) before
    front_pieces before c =
        Every-front (IsPiece M P) before (p ∷ []) (context_pieces M P (before ++ p ∷ []) c)

    sound : (s : List PieceName) → Contains (sources_to e.before ls) s → IsSourceEntry M P p context s
    sound s has =
        let l = contains_from_map source_of (filter (leads_to e.before) ls) s has in
        let kept = contains_from_filter (leads_to e.before) ls l.0 l.1 in
        let is = (each l.0).0 kept.0 in
        let names : (l.0).before ≡ e.before = ties (l.0).before e.before ((Equal-is _).0 kept.1) in
        let before : is.leads.before ≡ h.before =
        same_pieces M P one is.leads.before h.before (front_pieces is.leads.before is.leads.arc.to.holds)
        (front_pieces h.before h.context) (sym is.leads.target ∙ (names ∙ h.named)) in
        record {
          from = is.from;
          arc = subst (λ b. IsArc M P is.from p (b ++ p ∷ [])) before is.leads.arc;
          named = l.2 ∙ is.leads.named;
        }

    complete : (s : List PieceName) → IsSourceEntry M P p context s → Contains (sources_to e.before ls) s
    complete s k =
        let l : Leading = record { before = map name_of h.before; source = s } in
        let leading : IsLeading M P p l = record {
          from = k.from;
          leads = record { before = h.before; arc = k.arc; target = refl; named = k.named };
        } in
        let tied : leads_to e.before l ≡ true =
        ap (λ n. is_eq (names_cmp n e.before)) (sym h.named) ∙ ap is_eq (tied_itself total e.before) in
        contains_map source_of (filter (leads_to e.before) ls) l
        (contains_filter (leads_to e.before) ls l ((each l).1 leading) tied)

    pub sources_listed : Lists (λ s. s) names_cmp (IsSourceEntry M P p context) (sources_to e.before ls)
    sources_listed = record {
      ascending = subst (λ l. IsTrue (rises names_cmp l)) (sym (map_itself (sources_to e.before ls))) up;
      sound = sound;
      complete = complete;
    }

    -- the context with its sources
    pub with_its_sources : (f : Context) → f.before ≡ e.before → f.arcs ≡ e.arcs → f.sources ≡ sources_to e.before ls
        → IsContextEntry M P p f
    with_its_sources f names arcs sources = record {
      before = h.before;
      context = h.context;
      named = names ∙ h.named;
      arcs = subst (λ (l : List TurnArc). Lists (λ a. a.piece) name_cmp (IsArcEntry M P context) l) (sym arcs) h.arcs;
      sources =
          subst (λ (l : List (List PieceName)). Lists (λ s. s) names_cmp (IsSourceEntry M P p context) l) (sym sources)
          sources_listed;
    }

  -- from one context there is one arc by the piece
  pub one_by_source : ((d b c : List Span) → IsArc M P d p b → IsArc M P d p c → b ≡ c) → AreOneBySource ls
  one_by_source one_arc a b has hers same =
      let h = (each a).0 has in
      let k = (each b).0 hers in
      let from : h.from ≡ k.from =
      same_pieces M P one h.from k.from (context_pieces M P h.from h.leads.arc.from)
      (context_pieces M P k.from k.leads.arc.from) (sym h.leads.named ∙ (same ∙ k.leads.named)) in
      let target = one_arc k.from (h.leads.before ++ p ∷ []) (k.leads.before ++ p ∷ [])
      (subst (λ c. IsArc M P c p (h.leads.before ++ p ∷ [])) from h.leads.arc) k.leads.arc in
      let before = (same_from_push h.leads.before k.leads.before p p target).0 in
      let names : a.before ≡ b.before = h.leads.target ∙ (ap (map name_of) before ∙ sym k.leads.target) in
      λ i. record { before = names i; source = same i }
