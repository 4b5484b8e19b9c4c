-- One context more is written with its sources.
use Rattle.std.proofs.Common.{◌≡◌, List, [], ◌∷◌, ◌++◌, map, sym, ap, ◌∙◌, subst, append_assoc, IsTrue, Contains}
use Rattle.std.specs.Cmp.{IsTotalOrder}
use Rattle.std.specs.FinMap.{IsAntisymmetric}
use Rattle.std.specs.List.Sorted.{IsStableByKey}
use Rattle.road_base.specs.Objects.{Objects}
use Rattle.road_model.specs.declared.lists.Context.{Context}
use Rattle.road_model.specs.Rules.{Rules}
use Rattle.road_model.specs.Pieces.{Span}
use Rattle.ordered_lists.specs.Orders.{Lists, rises}
use Rattle.road_model.specs.Orders.{names_cmp}
use Rattle.road_model.specs.Blocks.{IsContextEntry}
use Rattle.road_model.specs.Naming.{OnePiece}
use Rattle.expanded_graph.specs.declared.sources.Leading.{Leading}
use Rattle.expanded_graph.specs.Contexts.{IsBareContext}
use Rattle.expanded_graph.specs.Sources.{AreLeadingBy}
use Rattle.ordered_lists.proofs.ListMembers.{In, in_end, contains_from_in}
use Rattle.expanded_graph.proofs.SourceContexts.{names_of, names_more, each_more}
use Rattle.expanded_graph.proofs.SourceLists.{source_of, target_of, sources_to, sources_rise, with_its_sources}

-- those of all contexts that come before the rest were written with their sources
pub record Written (M : Objects) (P : Rules) (ls : List Leading) (all front rest es : List Context) : Type 0 where
  pub cut : all ≡ front ++ rest
  pub names : names_of es ≡ names_of front
  pub each : (p : Span) → Lists (λ c. c.before) names_cmp (IsBareContext M P p) all → AreLeadingBy M P p ls
      → (e : Context) → In e es → IsContextEntry M P p e

pub written_more : (M : Objects) (P : Rules) → OnePiece M P → IsTotalOrder names_cmp → IsAntisymmetric names_cmp
    → (ks ls : List Leading) → IsTrue (rises names_cmp (map source_of ks)) → IsStableByKey target_of names_cmp ks ls
    → (all front rest more es fs : List Context) (e f : Context) → Written M P ls all front rest es → rest ≡ e ∷ more
    → f.before ≡ e.before → f.arcs ≡ e.arcs → f.sources ≡ sources_to e.before ls → fs ≡ es ++ f ∷ []
    → Written M P ls all (front ++ e ∷ []) more fs
written_more M P one total ties ks ls up stable all front rest more es fs e f so_far next names arcs sources grown =
    let cut : all ≡ front ++ e ∷ more = so_far.cut ∙ ap (λ l. front ++ l) next in
    let has = subst (λ (l : List Context). Contains l e) (sym cut) (contains_from_in (front ++ e ∷ more) e
    (in_end front e more)) in
    record {
      cut = cut ∙ sym (append_assoc front (e ∷ []) more);
      names = names_more front es fs e f so_far.names names grown;
      each = λ p bare leads.
          each_more (IsContextEntry M P p) es fs f (so_far.each p bare leads)
          (with_its_sources M P one total ties p ls leads e (bare.sound e has) (sources_rise total e.before ks ls up
          stable) f names arcs sources) grown;
    }
