-- The sources that end on a way are the arcs that its block lists, seen from behind.
use Rattle.std.proofs.Common.{◌≡◌, ◌↔◌, ◌+◌, List, [], ◌∷◌, ◌++◌, length, map, sym, ap, ◌∙◌, subst, arith}
use Rattle.std.proofs.Common.{append_assoc, length-append}
use Rattle.std.proofs.lemmas.List.{map-append, length-map}
use Rattle.road_base.specs.Objects.{Objects}
use Rattle.road_model.specs.declared.lists.PieceName.{PieceName}
use Rattle.road_model.specs.declared.blocks.Block.{Block}
use Rattle.road_model.specs.Rules.{Rules}
use Rattle.road_model.specs.Pieces.{Span}
use Rattle.road_model.specs.Network.{IsArc}
use Rattle.road_model.specs.Local.{HasSameArcs}
use Rattle.road_model.specs.Blocks.{IsBlock, IsSourceEntry, name_of}
use Rattle.ordered_lists.proofs.Splits.{Ends, Nil, Last, ends, same_last}
use Rattle.road_model.proofs.WalkLists.{some_context}
use Rattle.touched_ways.specs.Altering.{IsNamedSource, ListsArcFrom}
use Rattle.touched_ways.proofs.LedBlocks.{same_ends, arc_to, listed_arc, arc_listed, turned}

module _ (M : Objects) (P : Rules) where
  -- an arc whose target has these names is the context's source
  by_names : (from : List Span) (t : Span) (c : List Span) (s : List PieceName) (name : PieceName)
      (before : List PieceName) → IsArc M P from t c → s ≡ map name_of from → map name_of c ≡ before ++ name ∷ []
      → Ends c → IsNamedSource M P name before s
  by_names from t c s name before a named same (Nil e) =
      let some = some_context M P c a.to.holds in let none = ap length e in absurd (omega arith)
  by_names from t c s name before a named same (Last f u e) =
      let whole : from ++ t ∷ [] ≡ (a.to.front ++ f) ++ u ∷ [] =
      a.to.is ∙ ap (λ l. a.to.front ++ l) e ∙ sym (append_assoc a.to.front f (u ∷ [])) in
      let last : t ≡ u = (same_last from t (a.to.front ++ f) u whole).last in
      let target : c ≡ f ++ t ∷ [] = e ∙ ap (λ x. f ++ x ∷ []) (sym last) in
      let names : map name_of f ++ name_of t ∷ [] ≡ before ++ name ∷ [] =
      sym (map-append name_of f (t ∷ [])) ∙ sym (ap (map name_of) target) ∙ same in
      let both = same_last (map name_of f) (name_of t) before name names in
      let source : IsSourceEntry M P t (f ++ t ∷ []) s = record {
        from = from;
        arc = subst (IsArc M P from t) target a;
        named = named;
      } in
      record { front = f; piece = t; source = source; behind = sym both.front; named = sym both.last }

  -- an arc that the way's block lists is a source
  from_listed : (b : Block) (name last : PieceName) (before front : List PieceName) → IsBlock M P last.way b
      → ListsArcFrom b.pieces name before (front ++ last ∷ []) → IsNamedSource M P name before (front ++ last ∷ [])
  from_listed b name last before front is l =
      let r = arc_listed M P last.way b is l.last l.front l.arc l.listed in
      let from : front ++ last ∷ [] ≡ map name_of (r.before ++ r.last ∷ []) =
      l.from ∙ ap (λ ns. ns ++ l.last ∷ []) r.behind ∙ ap (λ n. map name_of r.before ++ n ∷ []) r.from
      ∙ sym (map-append name_of r.before (r.last ∷ [])) in
      let whole : map name_of r.arc.to.front ++ map name_of r.target ≡ l.others ++ (before ++ name ∷ []) =
      sym (map-append name_of r.arc.to.front r.target) ∙ ap (map name_of) (sym r.arc.to.is)
      ∙ map-append name_of (r.before ++ r.last ∷ []) (r.piece ∷ [])
      ∙ ap (λ ns. ns ++ name_of r.piece ∷ []) (sym from ∙ l.target)
      ∙ ap (λ n. (l.others ++ before) ++ n ∷ []) (sym r.by ∙ l.by)
      ∙ append_assoc l.others before (name ∷ []) in
      let long : length (map name_of r.target) ≡ length (before ++ name ∷ []) =
      length-map r.target name_of ∙ sym r.length_is ∙ l.length_is ∙ sym (length-append before (name ∷ [])) in
      by_names (r.before ++ r.last ∷ []) r.piece r.target (front ++ last ∷ []) name before r.arc from
      (same_ends (map name_of r.arc.to.front) (map name_of r.target) l.others (before ++ name ∷ []) whole long)
      (ends r.target)

  -- a source that ends on the way is an arc that its block lists
  listed_by : (b : Block) (name last : PieceName) (before front : List PieceName) → IsBlock M P last.way b
      → (r : IsNamedSource M P name before (front ++ last ∷ [])) → Ends r.source.from
      → ListsArcFrom b.pieces name before (front ++ last ∷ [])
  listed_by b name last before front is r (Nil e) =
      let some = some_context M P r.source.from r.source.arc.from in
      let none = ap length e in absurd (omega arith)
  listed_by b name last before front is r (Last d q e) =
      let a : IsArc M P (d ++ q ∷ []) r.piece (r.front ++ r.piece ∷ []) =
      subst (λ x. IsArc M P x r.piece (r.front ++ r.piece ∷ [])) e r.source.arc in
      let names : front ++ last ∷ [] ≡ map name_of d ++ name_of q ∷ [] =
      r.source.named ∙ ap (map name_of) e ∙ map-append name_of d (q ∷ []) in
      let both = same_last front last (map name_of d) (name_of q) names in
      let of : q.way ≡ last.way = ap (λ (n : PieceName). n.way) (sym both.last) in
      let cut = same_last (d ++ q ∷ []) r.piece (a.to.front ++ r.front) r.piece
      (a.to.is ∙ sym (append_assoc a.to.front r.front (r.piece ∷ []))) in
      record {
        front = map name_of d;
        last = name_of q;
        from = names;
        arc = arc_to M P r.piece (r.front ++ r.piece ∷ []);
        listed = listed_arc M P last.way b is d q r.piece (r.front ++ r.piece ∷ []) of a;
        by = sym r.named;
        others = map name_of a.to.front;
        target = names ∙ sym (map-append name_of d (q ∷ [])) ∙ ap (map name_of) cut.front
            ∙ map-append name_of a.to.front r.front ∙ ap (λ ns. map name_of a.to.front ++ ns) (sym r.behind);
        length_is = length-append r.front (r.piece ∷ [])
            ∙ ap (λ n. n + 1) (sym (length-map r.front name_of) ∙ ap length (sym r.behind));
      }

  pub arc_sources : (b : Block) (name last : PieceName) (before front : List PieceName) → IsBlock M P last.way b
      → IsNamedSource M P name before (front ++ last ∷ []) ↔ ListsArcFrom b.pieces name before (front ++ last ∷ [])
  arc_sources b name last before front is = (
    λ r. listed_by b name last before front is r (ends r.source.from),
    from_listed b name last before front is,
  )

module _ (M N : Objects) (P : Rules) where
  -- a source that ends on a way with the same arcs stays
  source_stays : (name last : PieceName) (before front : List PieceName) → HasSameArcs M N P last.way
      → (r : IsNamedSource M P name before (front ++ last ∷ [])) → Ends r.source.from
      → IsNamedSource N P name before (front ++ last ∷ [])
  source_stays name last before front same r (Nil e) =
      let some = some_context M P r.source.from r.source.arc.from in
      let none = ap length e in absurd (omega arith)
  source_stays name last before front same r (Last d q e) =
      let names : front ++ last ∷ [] ≡ map name_of d ++ name_of q ∷ [] =
      r.source.named ∙ ap (map name_of) e ∙ map-append name_of d (q ∷ []) in
      let of : q.way ≡ last.way = ap (λ (n : PieceName). n.way)
      (sym (same_last front last (map name_of d) (name_of q) names).last) in
      let a : IsArc M P (d ++ q ∷ []) r.piece (r.front ++ r.piece ∷ []) =
      subst (λ x. IsArc M P x r.piece (r.front ++ r.piece ∷ [])) e r.source.arc in
      let source : IsSourceEntry N P r.piece (r.front ++ r.piece ∷ []) (front ++ last ∷ []) = record {
        from = d ++ q ∷ [];
        arc = (same.arcs d q r.piece (r.front ++ r.piece ∷ []) of).0 a;
        named = names ∙ sym (map-append name_of d (q ∷ []));
      } in
      record { front = r.front; piece = r.piece; source = source; behind = r.behind; named = r.named }

pub sources_from : (M N : Objects) (P : Rules) (name last : PieceName) (before front : List PieceName)
    → HasSameArcs M N P last.way
    → IsNamedSource M P name before (front ++ last ∷ []) ↔ IsNamedSource N P name before (front ++ last ∷ [])
sources_from M N P name last before front same = (
  λ r. source_stays M N P name last before front same r (ends r.source.from),
  λ r. source_stays N M P name last before front (turned M N P last.way same) r (ends r.source.from),
)
