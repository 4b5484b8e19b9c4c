-- A word has at most 1,026 steps, and a context at most so many pieces.
use Rattle.std.proofs.Common.{◌≡◌, ℕ, ◌+◌, ◌-◌, ◌≤◌, List, [], ◌∷◌, length, Bool, true, false, ◌||◌, IsTrue, refl, sym}
use Rattle.std.proofs.Common.{ap, ◌∙◌, subst, arith, length-append}
use Rattle.std.specs.Prelude.{nat_lt, sum_by}
use Rattle.std.proofs.lemmas.Bool.{ltb-false}
use Rattle.std.proofs.lemmas.List.Sums.{sum_by-cons}
use Rattle.road_base.specs.declared.ids.NodeId.{NodeId}
use Rattle.road_base.specs.declared.ids.WayId.{WayId}
use Rattle.road_base.specs.declared.ids.RelationId.{RelationId}
use Rattle.road_base.specs.declared.ids.Key.{Key}
use Rattle.road_base.specs.declared.ids.Key.TheVariants.{Node as NodeKey, Way as WayKey, Relation as RelationKey}
use Rattle.road_base.specs.declared.ids.Step.{Step}
use Rattle.road_base.specs.declared.ids.Dir.{Dir}
use Rattle.road_base.specs.Objects.{Objects}
use Rattle.road_model.specs.declared.answers.Unusable.TheVariants.{TooLong}
use Rattle.road_model.specs.Rules.{Rules}
use Rattle.road_model.specs.Lines.{line_of}
use Rattle.road_model.specs.Pieces.{Span, IsPiece, spell}
use Rattle.road_model.specs.Restrictions.{froms, vias, tos, via_order, IsRun, steps_on, whole_way}
use Rattle.road_model.specs.Words.{IsWord, IsVia}
use Rattle.road_model.specs.Contexts.{Every, One, Many}
use Rattle.road_model.specs.Network.{IsContext, spell_pieces}
use Rattle.road_model.proofs.Shapes.{length_steps}
use Rattle.road_model.proofs.ViaOrder.{sum_in_order}

last_of_four : (a b c d : Bool) → (IsTrue ((a || b) || (c || d)) → ⊥) → d ≡ false
last_of_four true b c d n = absurd (n refl)
last_of_four false true c d n = absurd (n refl)
last_of_four false false true d n = absurd (n refl)
last_of_four false false false true n = absurd (n refl)
last_of_four false false false false n = refl

module _ (M : Objects) (P : Rules) where
  run_length : (allowed : WayId → Dir → Bool) (ks : List Key) (v : NodeId) (via : List Step) (out : NodeId)
      → IsRun M allowed ks v via out → length via ≡ sum_by (steps_on M) ks
  run_length allowed [] v via out h = ap length h.0
  run_length allowed (NodeKey n ∷ ks) v via out h = absurd h
  run_length allowed (WayKey w ∷ ks) v via out h =
      let e = ap length h.6 in
      let k = length-append (whole_way M w h.0) h.2 in
      let n = length_steps M P w 0 (length (line_of M w) - 1) h.0 in
      let i = run_length allowed ks h.1 h.2 out h.7 in
      let s = sum_by-cons (steps_on M) (WayKey w) ks in
      e ∙ k ∙ ap (λ x. x + length h.2) n ∙ ap (λ x. length (line_of M w) - 1 + x) i ∙ sym s
  run_length allowed (RelationKey r ∷ ks) v via out h = absurd h

  via_length : (ks : List Key) (v : NodeId) (via : List Step) (out : NodeId) → IsVia M P ks v via out
      → length via ≤ sum_by (steps_on M) ks
  via_length [] v via out h = absurd h
  via_length (NodeKey n ∷ []) v via out h = let e = ap length h.1 in omega arith
  via_length (NodeKey n ∷ k ∷ ks) v via out h = absurd h
  via_length (WayKey w ∷ ks) v via out h = let e = run_length _ (WayKey w ∷ ks) v via out h in omega arith
  via_length (RelationKey r ∷ ks) v via out h = absurd h

  pub short_word : (r : RelationId) (only : Bool) (binding : ℕ) (u : List Step) → IsWord M P r only binding u
      → length u ≤ 1026
  short_word r only binding u w =
      let few = ltb-false 1024 (sum_by (steps_on M) (vias w.body))
      (last_of_four (nat_lt 16 (length (froms w.body))) (nat_lt 16 (length (vias w.body)))
      (nat_lt 16 (length (tos w.body))) _ (w.usable TooLong)) in
      let v = via_length (via_order M P w.body) w.enter w.via w.leave w.via_is in
      let o = sum_in_order M P w.body (steps_on M) in
      let e = ap length w.spelled in
      let k = length-append w.via (w.last ∷ []) in
      omega arith

  some_spelled : (p : Span) → IsPiece M P p → 1 ≤ length (spell p)
  some_spelled p i = let n = length_steps M P p.way p.index (p.end - p.index) p.dir in let a = i.ascends in omega arith

  as_many : (ps : List Span) → Every (IsPiece M P) ps → length ps ≤ length (spell_pieces ps)
  as_many [] h = omega arith
  as_many (p ∷ ps) h =
      let a = some_spelled p h.0 in let b = as_many ps h.1 in let e = length-append (spell p) (spell_pieces ps) in omega
      arith

  pub short_context : (c : List Span) → IsContext M P c → length c ≤ 1026
  short_context c (One p e i) = let k = ap length e in omega arith
  short_context c (Many m) =
      let w = m.word in
      let s = short_word w.relation w.only w.binding _ w.word in
      let ps : Every (IsPiece M P) (m.first ∷ m.second ∷ m.others) = subst (Every (IsPiece M P)) m.is m.pieces in
      let a = as_many (m.second ∷ m.others) ps.1 in
      let k = ap length m.is in
      let e = length-append (spell_pieces (m.second ∷ m.others)) (m.next ∷ m.rest) in
      omega arith
