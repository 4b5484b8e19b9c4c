-- The lines of an audit, one after another, and all of them.
use Rattle.std.proofs.Common.{◌≡◌, ℕ, Bool, true, false, cond, IsTrue, List, [], ◌∷◌, ◌++◌, map, filter, length}
use Rattle.std.proofs.Common.{Contains, Option, Some, None, suc, refl, sym, ap, subst, ◌∙◌, inl, inr, append-nil}
use Rattle.std.specs.Prelude.{filter_map}
use Rattle.std.specs.List.{cons_option, flat_map}
use Rattle.std.specs.FinMap.{entries}
use Rattle.std.proofs.lemmas.List.{map-append}
use Rattle.std.proofs.lemmas.List.Concat.{flat_map-append}
use Rattle.road_base.specs.declared.ids.RelationId.{RelationId}
use Rattle.road_base.specs.declared.ids.Key.{Key}
use Rattle.road_base.specs.declared.event.Event.{Event}
use Rattle.road_base.specs.Objects.{Objects, Entry}
use Rattle.road_model.specs.Rules.{Rules}
use Rattle.ordered_lists.specs.Orders.{rises}
use Rattle.road_model.specs.Orders.{relation_cmp}
use Rattle.object_store.specs.Listed.{pair_of}
use Rattle.restrictions.specs.Words.{IsRestriction}
use Rattle.osmroad.specs.Audit.{RuleLine, IsRuleLine, IsLineOf, AreRuleLines, IsAudit, rule_line, carries_conditional}
use Rattle.osmroad.specs.Audit.{conditional_count, conditional_line, conditional_of}
use Rattle.ordered_lists.proofs.ListMembers.{In, contains_more, contains_from_in, from_map}
use Rattle.osmroad.proofs.OneFinding.{one_finding}

-- ---- one line after another

module _ (M : Objects) (P : Rules) where
  pub one_more_line : (rules : List RelationId) (r : RelationId) (text more : List ℕ)
      → AreRuleLines M P rules text → IsLineOf M P r more → AreRuleLines M P (rules ++ r ∷ []) (text ++ more)
  one_more_line rules r text more before last = record {
    lines = before.lines ++ last.line ∷ [];
    of =
        map-append (λ (line : RuleLine). line.relation) before.lines (last.line ∷ [])
        ∙ ap (λ (l : List RelationId). l ++ last.line.relation ∷ []) before.of
        ∙ ap (λ (n : RelationId). rules ++ n ∷ []) last.of;
    each = λ line has.
        elim (contains_more before.lines last.line line has) [
          | inl early ↦ before.each line early
          | inr same ↦ subst (λ (l : RuleLine). IsRuleLine M P l) (sym same) last.is
        ];
    spelled =
        ap (λ (t : List ℕ). t ++ more) before.spelled
        ∙ ap (λ (t : List ℕ). flat_map rule_line before.lines ++ t)
        (last.spelled ∙ sym (append-nil (rule_line last.line)))
        ∙ sym (flat_map-append rule_line before.lines (last.line ∷ []));
  }

  -- ---- all of them

  same_line : (a b : RuleLine) → a.relation ≡ b.relation → a.finding ≡ b.finding → a ≡ b
  same_line a b e f =
      ap (λ (r : RelationId). record { relation = r; finding = a.finding }) e
      ∙ ap (λ g. record { relation = b.relation; finding = g }) f

  module _ (rules : List RelationId) (ascending : IsTrue (rises relation_cmp rules))
      (all : (r : RelationId) → IsRestriction M r → In r rules) where
    has_line : (lines : List RuleLine) → map (λ line. line.relation) lines ≡ rules
        → ((line : RuleLine) → Contains lines line → IsRuleLine M P line)
        → (line : RuleLine) → IsRuleLine M P line → Contains lines line
    has_line lines of each line is =
        let named = subst (λ l. In line.relation l) (sym of) (all line.relation is.restriction) in
        let own = from_map (λ (l : RuleLine). l.relation) lines line.relation named in
        let has = contains_from_in lines own.0 own.1 in
        let its = subst (λ r. IsRuleLine M P (record { relation = r; finding = own.0.finding })) (sym own.2)
        (each own.0 has) in
        let same = one_finding M P line.relation own.0.finding line.finding its.finding is.finding in
        subst (λ l. Contains lines l) (same_line own.0 line (sym own.2) same) has

    pub whole_audit : (text : List ℕ) (count : ℕ) → AreRuleLines M P rules text → count ≡ conditional_count M
        → IsAudit M P (text ++ conditional_line count)
    whole_audit text count are counted = record {
      lines = are.lines;
      listed = record {
        ascending = subst (λ l. IsTrue (rises relation_cmp l)) (sym are.of) ascending;
        sound = are.each;
        complete = has_line are.lines are.of are.each;
      };
      spelled =
          ap (λ (t : List ℕ). t ++ conditional_line count) are.spelled
          ∙ ap (λ n. flat_map rule_line are.lines ++ conditional_line n) counted;
    }

-- ---- the objects with conditional keys

abbrev entry_carries : Key × Entry → Bool
entry_carries e = carries_conditional e.1.body

abbrev told_key : Event → Option Key
told_key e = conditional_of e.key e.body

one_counted : (t : Bool) (e : Event) (ones : List (Key × Entry)) (keys : List Key) → length ones ≡ length keys
    → length (cond t (pair_of e ∷ ones) ones) ≡ length (cons_option (cond t (Some e.key) None) keys)
one_counted true e ones keys same = ap suc same
one_counted false e ones keys same = same

counted_pairs : (es : List Event) → length (filter entry_carries (map pair_of es)) ≡ length (filter_map told_key es)
counted_pairs [] = refl
counted_pairs (e ∷ es) =
    one_counted (carries_conditional e.body) e (filter entry_carries (map pair_of es)) (filter_map told_key es)
    (counted_pairs es)

pub count_is : (M : Objects) (es : List Event) → entries M ≡ map pair_of es
    → length (filter_map (λ (e : Event). conditional_of e.key e.body) es) ≡ conditional_count M
count_is M es are = sym (counted_pairs es) ∙ ap (λ l. length (filter entry_carries l)) (sym are)
