-- The audit of an object map: what becomes of each restriction, and how many objects carry conditional keys (OSM wiki,
-- Relation:restriction and Conditional restrictions).
use Rattle.std.specs.Prelude.{◌≡◌, ℕ, ◌++◌, List, [], ◌∷◌, length, map, filter, Contains, Option, Some, None, cond}
use Rattle.std.specs.Prelude.{Bool, true, false, nat_eq, codes}
use Rattle.std.specs.List.{ends_with, flat_map, list_any}
use Rattle.std.specs.FinMap.{entries}
use Rattle.std.specs.Fmt.{decimal, signed_decimal}
use Rattle.road_base.specs.declared.ids.RelationId.{RelationId}
use Rattle.road_base.specs.declared.ids.Key.{Key}
use Rattle.road_base.specs.declared.ids.Key.TheVariants.{Node as NodeKey, Way as WayKey, Relation as RelationKey}
use Rattle.road_base.specs.declared.objects.Relation.{Relation}
use Rattle.road_base.specs.declared.objects.Body.{Body}
use Rattle.road_base.specs.declared.objects.Body.TheVariants.{Node as NodeBody, Way as WayBody}
use Rattle.road_base.specs.declared.objects.Body.TheVariants.{Relation as RelationBody, Deleted}
use Rattle.road_base.specs.Objects.{Objects, relation_of}
use Rattle.road_base.specs.Tags.{TagList}
use Rattle.road_model.specs.declared.answers.Unusable.{Unusable}
use Rattle.road_model.specs.declared.answers.Unusable.TheVariants.{NotThisVehicle, NoValue, Members, Missing, NotAnEnd}
use Rattle.road_model.specs.declared.answers.Unusable.TheVariants.{NotConnected, ClosedVia, TooLong}
use Rattle.ordered_lists.specs.Orders.{Lists}
use Rattle.road_model.specs.Orders.{relation_cmp}
use Rattle.road_model.specs.Rules.{Rules, is_restriction}
use Rattle.road_model.specs.Restrictions.{IsFirstCause, IsUsable}
use Rattle.road_model.specs.Words.{kind_of}
use Rattle.opl_lexer.specs.Letters.{newline}
use Rattle.restrictions.specs.declared.word_list.Word.{Word}
use Rattle.restrictions.specs.Words.{AreWords, IsRestriction}
use Rattle.osmroad.specs.declared.findings.Finding.{Finding}
use Rattle.osmroad.specs.declared.findings.Finding.TheVariants.{Words, Unused}

-- ---- what becomes of a restriction

-- the relation is of use, forbids or demands, and has so many different words
pub record HasWords (M : Objects) (P : Rules) (r : RelationId) (only : Bool) (count : ℕ) : Type 0 where
  pub body : Relation
  pub visible : relation_of M r ≡ Some body
  pub usable : IsUsable M P body
  pub kind : P.rule body.tags ≡ kind_of only
  pub words : List Word
  pub are : AreWords M P r words
  pub counted : count ≡ length words

-- the cause is the first one for which the relation is of no use
pub record IsUnused (M : Objects) (P : Rules) (r : RelationId) (cause : Unusable) : Type 0 where
  pub body : Relation
  pub visible : relation_of M r ≡ Some body
  pub first : IsFirstCause M P body cause

abbrev pub IsFinding : Objects → Rules → RelationId → Finding → Type 0
IsFinding M P r (Words only count) = HasWords M P r only count
IsFinding M P r (Unused cause) = IsUnused M P r cause

-- ---- the lines of restrictions

-- the relation's number, if its body is a visible restriction
abbrev pub visible_restriction : RelationId → Body → Option RelationId
visible_restriction id (NodeBody n) = None
visible_restriction id (WayBody w) = None
visible_restriction id (RelationBody r) = cond (is_restriction r.tags) (Some id) None
visible_restriction id Deleted = None

-- the same of a key, which may be another object's
abbrev pub restriction_of : Key → Body → Option RelationId
restriction_of (NodeKey n) body = None
restriction_of (WayKey w) body = None
restriction_of (RelationKey id) body = visible_restriction id body

-- a restriction and what becomes of it
pub record RuleLine : Type 0 where
  pub relation : RelationId
  pub finding : Finding

-- the visible restriction has its own finding
pub record IsRuleLine (M : Objects) (P : Rules) (line : RuleLine) : Type 0 where
  pub restriction : IsRestriction M line.relation
  pub finding : IsFinding M P line.relation line.finding

abbrev pub cause_name : Unusable → List ℕ
cause_name NotThisVehicle = codes "NotThisVehicle"
cause_name NoValue = codes "NoValue"
cause_name Members = codes "Members"
cause_name Missing = codes "Missing"
cause_name NotAnEnd = codes "NotAnEnd"
cause_name NotConnected = codes "NotConnected"
cause_name ClosedVia = codes "ClosedVia"
cause_name TooLong = codes "TooLong"

abbrev pub rule_kind_name : Bool → List ℕ
rule_kind_name false = codes "no"
rule_kind_name true = codes "only"

-- `no K` or `only K` by the number of words, or `unused CAUSE`
abbrev pub finding_text : Finding → List ℕ
finding_text (Words only count) = rule_kind_name only ++ (codes " " ++ decimal count)
finding_text (Unused cause) = codes "unused " ++ cause_name cause

-- `rN` before it, and the newline behind it
abbrev pub rule_line : RuleLine → List ℕ
rule_line line = codes "r"
    ++ (signed_decimal line.relation.0 ++ (codes " " ++ (finding_text line.finding ++ newline ∷ [])))

-- the text is the line of the restriction
pub record IsLineOf (M : Objects) (P : Rules) (r : RelationId) (text : List ℕ) : Type 0 where
  pub line : RuleLine
  pub of : line.relation ≡ r
  pub is : IsRuleLine M P line
  pub spelled : text ≡ rule_line line

-- the text is the lines of the restrictions, in their order
pub record AreRuleLines (M : Objects) (P : Rules) (rules : List RelationId) (text : List ℕ) : Type 0 where
  pub lines : List RuleLine
  pub of : map (λ line. line.relation) lines ≡ rules
  pub each : (line : RuleLine) → Contains lines line → IsRuleLine M P line
  pub spelled : text ≡ flat_map rule_line lines

-- ---- conditional keys, which nothing else looks at

-- the key ends in `:conditional`
abbrev pub is_conditional : List ℕ → Bool
is_conditional key = ends_with nat_eq key (codes ":conditional")

abbrev pub has_conditional : TagList → Bool
has_conditional tags = list_any (λ t. is_conditional t.0) tags

-- the body is visible and carries such a key
abbrev pub carries_conditional : Body → Bool
carries_conditional (NodeBody n) = has_conditional n.tags
carries_conditional (WayBody w) = has_conditional w.tags
carries_conditional (RelationBody r) = has_conditional r.tags
carries_conditional Deleted = false

-- the key, if the body does
abbrev pub conditional_of : Key → Body → Option Key
conditional_of k body = cond (carries_conditional body) (Some k) None

-- how many objects do
abbrev pub conditional_count : Objects → ℕ
conditional_count M = length (filter (λ e. carries_conditional e.1.body) (entries M))

-- `conditional K`, with its newline
abbrev pub conditional_line : ℕ → List ℕ
conditional_line count = codes "conditional " ++ (decimal count ++ newline ∷ [])

-- ---- the audit

-- a line for each visible restriction, by number, and then how many objects carry conditional keys
pub record IsAudit (M : Objects) (P : Rules) (text : List ℕ) : Type 0 where
  pub lines : List RuleLine
  pub listed : Lists (λ line. line.relation) relation_cmp (IsRuleLine M P) lines
  pub spelled : text ≡ flat_map rule_line lines ++ conditional_line (conditional_count M)
