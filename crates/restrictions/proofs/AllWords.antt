-- The list of words of a restriction that is of use has exactly its words, each once.
use Rattle.std.proofs.Common.{◌≡◌, inl, inr, Bool, true, false, ◌||◌, not, List, [], ◌∷◌, ◌++◌, Option, Some, None}
use Rattle.std.proofs.Common.{IsTrue, Contains, refl, sym, ap, subst, ◌∙◌}
use Rattle.std.specs.List.{list_any}
use Rattle.std.proofs.lemmas.Bool.{false≢true, or_parts, false_from_ne_true}
use Rattle.std.proofs.lemmas.Option.{same_Some}
use Rattle.std.proofs.lemmas.List.Elements.{Contains-append_cases, Contains-append_left, Contains-append_right}
use Rattle.road_base.specs.declared.ids.NodeId.{NodeId}
use Rattle.road_base.specs.declared.ids.WayId.{WayId}
use Rattle.road_base.specs.declared.ids.RelationId.{RelationId}
use Rattle.road_base.specs.declared.ids.Key.{Key}
use Rattle.road_base.specs.declared.ids.Key.TheVariants.{Node as NodeKey, Way as WayKey, Relation as RelationKey}
use Rattle.road_base.specs.declared.ids.Step.{Step}
use Rattle.road_base.specs.declared.objects.Relation.{Relation}
use Rattle.road_base.specs.Objects.{Objects, relation_of}
use Rattle.road_model.specs.declared.answers.RuleKind.{RuleKind}
use Rattle.road_model.specs.declared.answers.RuleKind.TheVariants.{Freed, Absent, No, Only}
use Rattle.road_model.specs.declared.answers.Unusable.TheVariants.{NotThisVehicle, NoValue, NotAnEnd}
use Rattle.road_model.specs.Rules.{Rules, is_only, is_restriction}
use Rattle.road_model.specs.Lines.{head_of}
use Rattle.road_model.specs.Driving.{is_open}
use Rattle.road_model.specs.Restrictions.{IsRun, IsUsable, froms, vias, tos, via_order, is_ring, same_end, misses_end}
use Rattle.road_model.specs.Restrictions.{some_ends_at, via_ends, first_of, last_of}
use Rattle.road_model.specs.Words.{IsVia, binding_of, kind_of}
use Rattle.restrictions.specs.declared.spelling.WordRule.{WordRule}
use Rattle.restrictions.specs.declared.word_list.Word.{Word}
use Rattle.restrictions.specs.declared.end_steps.Side.TheVariants.{Into, OutOf}
use Rattle.restrictions.specs.Runs.{first_node, last_node, leave_of, steps_of}
use Rattle.restrictions.specs.Ends.{ends_of}
use Rattle.restrictions.specs.Spelling.{words_at, words_by, words_from, words_of, word_of, words_over, words_over_if}
use Rattle.restrictions.specs.Spelling.{words_to, words_with}
use Rattle.restrictions.specs.Words.{AreDistinct, AreWords, IsOfUse, IsRestriction, IsWordOf}
use Rattle.ordered_lists.proofs.ListMembers.{contains_none, contains_map, contains_from_map}
use Rattle.ordered_lists.proofs.ListMembers.{contains_flat, contains_from_flat}
use Rattle.restrictions.proofs.DistinctLists.{distinct_append, distinct_map, distinct_joined}
use Rattle.restrictions.proofs.EndLists.{ends_distinct, ends_sound, ends_there}
use Rattle.restrictions.proofs.OneRun.{end_there, is_run, one_run, run_begins}

-- ---- rules

kind_known : (k : RuleKind) → (k ≡ Freed → ⊥) → (k ≡ Absent → ⊥) → k ≡ kind_of (is_only k)
kind_known Freed freed absent = absurd (freed refl)
kind_known Absent freed absent = absurd (absent refl)
kind_known No freed absent = refl
kind_known Only freed absent = refl

only_of_kind : (b : Bool) → is_only (kind_of b) ≡ b
only_of_kind true = refl
only_of_kind false = refl

-- ---- lists of steps

head_same : (a b : Step) (xs ys : List Step) → a ∷ xs ≡ b ∷ ys → a ≡ b
head_same a b xs ys same = cc

behind_same : (a b : Step) (xs ys : List Step) → a ∷ xs ≡ b ∷ ys → xs ≡ ys
behind_same a b xs ys same = cc

last_same : (a b : Step) (via : List Step) → via ++ a ∷ [] ≡ via ++ b ∷ [] → a ≡ b
last_same a b [] same = head_same a b [] [] same
last_same a b (x ∷ via) same = last_same a b via (behind_same x x (via ++ a ∷ []) (via ++ b ∷ []) same)

make_word : (v w : Word) → v.relation ≡ w.relation → v.only ≡ w.only → v.binding ≡ w.binding → v.steps ≡ w.steps → v ≡ w
make_word v w relations only bindings steps = λ i. record
    { relation = relations i; only = only i; binding = bindings i; steps = steps i }

-- ---- words of one passage

module _ (rule : WordRule) (via : List Step) where
  from_distinct : (first : Step) (lasts : List Step) → AreDistinct lasts → AreDistinct (words_from rule first via lasts)
  from_distinct first lasts once =
      distinct_map (λ last. word_of rule first via last)
      (λ a b same. last_same a b via (behind_same first first (via ++ a ∷ []) (via ++ b ∷ [])
      (ap (λ (w : Word). w.steps) same))) lasts once

  begins_with : (first : Step) (lasts : List Step) (w : Word) → Contains (words_from rule first via lasts) w
      → (rest : List Step) × (w.steps ≡ first ∷ rest)
  begins_with first lasts w has =
      let found = contains_from_map (λ last. word_of rule first via last) lasts w has in
      (via ++ found.0 ∷ [], ap (λ (v : Word). v.steps) found.2)

  by_distinct : (firsts lasts : List Step) → AreDistinct firsts → AreDistinct lasts
      → AreDistinct (words_by rule firsts via lasts)
  by_distinct firsts lasts once_first once_last =
      distinct_joined (λ first. words_from rule first via lasts) firsts once_first
      (λ first. from_distinct first lasts once_last) (λ a b w in_a in_b.
      let from_a = begins_with a lasts w in_a in
      let from_b = begins_with b lasts w in_b in
      head_same a b from_a.0 from_b.0 (sym from_a.1 ∙ from_b.1))

module _ (M : Objects) (P : Rules) (rule : WordRule) (body : Relation) where
  -- the via members, in the order in which they are passed
  abbrev vs : List Key
  vs = via_order M P body

  -- a word over a passage begins with an end step into the node where it is entered
  at_begins : (enter : NodeId) (via : List Step) (leave : NodeId) (w : Word)
      → Contains (words_at M rule body enter via leave) w
      → (first : Step) × (rest : List Step) × (w.steps ≡ first ∷ rest) × (head_of M first ≡ Some enter)
  at_begins enter via leave w has =
      let lasts = ends_of M OutOf leave (tos body) [] in
      let found = contains_from_flat (λ first. words_from rule first via lasts)
      (ends_of M Into enter (froms body) []) w has in
      let begins = begins_with rule via found.0 lasts w found.2 in
      let ending = ends_sound M Into enter (froms body) found.0 found.1 in
      (found.0, begins.0, begins.1, ending.2.head)

  at_distinct : (enter : NodeId) (via : List Step) (leave : NodeId) → AreDistinct (words_at M rule body enter via leave)
  at_distinct enter via leave =
      by_distinct rule via (ends_of M Into enter (froms body) []) (ends_of M OutOf leave (tos body) [])
      (ends_distinct M Into enter (froms body) [] tt) (ends_distinct M OutOf leave (tos body) [] tt)

  to_distinct : (enter : NodeId) (via : List Step) (out : Option NodeId)
      → AreDistinct (words_to M rule body enter via out)
  to_distinct enter via None = tt
  to_distinct enter via (Some leave) = at_distinct enter via leave

  to_begins : (enter : NodeId) (via : List Step) (out : Option NodeId) (w : Word)
      → Contains (words_to M rule body enter via out) w
      → (first : Step) × (rest : List Step) × (w.steps ≡ first ∷ rest) × (head_of M first ≡ Some enter)
  to_begins enter via None w has = absurd (contains_none w has)
  to_begins enter via (Some leave) w has = at_begins enter via leave w has

  -- the words of two passages differ where these are entered at different nodes
  apart : (a b : NodeId) (w : Word) → (a ≡ b → ⊥) → Contains (words_over M P rule body a) w
      → Contains (words_over M P rule body b) w → ⊥
  apart a b w differ in_a in_b =
      let open_ways = is_open M P in
      let from_a = to_begins a (steps_of M open_ways vs (Some a)) (leave_of M open_ways vs (Some a)) w in_a in
      let from_b = to_begins b (steps_of M open_ways vs (Some b)) (leave_of M open_ways vs (Some b)) w in_b in
      let same : from_a.0 ≡ from_b.0 = head_same from_a.0 from_b.0 from_a.1 from_b.1 (sym from_a.2 ∙ from_b.2) in
      differ (same_Some a b (sym from_a.3 ∙ (ap (head_of M) same ∙ from_b.3)))

  over_distinct : (o : Option NodeId) → AreDistinct (words_over_if M P rule body o)
  over_distinct None = tt
  over_distinct (Some enter) = to_distinct enter (steps_of M (is_open M P) vs (Some enter))
      (leave_of M (is_open M P) vs (Some enter))

  over_apart : (a b : Option NodeId) (w : Word) → same_end a b ≡ false → Contains (words_over_if M P rule body a) w
      → Contains (words_over_if M P rule body b) w → ⊥
  over_apart None b w line in_a in_b = contains_none w in_a
  over_apart (Some a) None w line in_a in_b = contains_none w in_b
  over_apart (Some a) (Some b) w line in_a in_b =
      apart a b w (λ same. false≢true (sym line ∙ end_there (Some a) b (ap Some same))) in_a in_b

  with_distinct : (ks : List Key) → list_any (is_ring M) ks ≡ false → AreDistinct (words_with M P rule body ks)
  with_distinct [] lines = tt
  with_distinct (NodeKey n ∷ []) lines = at_distinct n [] n
  with_distinct (NodeKey n ∷ k ∷ ks) lines = tt
  with_distinct (WayKey w ∷ ks) lines =
      let ring = or_parts (is_ring M (WayKey w)) (list_any (is_ring M) ks) lines in
      distinct_append (words_over_if M P rule body (first_node M w)) (words_over_if M P rule body (last_node M w))
      (over_distinct (first_node M w)) (over_distinct (last_node M w))
      (λ z in_a in_b. over_apart (first_node M w) (last_node M w) z ring.0 in_a in_b)
  with_distinct (RelationKey q ∷ ks) lines = tt

  -- ---- each passage has its words in the list

  over_there : (enter : NodeId) (via : List Step) (leave : NodeId) (z : Word)
      → leave_of M (is_open M P) vs (Some enter) ≡ Some leave
      → via ≡ steps_of M (is_open M P) vs (Some enter) → Contains (words_at M rule body enter via leave) z
      → Contains (words_over M P rule body enter) z
  over_there enter via leave z leaves spelled has =
      let steps = steps_of M (is_open M P) vs (Some enter) in
      let here : Contains (words_at M rule body enter steps leave) z = subst
      (λ (s : List Step). Contains (words_at M rule body enter s leave) z) spelled has in
      subst (λ (o : Option NodeId). Contains (words_to M rule body enter steps o) z) (sym leaves) here

  with_there : (ks : List Key) → vs ≡ ks → list_any (is_ring M) ks ≡ false
      → (enter : NodeId) (via : List Step) (leave : NodeId) (z : Word) → IsVia M P ks enter via leave
      → Contains (words_at M rule body enter via leave) z → Contains (words_with M P rule body ks) z
  with_there [] are lines enter via leave z is has = absurd is
  with_there (NodeKey n ∷ []) are lines enter via leave z (at, none, out) has =
      let first : Contains (words_at M rule body n via leave) z = subst
      (λ (v : NodeId). Contains (words_at M rule body v via leave) z) at has in
      let second : Contains (words_at M rule body n [] leave) z = subst
      (λ (s : List Step). Contains (words_at M rule body n s leave) z) none first in
      subst (λ (v : NodeId). Contains (words_at M rule body n [] v) z) out second
  with_there (NodeKey n ∷ k ∷ ks) are lines enter via leave z is has = absurd is
  with_there (WayKey w ∷ ks) are lines enter via leave z is has =
      let run = one_run M (is_open M P) (WayKey w ∷ ks) enter via leave lines is in
      let leaves : leave_of M (is_open M P) vs (Some enter)
      ≡ Some leave = ap (λ (ls : List Key). leave_of M (is_open M P) ls (Some enter)) are ∙ run.0 in
      let spelled : via ≡ steps_of M (is_open M P) vs (Some enter) = run.1
      ∙ ap (λ (ls : List Key). steps_of M (is_open M P) ls (Some enter)) (sym are) in
      let there : Contains (words_over_if M P rule body (Some enter)) z = over_there enter via leave z leaves spelled
      has in
      elim (run_begins M (is_open M P) w ks enter via leave is) [
        | inl first ↦ Contains-append_left (words_over_if M P rule body (first_node M w))
            (words_over_if M P rule body (last_node M w)) z
            (subst (λ (o : Option NodeId). Contains (words_over_if M P rule body o) z) (sym first) there)
        | inr last ↦ Contains-append_right (words_over_if M P rule body (first_node M w))
            (words_over_if M P rule body (last_node M w)) z
            (subst (λ (o : Option NodeId). Contains (words_over_if M P rule body o) z) (sym last) there)
      ]
  with_there (RelationKey q ∷ ks) are lines enter via leave z is has = absurd is

  -- ---- and the list has no others

  -- the word is one over some passage
  abbrev pub IsOver : List Key → Word → Type 0
  IsOver ks z = (enter : NodeId) × (via : List Step) × (leave : NodeId) × IsVia M P ks enter via leave
      × Contains (words_at M rule body enter via leave) z

  to_known : (w : WayId) (ks : List Key) → vs ≡ WayKey w ∷ ks → (enter : NodeId) (out : Option NodeId) (z : Word)
      → leave_of M (is_open M P) vs (Some enter) ≡ out
      → Contains (words_to M rule body enter (steps_of M (is_open M P) vs (Some enter)) out) z
      → IsOver (WayKey w ∷ ks) z
  to_known w ks are enter None z leaves has = absurd (contains_none z has)
  to_known w ks are enter (Some leave) z leaves has =
      let steps = steps_of M (is_open M P) vs (Some enter) in
      let run : IsRun M (is_open M P) vs enter steps leave = is_run M (is_open M P) vs enter leave
      leaves in
      (enter, steps, leave, subst (λ (ls : List Key). IsRun M (is_open M P) ls enter steps leave) are run, has)

  over_known : (w : WayId) (ks : List Key) → vs ≡ WayKey w ∷ ks → (o : Option NodeId) (z : Word)
      → Contains (words_over_if M P rule body o) z → IsOver (WayKey w ∷ ks) z
  over_known w ks are None z has = absurd (contains_none z has)
  over_known w ks are (Some enter) z has = to_known w ks are enter (leave_of M (is_open M P) vs (Some enter)) z
      refl has

  with_known : (ks : List Key) → vs ≡ ks → (z : Word) → Contains (words_with M P rule body ks) z → IsOver ks z
  with_known [] are z has = absurd (contains_none z has)
  with_known (NodeKey n ∷ []) are z has = (n, [], n, (refl, refl, refl), has)
  with_known (NodeKey n ∷ k ∷ ks) are z has = absurd (contains_none z has)
  with_known (WayKey w ∷ ks) are z has = elim
      (Contains-append_cases (words_over_if M P rule body (first_node M w))
      (words_over_if M P rule body (last_node M w)) z has) [
        | inl here ↦ over_known w ks are (first_node M w) z here
        | inr here ↦ over_known w ks are (last_node M w) z here
      ]
  with_known (RelationKey q ∷ ks) are z has = absurd (contains_none z has)

  module _ (r : RelationId) (visible : relation_of M r ≡ Some body) (restriction : IsTrue (is_restriction body.tags))
      (usable : IsUsable M P body) (of : rule.relation ≡ r) (only : rule.only ≡ is_only (P.rule body.tags))
      (bound : rule.binding ≡ binding_of (vias body)) where
    kind : P.rule body.tags ≡ kind_of rule.only
    kind = kind_known (P.rule body.tags) (usable NotThisVehicle) (usable NoValue) ∙ ap kind_of (sym only)

    lines : list_any (is_ring M) vs ≡ false
    lines =
        let reached = not (some_ends_at M (froms body) (via_ends M (first_of vs)))
        || not (some_ends_at M (tos body) (via_ends M (last_of vs))) in
        let ends : misses_end M body vs ≡ false = false_from_ne_true (misses_end M body vs) (usable NotAnEnd) in
        (or_parts (list_any (is_ring M) vs) reached ends).0

    spelled_word : (enter : NodeId) (via : List Step) (leave : NodeId) (z : Word)
        → IsVia M P vs enter via leave → Contains (words_at M rule body enter via leave) z → IsWordOf M P r z
    spelled_word enter via leave z is has =
        let lasts = ends_of M OutOf leave (tos body) [] in
        let found = contains_from_flat (λ first. words_from rule first via lasts)
        (ends_of M Into enter (froms body) []) z has in
        let spelled = contains_from_map (λ last. word_of rule found.0 via last) lasts z found.2 in
        let begins = ends_sound M Into enter (froms body) found.0 found.1 in
        let ends = ends_sound M OutOf leave (tos body) spelled.0 spelled.1 in
        let word : IsWordOf M P r (word_of rule found.0 via spelled.0) = record {
          of = of;
          is = record {
            body = body;
            visible = visible;
            restriction = restriction;
            usable = usable;
            kind = kind;
            from_way = begins.0;
            to_way = ends.0;
            from_member = begins.1;
            to_member = ends.1;
            bound = bound;
            enter = enter;
            leave = leave;
            first = found.0;
            via = via;
            last = spelled.0;
            spelled = refl;
            first_ends = begins.2;
            via_is = is;
            last_begins = ends.2;
          };
        } in
        subst (IsWordOf M P r) (sym spelled.2) word

    listed_word : (z : Word) → IsWordOf M P r z → Contains (words_of M P rule body) z
    listed_word z w =
        let is = w.is in
        let same : is.body ≡ body = same_Some is.body body (sym is.visible ∙ visible) in
        let via_is : IsVia M P vs is.enter is.via is.leave = subst
        (λ (b : Relation). IsVia M P (via_order M P b) is.enter is.via is.leave) same is.via_is in
        let from_member : Contains (froms body) (WayKey is.from_way) = subst
        (λ (b : Relation). Contains (froms b) (WayKey is.from_way)) same is.from_member in
        let to_member : Contains (tos body) (WayKey is.to_way) = subst
        (λ (b : Relation). Contains (tos b) (WayKey is.to_way)) same is.to_member in
        let binding : z.binding ≡ rule.binding = is.bound
        ∙ (ap (λ (b : Relation). binding_of (vias b)) same ∙ sym bound) in
        let kinds : kind_of z.only ≡ kind_of rule.only = sym is.kind
        ∙ (ap (λ (b : Relation). P.rule b.tags) same ∙ kind) in
        let onlys : z.only ≡ rule.only = sym (only_of_kind z.only) ∙ (ap is_only kinds ∙ only_of_kind rule.only) in
        let word : z ≡ word_of rule is.first is.via is.last = make_word z (word_of rule is.first is.via is.last)
        (w.of ∙ sym of) onlys binding is.spelled in
        let firsts = ends_of M Into is.enter (froms body) [] in
        let lasts = ends_of M OutOf is.leave (tos body) [] in
        let first_there : Contains firsts is.first = ends_there M Into is.enter (froms body) [] is.first
        (is.from_way, from_member, is.first_ends) in
        let last_there : Contains lasts is.last = ends_there M OutOf is.leave (tos body) [] is.last
        (is.to_way, to_member, is.last_begins) in
        let there : Contains (words_at M rule body is.enter is.via is.leave) (word_of rule is.first is.via is.last)
        = contains_flat (λ first. words_from rule first is.via lasts) firsts is.first
        (word_of rule is.first is.via is.last) first_there
        (contains_map (λ last. word_of rule is.first is.via last) lasts is.last last_there) in
        subst (Contains (words_of M P rule body)) (sym word)
        (with_there vs refl lines is.enter is.via is.leave (word_of rule is.first is.via is.last) via_is
        there)

    all_words : AreWords M P r (words_of M P rule body)
    all_words = record {
      each = λ z has. let known = with_known vs refl z has in spelled_word known.0 known.1 known.2 z known.3
          known.4;
      all = listed_word;
      once = with_distinct vs lines;
    }

-- ---- the answer for a restriction

visible_body : (M : Objects) (r : RelationId) (body found : Relation) → Some found ≡ relation_of M r → body ≡ found
    → relation_of M r ≡ Some body
visible_body M r body found looked same = sym looked ∙ ap Some (sym same)

pub of_use : (M : Objects) (P : Rules) (r : RelationId) (body found : Relation) → Some found ≡ relation_of M r
    → body ≡ found → IsUsable M P body → IsOfUse M P r
of_use M P r body found looked same usable = record
    { body = body; visible = visible_body M r body found looked same; usable = usable }

pub answered : (M : Objects) (P : Rules) (rule : WordRule) (r : RelationId) (body found : Relation)
    (words made : List Word) → IsRestriction M r → Some found ≡ relation_of M r → body ≡ found → IsUsable M P body
    → rule.relation ≡ r
    → rule.only ≡ is_only (P.rule body.tags) → rule.binding ≡ binding_of (vias body) → words ≡ made
    → made ≡ words_of M P rule body → AreWords M P r words
answered M P rule r body found words made asked looked same usable of only bound listed is =
    let visible : relation_of M r ≡ Some body = visible_body M r body found looked same in
    let one : asked.body ≡ body = same_Some asked.body body (sym asked.visible ∙ visible) in
    let restriction : IsTrue (is_restriction body.tags) = subst (λ (b : Relation). IsTrue (is_restriction b.tags)) one
    asked.restriction in
    subst (AreWords M P r) (sym (listed ∙ is)) (all_words M P rule body r visible restriction usable of only bound)
