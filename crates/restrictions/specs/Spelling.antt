-- The words of a restriction that is of use, as a list.
use Rattle.std.specs.Prelude.{List, [], ◌∷◌, ◌++◌, Option, Some, None, map}
use Rattle.std.specs.List.{flat_map}
use Rattle.road_base.specs.declared.ids.NodeId.{NodeId}
use Rattle.road_base.specs.declared.ids.Key.{Key}
use Rattle.road_base.specs.declared.ids.Key.TheVariants.{Node as NodeKey, Way as WayKey, Relation as RelationKey}
use Rattle.road_base.specs.declared.ids.Step.{Step}
use Rattle.road_base.specs.declared.objects.Relation.{Relation}
use Rattle.road_base.specs.Objects.{Objects}
use Rattle.road_model.specs.Rules.{Rules}
use Rattle.road_model.specs.Driving.{is_open}
use Rattle.road_model.specs.Restrictions.{froms, tos, via_order}
use Rattle.restrictions.specs.declared.spelling.WordRule.{WordRule}
use Rattle.restrictions.specs.declared.word_list.Word.{Word}
use Rattle.restrictions.specs.declared.end_steps.Side.TheVariants.{Into, OutOf}
use Rattle.restrictions.specs.Runs.{first_enter, last_enter, leave_of, steps_of}
use Rattle.restrictions.specs.Ends.{ends_of}

abbrev pub word_of : WordRule → Step → List Step → Step → Word
word_of rule first via last = record {
  relation = rule.relation;
  only = rule.only;
  binding = rule.binding;
  steps = first
      ∷ (via ++ last ∷ []);
}

-- the words that begin with this step
abbrev pub words_from : WordRule → Step → List Step → List Step → List Word
words_from rule first via lasts = map (λ last. word_of rule first via last) lasts

abbrev pub words_by : WordRule → List Step → List Step → List Step → List Word
words_by rule firsts via lasts = flat_map (λ first. words_from rule first via lasts) firsts

-- the words over these via steps, entered and left at these nodes
abbrev pub words_at : Objects → WordRule → Relation → NodeId → List Step → NodeId → List Word
words_at M rule r enter via leave = words_by rule (ends_of M Into enter (froms r) []) via
    (ends_of M OutOf leave (tos r) [])

abbrev pub words_to : Objects → WordRule → Relation → NodeId → List Step → Option NodeId → List Word
words_to M rule r enter via None = []
words_to M rule r enter via (Some leave) = words_at M rule r enter via leave

-- the words over via ways that are entered at the node
abbrev pub words_over : Objects → Rules → WordRule → Relation → NodeId → List Word
words_over M P rule r enter = words_to M rule r enter (steps_of M (is_open M P) (via_order M P r) (Some enter))
    (leave_of M (is_open M P) (via_order M P r) (Some enter))

abbrev pub words_over_if : Objects → Rules → WordRule → Relation → Option NodeId → List Word
words_over_if M P rule r None = []
words_over_if M P rule r (Some enter) = words_over M P rule r enter

-- all words of the relation, over these via members
abbrev pub words_with : Objects → Rules → WordRule → Relation → List Key → List Word
words_with M P rule r [] = []
words_with M P rule r (NodeKey n ∷ []) = words_at M rule r n [] n
words_with M P rule r (NodeKey n ∷ k ∷ ks) = []
words_with M P rule r (WayKey w ∷ ks) = words_over_if M P rule r (first_enter M (WayKey w ∷ ks))
    ++ words_over_if M P rule r (last_enter M (WayKey w ∷ ks))
words_with M P rule r (RelationKey q ∷ ks) = []

abbrev pub words_of : Objects → Rules → WordRule → Relation → List Word
words_of M P rule r = words_with M P rule r (via_order M P r)
