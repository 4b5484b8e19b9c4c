-- Where no conditional key says anything, what decides at the moment is what decides at any other time.
use Rattle.std.proofs.Common.{◌≡◌, ◌==◌, ◌&&◌, ℕ, List, [], ◌∷◌, false, Option, None, Some, refl, sym, ap, ◌∙◌}
use Rattle.std.proofs.Common.{find, is_some}
use Rattle.std.specs.List.{AllByRecursion}
use Rattle.std.specs.Option.{option_and_then}
use Rattle.std.proofs.lemmas.List.Elements.{recursion_from_All}
use Rattle.road_base.specs.declared.ids.Dir.{Dir}
use Rattle.road_base.specs.Tags.{TagList, value_of}
use Rattle.access_profile.specs.declared.decisions.Decision.{Decision}
use Rattle.access_profile.specs.Closing.{direction, direction_by}
use Rattle.access_profile.specs.Deciding.{SidedKey, full_key, deciding_keys, deciding}
use Rattle.access_profile.specs.Decisions.{decision_by, said_by_key, decision_of}
use Rattle.access_profile.specs.Zones.{is_zone, is_zone_by}
use Rattle.moment_rules.specs.declared.moment.Moment.{Moment}
use Rattle.moment_rules.specs.Conditionals.{value_at}
use Rattle.moment_rules.specs.MomentDecisions.{conditional_key, first_said, said_by_either, decision_at, AreQuiet}
use Rattle.moment_rules.proofs.MomentKeys.{decided, passed}

-- the key with the ending says nothing
abbrev pub IsSilent : Moment → TagList → SidedKey → Type 0
IsSilent at ts k = option_and_then (value_at at) (value_of (conditional_key k) ts) ≡ None

-- what the first key says that the tags carry
abbrev pub first_carried : TagList → List SidedKey → Option Decision
first_carried ts ks = option_and_then (said_by_key ts) (find (λ k. is_some (value_of (full_key k) ts)) ks)

alone_says : (at : Moment) (ts : TagList) (k : SidedKey) → IsSilent at ts k → said_by_either at ts k ≡ said_by_key ts k
alone_says at ts k silent = rw silent refl

missing : (ts : TagList) (k : SidedKey) (ks : List SidedKey) → value_of (full_key k) ts ≡ None
    → first_carried ts (k ∷ ks) ≡ first_carried ts ks
missing ts k ks e = rw e refl

carried : (ts : TagList) (k : SidedKey) (ks : List SidedKey) (v : List ℕ) → value_of (full_key k) ts ≡ Some v
    → first_carried ts (k ∷ ks) ≡ Some (decision_by false k v)
carried ts k ks v e = rw e (rw e refl)

says : (ts : TagList) (k : SidedKey) (o : Option (List ℕ)) → value_of (full_key k) ts ≡ o
    → said_by_key ts k ≡ elim o [ None ↦ None | Some v ↦ Some (decision_by false k v) ]
says ts k None e = rw e refl
says ts k (Some v) e = rw e refl

step : (at : Moment) (ts : TagList) (k : SidedKey) (ks : List SidedKey) (o : Option (List ℕ))
    → value_of (full_key k) ts ≡ o → IsSilent at ts k
    → first_said (said_by_either at ts) ks ≡ first_carried ts ks
    → first_said (said_by_either at ts) (k ∷ ks) ≡ first_carried ts (k ∷ ks)
step at ts k ks None e silent more =
    passed (said_by_either at ts) k ks (alone_says at ts k silent ∙ says ts k None e)
    ∙ more ∙ sym (missing ts k ks e)
step at ts k ks (Some v) e silent more =
    decided (said_by_either at ts) k ks (decision_by false k v) (alone_says at ts k silent ∙ says ts k (Some v) e)
    ∙ sym (carried ts k ks v e)

same : (at : Moment) (ts : TagList) (ks : List SidedKey) → AllByRecursion (IsSilent at ts) ks
    → first_said (said_by_either at ts) ks ≡ first_carried ts ks
same at ts [] silent = refl
same at ts (k ∷ ks) silent = step at ts k ks (value_of (full_key k) ts) refl silent.0 (same at ts ks silent.1)

quiet_decides : (at : Moment) (ts : TagList) (d : Dir) → AreQuiet at ts d → decision_at at ts d ≡ decision_of ts d
unfolding decision_at decision_of deciding
quiet_decides at ts d quiet =
    same at ts (deciding_keys d) (recursion_from_All (IsSilent at ts) (deciding_keys d) quiet)

pub quiet_direction : (at : Moment) (ts : TagList) (d : Dir) → AreQuiet at ts d
    → direction_by ts d (decision_at at ts d) ≡ direction ts d
unfolding direction
quiet_direction at ts d quiet = ap (direction_by ts d) (quiet_decides at ts d quiet)

pub quiet_zone : (n : ℕ) (at : Moment) (ts : TagList) (d : Dir) → AreQuiet at ts d
    → (n == 2 && is_zone_by ts d (decision_at at ts d)) ≡ (n == 2 && is_zone ts d)
unfolding is_zone
quiet_zone n at ts d quiet = ap (λ c. n == 2 && is_zone_by ts d c) (quiet_decides at ts d quiet)
