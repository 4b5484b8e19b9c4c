-- Of the eight keys the first that says something decides.
use Rattle.std.proofs.Common.{◌≡◌, ℕ, List, [], ◌∷◌, true, Option, None, Some, refl, sym, ◌∙◌, ap}
use Rattle.std.proofs.Common.{◌<◌, ◌+◌, length, get_or, drop, is_some}
use Rattle.std.proofs.lemmas.List.{drop_more}
use Rattle.road_base.specs.declared.ids.Dir.{Dir}
use Rattle.road_base.specs.Tags.{TagList, value_of}
use Rattle.road_model.specs.declared.answers.AccessKey.{AccessKey}
use Rattle.road_model.specs.declared.answers.AccessKey.TheVariants.{Motorcar, MotorVehicle, Vehicle, Access}
use Rattle.access_profile.specs.declared.decisions.Decision.{Decision}
use Rattle.access_profile.specs.Deciding.{SidedKey, full_key, deciding_keys}
use Rattle.access_profile.specs.FirstLetters.{may_be_access_key}
use Rattle.moment_rules.specs.declared.moment.Moment.{Moment}
use Rattle.moment_rules.specs.MomentDecisions.{conditional_key, first_said, said_by_either, decision_at}

-- a key that says nothing is passed
pub passed : (said : SidedKey → Option Decision) (k : SidedKey) (ks : List SidedKey) → said k ≡ None
    → first_said said (k ∷ ks) ≡ first_said said ks
passed said k ks none = rw none refl

-- one that says something decides
pub decided : (said : SidedKey → Option Decision) (k : SidedKey) (ks : List SidedKey) (c : Decision) → said k ≡ Some c
    → first_said said (k ∷ ks) ≡ Some c
decided said k ks c is = rw is is

-- the key at a place of the list decides, where none before it says anything
pub decided_at : (said : SidedKey → Option Decision) (ks : List SidedKey) (i : ℕ) (d : SidedKey) (o : Option Decision)
    (c : Decision) → i < length ks → o ≡ said (get_or ks i d) → o ≡ Some c
    → first_said said ks ≡ first_said said (drop i ks) → Some c ≡ first_said said ks
decided_at said ks i d o c lt e is so_far =
    sym (so_far ∙ ap (first_said said) (drop_more ks i d lt)
    ∙ decided said (get_or ks i d) (drop (i + 1) ks) c (sym e ∙ is))

-- or is passed
pub passed_at : (said : SidedKey → Option Decision) (ks : List SidedKey) (i : ℕ) (d : SidedKey) (o : Option Decision)
    → i < length ks → o ≡ said (get_or ks i d) → o ≡ None
    → first_said said ks ≡ first_said said (drop i ks) → first_said said ks ≡ first_said said (drop (i + 1) ks)
passed_at said ks i d o lt e is so_far =
    so_far ∙ ap (first_said said) (drop_more ks i d lt)
    ∙ passed said (get_or ks i d) (drop (i + 1) ks) (sym e ∙ is)

nothing : (said : SidedKey → Option Decision) (ks : List SidedKey) → ((k : SidedKey) → said k ≡ None)
    → first_said said ks ≡ None
nothing said [] none = refl
nothing said (k ∷ ks) none = passed said k ks (none k) ∙ nothing said ks none

-- an access key begins with the letter of one, with whatever ending
begins : (n : AccessKey) (s : Option Dir) → may_be_access_key (full_key (n, s)) ≡ true
begins Motorcar s = refl
begins MotorVehicle s = refl
begins Vehicle s = refl
begins Access s = refl

begins_too : (n : AccessKey) (s : Option Dir) → may_be_access_key (conditional_key (n, s)) ≡ true
begins_too Motorcar s = refl
begins_too MotorVehicle s = refl
begins_too Vehicle s = refl
begins_too Access s = refl

silent : (at : Moment) (ts : TagList) (k : SidedKey) → value_of (conditional_key k) ts ≡ None
    → value_of (full_key k) ts ≡ None → said_by_either at ts k ≡ None
silent at ts k e f = rw e (rw f refl)

-- where no key begins so, none decides
pub none_decides : (at : Moment) (ts : TagList) (d : Dir)
    → ((key : List ℕ) → may_be_access_key key ≡ true → value_of key ts ≡ None) → None ≡ decision_at at ts d
unfolding decision_at
none_decides at ts d none = sym (nothing (said_by_either at ts) (deciding_keys d)
    (λ k. silent at ts k (none (conditional_key k) (begins_too k.0 k.1)) (none (full_key k) (begins k.0 k.1))))
