-- What a key with the ending `:conditional` says, by what is read of its value.
use Rattle.std.proofs.Common.{◌≡◌, ℕ, List, Option, None, Some, true, refl, option_map}
use Rattle.std.specs.Option.{option_and_then}
use Rattle.road_base.specs.Tags.{TagList, value_of}
use Rattle.access_profile.specs.Deciding.{SidedKey}
use Rattle.access_profile.specs.Decisions.{decision_by}
use Rattle.moment_rules.specs.declared.moment.Moment.{Moment}
use Rattle.moment_rules.specs.Conditionals.{last_value, parts_of, value_at, said_at}
use Rattle.moment_rules.specs.MomentDecisions.{conditional_key, said_by_conditional}

flat : {A B : Type 0} (f : A → Option B) (o : Option A) (r : Option B) → option_map f o ≡ Some r
    → option_and_then f o ≡ r
flat f None r e = absurd (cc)
flat f (Some x) r e = cc

flat_none : {A B : Type 0} (f : A → Option B) (o : Option A) → option_map f o ≡ None → option_and_then f o ≡ None
flat_none f None e = refl
flat_none f (Some x) e = absurd (cc)

pub value_read : (at : Moment) (v : List ℕ) (r : Option (List ℕ)) → said_at at v ≡ Some r → value_at at v ≡ r
value_read at v r e = flat (last_value at) (parts_of v) r e

pub value_unread : (at : Moment) (v : List ℕ) → said_at at v ≡ None → value_at at v ≡ None
value_unread at v e = flat_none (last_value at) (parts_of v) e

-- the tags don't carry it
pub absent_says : (at : Moment) (ts : TagList) (k : SidedKey) → value_of (conditional_key k) ts ≡ None
    → None ≡ said_by_conditional at ts k
absent_says at ts k e = rw e refl

-- they do
pub carried_says : (at : Moment) (ts : TagList) (k : SidedKey) (v : List ℕ) (o : Option (List ℕ))
    → value_of (conditional_key k) ts ≡ Some v → value_at at v ≡ o
    → option_map (decision_by true k) o ≡ said_by_conditional at ts k
carried_says at ts k v o e f = rw e (rw f refl)
