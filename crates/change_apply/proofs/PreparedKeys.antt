-- The keys that a prepared change alters.
use Rattle.std.proofs.Common.{◌≡◌, List, sym, subst}
use Rattle.road_base.specs.declared.ids.Key.{Key}
use Rattle.road_base.specs.Objects.{Objects}
use Rattle.road_model.specs.Links.{AreChanged}

-- of the maps as they are called elsewhere
pub changed_of : (M N here next : Objects) (keys own : List Key) → M ≡ here → next ≡ N → own ≡ keys
    → AreChanged M N keys → AreChanged here next own
changed_of M N here next keys own a b e changed =
    subst (λ (x : Objects). AreChanged x next own) a
    (subst (λ (y : Objects). AreChanged M y own) (sym b)
    (subst (λ (ks : List Key). AreChanged M N ks) (sym e) changed))
