-- One call after another, as far as an object tells.
use Rattle.std.proofs.Common.{Option, None, Some, IfSome}
use Rattle.road_io.specs.Told.{Told}

-- what holds of what is told goes on to what is told after a call
pub told_if : {W : Type 0} (x y : Option W) (R : W → W → Type 0) (P Q : W → Type 0) → Told R x y → IfSome x P
    → ((w v : W) → P w → R w v → Q v) → IfSome y Q
told_if None None R P Q told holds f = tt
told_if None (Some v) R P Q told holds f = absurd told
told_if (Some w) None R P Q told holds f = absurd told
told_if (Some w) (Some v) R P Q told holds f = f w v holds told

-- what one call does and what the next one does
pub told_then : {W : Type 0} (x y z : Option W) (R S T : W → W → Type 0) → Told R x y → Told S y z
    → ((w u v : W) → R w u → S u v → T w v) → Told T x z
told_then None None None R S T first second f = tt
told_then None None (Some v) R S T first second f = absurd second
told_then None (Some u) z R S T first second f = absurd first
told_then (Some w) None z R S T first second f = absurd first
told_then (Some w) (Some u) None R S T first second f = absurd second
told_then (Some w) (Some u) (Some v) R S T first second f = f w u v first second

pub told_weaker : {W : Type 0} (x y : Option W) (R S : W → W → Type 0) → Told R x y
    → ((w v : W) → R w v → S w v) → Told S x y
told_weaker None None R S told f = tt
told_weaker None (Some v) R S told f = absurd told
told_weaker (Some w) None R S told f = absurd told
told_weaker (Some w) (Some v) R S told f = f w v told

-- before the first call
pub told_same : {W : Type 0} (x : Option W) (R : W → W → Type 0) → ((w : W) → R w w) → Told R x x
told_same None R f = tt
told_same (Some w) R f = f w

-- what is told, with what holds of each that tells
pub told_with : {W : Type 0} (x y : Option W) (P : W → Type 0) (R S : W → W → Type 0) → IfSome x P → Told R x y
    → ((w v : W) → P w → R w v → S w v) → Told S x y
told_with None None P R S holds told f = tt
told_with None (Some v) P R S holds told f = absurd told
told_with (Some w) None P R S holds told f = absurd told
told_with (Some w) (Some v) P R S holds told f = f w v holds told

-- what is told gives what holds at the end
pub told_gives : {W : Type 0} (x y : Option W) (R : W → W → Type 0) (Q : W → Type 0) → Told R x y
    → ((w v : W) → R w v → Q v) → IfSome y Q
told_gives x None R Q told f = tt
told_gives None (Some v) R Q told f = absurd told
told_gives (Some w) (Some v) R Q told f = f w v told

-- what holds of what is told, weakened
pub some_weaker : {W : Type 0} (x : Option W) (P Q : W → Type 0) → IfSome x P → ((w : W) → P w → Q w) → IfSome x Q
some_weaker None P Q holds f = tt
some_weaker (Some w) P Q holds f = f w holds
