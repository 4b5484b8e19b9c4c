-- What is known of the nodes that were followed in a round.
use Rattle.std.proofs.Common.{◌≡◌, Bool, true, false, cond, IsTrue, [], refl, sym, ◌∙◌, subst, inl}
use Rattle.std.specs.Ordering.{is_eq}
use Rattle.std.specs.List.{list_any}
use Rattle.std.specs.Cmp.{Equal-is}
use Rattle.std.specs.FinMap.{IsAntisymmetric}
use Rattle.std.specs.BTreeSet.{BTreeSet, contains, Updates}
use Rattle.std.proofs.lemmas.Bool.{false≢true}
use Rattle.road_base.specs.declared.ids.NodeId.{NodeId}
use Rattle.road_base.specs.declared.ids.Key.{Key}
use Rattle.road_base.specs.declared.ids.Key.TheVariants.{Node as NodeKey}
use Rattle.road_model.specs.Orders.{node_cmp}
use Rattle.touched_ways.specs.declared.found.Reached.{Reached}
use Rattle.touched_ways.specs.Searches.{IsFound, Finds, AreFollowed}

module _ (Link : Key → Key → Type 0) where
  pub followed_none : (hubs : BTreeSet NodeId) (f : Reached) → hubs.keys ≡ [] → AreFollowed Link hubs f
  followed_none hubs f empty n h k link =
      absurd (false≢true (subst (λ l. list_any (λ m. is_eq (node_cmp n m)) l ≡ true) empty h))

  -- what was found since is no less
  pub followed_still : (hubs : BTreeSet NodeId) (f g : Reached) (Is : Key → Type 0) → Finds f g Is
      → AreFollowed Link hubs f → AreFollowed Link hubs g
  followed_still hubs f g Is finds are n h k link = finds.keeps k (are n h k link)

  -- one more was followed
  pub followed_more : (hubs more : BTreeSet NodeId) (g : Reached) (node : NodeId) → IsAntisymmetric node_cmp
      → Updates node_cmp hubs more node true → AreFollowed Link hubs g
      → ((k : Key) → Link (NodeKey node) k → IsFound g k) → AreFollowed Link more g
  followed_more hubs more g node ties added are now n h k link =
      cases (is_eq (node_cmp node n)) refl (sym (added.0 n) ∙ h)
    where
      cases : (same : Bool) → is_eq (node_cmp node n) ≡ same → cond same true (contains node_cmp hubs n) ≡ true
          → IsFound g k
      cases true e i = now k (subst (λ m. Link (NodeKey m) k) (sym (ties node n ((Equal-is _).0 e))) link)
      cases false e i = are n i k link

  -- a node that was followed
  pub finds_followed : (hubs : BTreeSet NodeId) (f : Reached) (node : NodeId) → IsTrue (contains node_cmp hubs node)
      → AreFollowed Link hubs f → Finds f f (Link (NodeKey node))
  finds_followed hubs f node h are = record { sound = λ k i. inl i; complete = are node h; keeps = λ k i. i }
