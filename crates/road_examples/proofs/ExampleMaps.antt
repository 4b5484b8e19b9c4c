-- What the worked examples are made of: numbers, entries and steps; and that what a map shows stands among its entries.
use Rattle.std.proofs.Common.{◌≡◌, ℕ, List, [], ◌∷◌, ◌⊎◌, inl, inr, refl, ap, Option, Some, Bool, true, false, cond}
use Rattle.std.proofs.Common.{pos, negsuc, ℤ, codes}
use Rattle.std.specs.Ordering.{int_eq}
use Rattle.std.specs.FinMap.{find}
use Rattle.std.proofs.lemmas.Bool.Decides.{Decides-int_eq}
use Rattle.road_base.specs.declared.ids.NodeId.{NodeId}
use Rattle.road_base.specs.declared.ids.WayId.{WayId}
use Rattle.road_base.specs.declared.ids.RelationId.{RelationId}
use Rattle.road_base.specs.declared.ids.Key.{Key}
use Rattle.road_base.specs.declared.ids.Key.TheVariants.{Node as NodeKey, Way as WayKey, Relation as RelationKey}
use Rattle.road_base.specs.declared.ids.Step.{Step}
use Rattle.road_base.specs.declared.ids.Dir.TheVariants.{Forward, Backward}
use Rattle.road_base.specs.declared.location.Location.{Location}
use Rattle.road_base.specs.declared.objects.Way.{Way}
use Rattle.road_base.specs.declared.objects.Relation.{Relation}
use Rattle.road_base.specs.declared.objects.Body.TheVariants.{Node as NodeBody, Way as WayBody}
use Rattle.road_base.specs.declared.objects.Body.TheVariants.{Relation as RelationBody}
use Rattle.road_base.specs.Objects.{Entry, key_cmp, body_in, way_in, relation_in}
use Rattle.road_base.specs.Tags.{TagList}

abbrev pub node : ℕ → NodeId
node n = record { 0 = pos n }

abbrev pub way : ℕ → WayId
way n = record { 0 = pos n }

abbrev pub relation : ℕ → RelationId
relation n = record { 0 = pos n }

abbrev pub natural : ℤ → ℕ
natural (pos n) = n
natural (negsuc n) = 0

pub same_node_number : (a b : ℕ) → ◌≡◌ {A = Option NodeId} (Some (node a)) (Some (node b)) → a ≡ b
same_node_number a b e = let f : node a ≡ node b = cc in ap (λ (v : NodeId). natural v.0) f

pub same_way_number : (a b : ℕ) → way a ≡ way b → a ≡ b
same_way_number a b e = ap (λ (w : WayId). natural w.0) e

-- the first step of a way, along it and against it
abbrev pub along : ℕ → Step
along w = record { way = way w; index = 0; dir = Forward }

abbrev pub against : ℕ → Step
against w = record { way = way w; index = 0; dir = Backward }

abbrev pub tag : List ℕ → List ℕ → List ℕ × List ℕ
tag key value = (key, value)

abbrev pub residential : TagList
residential = tag (codes "highway") (codes "residential") ∷ []

abbrev pub here : Location
here = record { lon = pos 0; lat = pos 0; in_range = refl }

abbrev pub node_entry : ℕ → TagList → Key × Entry
node_entry n tags =
    (NodeKey (node n), record { version = 1; body = NodeBody (record { tags = tags; location = Some here }) })

abbrev pub way_body : TagList → ℕ → ℕ → Way
way_body tags a b = record { tags = tags; refs = node a ∷ node b ∷ [] }

-- a way over two nodes
abbrev pub way_entry : ℕ → TagList → ℕ → ℕ → Key × Entry
way_entry w tags a b = (WayKey (way w), record { version = 1; body = WayBody (way_body tags a b) })

abbrev pub relation_entry : ℕ → Relation → Key × Entry
relation_entry r body = (RelationKey (relation r), record { version = 1; body = RelationBody body })

-- from a way by another member to a way
abbrev pub turn : TagList → ℕ → Key → ℕ → Relation
turn tags a via b = record {
  tags = tag (codes "type") (codes "restriction") ∷ tags;
  members =
      record { item = WayKey (way a); role = codes "from" }
      ∷ record { item = via; role = codes "via" }
      ∷ record { item = WayKey (way b); role = codes "to" } ∷ [];
}

-- the entries show the way
abbrev pub ShowWay : List (Key × Entry) → WayId → Way → Type 0
ShowWay [] w b = ⊥
ShowWay ((NodeKey n, e) ∷ es) w b = ShowWay es w b
ShowWay ((WayKey v, e) ∷ es) w b = ((w ≡ v) × (way_in (body_in (Some e)) ≡ Some b)) ⊎ ShowWay es w b
ShowWay ((RelationKey r, e) ∷ es) w b = ShowWay es w b

way_here : (w v : WayId) (b : Way) (e : Entry) (o : Option Entry) (more : Type 0) (same : Bool) →
    int_eq w.0 v.0 ≡ same → way_in (body_in (cond same (Some e) o)) ≡ Some b → (way_in (body_in o) ≡ Some b → more) →
    ((w ≡ v) × (way_in (body_in (Some e)) ≡ Some b)) ⊎ more
way_here w v b e o more true s h go = let f = (Decides-int_eq w.0 v.0).0 s in inl ((λ i. record { 0 = f i }), h)
way_here w v b e o more false s h go = inr (go h)

pub way_shown : (es : List (Key × Entry)) (w : WayId) (b : Way) →
    way_in (body_in (find key_cmp (WayKey w) es)) ≡ Some b → ShowWay es w b
way_shown [] w b h = cc
way_shown ((NodeKey n, e) ∷ es) w b h = way_shown es w b h
way_shown ((WayKey v, e) ∷ es) w b h = way_here w v b e (find key_cmp (WayKey w) es) _ _ refl h (way_shown es w b)
way_shown ((RelationKey r, e) ∷ es) w b h = way_shown es w b h

-- the entries show the relation
abbrev pub ShowRelation : List (Key × Entry) → RelationId → Relation → Type 0
ShowRelation [] r b = ⊥
ShowRelation ((NodeKey n, e) ∷ es) r b = ShowRelation es r b
ShowRelation ((WayKey v, e) ∷ es) r b = ShowRelation es r b
ShowRelation ((RelationKey q, e) ∷ es) r b = ((r ≡ q) × (relation_in (body_in (Some e)) ≡ Some b)) ⊎ ShowRelation es r b

relation_here : (r q : RelationId) (b : Relation) (e : Entry) (o : Option Entry) (more : Type 0) (same : Bool) →
    int_eq r.0 q.0 ≡ same → relation_in (body_in (cond same (Some e) o)) ≡ Some b →
    (relation_in (body_in o) ≡ Some b → more) → ((r ≡ q) × (relation_in (body_in (Some e)) ≡ Some b)) ⊎ more
relation_here r q b e o more true s h go = let f = (Decides-int_eq r.0 q.0).0 s in inl ((λ i. record { 0 = f i }), h)
relation_here r q b e o more false s h go = inr (go h)

pub relation_shown : (es : List (Key × Entry)) (r : RelationId) (b : Relation) →
    relation_in (body_in (find key_cmp (RelationKey r) es)) ≡ Some b → ShowRelation es r b
relation_shown [] r b h = cc
relation_shown ((NodeKey n, e) ∷ es) r b h = relation_shown es r b h
relation_shown ((WayKey v, e) ∷ es) r b h = relation_shown es r b h
relation_shown ((RelationKey q, e) ∷ es) r b h =
    relation_here r q b e (find key_cmp (RelationKey r) es) _ _ refl h (relation_shown es r b)
