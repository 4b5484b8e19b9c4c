-- An input gives at most one list of events.
use Rattle.std.specs.Prelude.{◌≡◌, ℕ, ℤ, Bool, true, false, List, [], ◌∷◌, Option, Some, None, refl}
use Rattle.std.specs.List.{AllZip}
use Rattle.std.proofs.Common.{sym, ap, subst, ◌∙◌}
use Rattle.road_base.specs.declared.ids.Key.{Key}
use Rattle.road_base.specs.declared.ids.Key.TheVariants.{Node as NodeKey, Way as WayKey, Relation as RelationKey}
use Rattle.road_base.specs.declared.location.Location.{Location}
use Rattle.road_base.specs.declared.objects.Node.{Node}
use Rattle.road_base.specs.declared.objects.Way.{Way}
use Rattle.road_base.specs.declared.objects.Relation.{Relation}
use Rattle.road_base.specs.declared.objects.Body.{Body}
use Rattle.road_base.specs.declared.objects.Body.TheVariants.{Node as NodeBody, Way as WayBody}
use Rattle.road_base.specs.declared.objects.Body.TheVariants.{Relation as RelationBody}
use Rattle.road_base.specs.declared.event.Event.{Event}
use Rattle.road_base.specs.Tags.{TagList, value_of}
use Rattle.opl_lexer.specs.declared.mode.Mode.{Mode}
use Rattle.opl_lexer.specs.Lines.{lines}
use Rattle.opl_lexer.specs.Contents.{Parsed, Good, key_of}
use Rattle.opl_lexer.specs.Spelling.{AreTags, HasPlace, IsNode, IsWay, IsRelation, HasBody, Spells, is_deleted}
use Rattle.opl_lexer.specs.Spelling.{version_in}
use Rattle.opl_lexer.specs.Reading.{ReadAll, object_lines}
use Rattle.opl_lexer.proofs.OneReadingTags.{same_tags}
use Rattle.road_base.proofs.EqualPlaces.{equal_places}
use Rattle.opl_lexer.proofs.OneReadingEvents.{same_event}

-- what a text holds is one value
one_good : {A : Type 0} (held : Parsed A) (x y : A) → held ≡ Good x → held ≡ Good y → x ≡ y
one_good held x y p q =
    let same : Good x ≡ Good y = sym p ∙ q in
    cc

one_some : {A : Type 0} (held : Option A) (x y : A) → held ≡ Some x → held ≡ Some y → x ≡ y
one_some held x y p q =
    let same : Some x ≡ Some y = sym p ∙ q in
    cc

one_tags : (list : List ℕ) (ts us : TagList) → AreTags list ts → AreTags list us → ts ≡ us
one_tags list ts us p q =
    let same : p.pairs ≡ q.pairs = one_good _ p.pairs q.pairs p.read q.read in
    same_tags ts us p.ascending q.ascending (λ k. p.values k ∙ (ap (value_of k) same ∙ sym (q.values k)))

one_place : (lon lat : Option ℤ) (a b : Option Location) → HasPlace lon lat a → HasPlace lon lat b → a ≡ b
one_place (Some lon) (Some lat) a b p q = p.1
    ∙ (ap Some (equal_places p.0 q.0 (p.2 ∙ sym q.2) (p.3 ∙ sym q.3)) ∙ sym q.1)
one_place (Some lon) None a b p q = p ∙ sym q
one_place None lat a b p q = p ∙ sym q

one_node : (others : List (List ℕ)) (n m : Node) → IsNode others n → IsNode others m → n ≡ m
one_node others n m p q =
    let tags = one_tags _ n.tags m.tags p.tags q.tags in
    let place = one_place _ _ n.location m.location p.place q.place in
    λ i. record { tags = tags i; location = place i }

one_way : (others : List (List ℕ)) (v w : Way) → IsWay others v → IsWay others w → v ≡ w
one_way others v w p q =
    let tags = one_tags _ v.tags w.tags p.tags q.tags in
    let refs : v.refs ≡ w.refs = one_good _ v.refs w.refs p.refs q.refs in
    λ i. record { tags = tags i; refs = refs i }

one_relation : (others : List (List ℕ)) (r s : Relation) → IsRelation others r → IsRelation others s → r ≡ s
one_relation others r s p q =
    let tags = one_tags _ r.tags s.tags p.tags q.tags in
    let members : r.members ≡ s.members = one_good _ r.members s.members p.members q.members in
    λ i. record { tags = tags i; members = members i }

one_body : (deleted : Bool) (others : List (List ℕ)) (key : Key) (a b : Body) → HasBody deleted others key a
    → HasBody deleted others key b → a ≡ b
one_body true others key a b p q = p ∙ sym q
one_body false others (NodeKey id) a b p q = p.1 ∙ (ap NodeBody (one_node others p.0 q.0 p.2 q.2) ∙ sym q.1)
one_body false others (WayKey id) a b p q = p.1 ∙ (ap WayBody (one_way others p.0 q.0 p.2 q.2) ∙ sym q.1)
one_body false others (RelationKey id) a b p q = p.1 ∙ (ap RelationBody (one_relation others p.0 q.0 p.2 q.2) ∙ sym q.1)

one_event : (mode : Mode) (line : List ℕ) (e d : Event) → Spells mode line e → Spells mode line d → e ≡ d
one_event mode line e d p q =
    let split : p.object ∷ p.others ≡ q.object ∷ q.others = sym p.split ∙ q.split in
    let object : p.object ≡ q.object = cc in
    let others : p.others ≡ q.others = cc in
    let key : e.key ≡ d.key = one_some (key_of p.object) e.key d.key p.key (ap key_of object ∙ q.key) in
    let version : e.version ≡ d.version = p.version ∙ (ap version_in others ∙ sym q.version) in
    let same_others : HasBody (is_deleted p.others) p.others d.key d.body = subst
    (λ (os : List (List ℕ)). HasBody (is_deleted os) os d.key d.body) (sym others) q.body in
    let same_key : HasBody (is_deleted p.others) p.others e.key d.body = subst
    (λ (k : Key). HasBody (is_deleted p.others) p.others k d.body) (sym key) same_others in
    same_event e d key version (one_body (is_deleted p.others) p.others e.key e.body d.body p.body same_key)

-- where each line says one event, the lines say one list
one_list : (mode : Mode) (ls : List (List ℕ)) (es ds : List Event) → AllZip (Spells mode) ls es
    → AllZip (Spells mode) ls ds → es ≡ ds
one_list mode [] [] [] p q = refl
one_list mode [] [] (d ∷ ds) p q = absurd q
one_list mode [] (e ∷ es) ds p q = absurd p
one_list mode (l ∷ ls) [] ds p q = absurd p
one_list mode (l ∷ ls) (e ∷ es) [] p q = absurd q
one_list mode (l ∷ ls) (e ∷ es) (d ∷ ds) p q =
    let first : e ≡ d = one_event mode l e d p.0 q.0 in
    let rest : es ≡ ds = one_list mode ls es ds p.1 q.1 in
    cc

pub one_reading : (mode : Mode) (bytes : List ℕ) (events others : List Event) → ReadAll mode bytes events
    → ReadAll mode bytes others → events ≡ others
one_reading mode bytes events others p q = one_list mode (object_lines (lines bytes)) events others p.each q.each
