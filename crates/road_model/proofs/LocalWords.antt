-- The words that have a step of a way are the same where all within two links of it is.
use Rattle.std.proofs.Common.{◌≡◌, ◌↔◌, ℕ, List, [], ◌∷◌, inl, inr, refl, sym, ◌∙◌, subst, Bool, Some}
use Rattle.std.proofs.Common.{IsTrue, Contains, map}
use Rattle.std.specs.Prelude.{codes}
use Rattle.road_base.specs.declared.ids.NodeId.{NodeId}
use Rattle.road_base.specs.declared.ids.WayId.{WayId}
use Rattle.road_base.specs.declared.ids.RelationId.{RelationId}
use Rattle.road_base.specs.declared.ids.Key.{Key}
use Rattle.road_base.specs.declared.ids.Key.TheVariants.{Node as NodeKey, Way as WayKey, Relation as RelationKey}
use Rattle.road_base.specs.declared.ids.Step.{Step}
use Rattle.road_base.specs.declared.objects.Relation.{Relation}
use Rattle.road_base.specs.Objects.{Objects, visible, way_of, relation_of}
use Rattle.road_model.specs.declared.answers.Unusable.TheVariants.{Members}
use Rattle.road_model.specs.Rules.{Rules, is_restriction, is_only}
use Rattle.road_model.specs.Restrictions.{in_role, via_order}
use Rattle.road_model.specs.Words.{IsWord, IsEndInto, IsEndFrom, IsVia}
use Rattle.road_model.specs.Links.{HasMember, IsWithin}
use Rattle.road_model.specs.Local.{IsSameWithin}
use Rattle.ordered_lists.proofs.ListMembers.{In, in_from_contains, contains_from_in}
use Rattle.road_model.proofs.WordMembers.{role_member, on_members}
use Rattle.road_model.proofs.LocalLinks.{IsAlike, way_same, relation_same, alike_turned}
use Rattle.road_model.proofs.LocalBodies.{line_same, end_same}
use Rattle.road_model.proofs.LocalRules.{not_from, not_to, not_via, AreSame, AreAllSame, usable_kept, open_run_kept}
use Rattle.road_model.proofs.LocalRules.{order_same, same_in_order}
use Rattle.road_model.proofs.LocalPieces.{near_three}

-- two ways with steps of one word are within two links
pub linked : (M : Objects) (P : Rules) (r : RelationId) (only : Bool) (binding : ℕ) (u : List Step)
    → IsWord M P r only binding u → (s t : Step) → In s u → In t u → IsWithin M 2 (WayKey s.way) (WayKey t.way)
linked M P r only binding u h s t i j = inr (
  RelationKey r,
  inr (WayKey s.way, refl, on_members M P r only binding u h s (contains_from_in u s i)),
  on_members M P r only binding u h t (contains_from_in u t j),
)

module _ (M N : Objects) (P : Rules) where
  via_kept : (ks : List Key) → AreSame M N ks → (v : NodeId) (via : List Step) (out : NodeId) → IsVia M P ks v via out
      → IsVia N P ks v via out
  via_kept [] same v via out h = h
  via_kept (NodeKey n ∷ []) same v via out h = h
  via_kept (NodeKey n ∷ k ∷ ks) same v via out h = h
  via_kept (WayKey w ∷ ks) same v via out h = open_run_kept M N P (WayKey w ∷ ks) same v via out h
  via_kept (RelationKey r ∷ ks) same v via out h = h

  into_kept : (w : WayId) (v : NodeId) (s : Step) → way_of M w ≡ way_of N w → IsEndInto M w v s → IsEndInto N w v s
  into_kept w v s e h = record {
    of = h.of;
    head = sym (end_same M N s _ (rw h.of e)) ∙ h.head;
    end = rw (line_same M N w e) at h.end;
  }

  from_kept : (w : WayId) (v : NodeId) (s : Step) → way_of M w ≡ way_of N w → IsEndFrom M w v s → IsEndFrom N w v s
  from_kept w v s e h = record {
    of = h.of;
    tail = sym (end_same M N s _ (rw h.of e)) ∙ h.tail;
    end = rw (line_same M N w e) at h.end;
  }

  -- a node or way that is a member of the relation has the same visible body in both object maps
  member_same : (r : RelationId) (w : WayId) (body : Relation) → relation_of M r ≡ Some body
      → IsTrue (is_restriction body.tags) → IsAlike M N 2 (WayKey w) → HasMember M r (WayKey w) → (k : Key)
      → ((q : RelationId) → k ≡ RelationKey q → ⊥) → In k (map (λ m. m.item) body.members)
      → visible M k ≡ visible N k
  member_same r w body e is al link (NodeKey v) never i = al (NodeKey v) (inl (inr (
    RelationKey r,
    inr (WayKey w, refl, link),
    record { body = body; is = e; restriction = is; member = contains_from_in _ _ i },
  )))
  member_same r w body e is al link (WayKey u) never i = al (WayKey u) (inl (inr (
    RelationKey r,
    inr (WayKey w, refl, link),
    record { body = body; is = e; restriction = is; member = contains_from_in _ _ i },
  )))
  member_same r w body e is al link (RelationKey q) never i = absurd (never q refl)

  module _ (r : RelationId) (only : Bool) (binding : ℕ) (u : List Step) (h : IsWord M P r only binding u) (s : Step)
      (i : In s u) (al : IsAlike M N 2 (WayKey s.way)) where
    link : HasMember M r (WayKey s.way)
    link = on_members M P r only binding u h s (contains_from_in u s i)

    role_same : (role : List ℕ) → ((q : RelationId) → In (RelationKey q) (in_role role h.body.members) → ⊥)
        → AreSame M N (in_role role h.body.members)
    role_same role none k j = member_same r s.way h.body h.visible h.restriction al link k
        (λ q e. none q (subst (λ x. In x (in_role role h.body.members)) e j))
        (role_member role k h.body.members j)

    all_same : AreAllSame M N h.body
    all_same = record {
      from = role_same (codes "from") (not_from (is_only (P.rule h.body.tags)) h.body (h.usable Members));
      via = role_same (codes "via") (not_via (is_only (P.rule h.body.tags)) h.body (h.usable Members));
      to = role_same (codes "to") (not_to (is_only (P.rule h.body.tags)) h.body (h.usable Members));
    }

    pub word_kept : IsWord N P r only binding u
    word_kept =
        let e = relation_same M N r (al (RelationKey r) (inl (inl (inr (WayKey s.way, refl, link))))) in
        let from = all_same.from (WayKey h.from_way) (in_from_contains _ _ h.from_member) in
        let to = all_same.to (WayKey h.to_way) (in_from_contains _ _ h.to_member) in
        record {
          body = h.body;
          visible = sym e ∙ h.visible;
          restriction = h.restriction;
          usable = usable_kept M N P h.body all_same h.usable;
          kind = h.kind;
          from_way = h.from_way;
          to_way = h.to_way;
          from_member = h.from_member;
          to_member = h.to_member;
          bound = h.bound;
          enter = h.enter;
          leave = h.leave;
          first = h.first;
          via = h.via;
          last = h.last;
          spelled = h.spelled;
          first_ends = into_kept h.from_way h.enter h.first (way_same M N h.from_way from) h.first_ends;
          via_is = subst (λ vs. IsVia N P vs h.enter h.via h.leave) (order_same M N h.body all_same P)
              (via_kept (via_order M P h.body) (same_in_order M N h.body all_same P) h.enter h.via h.leave h.via_is);
          last_begins = from_kept h.to_way h.leave h.last (way_same M N h.to_way to) h.last_begins;
        }

-- ---- the words with a step of the way, where all within three links is the same

pub local_words : (M N : Objects) (P : Rules) (w : WayId) (r : RelationId) (only : Bool) (binding : ℕ) (u : List Step)
    (s : Step) → IsSameWithin 3 M N w → Contains u s → s.way ≡ w → IsWord M P r only binding u
    ↔ IsWord N P r only binding u
local_words M N P w r only binding u s same has on =
    let al = near_three M N w s.way same on in
    let i = in_from_contains u s has in (
      λ h. word_kept M N P r only binding u h s i al,
      λ h. word_kept N M P r only binding u h s i (alike_turned M N 2 (WayKey s.way) al),
    )
