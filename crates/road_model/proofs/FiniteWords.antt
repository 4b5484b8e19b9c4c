-- The words of an object map are finitely many, so whether some word goes on where a list ends is decided.
use Rattle.std.proofs.Common.{◌≡◌, ℕ, ◌+◌, ◌-◌, List, [], ◌∷◌, ◌++◌, length, ◌⊎◌, inl, inr, refl, sym, ap, ◌∙◌, subst}
use Rattle.std.proofs.Common.{arith, Bool, true, false, cond, Option, Some, None, IsTrue, Contains}
use Rattle.std.specs.Ordering.{int_eq}
use Rattle.std.specs.FinMap.{get, entries, get-entries, find}
use Rattle.std.proofs.lemmas.Bool.Decides.{Decides-int_eq}
use Rattle.road_base.specs.declared.ids.NodeId.{NodeId}
use Rattle.road_base.specs.declared.ids.WayId.{WayId}
use Rattle.road_base.specs.declared.ids.RelationId.{RelationId}
use Rattle.road_base.specs.declared.ids.Key.{Key}
use Rattle.road_base.specs.declared.ids.Key.TheVariants.{Node as NodeKey, Way as WayKey, Relation as RelationKey}
use Rattle.road_base.specs.declared.ids.Step.{Step}
use Rattle.road_base.specs.declared.ids.Dir.{Dir}
use Rattle.road_base.specs.declared.ids.Dir.TheVariants.{Forward, Backward}
use Rattle.road_base.specs.declared.objects.Relation.{Relation}
use Rattle.road_base.specs.Objects.{Objects, Entry, key_cmp, relation_of, visible, body_in}
use Rattle.road_base.specs.Objects.{relation_in as relation_body}
use Rattle.road_model.specs.Rules.{Rules, is_restriction}
use Rattle.road_model.specs.Lines.{line_of, head_of, tail_of}
use Rattle.road_model.specs.Driving.{is_open}
use Rattle.road_model.specs.Restrictions.{froms, vias, tos, via_order, IsUsable}
use Rattle.road_model.specs.Words.{IsWord, IsEndInto, IsEndFrom, IsVia, kind_of, binding_of}
use Rattle.road_model.specs.Network.{AnyWord}
use Rattle.ordered_lists.proofs.ListMembers.{In, in_from_contains, contains_from_in}
use Rattle.ordered_lists.proofs.Decided.{Decided, decided_both, decided_like, decided_true}
use Rattle.road_model.proofs.Positions.{decided_option, decided_number, decided_way, decided_less, decided_node}
use Rattle.road_model.proofs.StepPlaces.{step}
use Rattle.ordered_lists.proofs.Enumerated.{Finite, fin_none, fin_one, fin_or, fin_like, fin_by, fin_if, fin_bind}
use Rattle.ordered_lists.proofs.Enumerated.{fin_list, fin_some, search_finite}
use Rattle.road_model.proofs.FiniteRuns.{pair_is, fin_run}
use Rattle.road_model.proofs.Usable.{decided_kind, usable_decided}
use Rattle.road_model.proofs.WalkLists.{Continues}

-- the ways among keys
way_list : List Key → List WayId
way_list [] = []
way_list (NodeKey n ∷ ks) = way_list ks
way_list (WayKey w ∷ ks) = w ∷ way_list ks
way_list (RelationKey r ∷ ks) = way_list ks

key_in : (w : WayId) (ks : List Key) → In w (way_list ks) → In (WayKey w) ks
unfolding way_list
key_in w [] i = i
key_in w (NodeKey n ∷ ks) i = inr (key_in w ks i)
key_in w (WayKey v ∷ ks) (inl e) = inl (ap WayKey e)
key_in w (WayKey v ∷ ks) (inr i) = inr (key_in w ks i)
key_in w (RelationKey r ∷ ks) i = inr (key_in w ks i)

way_in : (w : WayId) (ks : List Key) → In (WayKey w) ks → In w (way_list ks)
unfolding way_list
way_in w [] i = i
way_in w (NodeKey n ∷ ks) (inl e) = cc
way_in w (NodeKey n ∷ ks) (inr i) = way_in w ks i
way_in w (WayKey v ∷ ks) (inl e) = inl (cc)
way_in w (WayKey v ∷ ks) (inr i) = inr (way_in w ks i)
way_in w (RelationKey r ∷ ks) (inl e) = cc
way_in w (RelationKey r ∷ ks) (inr i) = way_in w ks i

fin_ways : (ks : List Key) → Finite (λ w. Contains ks (WayKey w))
fin_ways ks = fin_like (λ w i. contains_from_in ks (WayKey w) (key_in w ks i))
    (λ w h. way_in w ks (in_from_contains ks (WayKey w) h)) (fin_list (way_list ks))

passes_to : {X : Type 0} (A Q : X → Type 0) (x : X) → (a : X) × Q a × (A a × (x ≡ a)) → A x × Q x
passes_to A Q x h = (subst A (sym h.2.1) h.2.0, subst Q (sym h.2.1) h.1)

passes_from : {X : Type 0} (A Q : X → Type 0) (x : X) → A x × Q x → (a : X) × Q a × (A a × (x ≡ a))
passes_from A Q x h = (x, h.1, (h.0, refl))

-- the members that pass a further test
pub fin_pass : {X : Type 0} {Q : X → Type 0} (A : X → Type 0) → ((x : X) → Decided (A x)) → Finite Q
    → Finite (λ x. A x × Q x)
fin_pass {X = X} {Q = Q} A each f = fin_like (passes_to A Q) (passes_from A Q)
    (fin_bind f (λ x. fin_if (each x) (λ a. fin_one x)))

module _ (M : Objects) (P : Rules) where
  -- the first or the last stretch of a way
  AtStart : WayId → Dir → Step → Type 0
  AtStart w d s = (s.way ≡ w) × (s.dir ≡ d) × (s.index ≡ 0)

  AtStop : WayId → Dir → Step → Type 0
  AtStop w d s = (s.way ≡ w) × (s.dir ≡ d) × (s.index + 2 ≡ length (line_of M w))

  step_by : (w : WayId) (d : Dir) (i : ℕ) (s : Step) → s.way ≡ w → s.dir ≡ d → s.index ≡ i → s ≡ step w d i
  step_by w d i s e f g = λ x. record { way = e x; index = g x; dir = f x }

  fin_start : (w : WayId) (d : Dir) → Finite (AtStart w d)
  unfolding AtStart
  fin_start w d = fin_like (λ s e. (ap (λ t. t.way) e, ap (λ t. t.dir) e, ap (λ t. t.index) e))
      (λ s h. step_by w d 0 s h.0 h.1 h.2) (fin_one (step w d 0))

  two_less : (n i : ℕ) → i + 2 ≡ n → i ≡ n - 2
  two_less n i e = omega arith

  fin_stop : (w : WayId) (d : Dir) → Finite (AtStop w d)
  unfolding AtStop
  fin_stop w d = fin_like
      (λ s h. let i : s.index ≡ length (line_of M w) - 2 = ap (λ t. t.index) h.1 in let l = h.0
      in (ap (λ t. t.way) h.1, ap (λ t. t.dir) h.1, omega arith))
      (λ s h. let i = h.2 in (omega arith, step_by w d (length (line_of M w) - 2) s h.0 h.1 (two_less _ _ i)))
      (fin_if (decided_less 1 (length (line_of M w))) (λ l. fin_one (step w d (length (line_of M w) - 2))))

  fin_into : (w : WayId) → Finite (λ s. AtStop w Forward s ⊎ AtStart w Backward s)
  fin_into w = fin_or (fin_stop w Forward) (fin_start w Backward)

  fin_from : (w : WayId) → Finite (λ s. AtStart w Forward s ⊎ AtStop w Backward s)
  fin_from w = fin_or (fin_start w Forward) (fin_stop w Backward)

  ends_into : (w : WayId) (v : NodeId) (s : Step) → AtStop w Forward s ⊎ AtStart w Backward s → head_of M s ≡ Some v
      → IsEndInto M w v s
  unfolding AtStart AtStop
  ends_into w v s (inl h) e = record { of = h.0; head = e; end = inl (h.1, h.2) }
  ends_into w v s (inr h) e = record { of = h.0; head = e; end = inr (h.1, h.2) }

  into_ends : (w : WayId) (s : Step) → s.way ≡ w
      → ((s.dir ≡ Forward) × (s.index + 2 ≡ length (line_of M w))) ⊎ ((s.dir ≡ Backward) × (s.index ≡ 0))
      → AtStop w Forward s ⊎ AtStart w Backward s
  unfolding AtStart AtStop
  into_ends w s e (inl h) = inl (e, h.0, h.1)
  into_ends w s e (inr h) = inr (e, h.0, h.1)

  ends_from : (w : WayId) (v : NodeId) (s : Step) → AtStart w Forward s ⊎ AtStop w Backward s → tail_of M s ≡ Some v
      → IsEndFrom M w v s
  unfolding AtStart AtStop
  ends_from w v s (inl h) e = record { of = h.0; tail = e; end = inl (h.1, h.2) }
  ends_from w v s (inr h) e = record { of = h.0; tail = e; end = inr (h.1, h.2) }

  from_ends : (w : WayId) (s : Step) → s.way ≡ w
      → ((s.dir ≡ Forward) × (s.index ≡ 0)) ⊎ ((s.dir ≡ Backward) × (s.index + 2 ≡ length (line_of M w)))
      → AtStart w Forward s ⊎ AtStop w Backward s
  unfolding AtStart AtStop
  from_ends w s e (inl h) = inl (e, h.0, h.1)
  from_ends w s e (inr h) = inr (e, h.0, h.1)

  fin_last : (w : WayId) (v : NodeId) → Finite (IsEndFrom M w v)
  fin_last w v = fin_like (λ s h. ends_from w v s h.1 h.0) (λ s h. (h.tail, from_ends w s h.of h.end))
      (fin_pass (λ s. tail_of M s ≡ Some v) (λ s. decided_option _ _) (fin_from w))

  fin_via : (ks : List Key) (v : NodeId) → Finite (λ (y : List Step × NodeId). IsVia M P ks v y.0 y.1)
  fin_via [] v = fin_none (λ y h. h)
  fin_via (NodeKey n ∷ []) v = fin_like (λ y h. (h.0, ap (λ z. z.0) h.1, ap (λ z. z.1) h.1))
      (λ y h. (h.0, pair_is y [] n h.1 h.2)) (fin_if (decided_node v n) (λ e. fin_one ([], n)))
  fin_via (NodeKey n ∷ k ∷ ks) v = fin_none (λ y h. h)
  fin_via (WayKey w ∷ ks) v = fin_run M (is_open M P) (WayKey w ∷ ks) v
  fin_via (RelationKey r ∷ ks) v = fin_none (λ y h. h)

  -- the parts of a word
  pub record Parts (froms vias tos : List Key) (u : List Step) : Type 0 where
    pub from_way : WayId
    pub to_way : WayId
    pub from_member : Contains froms (WayKey from_way)
    pub to_member : Contains tos (WayKey to_way)
    pub enter : NodeId
    pub leave : NodeId
    pub first : Step
    pub via : List Step
    pub last : Step
    pub spelled : u ≡ first ∷ (via ++ last ∷ [])
    pub first_ends : IsEndInto M from_way enter first
    pub via_is : IsVia M P vias enter via leave
    pub last_begins : IsEndFrom M to_way leave last

  fin_parts : (froms vias tos : List Key) → Finite (Parts froms vias tos)
  fin_parts froms vias tos = fin_by
      (fin_bind (fin_ways froms) (λ w. fin_bind (fin_into w)
      (λ f. fin_bind (fin_some (head_of M f))
      (λ v. fin_bind (fin_via vias v) (λ y. fin_bind (fin_ways tos)
      (λ x. fin_bind (fin_last x y.1) (λ t. fin_one (f ∷ (y.0 ++ t ∷ [])))))))))
      (λ u h. record {
        from_way = h.0;
        from_member = h.1;
        first = h.2.0;
        enter = h.2.2.0;
        first_ends = ends_into h.0 h.2.2.0 h.2.0 h.2.1 h.2.2.1;
        via = h.2.2.2.0.0;
        leave = h.2.2.2.0.1;
        via_is = h.2.2.2.1;
        to_way = h.2.2.2.2.0;
        to_member = h.2.2.2.2.1;
        last = h.2.2.2.2.2.0;
        last_begins = h.2.2.2.2.2.1;
        spelled = h.2.2.2.2.2.2;
      })
      (λ u h. (
        h.from_way,
        h.from_member,
        (
          h.first,
          into_ends h.from_way h.first h.first_ends.of h.first_ends.end,
          (
            h.enter,
            h.first_ends.head,
            (
              (h.via, h.leave),
              h.via_is,
              (h.to_way, h.to_member, (h.last, h.last_begins, h.spelled)),
            ),
          ),
        ),
      ))

same_relation : (v w : RelationId) → v.0 ≡ w.0 → v ≡ w
same_relation v w e = λ i. record { 0 = e i }

-- the numbers of the relations that have an entry
pub relations_in : List (Key × Entry) → List RelationId
relations_in [] = []
relations_in (e ∷ es) = elim e.0 [
  | NodeKey n ↦ relations_in es
  | WayKey w ↦ relations_in es
  | RelationKey r
      ↦ r ∷ relations_in es
]

found_relation : (v u : RelationId) (x e : Entry) (o : Option Entry) (rs : List RelationId) (b : Bool)
    → int_eq v.0 u.0 ≡ b → cond b (Some x) o ≡ Some e → (o ≡ Some e → In v rs) → In v (u ∷ rs)
found_relation v u x e o rs true t h go = inl (same_relation v u ((Decides-int_eq v.0 u.0).0 t))
found_relation v u x e o rs false t h go = inr (go h)

relation_in : (v : RelationId) (e : Entry) (es : List (Key × Entry)) → find key_cmp (RelationKey v) es ≡ Some e
    → In v (relations_in es)
unfolding relations_in
relation_in v e [] h = cc
relation_in v e ((NodeKey n, x) ∷ es) h = relation_in v e es h
relation_in v e ((WayKey u, x) ∷ es) h = relation_in v e es h
relation_in v e ((RelationKey u, x) ∷ es) h = found_relation v u x e (find key_cmp (RelationKey v) es) (relations_in es)
    _ refl h (relation_in v e es)

has_entry : (b : Relation) (o : Option Entry) → relation_body (body_in o) ≡ Some b → (e : Entry) × (o ≡ Some e)
has_entry b None h = cc
has_entry b (Some e) h = (e, refl)

pub visible_in : (M : Objects) (r : RelationId) (b : Relation) → relation_of M r ≡ Some b
    → In r (relations_in (entries M))
unfolding relation_of visible
visible_in M r b h = let e = has_entry b (get M (RelationKey r)) h in relation_in r e.0 (entries M)
    (sym (get-entries M (RelationKey r)) ∙ e.1)

in_bools : (b : Bool) → In b (true ∷ false ∷ [])
in_bools true = inl refl
in_bools false = inr (inl refl)

module _ (M : Objects) (P : Rules) where
  -- a word of one relation and kind
  record WordOf (r : RelationId) (only : Bool) (u : List Step) : Type 0 where
    binding : ℕ
    word : IsWord M P r only binding u

  from_parts_word : (r : RelationId) (only : Bool) (b : Relation) → relation_of M r ≡ Some b
      → IsTrue (is_restriction b.tags) × (P.rule b.tags ≡ kind_of only) × IsUsable M P b → (u : List Step)
      → Parts M P (froms b) (via_order M P b) (tos b) u → WordOf r only u
  from_parts_word r only b v k u p = record {
    binding = binding_of (vias b);
    word = record {
      body = b;
      visible = v;
      restriction = k.0;
      kind = k.1;
      usable = k.2;
      from_way = p.from_way;
      to_way = p.to_way;
      from_member = p.from_member;
      to_member = p.to_member;
      bound = refl;
      enter = p.enter;
      leave = p.leave;
      first = p.first;
      via = p.via;
      last = p.last;
      spelled = p.spelled;
      first_ends = p.first_ends;
      via_is = p.via_is;
      last_begins = p.last_begins;
    };
  }

  same_body : (b c : Relation) (r : RelationId) → relation_of M r ≡ Some b → relation_of M r ≡ Some c → c ≡ b
  same_body b c r e f = cc (e, f)

  parts_of_word : (r : RelationId) (only : Bool) (b : Relation) → relation_of M r ≡ Some b → (u : List Step)
      → WordOf r only u → Parts M P (froms b) (via_order M P b) (tos b) u
  parts_of_word r only b v u w =
      let e = same_body b w.word.body r v w.word.visible in
      subst (λ c. Parts M P (froms c) (via_order M P c) (tos c) u) e (record {
        from_way = w.word.from_way;
        to_way = w.word.to_way;
        from_member = w.word.from_member;
        to_member = w.word.to_member;
        enter = w.word.enter;
        leave = w.word.leave;
        first = w.word.first;
        via = w.word.via;
        last = w.word.last;
        spelled = w.word.spelled;
        first_ends = w.word.first_ends;
        via_is = w.word.via_is;
        last_begins = w.word.last_begins;
      })

  -- what a relation must be to give words of the kind
  Gives : Bool → Relation → Type 0
  Gives only b = IsTrue (is_restriction b.tags) × (P.rule b.tags ≡ kind_of only) × IsUsable M P b

  gives_decided : (only : Bool) (b : Relation) → Decided (Gives only b)
  unfolding Gives
  gives_decided only b = decided_like (λ h. (h.0, h.1.0, h.1.1)) (λ h. (h.0, (h.1, h.2)))
      (decided_both (decided_true _) (decided_both (decided_kind _ _) (usable_decided M P b)))

  gives : (r : RelationId) (only : Bool) (b : Relation) → relation_of M r ≡ Some b → (u : List Step) → WordOf r only u
      → Gives only b
  unfolding Gives
  gives r only b v u w = let k : IsWord M P r only w.binding u = w.word in subst (Gives only)
      (same_body b k.body r v k.visible) (k.restriction, k.kind, k.usable)

  fin_word : (r : RelationId) (only : Bool) (b : Relation) → relation_of M r ≡ Some b → Decided (Gives only b)
      → Finite (WordOf r only)
  unfolding Gives
  fin_word r only b v (inl k) = fin_by (fin_parts M P _ _ _) (from_parts_word r only b v k) (parts_of_word r only b v)
  fin_word r only b v (inr n) = fin_none (λ u w. n (gives r only b v u w))

  fin_body : (r : RelationId) (only : Bool) (o : Option Relation) → relation_of M r ≡ o → Finite (WordOf r only)
  fin_body r only None e = fin_none (λ u w. let f = w.word.visible in cc (e, f))
  fin_body r only (Some b) e = fin_word r only b e (gives_decided only b)

  fin_words : Finite (AnyWord M P)
  fin_words = fin_by
      (fin_bind (fin_list (relations_in (entries M)))
      (λ r. fin_bind (fin_list (true ∷ false ∷ [])) (λ only. fin_body r only (relation_of M r) refl)))
      (λ u h. record { relation = h.0; only = h.2.0; binding = h.2.2.binding; word = h.2.2.word })
      (λ u w. (
        w.relation,
        visible_in M w.relation w.word.body w.word.visible,
        (w.only, in_bools w.only, record { binding = w.binding; word = w.word }),
      ))

pair_from : {A B : Type 0} (y : A × B) (a : A) (b : B) → a ≡ y.0 → b ≡ y.1 → (a, b) ≡ y
pair_from y a b e f = λ i. (e i, f i)

module _ (M : Objects) (P : Rules) (r : RelationId) (only : Bool) where
  Bound : ℕ × List Step → Type 0
  Bound y = IsWord M P r only y.0 y.1

  binds : (b : Relation) → relation_of M r ≡ Some b → (n : ℕ) (u : List Step) → IsWord M P r only n u
      → n ≡ binding_of (vias b)
  binds b v n u w = w.bound ∙ ap (λ c. binding_of (vias c)) (same_body M P b w.body r v w.visible)

  fin_bound : (b : Relation) → relation_of M r ≡ Some b → Finite Bound
  unfolding Bound
  fin_bound b v = fin_by
      (fin_bind (fin_word M P r only b v (gives_decided M P only b)) (λ u. fin_one (binding_of (vias b), u)))
      (λ y h. let e = binds b v h.1.binding h.0 h.1.word in subst Bound
      (pair_from y h.1.binding h.0 (e ∙ sym (ap (λ z. z.0) h.2)) (sym (ap (λ z. z.1) h.2))) h.1.word)
      (λ y w. (
        y.1,
        record { binding = y.0; word = w },
        sym
            (pair_from y (binding_of (vias b)) y.1 (sym (binds b v y.0 y.1 w)) refl),
      ))

  fin_bound_of : (o : Option Relation) → relation_of M r ≡ o → Finite Bound
  unfolding Bound
  fin_bound_of None e = fin_none (λ y w. let f = w.visible in cc (e, f))
  fin_bound_of (Some b) e = fin_bound b e

  -- the words of one relation and kind, each with its binding length
  pub fin_words_of : Finite (λ (y : ℕ × List Step). IsWord M P r only y.0 y.1)
  unfolding Bound
  fin_words_of = fin_bound_of (relation_of M r) refl

-- whether a list goes on as another
pub record More (v u : List Step) : Type 0 where
  pub next : Step
  pub rest : List Step
  pub is : u ≡ v ++ next ∷ rest

pub decided_dir : (a b : Dir) → Decided (a ≡ b)
decided_dir Forward Forward = inl refl
decided_dir Forward Backward = inr (λ e. cc)
decided_dir Backward Forward = inr (λ e. cc)
decided_dir Backward Backward = inl refl

pub decided_step : (s t : Step) → Decided (s ≡ t)
decided_step s t = decided_like (λ h. λ i. record { way = h.0 i; index = h.1.0 i; dir = h.1.1 i })
    (λ e. (ap (λ x. x.way) e, (ap (λ x. x.index) e, ap (λ x. x.dir) e)))
    (decided_both (decided_way s.way t.way) (decided_both (decided_number s.index t.index) (decided_dir s.dir t.dir)))

more_after : (s : Step) (v : List Step) (t : Step) (u : List Step) → Decided (s ≡ t) → Decided (More v u)
    → Decided (More (s ∷ v) (t ∷ u))
more_after s v t u (inl e) (inl m) = inl (record { next = m.next; rest = m.rest; is = let f = m.is in cc (e, f) })
more_after s v t u (inl e) (inr n) = inr (λ m. let f = m.is in n (record { next = m.next; rest = m.rest; is = cc (f) }))
more_after s v t u (inr n) d = inr (λ m. let f = m.is in n (cc (f)))

pub more_decided : (v u : List Step) → Decided (More v u)
more_decided [] [] = inr (λ m. let f = m.is in cc (f))
more_decided [] (t ∷ u) = inl (record { next = t; rest = u; is = refl })
more_decided (s ∷ v) [] = inr (λ m. let f = m.is in cc (f))
more_decided (s ∷ v) (t ∷ u) = more_after s v t u (decided_step s t) (more_decided v u)

pub continues : (M : Objects) (P : Rules) (v : List Step) → Decided (Continues M P v)
continues M P v = decided_like
    (λ h. record { next = h.2.next; rest = h.2.rest; word = subst (AnyWord M P) h.2.is h.1 })
    (λ g. (v ++ g.next ∷ g.rest, g.word, record { next = g.next; rest = g.rest; is = refl }))
    (search_finite (More v) (fin_words M P) (more_decided v))
