-- The words of the relations of ways, and of the ways on which these have steps, are those near the ways.
use Rattle.std.proofs.Common.{◌≡◌, ℕ, ◌+◌, ◌<◌, ◌⊎◌, ◌↔◌, inl, inr, List, [], ◌∷◌, ◌++◌, length, get_or, take}
use Rattle.std.proofs.Common.{Contains, Some, Bool, false, Result, Ok, Err, Ordering, slice_get, refl, sym, ap, subst}
use Rattle.std.proofs.Common.{◌∙◌, arith}
use Rattle.std.specs.Result.{is_err}
use Rattle.std.specs.FinMap.{IsAntisymmetric}
use Rattle.std.specs.List.Sorted.{IsBinarySearchResult, IsSearchInRange}
use Rattle.std.proofs.lemmas.Bool.{false≢true}
use Rattle.std.proofs.lemmas.Option.{get_or_from_slice_get}
use Rattle.std.proofs.lemmas.List.Elements.{Contains-get_or, Contains-append_left}
use Rattle.std.proofs.lemmas.List.Elements.{Contains-append_right, Contains-append_cases}
use Rattle.road_base.specs.declared.ids.WayId.{WayId}
use Rattle.road_base.specs.declared.ids.RelationId.{RelationId}
use Rattle.road_base.specs.declared.ids.Step.{Step}
use Rattle.road_base.specs.declared.ids.Key.TheVariants.{Way as WayKey}
use Rattle.road_base.specs.Objects.{Objects}
use Rattle.road_model.specs.Rules.{Rules}
use Rattle.ordered_lists.specs.Orders.{Lists}
use Rattle.road_model.specs.Orders.{relation_cmp}
use Rattle.road_model.specs.Words.{IsWord}
use Rattle.road_model.specs.Links.{HasMember}
use Rattle.restrictions.specs.declared.word_list.Word.{Word}
use Rattle.restrictions.specs.Words.{IsRestriction, IsWordOf}
use Rattle.expanded_graph.specs.Near.{OnIt, Shares, HasStepOn, AreWordsNear}
use Rattle.expanded_graph.specs.Known.{AreRelationsOn, AreWordsOf, GainsApart, GainsWords, IsOn, IsOnSome}
use Rattle.ordered_lists.proofs.ListPlaces.{some_at}
use Rattle.ordered_lists.proofs.ListFronts.{among_more, among_before, among_last}
use Rattle.ordered_lists.proofs.ListMembers.{contains_none}
use Rattle.expanded_graph.proofs.Between.{on_from_between}

pub restrict : (M : Objects) (v : WayId) (r : RelationId) → IsOn M v r → IsRestriction M r
restrict M v r h = record { body = h.body; visible = h.is; restriction = h.restriction }

-- a list gains what is asked for in two parts
module _ {X : Type 0} (known : List X) where
  pub apart_then : (A B C : X → Type 0) (first old new : List X) → ((x : X) → C x ↔ (A x ⊎ B x))
      → GainsApart known A first old → GainsApart known B old new → GainsApart known C first new
  apart_then A B C first old new both g h = record {
    kept = λ x c. h.kept x (g.kept x c);
    apart = λ x asked. elim ((both x).0 asked) [
      | inl a ↦ elim (g.apart x a) [ inl k ↦ inl k | inr c ↦ inr (h.kept x c) ]
      | inr b ↦ h.apart x b
    ];
    others = λ x c. elim (h.others x c) [
      | inl o ↦ elim (g.others x o) [ inl f ↦ inl f | inr a ↦ inr ((both x).1 (inl a)) ]
      | inr b ↦ inr ((both x).1 (inr b))
    ];
  }

  -- the same for equal demands
  pub apart_same : (A B : X → Type 0) (old new : List X) → ((x : X) → A x ↔ B x)
      → GainsApart known A old new → GainsApart known B old new
  apart_same A B old new same g = record {
    kept = g.kept;
    apart = λ x b. g.apart x ((same x).1 b);
    others = λ x c. elim (g.others x c) [ inl o ↦ inl o | inr a ↦ inr ((same x).0 a) ];
  }

-- an item that a search finds
pub apart_found : {X : Type 0} (known : List X) (item : X) (old : List X) (R : X → X → Ordering) → IsAntisymmetric R
    → (r : Result ℕ ℕ) → IsSearchInRange r (length known) → IsBinarySearchResult (λ y. R y item) known r
    → (missed : Bool) → missed ≡ is_err r → missed ≡ false → GainsApart known (λ x. x ≡ item) old old
apart_found known item old R ties (Ok i) bound found missed same not = record {
  kept = λ x c. c;
  apart = λ x e. inl (i, bound, ties _ _ (found x) ∙ sym e);
  others = λ x c. inl c;
}
apart_found known item old R ties (Err i) bound found missed same not = absurd (false≢true (sym not ∙ same))

-- one item more is looked at
pub apart_more : {X : Type 0} (known items : List X) (i : ℕ) (d : X) (first old new : List X) → i < length items
    → d ≡ get_or items i d → GainsApart known (Contains (take i items)) first old
    → GainsApart known (λ x. x ≡ d) old new
    → GainsApart known (Contains (take (i + 1) items)) first new
apart_more known items i d first old new l is =
    apart_then known (Contains (take i items)) (λ x. x ≡ d) (Contains (take (i + 1) items)) first old new (λ x. (
      λ c. elim (among_more items i d l x c) [ inl o ↦ inl o | inr e ↦ inr (sym (is ∙ e)) ],
      λ c. elim c [
        | inl o ↦ among_before items i d l x o
        | inr e ↦ subst (Contains (take (i + 1) items)) (sym (e ∙ is)) (among_last items i d l)
      ],
    ))

-- the ways of one step more
pub ways_more : (known : List WayId) (steps : List Step) (i : ℕ) (d : Step) (first old new : List WayId)
    → i < length steps
    → GainsApart known (λ w. HasStepOn w (take i steps)) first old
    → GainsApart known (λ w. w ≡ (get_or steps i d).way) old new
    → GainsApart known (λ w. HasStepOn w (take (i + 1) steps)) first new
ways_more known steps i d first old new l =
    apart_then known (λ w. HasStepOn w (take i steps)) (λ w. w ≡ (get_or steps i d).way)
    (λ w. HasStepOn w (take (i + 1) steps)) first old new (λ w. (
      λ on. elim (among_more steps i d l on.step on.among) [
        | inl o ↦ inl (record { step = on.step; among = o; on = on.on })
        | inr e ↦ inr (sym on.on ∙ ap (λ (s : Step). s.way) (sym e))
      ],
      λ c. elim c [
        | inl on ↦ record { step = on.step; among = among_before steps i d l on.step on.among; on = on.on }
        | inr e ↦ record { step = get_or steps i d; among = among_last steps i d l; on = sym e }
      ],
    ))

-- a step on the way of a step before it adds no way
pub ways_again : (known : List WayId) (steps : List Step) (i : ℕ) (first old : List WayId) → i < length steps
    → ((s : Step) → slice_get steps i ≡ Some s → HasStepOn s.way (take i steps))
    → GainsApart known (λ w. HasStepOn w (take i steps)) first old
    → GainsApart known (λ w. HasStepOn w (take (i + 1) steps)) first old
ways_again known steps i first old l along =
    let at = some_at steps i l in
    let here : get_or steps i at.0 ≡ at.0 = get_or_from_slice_get steps i at.0 at.0 at.1 in
    apart_same known (λ w. HasStepOn w (take i steps)) (λ w. HasStepOn w (take (i + 1) steps)) first old (λ w. (
      λ on. record { step = on.step; among = among_before steps i at.0 l on.step on.among; on = on.on },
      λ on. elim (among_more steps i at.0 l on.step on.among) [
        | inl o ↦ record { step = on.step; among = o; on = on.on }
        | inr e ↦
            let same : (at.0).way ≡ w = ap (λ (s : Step). s.way) (sym here ∙ e) ∙ on.on in
            subst (λ v. HasStepOn v (take i steps)) same (along at.0 at.1)
      ],
    ))

-- the relations of one way more
pub relations_more : (M : Objects) (known : List RelationId) (ways : List WayId) (i : ℕ) (d : WayId)
    (its first old new : List RelationId) → i < length ways → Lists (λ r. r) relation_cmp (IsOn M (get_or ways i d)) its
    → GainsApart known (IsOnSome M (take i ways)) first old → GainsApart known (Contains its) old new
    → GainsApart known (IsOnSome M (take (i + 1) ways)) first new
relations_more M known ways i d its first old new l are =
    apart_then known (IsOnSome M (take i ways)) (Contains its) (IsOnSome M (take (i + 1) ways)) first old new (λ r. (
      λ on. elim (among_more ways i d l on.0 on.1) [
        | inl o ↦ inl (on.0, o, on.2)
        | inr e ↦ inr (are.complete r (subst (λ w. IsOn M w r) (sym e) on.2))
      ],
      λ c. elim c [
        | inl on ↦ (on.0, among_before ways i d l on.0 on.1, on.2)
        | inr h ↦ (get_or ways i d, among_last ways i d l, are.sound r h)
      ],
    ))

-- all that were listed, in another order
pub relations_listed : (M : Objects) (known : List RelationId) (ways : List WayId) (old new : List RelationId)
    → GainsApart known (IsOnSome M ways) [] old → ((r : RelationId) → Contains new r ↔ Contains old r)
    → AreRelationsOn M ways known new
relations_listed M known ways old new g same = record {
  sound = λ k d l. elim (g.others _ ((same _).0 (Contains-get_or new k d l))) [
    | inl none ↦ absurd (contains_none _ none)
    | inr on ↦ restrict M on.0 _ on.2
  ];
  complete = λ w r c on. elim (g.apart r (w, c, on)) [
    | inl k ↦ inl k
    | inr h ↦ inr ((same r).1 h)
  ];
}

first_among : (u : List Step) (first : Step) (rest : List Step) → u ≡ first ∷ rest → Contains u first
first_among u first rest e = subst (λ l. Contains l first) (sym e) (0, omega arith, refl)

module _ (M : Objects) (P : Rules) where
  -- the words of one restriction more
  pub words_more : (rs : List RelationId) (i : ℕ) (d : RelationId) (old new : List Word) → i < length rs
      → AreWordsOf M P (take i rs) old → GainsWords M P (get_or rs i d) old new → AreWordsOf M P (take (i + 1) rs) new
  words_more rs i d old new l h g = record {
    sound = λ u c. elim (Contains-append_cases old g.more u (subst (λ v. Contains v u) g.appended c)) [
      | inl o ↦ let s = h.sound u o in (among_before rs i d l u.relation s.0, s.1)
      | inr m ↦
          let s = (g.exactly u).0 m in (
            subst (Contains (take (i + 1) rs)) (sym s.of) (among_last rs i d l),
            subst (λ r. IsWordOf M P r u) (sym s.of) s,
          )
    ];
    all = λ u c w. subst (λ v. Contains v u) (sym g.appended) (elim (among_more rs i d l u.relation c) [
      | inl o ↦ Contains-append_left old g.more u (h.all u o w)
      | inr e ↦ Contains-append_right old g.more u ((g.exactly u).1 (subst (λ r. IsWordOf M P r u) (sym e) w))
    ]);
  }

  -- words of restrictions, and of further ones
  pub all_sound : (rs : List RelationId) (words : List Word) → AreWordsOf M P rs words → (further : List RelationId)
      (more : List Word) → AreWordsOf M P further more → (u : Word) → Contains (words ++ more) u
      → IsWord M P u.relation u.only u.binding u.steps
  all_sound rs words are further more are_more u h = elim (Contains-append_cases words more u h) [
    | inl o ↦ (are.sound u o).1.is
    | inr m ↦ (are_more.sound u m).1.is
  ]

  module _ (members : (r : RelationId) (only : Bool) (binding : ℕ) (u : List Step) (s : Step)
      → IsWord M P r only binding u → Contains u s → HasMember M r (WayKey s.way)) where
    module _ (ways : List WayId) (own : List RelationId) (owns : AreRelationsOn M ways [] own)
        (words : List Word) (are : AreWordsOf M P own words) (others : List WayId)
        (listed : (u : Word) (w : WayId) → Contains words u → HasStepOn w u.steps → Contains ways w ⊎ Contains others w)
        (further : List RelationId) (furthers : AreRelationsOn M others own further)
        (more : List Word) (are_more : AreWordsOf M P further more) where
      -- the way is a member of each restriction of which a word has a step on it
      member : (w : WayId) (u : Word) → IsWord M P u.relation u.only u.binding u.steps → HasStepOn w u.steps
          → IsOn M w u.relation
      member w u is on =
          subst (λ v. HasMember M u.relation (WayKey v)) on.on
          (members u.relation u.only u.binding u.steps on.step is on.among)

      -- a word that has a step on one of the ways is one of its restrictions
      own_word : (w : WayId) → Contains ways w → (u : Word) → IsWord M P u.relation u.only u.binding u.steps
          → HasStepOn w u.steps → Contains words u
      own_word w c u is on = elim (owns.complete w u.relation c (member w u is on)) [
        | inl none ↦ absurd (contains_none u.relation none)
        | inr k ↦ are.all u k (record { of = refl; is = is })
      ]

      -- a word that has a step on one of these or of the other ways
      any_word : (w : WayId) → Contains ways w ⊎ Contains others w → (u : Word)
          → IsWord M P u.relation u.only u.binding u.steps
          → HasStepOn w u.steps → Contains (words ++ more) u
      any_word w (inl c) u is on = Contains-append_left words more u (own_word w c u is on)
      any_word w (inr c) u is on = elim (furthers.complete w u.relation c (member w u is on)) [
        | inl k ↦ Contains-append_left words more u (are.all u k (record { of = refl; is = is }))
        | inr k ↦ Contains-append_right words more u (are_more.all u k (record { of = refl; is = is }))
      ]

      pub all_near : (w : WayId) → Contains ways w → AreWordsNear M P w (words ++ more)
      all_near w c = record {
        sound = all_sound own words are further more are_more;
        on = λ u is on. any_word w (inl c) u is on;
        from = λ u is first rest e near.
            let here = first_among u.steps first rest e in
            elim near [
              | OnIt on ↦ any_word w (inl c) u is (record { step = first; among = here; on = on })
              | Shares steps any between among ↦
                  let shares : Word =
                  record { relation = any.relation; only = any.only; binding = any.binding; steps = steps } in
                  let has = own_word w c shares any.word (on_from_between w steps between) in
                  let at = listed shares first.way has (record { step = first; among = among; on = refl }) in
                  any_word first.way at u is (record { step = first; among = here; on = refl })
            ];
      }
