-- What is chosen of an ascending list, at most one for each member, ascends, and is all that there is.
use Rattle.std.proofs.Common.{
  ◌≡◌,
  ◌+◌,
  ◌<◌,
  ℕ,
  List,
  [],
  ◌∷◌,
  ◌++◌,
  length,
  map,
  take,
  get_or,
  inl,
  inr,
  refl,
  sym,
  ap,
  ◌∙◌,
  subst,
  IsTrue,
}
use Rattle.std.specs.Cmp.{IsTotalOrder}
use Rattle.std.specs.Ordering.{is_lt}
use Rattle.std.specs.declared.cmp.Ordering.{Ordering}
use Rattle.std.proofs.lemmas.List.{take_more}
use Rattle.ordered_lists.specs.Orders.{rises, Lists}
use Rattle.ordered_lists.proofs.ListMembers.{In, push_cases, in_from_contains, contains_from_in, in_end, in_left}
use Rattle.ordered_lists.proofs.AscendingLists.{Climbs, climbs, rises_again, climbs_push, below_end, climbs_take}

-- the list as has one of each that there is for a member of ds, by their names
pub record Chosen {A D N : Type 0} (name : A → N) (key : D → N) (R : N → N → Ordering) (Is : A → Type 0) (ds : List D)
    (zs : List A) : Type 0 where
  pub ascending : IsTrue (rises R (map name zs))
  pub sound : (a : A) → In a zs → Is a
  pub from : (a : A) → In a zs → (d : D) × In d ds × (name a ≡ key d)
  pub complete : (d : D) → In d ds → (a : A) → Is a → name a ≡ key d → In a zs

module _ {A D N : Type 0} (name : A → N) (key : D → N) (R : N → N → Ordering) (total : IsTotalOrder R)
    (Is : A → Type 0) where
  pub chosen_none : Chosen name key R Is [] []
  chosen_none = record { ascending = refl; sound = λ a i. absurd i; from = λ a i. absurd i; complete = λ d i. absurd i }

  module _ (ds : List D) (zs : List A) (so_far : Chosen name key R Is ds zs) (d : D) where
    pub chosen_skip : ((a : A) → Is a → name a ≡ key d → ⊥) → Chosen name key R Is (ds ++ d ∷ []) zs
    chosen_skip none = record {
      ascending = so_far.ascending;
      sound = so_far.sound;
      from = λ a i. let r = so_far.from a i in (r.0, in_left ds (d ∷ []) r.0 r.1, r.2);
      complete = λ e j a is named. elim (push_cases ds d e j) [
        | inl k ↦ so_far.complete e k a is named
        | inr same ↦ absurd (none a is (named ∙ ap key same))
      ];
    }

    pub chosen_one : Climbs key R total (ds ++ d ∷ []) → (x : A) → Is x → name x ≡ key d
        → ((a : A) → Is a → name a ≡ name x → a ≡ x) → Chosen name key R Is (ds ++ d ∷ []) (zs ++ x ∷ [])
    chosen_one up x has named one = record {
      ascending = rises_again name R total (zs ++ x ∷ [])
          (climbs_push name R total zs x (climbs name R total zs so_far.ascending) (λ a i.
          let r = so_far.from a i in
          let below = below_end key R total ds d up r.0 r.1 in
          subst (λ n. IsTrue (is_lt (R n (name x)))) (sym r.2)
          (subst (λ n. IsTrue (is_lt (R (key r.0) n))) (sym named) below)));
      sound = λ a i. elim (push_cases zs x a i) [ inl j ↦ so_far.sound a j | inr e ↦ subst Is (sym e) has ];
      from = λ a i. elim (push_cases zs x a i) [
        | inl j ↦ let r = so_far.from a j in (r.0, in_left ds (d ∷ []) r.0 r.1, r.2)
        | inr e ↦ (d, in_end ds d [], ap name e ∙ named)
      ];
      complete = λ e j a is n. elim (push_cases ds d e j) [
        | inl k ↦ in_left zs (x ∷ []) a (so_far.complete e k a is n)
        | inr same ↦ subst (λ v. In v (zs ++ x ∷ [])) (sym (one a is (n ∙ (ap key same ∙ sym named)))) (in_end zs x [])
      ];
    }

  module _ (ds : List D) (up : IsTrue (rises R (map key ds))) (zs : List A) (i : ℕ) (within : i < length ds)
      (default : D) (so_far : Chosen name key R Is (take i ds) zs) where
    abbrev d : D
    d = get_or ds i default

    grown : take (i + 1) ds ≡ take i ds ++ d ∷ []
    grown = take_more ds i default within

    pub chosen_skip_at : ((a : A) → Is a → name a ≡ key d → ⊥) → Chosen name key R Is (take (i + 1) ds) zs
    chosen_skip_at none = subst (λ l. Chosen name key R Is l zs) (sym grown) (chosen_skip (take i ds) zs so_far d none)

    pub chosen_one_at : (x : A) → Is x → name x ≡ key d → ((a : A) → Is a → name a ≡ name x → a ≡ x)
        → Chosen name key R Is (take (i + 1) ds) (zs ++ x ∷ [])
    chosen_one_at x has named one =
        let climb = subst (Climbs key R total) grown (climbs_take key R total (i + 1) ds (climbs key R total ds up)) in
        subst (λ l. Chosen name key R Is l (zs ++ x ∷ [])) (sym grown)
        (chosen_one (take i ds) zs so_far d climb x has named one)

  pub chosen_all : (ds : List D) (zs : List A) → Chosen name key R Is ds zs
      → ((a : A) → Is a → (d : D) × In d ds × (name a ≡ key d)) → Lists name R Is zs
  chosen_all ds zs h each = record {
    ascending = h.ascending;
    sound = λ a c. h.sound a (in_from_contains zs a c);
    complete = λ a is. let r = each a is in contains_from_in zs a (h.complete r.0 r.1 a is r.2);
  }
