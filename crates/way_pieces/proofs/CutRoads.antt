-- What is known of each of several roads, side by side with their list.
use Rattle.std.proofs.Common.{
  ◌≡◌,
  ℕ,
  zero,
  suc,
  ◌<◌,
  ◌+◌,
  false,
  List,
  [],
  ◌∷◌,
  ◌++◌,
  length,
  map,
  get_or,
  slice_get,
  Some,
  pos,
  ◌⊎◌,
  inl,
  inr,
  refl,
  sym,
  ap,
  subst,
  ◌∙◌,
  arith,
}
use Rattle.std.proofs.lemmas.List.{length_push, length-map, get_or-map}
use Rattle.std.proofs.lemmas.Option.{same_Some, none-some, slice_get-get_or}
use Rattle.road_base.specs.declared.ids.WayId.{WayId}
use Rattle.way_lines.specs.declared.roads.Road.{Road}
use Rattle.way_pieces.specs.declared.met_ways.MetWay.{MetWay}

-- the last one, or one of those before
pushed_cases : {A : Type 0} (xs : List A) (x y : A) (k : ℕ) → slice_get (xs ++ x ∷ []) k ≡ Some y
    → (slice_get xs k ≡ Some y) ⊎ ((k ≡ length xs) × (x ≡ y))
pushed_cases [] x y zero e = inr (refl, same_Some x y e)
pushed_cases [] x y (suc k) e = absurd (none-some y e)
pushed_cases (z ∷ xs) x y zero e = inl e
pushed_cases (z ∷ xs) x y (suc k) e = elim (pushed_cases xs x y k e) [
  | inl before ↦ inl before
  | inr last ↦ let at = last.0 in inr (omega arith, last.1)
]

module _ {A : Type 0} (Is : WayId → A → Type 0) where
  -- each of them is known of the road at its place
  abbrev pub AreKnown : List Road → List A → Type 0
  AreKnown roads known = (k : ℕ) (road : Road) (x : A) → slice_get roads k ≡ Some road → slice_get known k ≡ Some x
      → Is road.way x

  pub none_known : (roads : List Road) (known : List A) → known ≡ [] → AreKnown roads known
  none_known roads known none k road x at is = absurd (none-some x (ap (λ (l : List A). slice_get l k) (sym none) ∙ is))

  -- one road more
  pub more_known : (roads : List Road) (i : ℕ) (d : Road) (old new : List A) (x y : A) → i < length roads
      → length old ≡ i
      → new ≡ old ++ y ∷ [] → y ≡ x → Is (get_or roads i d).way x → AreKnown roads old → AreKnown roads new
  more_known roads i d old new x y within count pushed same is known k road z at has =
      elim (pushed_cases old y z k (ap (λ (l : List A). slice_get l k) (sym pushed) ∙ has)) [
        | inl before ↦ known k road z at before
        | inr last ↦
            let here : get_or roads i d ≡ road = same_Some (get_or roads i d) road
            (sym (slice_get-get_or roads i d within) ∙ (ap (slice_get roads) (sym (last.0 ∙ count)) ∙ at)) in
            subst (λ (r : Road). Is r.way z) here (subst (Is (get_or roads i d).way) (sym same ∙ last.1) is)
      ]

  pub known_of : (ways : List Road) (roads : List Road) (known : List A) → ways ≡ roads → AreKnown ways known
      → AreKnown roads known
  known_of ways roads known same each = subst (λ (l : List Road). AreKnown l known) same each

-- one is added to as many
pub one_longer : {A : Type 0} (old new : List A) (x : A) (i : ℕ) → length old ≡ i → new ≡ old ++ x ∷ []
    → length new ≡ i + 1
one_longer old new x i count pushed = ap length pushed ∙ (length_push old x ∙ ap (λ k. k + 1) count)

-- no road
abbrev pub nowhere : Road
nowhere = record { way = record { 0 = pos 0 }; forward = false; backward = false }

-- ---- ways that are met

abbrev pub roads_in : List MetWay → List Road
roads_in ms = map (λ (m : MetWay). m.road) ms

pub ways_in : (ms : List MetWay) → map (λ (r : Road). r.way) (roads_in ms) ≡ map (λ (m : MetWay). m.road.way) ms
ways_in [] = refl
ways_in (m ∷ ms) = ap (λ (l : List WayId). m.road.way ∷ l) (ways_in ms)

-- one of them more
pub one_met : {A : Type 0} (Is : WayId → A → Type 0) (ms : List MetWay) (i : ℕ) (m : MetWay) (old new : List A)
    (x y : A) → i < length ms → m ≡ get_or ms i m → length old ≡ i → new ≡ old ++ y ∷ [] → y ≡ x → Is m.road.way x
    → AreKnown Is (roads_in ms) old → AreKnown Is (roads_in ms) new
one_met Is ms i m old new x y within at count pushed same is known =
    let road = λ (m : MetWay). m.road in
    let here : get_or (roads_in ms) i nowhere ≡ m.road = get_or-map road ms i m nowhere within ∙ ap road (sym at) in
    more_known Is (roads_in ms) i nowhere old new x y (subst (λ n. i < n) (sym (length-map ms road)) within) count
    pushed same (subst (λ (r : Road). Is r.way x) (sym here) is) known
