-- Words that are numbers of ways.
use Rattle.std.proofs.Common.{◌≡◌, ℕ, ◌<◌, ◌+◌, List, [], ◌∷◌, ◌++◌, Option, None, Some, true, refl, sym, ap, ◌∙◌}
use Rattle.std.proofs.Common.{length, map, take, drop, get_or, arith, take-append-drop}
use Rattle.std.proofs.lemmas.List.{take_more, drop_more, get_or-map, length-map}
use Rattle.std.specs.Prelude.{cond}
use Rattle.std.specs.Option.{option_and_then, option_map}
use Rattle.road_base.specs.declared.ids.WayId.{WayId}
use Rattle.ordered_lists.specs.Orders.{rises}
use Rattle.road_model.specs.Orders.{way_cmp}
use Rattle.cells.specs.Commands.{way_of_word, each_way, some_ascending}

-- the first number and the others
record Found (a : Option WayId) (l : Option (List WayId)) (ways : List WayId) : Type 0 where
  first : WayId
  others : List WayId
  first_is : a ≡ Some first
  others_are : l ≡ Some others
  ways_are : ways ≡ first ∷ others

found : (a : Option WayId) (l : Option (List WayId)) (ways : List WayId)
    → option_and_then (λ w. option_map (λ ws. w ∷ ws) l) a ≡ Some ways → Found a l ways
found None l ways e = absurd (cc)
found (Some w) None ways e = absurd (cc)
found (Some w) (Some ws) ways e = record {
  first = w;
  others = ws;
  first_is = refl;
  others_are = refl;
  ways_are = (let k : Some (w ∷ ws) ≡ Some ways = e in let m : w ∷ ws ≡ ways = cc in sym m);
}

-- one word more
pub one_more_way : (words : List (List ℕ)) (ways : List WayId) (word : List ℕ) (way : WayId)
    → each_way words ≡ Some ways → way_of_word word ≡ Some way
    → each_way (words ++ word ∷ []) ≡ Some (ways ++ way ∷ [])
one_more_way [] ways word way are is =
    let none : [] ≡ ways = (let k : Some [] ≡ Some ways = are in cc) in
    ap (option_and_then (λ w. option_map (λ ws. w ∷ ws) (Some []))) is
    ∙ ap (λ (l : List WayId). Some (l ++ way ∷ [])) none
one_more_way (first ∷ words) ways word way are is =
    let f = found (way_of_word first) (each_way words) ways are in
    let next = one_more_way words f.others word way f.others_are is in
    ap (λ l. option_and_then (λ w. option_map (λ ws. w ∷ ws) l) (way_of_word first)) next
    ∙ (ap (option_and_then (λ w. option_map (λ ws. w ∷ ws) (Some (f.others ++ way ∷ [])))) f.first_is
    ∙ ap (λ (l : List WayId). Some (l ++ way ∷ [])) (sym f.ways_are))

none_behind : (a : Option WayId) → option_and_then (λ w. option_map (λ ws. w ∷ ws)
    (let n : Option (List WayId) = None in n)) a ≡ None
none_behind None = refl
none_behind (Some w) = refl

-- a word that is no number
pub no_ways : (words : List (List ℕ)) (word : List ℕ) (others : List (List ℕ)) → way_of_word word ≡ None
    → each_way (words ++ word ∷ others) ≡ None
no_ways [] word others is = ap (option_and_then (λ w. option_map (λ ws. w ∷ ws) (each_way others))) is
no_ways (first ∷ words) word others is =
    ap (λ l. option_and_then (λ w. option_map (λ ws. w ∷ ws) l) (way_of_word first)) (no_ways words word others is)
    ∙ none_behind (way_of_word first)

-- some ways that ascend
pub are_some : (ways : List WayId) → (ways ≡ [] → ⊥) → rises way_cmp ways ≡ true → some_ascending ways ≡ Some ways
are_some [] some up = absurd (some refl)
are_some (w ∷ ws) some up = ap (λ b. cond b (Some (w ∷ ws)) None) up

-- ---- words, one after another

module _ {A : Type 0} (text : A → List ℕ) (words : List A) (i : ℕ) (none : A) (within : i < length words) where
  here : get_or (map text words) i (text none) ≡ text (get_or words i none)
  here = get_or-map text words i none (text none) within

  inside : i < length (map text words)
  inside = let long = length-map words text in omega arith

  pub words_more : take (i + 1) (map text words) ≡ take i (map text words) ++ text (get_or words i none) ∷ []
  words_more = take_more (map text words) i (text none) inside
      ∙ ap (λ (w : List ℕ). take i (map text words) ++ w ∷ []) here

  pub words_split : map text words
      ≡ take i (map text words) ++ text (get_or words i none) ∷ drop (i + 1) (map text words)
  words_split = sym (take-append-drop i (map text words))
      ∙ ap (λ (l : List (List ℕ)). take i (map text words) ++ l)
      (drop_more (map text words) i (text none) inside
      ∙ ap (λ (w : List ℕ). w ∷ drop (i + 1) (map text words)) here)
