-- What is told of entries that are gone over one by one.
use Rattle.std.proofs.Common.{◌≡◌, ◌++◌, List, [], ◌∷◌, Option, Some, None, refl, sym, ap, ◌∙◌}
use Rattle.std.proofs.Common.{append_assoc, append-nil}
use Rattle.std.specs.Prelude.{filter_map}
use Rattle.std.specs.List.{cons_option}
use Rattle.std.specs.Option.{option_to_list}
use Rattle.road_base.specs.declared.event.Event.{Event}

told_first : {A : Type 0} (o : Option A) (rest : List A) → cons_option o rest ≡ option_to_list o ++ rest
told_first None rest = refl
told_first (Some x) rest = refl

module _ {A : Type 0} (f : Event → Option A) where
  -- one more entry is looked at
  pub one_told : (old new all : List A) (left rest : List Event) (e : Event) → left ≡ e ∷ rest
      → old ++ filter_map f left ≡ all → new ≡ old ++ option_to_list (f e) → new ++ filter_map f rest ≡ all
  one_told old new all left rest e split before here =
      ap (λ l. l ++ filter_map f rest) here ∙ append_assoc old (option_to_list (f e)) (filter_map f rest)
      ∙ ap (λ l. old ++ l) (sym (told_first (f e) (filter_map f rest)))
      ∙ ap (λ l. old ++ filter_map f l) (sym split) ∙ before

  pub all_told : (new all : List A) (rest : List Event) → rest ≡ [] → new ++ filter_map f rest ≡ all → new ≡ all
  all_told new all rest none before = sym (append-nil new) ∙ ap (λ l. new ++ filter_map f l) (sym none) ∙ before
