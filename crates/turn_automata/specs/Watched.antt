-- What the words of a list make one watch of the steps that were driven, and which next steps they stop.
use Rattle.std.specs.Prelude.{◌≡◌, ℕ, ◌⊎◌, List, [], ◌∷◌, ◌++◌, true, false, Contains}
use Rattle.road_base.specs.declared.ids.Step.{Step}
use Rattle.road_model.specs.Contexts.{IsLongestEnd}
use Rattle.road_model.specs.Legal.{MustBy}
use Rattle.restrictions.specs.declared.word_list.Word.{Word}

-- a word of the list goes on after these steps
pub record IsProperPrefix (W : List Word) (p : List Step) : Type 0 where
  pub word : Word
  pub among : Contains W word
  pub next : Step
  pub rest : List Step
  pub is : word.steps ≡ p ++ next ∷ rest

-- a proper prefix of a word, or no steps at all
abbrev pub IsWatchable : List Word → List Step → Type 0
IsWatchable W p = IsProperPrefix W p ⊎ (p ≡ [])

-- p is the longest end of d that is a proper prefix of a word, or no steps where there is none
abbrev pub Watched : List Word → List Step → List Step → Type 0
Watched W = IsLongestEnd (IsWatchable W)

-- a No word of the list
pub record NoIn (W : List Word) (u : List Step) : Type 0 where
  pub word : Word
  pub among : Contains W word
  pub no : word.only ≡ false
  pub is : word.steps ≡ u

-- an Only word of the list, with its binding length
pub record OnlyIn (W : List Word) (binding : ℕ) (u : List Step) : Type 0 where
  pub word : Word
  pub among : Contains W word
  pub only : word.only ≡ true
  pub bound : word.binding ≡ binding
  pub is : word.steps ≡ u

-- s is a next step of an Only word of which p is a proper prefix not shorter than the word's binding length
abbrev pub Must : List Word → List Step → Step → Type 0
Must W = MustBy (OnlyIn W)

-- with s a No word has been driven
pub record Forbids (W : List Word) (p : List Step) (s : Step) : Type 0 where
  pub word : List Step
  pub no : NoIn W word
  pub front : List Step
  pub is : p ++ s ∷ [] ≡ front ++ word

-- after an end of p some step must follow, and s isn't one that must
pub record Refuses (W : List Word) (p : List Step) (s : Step) : Type 0 where
  pub end : List Step
  pub front : List Step
  pub is : p ≡ front ++ end
  pub other : Step
  pub must : Must W end other
  pub lacks : Must W end s → ⊥

-- after p the words stop s
abbrev pub Stops : List Word → List Step → Step → Type 0
Stops W p s = Forbids W p s ⊎ Refuses W p s
