-- Faults of a part are faults of the whole.
use Rattle.std.specs.Prelude.{◌≡◌, ◌<◌, ℕ, List, ◌∷◌, length}
use Rattle.std.proofs.Common.{◌∙◌, ap}
use Rattle.opl_lexer.specs.declared.fault.FaultKind.{FaultKind}
use Rattle.opl_lexer.specs.declared.fault.LexError.{LexError}
use Rattle.opl_lexer.specs.declared.fault.LexError.TheVariants.{Kind, NoMemory}
use Rattle.opl_lexer.specs.Contents.{Parsed, Bad, list_of}
use Rattle.opl_objects.specs.Outcomes.{IsBad}
use Rattle.opl_objects.proofs.ContentsLists.{IsRead, read_fault}

pub bad_through : {A B : Type 0} (f : Parsed A → Parsed B) (part : Parsed A) (whole : Parsed B) (error : LexError)
    → ((kind : FaultKind) → f (Bad kind) ≡ Bad kind) → whole ≡ f part → IsBad part error → IsBad whole error
bad_through f part whole (Kind kind) keeps same bad = same ∙ (ap f bad ∙ keeps kind)
bad_through f part whole NoMemory keeps same bad = tt

-- an item that wasn't read
pub read_bad : {A : Type 0} (read : List ℕ → Parsed A) (contents : List ℕ) (list : List A) (item : List ℕ)
    (others : List (List ℕ)) (error : LexError) → IsRead read contents list (item ∷ others) → length list < 65535
    → IsBad (read item) error → IsBad (list_of read contents) error
read_bad read contents list item others (Kind kind) so_far room bad = read_fault read contents list item others kind
    so_far room bad
read_bad read contents list item others NoMemory so_far room bad = tt
