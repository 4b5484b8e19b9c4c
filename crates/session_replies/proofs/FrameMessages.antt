-- Which messages begin a frame.
use Rattle.std.proofs.Common.{◌≡◌, ◌↔◌, ℕ, ℤ, List, [], ◌∷◌, Bool, true, false, Option, Some, None, ap, codes}
use Rattle.std.specs.Prelude.{bytes_eq, if◌then◌else◌, ◌^◌, cond}
use Rattle.road_base.specs.declared.ids.Sequence.{Sequence}
use Rattle.road_base.specs.declared.ids.Step.{Step}
use Rattle.opl_lexer.specs.Numbers.{number_below, whole_of}
use Rattle.drive_queries.specs.declared.messages.Asked.{Asked}
use Rattle.drive_queries.specs.declared.messages.Asked.TheVariants.{Empty, Seq, Graph, State, Drive, Reach, Unknown}
use Rattle.session_input.specs.Messages.{frame_of_words}
use Rattle.drive_queries.specs.Messages.{asked_of, asked_frame, asked_alone, asked_drive, asked_reach, steps_of}
use Rattle.drive_queries.specs.Messages.{drive_of, reach_of, frame_of}

-- the message isn't one that begins a frame
abbrev NoFrame : Asked → Type 0
NoFrame message = (n : Sequence) → message ≡ Seq n → ⊥

no_unknown : NoFrame Unknown
no_unknown n e = cc

no_alone : (message : Asked) → NoFrame message → (words : List (List ℕ)) → NoFrame (asked_alone message words)
no_alone message none [] = none
no_alone message none (one ∷ more) = no_unknown

no_drive_of : (steps : Option (List Step)) → NoFrame (drive_of steps)
no_drive_of None n e = cc
no_drive_of (Some steps) n e = cc

no_drive : (words : List (List ℕ)) → NoFrame (asked_drive words)
no_drive [] = no_unknown
no_drive (word ∷ words) = no_drive_of (steps_of (word ∷ words))

no_reach_of : (from to : Option ℤ) → NoFrame (reach_of from to)
no_reach_of None to n e = cc
no_reach_of (Some from) None n e = cc
no_reach_of (Some from) (Some to) n e = cc

no_reach : (words : List (List ℕ)) → NoFrame (asked_reach words)
no_reach [] = no_unknown
no_reach (one ∷ []) = no_unknown
no_reach (a ∷ b ∷ []) = no_reach_of (whole_of a) (whole_of b)
no_reach (one ∷ two ∷ three ∷ more) = no_unknown

no_graph : NoFrame Graph
no_graph n e = cc

no_state : NoFrame State
no_state n e = cc

no_other : (graph state drive reach : Bool) (words : List (List ℕ))
    → NoFrame (if graph then asked_alone Graph words
    else (if state then asked_alone State words
    else (if drive then asked_drive words
    else (if reach then asked_reach words else Unknown))))
no_other true state drive reach words = no_alone Graph no_graph words
no_other false true drive reach words = no_alone State no_state words
no_other false false true reach words = no_drive words
no_other false false false true words = no_reach words
no_other false false false false words = no_unknown

some_is : (k m : ℕ) → Some k ≡ Some m → k ≡ m
some_is k m e = cc

-- a number is read alike
number_alike : (number : Option ℕ) (n : Sequence) → frame_of number ≡ Seq n ↔ number ≡ Some n.0
number_alike None n = (λ e. absurd (no_unknown n e), λ e. cc)
number_alike (Some k) n = (λ e. cc, λ e. ap (λ (m : ℕ). Seq (record { 0 = m })) (some_is k n.0 e))

named : (seq graph state drive reach : Bool) (word : List ℕ) (n : Sequence)
    → (if seq then asked_frame (word ∷ [])
    else (if graph then asked_alone Graph (word ∷ [])
    else (if state then asked_alone State (word ∷ [])
    else (if drive then asked_drive (word ∷ [])
    else (if reach then asked_reach (word ∷ []) else Unknown))))) ≡ Seq n
    ↔ cond seq (number_below (2 ^ 64) word) None ≡ Some n.0
named true graph state drive reach word n = number_alike (number_below (2 ^ 64) word) n
named false graph state drive reach word n =
    (λ e. absurd (no_other graph state drive reach (word ∷ []) n e), λ e. cc)

-- where other words stand no frame begins
unlike : (seq graph state drive reach : Bool) (words : List (List ℕ)) → NoFrame (asked_frame words)
    → NoFrame (if seq then asked_frame words
    else (if graph then asked_alone Graph words
    else (if state then asked_alone State words
    else (if drive then asked_drive words
    else (if reach then asked_reach words else Unknown)))))
unlike true graph state drive reach words none = none
unlike false graph state drive reach words none = no_other graph state drive reach words

pub frames_alike : (words : List (List ℕ)) (n : Sequence) → asked_of words ≡ Seq n ↔ frame_of_words words ≡ Some n.0
frames_alike [] n = (λ e. cc, λ e. cc)
frames_alike (name ∷ []) n = (
  λ e. absurd (unlike (bytes_eq name (codes "#seq")) (bytes_eq name (codes "graph")) (bytes_eq name (codes "state"))
      (bytes_eq name (codes "drive")) (bytes_eq name (codes "reach")) [] no_unknown n e),
  λ e. cc,
)
frames_alike (name ∷ word ∷ []) n =
    named (bytes_eq name (codes "#seq")) (bytes_eq name (codes "graph")) (bytes_eq name (codes "state"))
    (bytes_eq name (codes "drive")) (bytes_eq name (codes "reach")) word n
frames_alike (name ∷ two ∷ three ∷ more) n = (
  λ e. absurd (unlike (bytes_eq name (codes "#seq")) (bytes_eq name (codes "graph")) (bytes_eq name (codes "state"))
      (bytes_eq name (codes "drive")) (bytes_eq name (codes "reach")) (two ∷ three ∷ more) no_unknown n e),
  λ e. cc,
)
