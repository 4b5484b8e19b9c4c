-- What is held of a session's input.
use Rattle.std.specs.Prelude.{◌≡◌, ℕ, ◌+◌, ◌≤◌, ◌^◌, List, [], ◌∷◌, ◌++◌, length, vec_len, Option, Some, None}
use Rattle.opl_lexer.specs.Letters.{newline}
use Rattle.opl_lexer.specs.Parts.{Lacks, parts}
use Rattle.opl_lexer.specs.Lines.{whole_lines}
use Rattle.opl_lexer.specs.declared.mode.Mode.TheVariants.{Change as ChangeMode}
use Rattle.opl_objects.specs.Feeding.{HasRead}
use Rattle.session_input.specs.declared.input.Input.{Input}
use Rattle.session_input.specs.declared.next.Behind.{Behind}
use Rattle.session_input.specs.declared.next.Behind.TheVariants.{Open, Ended}
use Rattle.session_input.specs.declared.open_frame.OpenFrame.{OpenFrame}
use Rattle.session_input.specs.declared.received.Received.{Received}
use Rattle.session_input.specs.Messages.{Message, BeginsFrame, IsMessage}
use Rattle.session_input.specs.Sizes.{frame_size}
use Rattle.session_input.specs.Limits.{IsPending}
use Rattle.session_input.specs.Reading.{Means}

-- ---- lines

-- the bytes are a line with its newline
pub record IsWholeLine (bytes : List ℕ) : Type 0 where
  pub line : List ℕ
  pub one : Lacks newline line
  pub spelled : bytes ≡ line ++ newline ∷ []

-- the bytes begin with this line and its newline
pub record IsFirstLine (bytes line : List ℕ) : Type 0 where
  pub whole : IsWholeLine line
  pub rest : List ℕ
  pub spelled : bytes ≡ line ++ rest

-- ---- frames

-- these are the bytes that came behind the first line of the frame
pub record HasLines (body : List ℕ) (frame : OpenFrame) : Type 0 where
  pub read : HasRead ChangeMode body frame.reader
  pub size : frame.size ≡ length body

-- these are the bytes of the frame, whole lines
pub record HasFrame (bytes : List ℕ) (frame : OpenFrame) : Type 0 where
  pub body : List ℕ
  pub begins : BeginsFrame frame.number.0 body bytes
  pub lines : HasLines body frame
  pub ended : parts newline body ≡ whole_lines body ++ ([] ∷ [])

-- the bytes are those of the frame, if one is open
abbrev pub IsFront : Option OpenFrame → List ℕ → Type 0
IsFront None bytes = bytes ≡ []
IsFront (Some frame) bytes = HasFrame bytes frame

-- ---- what a line leads to

-- the bytes are a message, which was received
pub record IsReceived (bytes : List ℕ) (received : Received) : Type 0 where
  pub message : Message
  pub is : IsMessage message bytes
  pub means : Means message received

abbrev pub LeadsTo : List ℕ → Behind → Type 0
LeadsTo bytes (Open frame) = HasFrame bytes frame
LeadsTo bytes (Ended received) = IsReceived bytes received

abbrev pub next_size : Behind → ℕ
next_size (Open frame) = frame.size
next_size (Ended received) = 0

-- ---- the input

-- so many bytes more of the line, and of its newline, pass no limit
pub record HasRoom (input : Input) (more ending : ℕ) : Type 0 where
  pub in_line : vec_len input.held + more ≤ 2 ^ 24
  pub in_frame : frame_size input.frame + vec_len input.held + more + ending ≤ 2 ^ 30
  pub in_session : input.total + more + ending ≤ 2 ^ 40

-- The input holds these bytes, which came behind so many bytes of whole messages: the lines of the frame that hasn't
-- ended, if there is one, and the line that hasn't ended.
pub record Holds (before : ℕ) (bytes : List ℕ) (input : Input) : Type 0 where
  pub pending : IsPending before bytes
  pub front : List ℕ
  pub frame : IsFront input.frame front
  pub open_line : Lacks newline input.held.items
  pub held : bytes ≡ front ++ input.held.items
  pub total : input.total ≡ before + length bytes
