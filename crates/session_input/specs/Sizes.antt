-- How many bytes of a frame came.
use Rattle.std.specs.Prelude.{ℕ, Option, Some, None}
use Rattle.session_input.specs.declared.open_frame.OpenFrame.{OpenFrame}

-- how many bytes came behind the first line of the frame, if one is open
abbrev pub frame_size : Option OpenFrame → ℕ
frame_size None = 0
frame_size (Some frame) = frame.size
