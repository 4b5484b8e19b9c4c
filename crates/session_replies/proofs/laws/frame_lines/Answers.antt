use Rattle.opl_lexer.specs.Fields.{fields}
use Rattle.session_replies.proofs.FrameMessages.{frames_alike}
use Rattle.session_replies.proofs.laws.frame_lines.Goals as goal

pub returns : goal.returns
returns c = λ text number. frames_alike (fields text) number
