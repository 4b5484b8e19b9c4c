-- The bytes of a reply.
use Rattle.std.specs.Prelude.{◌++◌, ℕ, List}
use Rattle.session_answers.specs.declared.reply.Reply.{Reply}

-- its line, and what stands behind it
abbrev pub said : Reply → List ℕ
said r = r.line.items ++ r.behind.items
