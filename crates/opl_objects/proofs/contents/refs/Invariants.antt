use Rattle.std.proofs.Common.{length, option_copied}
use Rattle.opl_lexer.specs.Contents.{ref_of}
use Rattle.opl_objects.specs.Cutting.{other_parts}
use Rattle.opl_objects.proofs.ContentsLists.{IsRead}
use Rattle.opl_objects.proofs.contents.refs.Given as goal

abbrev pub invariant-loop-next : goal.invariant-loop-next
invariant-loop-next l = IsRead ref_of l.fn.contents l.list.items (other_parts 44 (option_copied l.next))

abbrev pub decreases-loop-next : goal.decreases-loop-next
decreases-loop-next l = length (other_parts 44 (option_copied l.next))
