-- The ends by the line that is kept are those of the step.
use Rattle.std.proofs.Common.{◌≡◌, ◌+◌, Some, List, IfSome, is_some, length, nat_lt, option_copied, slice_get, sym}
use Rattle.std.proofs.Common.{◌∙◌, ap, subst}
use Rattle.road_base.specs.declared.ids.NodeId.{NodeId}
use Rattle.road_model.specs.Lines.{head_position, tail_position}
use Rattle.drive_judging.proofs.DriveLines.{ends_some, ends_none}
use Rattle.drive_judging.proofs.drive_lines.ends_in.Goals as goal

pub returns-in-Some-clause-some : goal.returns-in-Some-clause-some
returns-in-Some-clause-some c =
    let line = c.in-Some.line.now in
    let s = c.args.step in
    let r = c.ends_along.result in
    let found = sym c.line_at.ensures ∙ ap option_copied c.in-Some.is in
    let same = c.deref.ensures.value in
    ends_some c.args.lines.now s line found r
    (subst (λ (l : List NodeId). IfSome r (λ p. slice_get l (tail_position s.dir s.index) ≡ Some p.0)) same
    c.ends_along.ensures.tail)
    (subst (λ (l : List NodeId). IfSome r (λ p. slice_get l (head_position s.dir s.index) ≡ Some p.1)) same
    c.ends_along.ensures.head)
    (subst (λ (l : List NodeId). is_some r ≡ nat_lt (s.index + 1) (length l)) same c.ends_along.ensures.named)

pub returns-in-Some-clause-none : goal.returns-in-Some-clause-none
returns-in-Some-clause-none c =
    let line = c.in-Some.line.now in
    let s = c.args.step in
    let r = c.ends_along.result in
    let found = sym c.line_at.ensures ∙ ap option_copied c.in-Some.is in
    ends_none c.args.lines.now s line found r
    (subst (λ (l : List NodeId). is_some r ≡ nat_lt (s.index + 1) (length l)) c.deref.ensures.value
    c.ends_along.ensures.named)
