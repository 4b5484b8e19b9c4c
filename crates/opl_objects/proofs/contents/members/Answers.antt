use Rattle.std.proofs.Common.{arith, ◌≡◌, ◌<◌, length, option_copied, ◌∙◌, ap}
use Rattle.opl_lexer.specs.Contents.{member_of}
use Rattle.opl_objects.specs.Cutting.{other_parts}
use Rattle.opl_objects.proofs.ContentsCuts.{some_part}
use Rattle.opl_objects.proofs.ContentsLists.{read_more, read_too_many, read_all}
use Rattle.opl_objects.proofs.ContentsFaults.{read_bad}
use Rattle.std.proofs.lemmas.Result.{err_from_is_err_and}
use Rattle.opl_objects.proofs.contents.members.Goals as goal

pub returns-then-len-eq-MOST_ITEMS-clause-err : goal.returns-then-len-eq-MOST_ITEMS-clause-err
returns-then-len-eq-MOST_ITEMS-clause-err c =
    let rest = ap (λ o. other_parts 44 (option_copied o)) c.in-Some.is in
    let so_far = rw rest at c.loop-next.invariant in
    let full : length c.loop-next.list.items ≡ 65535 = omega (arith, c.len.ensures, c.loop-next.list.ok.0) in
    read_too_many member_of c.args.contents.now c.loop-next.list.items _ so_far (some_part 44 c.in-Some.rest.now) full

pub returns-in_err-member-clause-err : goal.returns-in_err-member-clause-err
returns-in_err-member-clause-err c =
    let p = err_from_is_err_and c.from_residual-in_err-member.result c.from_residual-in_err-member.ensures.1 in
    let rest = ap (λ o. other_parts 44 (option_copied o)) c.in-Some.is ∙ c.at_first.ensures.parts in
    let so_far = rw rest at c.loop-next.invariant in
    let room : length c.loop-next.list.items < 65535 = let short = so_far.short in omega
    (arith, c.len.ensures, c.loop-next.list.ok.0) in
    rw (p.1, p.2) (read_bad member_of c.args.contents.now c.loop-next.list.items c.at_first.result.0.now _
    c.in_err-member.field-0.0 so_far room c.in_err-member.ensures.err)

pub loop-next-preserved : goal.loop-next-preserved
loop-next-preserved c =
    let rest = ap (λ o. other_parts 44 (option_copied o)) c.in-Some.is ∙ c.at_first.ensures.parts in
    let so_far = rw rest at c.loop-next.invariant in
    let room : length c.loop-next.list.items < 65535 = let short = so_far.short in omega
    (arith, c.len.ensures, c.loop-next.list.ok.0) in
    let more = read_more member_of c.args.contents.now c.loop-next.list.items c.at_first.result.0.now _
    c.in_ok-member.field-0 so_far room c.in_ok-member.ensures.ok in
    rw c.in_ok-push.ensures.items more

pub returns-clause-ok : goal.returns-clause-ok
returns-clause-ok c =
    let rest = ap (λ o. other_parts 44 (option_copied o)) c.in_default.is in
    let so_far = rw rest at c.loop-next.invariant in
    rw c.in_ok-from_list.ensures (read_all member_of c.args.contents.now c.loop-next.list.items so_far)
