use Rattle.std.proofs.Common.{arith, ◌≡◌, ◌<◌, length, option_copied, ◌∙◌, ap}
use Rattle.opl_lexer.specs.Contents.{ref_of}
use Rattle.opl_lexer.specs.declared.fault.FaultKind.TheVariants.{BadRef}
use Rattle.opl_objects.specs.Cutting.{other_parts}
use Rattle.opl_objects.proofs.ContentsCuts.{some_part}
use Rattle.opl_objects.proofs.ContentsLists.{read_more, read_fault, read_too_many, read_all}
use Rattle.opl_objects.proofs.contents.refs.Goals as goal

pub returns-then-len-eq-MOST_ITEMS-clause-err : goal.returns-then-len-eq-MOST_ITEMS-clause-err
returns-then-len-eq-MOST_ITEMS-clause-err c =
    let rest = ap (λ o. other_parts 44 (option_copied o)) c.in-Some.is in
    let so_far = rw rest at c.loop-next.invariant in
    let full : length c.loop-next.list.items ≡ 65535 = omega (arith, c.len.ensures, c.loop-next.list.ok.0) in
    read_too_many ref_of c.args.contents.now c.loop-next.list.items _ so_far (some_part 44 c.in-Some.rest.now) full

pub returns-in_default-first_reference-clause-err : goal.returns-in_default-first_reference-clause-err
returns-in_default-first_reference-clause-err c =
    let found = c.in_default-first_reference.ensures.none in
    let rest = ap (λ o. other_parts 44 (option_copied o)) c.in-Some.is ∙ found.split in
    let so_far = rw rest at c.loop-next.invariant in
    let room : length c.loop-next.list.items < 65535 = let short = so_far.short in omega
    (arith, c.len.ensures, c.loop-next.list.ok.0) in
    read_fault ref_of c.args.contents.now c.loop-next.list.items found.item found.others BadRef so_far room found.bad

pub loop-next-preserved : goal.loop-next-preserved
loop-next-preserved c =
    let found = c.in-Some-first_reference.ensures.some in
    let rest = ap (λ o. other_parts 44 (option_copied o)) c.in-Some.is ∙ found.split in
    let so_far = rw rest at c.loop-next.invariant in
    let room : length c.loop-next.list.items < 65535 = let short = so_far.short in omega
    (arith, c.len.ensures, c.loop-next.list.ok.0) in
    let more = read_more ref_of c.args.contents.now c.loop-next.list.items found.item _ c.in-Some-first_reference.id
    so_far room found.good in
    rw c.in_ok-push.ensures.items more

pub returns-clause-ok : goal.returns-clause-ok
returns-clause-ok c =
    let rest = ap (λ o. other_parts 44 (option_copied o)) c.in_default.is in
    let so_far = rw rest at c.loop-next.invariant in
    rw c.in_ok-from_list.ensures (read_all ref_of c.args.contents.now c.loop-next.list.items so_far)
