use Rattle.std.proofs.Common.{◌≡◌, ◌++◌, ℕ, List, Bool, if◌then◌else◌, Err, ◌∙◌, ap, subst}
use Rattle.road_io.specs.declared.entries.Call.TheVariants.{Put}
use Rattle.road_io.specs.Calls.{Puts}
use Rattle.road_io.specs.Replay.{answered, refused}
use Rattle.road_io.specs.Memory.{SiteState, outside_of, ReadsAlike}
use Rattle.road_io.proofs.RecordedCalls.{told_by, noted_answers, noted_refuses, is_refused_alike, kept_alike}
use Rattle.road_io.proofs.RecordedCalls.{room_then_noted, room_then_failed, put_refused, put_kept, is_not_err}
use Rattle.road_io.proofs.memory_site.MemorySiteSite.put.Goals as goal

pub invariant_of-self-then-branch : goal.invariant_of-self-then-branch
invariant_of-self-then-branch c =
    let f = c.self.inside.files in
    let l = c.self.inside.log in
    let n = c.enter_failed.new.self in
    let call = Put c.in-Ok.copy in
    let told : told_by f n ≡ refused call (told_by f l) = noted_refuses f call l n
    (room_then_failed call l c.make_room.new.self n c.in_ok-make_room.ensures.ok c.enter_failed.ensures.state) in
    kept_alike f c.self.inside.output.items (told_by f l) (told_by f n) c.self.invariant
    (is_refused_alike call (told_by f l) (told_by f n) told)

pub returns-then-branch-clause-told : goal.returns-then-branch-clause-told
returns-then-branch-clause-told c =
    let f = c.self.inside.files in
    let l = c.self.inside.log in
    let n = c.enter_failed.new.self in
    let call = Put c.in-Ok.copy in
    let told : told_by f n ≡ refused call (told_by f l) = noted_refuses f call l n
    (room_then_failed call l c.make_room.new.self n c.in_ok-make_room.ensures.ok c.enter_failed.ensures.state) in
    subst (λ (s : SiteState). Puts c.args.chunk.now (Err c.enter_failed.result) (outside_of s) (told_by f n))
    c.self.view_is
    (put_refused c.args.chunk.now c.enter_failed.result (told_by f l) (told_by f n) told)

pub returns-then-branch-clause-alike : goal.returns-then-branch-clause-alike
returns-then-branch-clause-alike c =
    let f = c.self.inside.files in
    let l = c.self.inside.log in
    let n = c.enter_failed.new.self in
    let call = Put c.in-Ok.copy in
    let told : told_by f n ≡ refused call (told_by f l) = noted_refuses f call l n
    (room_then_failed call l c.make_room.new.self n c.in_ok-make_room.ensures.ok c.enter_failed.ensures.state) in
    subst (λ (s : SiteState). ReadsAlike (outside_of s) (told_by f n)) c.self.view_is
    (is_refused_alike call (told_by f l) (told_by f n) told)

pub invariant_of-self-2 : goal.invariant_of-self-2
invariant_of-self-2 c =
    let f = c.self.inside.files in
    let l = c.self.inside.log in
    let n = c.enter.new.self in
    let call = Put c.in-Ok.copy in
    let before = c.self.inside.output.items in
    let now = c.extend_from_slice.new.self.items in
    let is : now ≡ before ++ c.args.chunk.now =
    c.extend_from_slice.ensures.items
    ∙ ap (λ (b : Bool). if b then before ++ c.args.chunk.now else before)
    (is_not_err c.extend_from_slice.result c.if-is_err.ensures.value) in
    let told : told_by f n ≡ answered (Put c.args.chunk.now) (told_by f l) = noted_answers f call l n
    (room_then_noted call l c.make_room.new.self n c.in_ok-make_room.ensures.ok c.enter.ensures)
    ∙ ap (λ (chunk : List ℕ). answered (Put chunk) (told_by f l)) c.in-Ok.ensures in
    put_kept f c.args.chunk.now before now (told_by f l) (told_by f n) c.self.invariant is told

pub returns-clause-told : goal.returns-clause-told
returns-clause-told c =
    let f = c.self.inside.files in
    let l = c.self.inside.log in
    let n = c.enter.new.self in
    let call = Put c.in-Ok.copy in
    let told : told_by f n ≡ answered (Put c.args.chunk.now) (told_by f l) = noted_answers f call l n
    (room_then_noted call l c.make_room.new.self n c.in_ok-make_room.ensures.ok c.enter.ensures)
    ∙ ap (λ (chunk : List ℕ). answered (Put chunk) (told_by f l)) c.in-Ok.ensures in
    subst (λ (s : SiteState). told_by f n ≡ answered (Put c.args.chunk.now) (outside_of s)) c.self.view_is told
