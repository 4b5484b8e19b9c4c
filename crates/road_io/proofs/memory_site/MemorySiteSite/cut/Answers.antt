use Rattle.std.proofs.Common.{◌≡◌, ◌≤◌, length, take, Err, sym, ◌∙◌, subst}
use Rattle.road_io.specs.declared.entries.Call.TheVariants.{Cut}
use Rattle.road_io.specs.Outside.{disk}
use Rattle.road_io.specs.Calls.{Cuts}
use Rattle.road_io.specs.Replay.{answered, refused}
use Rattle.road_io.specs.Memory.{SiteState, outside_of, ReadsAlike, bytes_of, with_file}
use Rattle.road_io.proofs.RecordedCalls.{told_by, noted_answers, noted_refuses, is_refused_alike, kept_alike}
use Rattle.road_io.proofs.RecordedCalls.{room_then_noted, room_then_failed, cut_refused, cut_kept, not_err}
use Rattle.road_io.proofs.RecordedCalls.{file_changed_opens}
use Rattle.road_io.proofs.memory_site.MemorySiteSite.cut.Goals as goal

pub invariant_of-self-then-branch : goal.invariant_of-self-then-branch
invariant_of-self-then-branch c =
    let f = c.self.inside.files in
    let l = c.self.inside.log in
    let n = c.enter_failed.new.self in
    let call = Cut c.args.file c.args.len in
    let told : told_by f n ≡ refused call (told_by f l) = noted_refuses f call l n
    (room_then_failed call l c.make_room.new.self n c.in_ok-make_room.ensures.ok c.enter_failed.ensures.state) in
    kept_alike f c.self.inside.output.items (told_by f l) (told_by f n) c.self.invariant
    (is_refused_alike call (told_by f l) (told_by f n) told)

pub returns-then-branch-clause-told : goal.returns-then-branch-clause-told
returns-then-branch-clause-told c =
    let f = c.self.inside.files in
    let l = c.self.inside.log in
    let n = c.enter_failed.new.self in
    let call = Cut c.args.file c.args.len in
    let told : told_by f n ≡ refused call (told_by f l) = noted_refuses f call l n
    (room_then_failed call l c.make_room.new.self n c.in_ok-make_room.ensures.ok c.enter_failed.ensures.state) in
    let within : c.args.len ≤ length (disk (told_by f l) c.args.file).reads = subst
    (λ (s : SiteState). c.args.len ≤ length (disk (outside_of s) c.args.file).reads)
    (sym c.self.view_is) c.requires.within in
    subst (λ (s : SiteState). Cuts c.args.file c.args.len (Err c.enter_failed.result) (outside_of s) (told_by f n))
    c.self.view_is
    (cut_refused c.args.file c.args.len (told_by f l) (told_by f n) within c.enter_failed.result told)

pub returns-then-branch-clause-alike : goal.returns-then-branch-clause-alike
returns-then-branch-clause-alike c =
    let f = c.self.inside.files in
    let l = c.self.inside.log in
    let n = c.enter_failed.new.self in
    let call = Cut c.args.file c.args.len in
    let told : told_by f n ≡ refused call (told_by f l) = noted_refuses f call l n
    (room_then_failed call l c.make_room.new.self n c.in_ok-make_room.ensures.ok c.enter_failed.ensures.state) in
    subst (λ (s : SiteState). ReadsAlike (outside_of s) (told_by f n)) c.self.view_is
    (is_refused_alike call (told_by f l) (told_by f n) told)

pub invariant_of-self-2 : goal.invariant_of-self-2
invariant_of-self-2 c =
    let f = c.self.inside.files in
    let g = c.cut.new.self in
    let l = c.self.inside.log in
    let n = c.enter.new.self in
    let call = Cut c.args.file c.args.len in
    let is : g ≡ with_file c.args.file (take c.args.len (bytes_of f c.args.file)) f =
    not_err c.cut.result _ c.cut.ensures.ok c.if-is_err.ensures.value in
    let told : told_by g n ≡ answered call (told_by f l) =
    file_changed_opens c.args.file (take c.args.len (bytes_of f c.args.file)) f g n is
    ∙ noted_answers f call l n
    (room_then_noted call l c.make_room.new.self n c.in_ok-make_room.ensures.ok c.enter.ensures) in
    cut_kept c.args.file c.args.len f g c.self.inside.output.items (told_by f l) (told_by g n) c.self.invariant is told

pub returns-clause-told : goal.returns-clause-told
returns-clause-told c =
    let f = c.self.inside.files in
    let g = c.cut.new.self in
    let l = c.self.inside.log in
    let n = c.enter.new.self in
    let call = Cut c.args.file c.args.len in
    let is : g ≡ with_file c.args.file (take c.args.len (bytes_of f c.args.file)) f =
    not_err c.cut.result _ c.cut.ensures.ok c.if-is_err.ensures.value in
    let told : told_by g n ≡ answered call (told_by f l) =
    file_changed_opens c.args.file (take c.args.len (bytes_of f c.args.file)) f g n is
    ∙ noted_answers f call l n
    (room_then_noted call l c.make_room.new.self n c.in_ok-make_room.ensures.ok c.enter.ensures) in
    subst (λ (s : SiteState). told_by g n ≡ answered call (outside_of s)) c.self.view_is told
