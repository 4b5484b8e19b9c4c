use Rattle.std.proofs.Common.{◌≡◌, ◌≤◌, ℕ, List, length, Ok, Err, sym, ◌∙◌, ap, subst}
use Rattle.road_io.specs.declared.entries.Call.TheVariants.{WriteAt}
use Rattle.road_io.specs.Disk.{overwritten}
use Rattle.road_io.specs.Outside.{disk}
use Rattle.road_io.specs.Calls.{Writes}
use Rattle.road_io.specs.Replay.{answered, refused}
use Rattle.road_io.specs.Memory.{SiteState, outside_of, ReadsAlike, bytes_of, with_file}
use Rattle.road_io.proofs.RecordedCalls.{told_by, noted_answers, noted_refuses, is_refused_alike, kept_alike}
use Rattle.road_io.proofs.RecordedCalls.{room_then_noted, room_then_failed, write_told, write_refused, write_kept}
use Rattle.road_io.proofs.RecordedCalls.{file_changed_opens, not_err}
use Rattle.road_io.proofs.memory_site.MemorySiteSite.write_at.Goals as goal

pub invariant_of-self-then-branch : goal.invariant_of-self-then-branch
invariant_of-self-then-branch c =
    let f = c.self.inside.files in
    let l = c.self.inside.log in
    let n = c.enter_failed.new.self in
    let call = WriteAt c.args.file c.args.at c.in-Ok.copy in
    let told : told_by f n ≡ refused call (told_by f l) = noted_refuses f call l n
    (room_then_failed call l c.make_room.new.self n c.in_ok-make_room.ensures.ok c.enter_failed.ensures.state) in
    kept_alike f c.self.inside.output.items (told_by f l) (told_by f n) c.self.invariant
    (is_refused_alike call (told_by f l) (told_by f n) told)

pub returns-then-branch-clause-told : goal.returns-then-branch-clause-told
returns-then-branch-clause-told c =
    let f = c.self.inside.files in
    let l = c.self.inside.log in
    let n = c.enter_failed.new.self in
    let chunk = c.args.chunk.now in
    let call = WriteAt c.args.file c.args.at c.in-Ok.copy in
    let told : told_by f n ≡ refused (WriteAt c.args.file c.args.at chunk) (told_by f l) = noted_refuses f call l n
    (room_then_failed call l c.make_room.new.self n c.in_ok-make_room.ensures.ok c.enter_failed.ensures.state)
    ∙ ap (λ (p : List ℕ). refused (WriteAt c.args.file c.args.at p) (told_by f l)) c.in-Ok.ensures in
    let within : c.args.at ≤ length (disk (told_by f l) c.args.file).reads = subst
    (λ (s : SiteState). c.args.at ≤ length (disk (outside_of s) c.args.file).reads)
    (sym c.self.view_is) c.requires.within in
    subst
    (λ (s : SiteState). Writes c.args.file c.args.at chunk (Err c.enter_failed.result) (outside_of s) (told_by f n))
    c.self.view_is
    (write_refused c.args.file c.args.at chunk (told_by f l) (told_by f n) within c.enter_failed.result told)

pub returns-then-branch-clause-alike : goal.returns-then-branch-clause-alike
returns-then-branch-clause-alike c =
    let f = c.self.inside.files in
    let l = c.self.inside.log in
    let n = c.enter_failed.new.self in
    let call = WriteAt c.args.file c.args.at c.in-Ok.copy in
    let told : told_by f n ≡ refused call (told_by f l) = noted_refuses f call l n
    (room_then_failed call l c.make_room.new.self n c.in_ok-make_room.ensures.ok c.enter_failed.ensures.state) in
    subst (λ (s : SiteState). ReadsAlike (outside_of s) (told_by f n)) c.self.view_is
    (is_refused_alike call (told_by f l) (told_by f n) told)

pub invariant_of-self-2 : goal.invariant_of-self-2
invariant_of-self-2 c =
    let f = c.self.inside.files in
    let g = c.overwrite.new.self in
    let l = c.self.inside.log in
    let n = c.enter.new.self in
    let chunk = c.args.chunk.now in
    let call = WriteAt c.args.file c.args.at c.in-Ok.copy in
    let bytes = overwritten c.args.at chunk (bytes_of f c.args.file) in
    let is : g ≡ with_file c.args.file bytes f =
    not_err c.overwrite.result _ c.overwrite.ensures.ok c.if-is_err.ensures.value in
    let answer : told_by g n ≡ answered (WriteAt c.args.file c.args.at chunk) (told_by f l) =
    file_changed_opens c.args.file bytes f g n is
    ∙ noted_answers f call l n
    (room_then_noted call l c.make_room.new.self n c.in_ok-make_room.ensures.ok c.enter.ensures)
    ∙ ap (λ (p : List ℕ). answered (WriteAt c.args.file c.args.at p) (told_by f l)) c.in-Ok.ensures in
    let within : c.args.at ≤ length (disk (told_by f l) c.args.file).reads = subst
    (λ (s : SiteState). c.args.at ≤ length (disk (outside_of s) c.args.file).reads)
    (sym c.self.view_is) c.requires.within in
    write_kept c.args.file c.args.at chunk f g c.self.inside.output.items (told_by f l) (told_by g n)
    c.self.invariant is
    (write_told c.args.file c.args.at chunk (told_by f l) (told_by g n) within answer)

pub returns-clause-told : goal.returns-clause-told
returns-clause-told c =
    let f = c.self.inside.files in
    let g = c.overwrite.new.self in
    let l = c.self.inside.log in
    let n = c.enter.new.self in
    let chunk = c.args.chunk.now in
    let call = WriteAt c.args.file c.args.at c.in-Ok.copy in
    let bytes = overwritten c.args.at chunk (bytes_of f c.args.file) in
    let is : g ≡ with_file c.args.file bytes f =
    not_err c.overwrite.result _ c.overwrite.ensures.ok c.if-is_err.ensures.value in
    let answer : told_by g n ≡ answered (WriteAt c.args.file c.args.at chunk) (told_by f l) =
    file_changed_opens c.args.file bytes f g n is
    ∙ noted_answers f call l n
    (room_then_noted call l c.make_room.new.self n c.in_ok-make_room.ensures.ok c.enter.ensures)
    ∙ ap (λ (p : List ℕ). answered (WriteAt c.args.file c.args.at p) (told_by f l)) c.in-Ok.ensures in
    let within : c.args.at ≤ length (disk (told_by f l) c.args.file).reads = subst
    (λ (s : SiteState). c.args.at ≤ length (disk (outside_of s) c.args.file).reads)
    (sym c.self.view_is) c.requires.within in
    subst (λ (s : SiteState). Writes c.args.file c.args.at chunk (Ok c.enter.result) (outside_of s) (told_by g n))
    c.self.view_is
    (write_told c.args.file c.args.at chunk (told_by f l) (told_by g n) within answer)
