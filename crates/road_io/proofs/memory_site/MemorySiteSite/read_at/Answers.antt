use Rattle.std.proofs.Common.{◌≡◌, ◌⊎◌, length, Ok, subst}
use Rattle.road_io.specs.declared.entries.Call.TheVariants.{ReadAt}
use Rattle.road_io.specs.Calls.{GivesBytes}
use Rattle.road_io.specs.Replay.{refused}
use Rattle.road_io.specs.Memory.{SiteState, outside_of}
use Rattle.road_io.proofs.RecordedCalls.{told_by, noted_answers, note_fails, fails_alike, stays_alike, kept_alike}
use Rattle.road_io.proofs.RecordedCalls.{bytes_failed, bytes_told}
use Rattle.road_io.proofs.memory_site.MemorySiteSite.read_at.Goals as goal

pub invariant_of-self : goal.invariant_of-self
invariant_of-self c =
    let f = c.self.inside.files in
    let l = c.self.inside.log in
    let m = c.note.new.self in
    let call = ReadAt c.args.file c.args.at (length c.args.buf.now) in
    kept_alike f c.self.inside.output.items (told_by f l) (told_by f m) c.self.invariant
    (fails_alike call (told_by f l) (told_by f m) (note_fails f call l m c.in_err-note.ensures.err))

pub returns-in_err-note-clause-told : goal.returns-in_err-note-clause-told
returns-in_err-note-clause-told c =
    let f = c.self.inside.files in
    let l = c.self.inside.log in
    let m = c.note.new.self in
    let call = ReadAt c.args.file c.args.at (length c.args.buf.now) in
    let buf = c.args.buf.now in
    let fails : (told_by f m ≡ told_by f l) ⊎ (told_by f m ≡ refused call (told_by f l)) =
    note_fails f call l m c.in_err-note.ensures.err in
    subst
    (λ (s : SiteState). GivesBytes c.args.file c.args.at buf buf c.from_residual.result (outside_of s) (told_by f m))
    c.self.view_is
    (bytes_failed c.args.file c.args.at (length buf) buf buf c.from_residual.result (told_by f l) (told_by f m)
    c.from_residual.ensures.0 fails)

pub invariant_of-self-2 : goal.invariant_of-self-2
invariant_of-self-2 c =
    let f = c.self.inside.files in
    let l = c.self.inside.log in
    let m = c.note.new.self in
    let call = ReadAt c.args.file c.args.at (length c.args.buf.now) in
    kept_alike f c.self.inside.output.items (told_by f l) (told_by f m) c.self.invariant
    (stays_alike (told_by f l) (told_by f m) (noted_answers f call l m c.in_ok-note.ensures.ok))

pub returns-clause-told : goal.returns-clause-told
returns-clause-told c =
    let f = c.self.inside.files in
    let l = c.self.inside.log in
    let m = c.note.new.self in
    let buf = c.args.buf.now in
    subst
    (λ (s : SiteState). GivesBytes c.args.file c.args.at buf c.copy_front.new.buf (Ok c.copy_front.result)
    (outside_of s) (told_by f m))
    c.self.view_is
    (bytes_told c.args.file c.args.at c.copy_front.result (length buf) c.bytes.result.now c.from_place.result.now buf
    c.copy_front.new.buf c.self.inside.output.items f l m c.self.invariant c.bytes.ensures c.from_place.ensures
    c.copy_front.ensures.gives c.in_ok-note.ensures.ok)
