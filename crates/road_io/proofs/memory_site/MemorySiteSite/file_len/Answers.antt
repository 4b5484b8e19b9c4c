use Rattle.std.proofs.Common.{◌≡◌, ◌⊎◌, length, Ok, refl, subst}
use Rattle.road_io.specs.declared.entries.Call.TheVariants.{FileLen}
use Rattle.road_io.specs.Calls.{TellsLen}
use Rattle.road_io.specs.Replay.{refused}
use Rattle.road_io.specs.Memory.{SiteState, outside_of}
use Rattle.road_io.proofs.RecordedCalls.{told_by, noted_answers, note_fails, fails_alike, stays_alike, kept_alike}
use Rattle.road_io.proofs.RecordedCalls.{len_failed, len_told}
use Rattle.road_io.proofs.memory_site.MemorySiteSite.file_len.Goals as goal

pub invariant_of-self : goal.invariant_of-self
invariant_of-self c =
    let f = c.self.inside.files in
    let l = c.self.inside.log in
    let m = c.note.new.self in
    let call = FileLen c.args.file in
    kept_alike f c.self.inside.output.items (told_by f l) (told_by f m) c.self.invariant
    (fails_alike call (told_by f l) (told_by f m) (note_fails f call l m c.in_err-note.ensures.err))

pub returns-in_err-note-clause-told : goal.returns-in_err-note-clause-told
returns-in_err-note-clause-told c =
    let f = c.self.inside.files in
    let l = c.self.inside.log in
    let m = c.note.new.self in
    let call = FileLen c.args.file in
    let fails : (told_by f m ≡ told_by f l) ⊎ (told_by f m ≡ refused call (told_by f l)) =
    note_fails f call l m c.in_err-note.ensures.err in
    subst (λ (s : SiteState). TellsLen c.args.file c.from_residual.result (outside_of s) (told_by f m)) c.self.view_is
    (len_failed c.args.file c.from_residual.result (told_by f l) (told_by f m) c.from_residual.ensures.0 fails)

pub invariant_of-self-2 : goal.invariant_of-self-2
invariant_of-self-2 c =
    let f = c.self.inside.files in
    let l = c.self.inside.log in
    let m = c.note.new.self in
    kept_alike f c.self.inside.output.items (told_by f l) (told_by f m) c.self.invariant
    (stays_alike (told_by f l) (told_by f m)
    (noted_answers f (FileLen c.args.file) l m c.in_ok-note.ensures.ok))

pub returns-clause-told : goal.returns-clause-told
returns-clause-told c =
    let f = c.self.inside.files in
    let l = c.self.inside.log in
    let m = c.note.new.self in
    let bytes = c.bytes.result.now in
    subst (λ (s : SiteState). TellsLen c.args.file (Ok (length bytes)) (outside_of s) (told_by f m)) c.self.view_is
    (len_told c.args.file (length bytes) bytes c.self.inside.output.items f l m c.self.invariant c.bytes.ensures
    refl c.in_ok-note.ensures.ok)
