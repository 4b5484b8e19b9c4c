use Rattle.std.proofs.Common.{subst}
use Rattle.road_io.specs.declared.entries.Call.TheVariants.{Sync}
use Rattle.road_io.specs.Calls.{Syncs}
use Rattle.road_io.specs.Memory.{SiteState, outside_of, ReadsAlike}
use Rattle.road_io.proofs.RecordedCalls.{told_by, noted_answers, note_fails, fails_alike, is_synced_alike, kept_alike}
use Rattle.road_io.proofs.RecordedCalls.{either_way, sync_told}
use Rattle.road_io.proofs.memory_site.MemorySiteSite.sync.Goals as goal

pub invariant_of-self : goal.invariant_of-self
invariant_of-self c =
    let f = c.self.inside.files in
    let l = c.self.inside.log in
    let m = c.note.new.self in
    let o = told_by f l in
    let p = told_by f m in
    let alike : ReadsAlike o p = either_way c.note.result _ _ (ReadsAlike o p) c.note.ensures.ok c.note.ensures.err
    (λ ok. is_synced_alike c.args.file o p (noted_answers f (Sync c.args.file) l m ok))
    (λ err. fails_alike (Sync c.args.file) o p (note_fails f (Sync c.args.file) l m err)) in
    kept_alike f c.self.inside.output.items o p c.self.invariant alike

pub returns-clause-told : goal.returns-clause-told
returns-clause-told c =
    let f = c.self.inside.files in
    let l = c.self.inside.log in
    let m = c.note.new.self in
    subst (λ (s : SiteState). Syncs c.args.file c.note.result (outside_of s) (told_by f m)) c.self.view_is
    (sync_told c.args.file c.note.result f l m c.note.ensures.ok c.note.ensures.err)
