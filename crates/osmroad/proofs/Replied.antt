-- A reply, or a failure in its place, as what a command prepares.
use Rattle.std.proofs.Common.{ℕ, List, Option, Result, Ok, Err, sym, subst}
use Rattle.road_io.specs.Told.{Told}
use Rattle.road_io.specs.Outside.{Outside}
use Rattle.osmroad.specs.declared.command.Command.{Command}
use Rattle.last_words.specs.declared.words.LastWords.{LastWords}
use Rattle.last_words.specs.declared.words.Failure.{Failure}
use Rattle.last_words.specs.declared.status.Status.{Status}
use Rattle.osmroad.specs.Run.{StandAsBefore}
use Rattle.last_words.specs.Replies.{Replies}
use Rattle.osmroad.specs.Replies.{WillPut, WillFail, IsPrepared}

-- a reply says what will be put; where memory ended in its place, the files stand as before
pub replied : (command : Option Command) (bytes read : List ℕ) (status : Status) (out : List ℕ)
    (result : Result LastWords Failure) (before now : Option Outside)
    → Replies status out result → WillPut command bytes read status out before now → Told StandAsBefore before now
    → IsPrepared command bytes read result before now
replied command bytes read status out (Ok r) before now says will stand =
    subst (λ (s : Status). WillPut command bytes read s r.out.items before now) (sym says.0)
    (subst (λ (l : List ℕ). WillPut command bytes read status l before now) (sym says.1) will)
replied command bytes read status out (Err failure) before now is will stand =
    subst (λ (f : Failure). WillFail command read f before now) (sym is) stand
