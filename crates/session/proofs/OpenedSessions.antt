-- A session of which nothing was read yet.
use Rattle.std.proofs.Common.{◌≡◌, inl, List, [], ℕ, ◌++◌, Bool, false, refl, sym, ◌∙◌, subst}
use Rattle.std.proofs.lemmas.List.{append-nil}
use Rattle.std.specs.Io.{StartsWith}
use Rattle.road_io.specs.Outside.{Outside, Left, IsLeft, present}
use Rattle.road_io.proofs.CallRuns.{started}
use Rattle.sequence_journal.specs.declared.journal.Journal.{Journal}
use Rattle.store_switch.specs.TwoFiles.{IsOnStore}
use Rattle.session_answers.specs.Replies.{Replies}
use Rattle.session.specs.declared.end.End.TheVariants.{NoMemory}
use Rattle.session.specs.StoreLaws.{StoreLaws}
use Rattle.session.specs.Conversation.{Kept, Start}
use Rattle.session.specs.Endings.{Comes, OfNothing}
use Rattle.session.specs.Conversing.{LeavesSession, SessionEnds}
use Rattle.session.proofs.KeptStores.{images_stand}

pub nothing_comes : {B : Type 0} (R : Replies B) (opening : Kept B) (read : List ℕ) (ended : Bool)
    → Comes R opening read ended [] opening [] opening
nothing_comes R opening read ended = record {
  front = [];
  rest = read;
  is = refl;
  so_far = Start;
  next = OfNothing refl refl;
}

pub first_left : StoreLaws → {B : Type 0} (R : Replies B) (opening : Kept B) (journal : Journal) (w : Outside)
    (read : List ℕ) (ended : Bool) → IsOnStore journal opening.history w → (left : Left) → IsLeft (present w) left
    → LeavesSession R opening read ended w left
first_left laws R opening journal w read ended on_store left l =
    let stands = images_stand laws journal opening.history w left on_store l.a l.b in
    let same : w.output ≡ w.output ++ [] = sym (append-nil w.output) in
    record {
      said = [];
      reply = [];
      from = opening;
      to = opening;
      comes = nothing_comes R opening read ended;
      leaves = record {
        begins = subst (λ (x : List ℕ). StartsWith left.out x) same l.no_less;
        within = subst (λ (x : List ℕ). StartsWith x left.out) (same ∙ sym (append-nil (w.output ++ []))) l.no_more;
        files = inl stands;
        whole = λ all. stands;
      };
    }

-- memory ends before anything is read
pub ends_first : StoreLaws → {B : Type 0} (R : Replies B) (opening : Kept B) (journal : Journal) (w : Outside)
    → IsOnStore journal opening.history w → SessionEnds R opening [] false NoMemory w w
ends_first laws R opening journal w on_store = record {
  puts = record {
    said = [];
    reply = [];
    from = opening;
    to = opening;
    comes = nothing_comes R opening [] false;
    n = 0;
    grows = sym (append-nil w.output);
  };
  stops = started w (LeavesSession R opening [] false w) (first_left laws R opening journal w [] false on_store);
}
