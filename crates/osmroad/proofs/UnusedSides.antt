-- A command answers no fault of a side that it doesn't use: its source, or its site.
use Rattle.std.proofs.Common.{◌≡◌, ℕ, List, Option, Result, Err, refl, subst, arith}
use Rattle.road_io.specs.Outside.{Outside}
use Rattle.osmroad.specs.declared.command.Command.{Command}
use Rattle.last_words.specs.declared.words.LastWords.{LastWords}
use Rattle.last_words.specs.declared.words.Failure.{Failure}
use Rattle.last_words.specs.declared.words.Failure.TheVariants.{ReadFault, SiteFault}
use Rattle.osmroad.specs.Run.{IsReading, IsStored}
use Rattle.osmroad.specs.Replies.{IsPrepared, Prepares, CountsReads, CountsCalls}

module _ (command : Option Command) (result : Result LastWords Failure) (held left : Option (List ℕ))
    (before now : Option Outside) (p : Prepares command result held left before now) where
  fails : (failure : Failure) → result ≡ Err failure → IsPrepared command p.bytes p.read (Err failure) before now
  fails failure is =
      subst (λ (r : Result LastWords Failure). IsPrepared command p.bytes p.read r before now) is p.answer

  pub no_read : (IsReading command → ⊥) → (faults : ℕ) → CountsReads faults faults result
  no_read none faults = record {
    cause = λ is. absurd (none (fails ReadFault is).0);
    each = λ rises. absurd (omega arith);
  }

  pub no_call : (IsStored command → ⊥) → (faults : ℕ) → CountsCalls faults faults result
  no_call none faults = record {
    cause = λ is. absurd (none (fails SiteFault is));
    stays = λ other. refl;
  }
