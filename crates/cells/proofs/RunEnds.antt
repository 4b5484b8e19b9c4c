-- How a run ends, from what was prepared and how it was put.
use Rattle.std.proofs.Common.{◌≡◌, ◌⊎◌, ℕ, List, [], ◌++◌, Option, None, Some, Ok, Err}
use Rattle.std.proofs.Common.{inl, inr, refl, sym, ap, subst}
use Rattle.std.proofs.lemmas.List.{append-nil}
use Rattle.road_io.specs.Told.{Told}
use Rattle.road_io.specs.Outside.{Outside}
use Rattle.road_io.proofs.ToldCalls.{told_same, told_weaker}
use Rattle.last_words.specs.declared.words.LastWords.{LastWords}
use Rattle.last_words.specs.declared.words.Failure.{Failure}
use Rattle.last_words.specs.declared.words.Failure.TheVariants.{ReadFault as ReadFailure, SiteFault as SiteFailure}
use Rattle.last_words.specs.declared.words.Failure.TheVariants.{NoMemory as MemoryFailure}
use Rattle.last_words.specs.declared.status.Status.{Status}
use Rattle.last_words.specs.declared.status.Status.TheVariants.{Done, Usage, Refused, Limit}
use Rattle.last_words.specs.declared.status.Status.TheVariants.{NoMemory}
use Rattle.last_words.specs.Puts.{Grows, EndsPut, PutsSome}
use Rattle.last_words.specs.Replies.{failure_status}
use Rattle.cells.specs.declared.command.Command.{Command}
use Rattle.cells.specs.declared.command.Command.TheVariants.{Plan, Map, Graphs}
use Rattle.cells.specs.Outcomes.{TextRefusal, PlanGives, MapGives, GraphsGive, Gives}
use Rattle.cells.specs.Run.{MayEnd, Reads, Puts, PutsAll, Ends, TouchesNoFile}
use Rattle.cells.specs.Replies.{WillPut, Prepares}
use Rattle.cells.proofs.HeldSource.{behind_of, held_still}

-- ---- statuses with which something is put

-- a command puts something with one of these
abbrev pub IsReply : Status → Type 0
IsReply status = (status ≡ Done) ⊎ (status ≡ Refused) ⊎ (status ≡ Limit)

of_text : (Passes : List ℕ → Type 0) (MayGoOn : Type 0) (bytes : List ℕ) (status : Status) (out : List ℕ)
    → TextRefusal Passes MayGoOn bytes status out → IsReply status
of_text Passes MayGoOn bytes status out (TextRefusal.OfTooMuch passes e o) = inr (inr e)
of_text Passes MayGoOn bytes status out (TextRefusal.OfFault may fault is e o) = inr (inl e)

pub given_reply : (command : Command) (bytes : List ℕ) (status : Status) (out : List ℕ)
    → Gives (Some command) bytes status out → IsReply status
given_reply (Plan rule) bytes status out (PlanGives.OfText refusal) = of_text _ _ bytes status out refusal
given_reply (Plan rule) bytes status out (PlanGives.OfNodes within events read made e) = inl e
given_reply (Map command) bytes status out (MapGives.OfText refusal) = of_text _ _ bytes status out refusal
given_reply (Map command) bytes status out (MapGives.OfMap within events read made e) = inl e
given_reply (Graphs command) bytes status out (GraphsGive.OfTooMuch more e o) = inr (inr e)
given_reply (Graphs command) bytes status out (GraphsGive.OfFault few fault is e o) = inr (inl e)
given_reply (Graphs command) bytes status out (GraphsGive.OfGraphs few made e) = inl e

reply_may_end : (command : Command) (status : Status) → IsReply status → MayEnd (Some command) status
reply_may_end command status (inl e) = inl e
reply_may_end command status (inr (inl e)) = inr (inl e)
reply_may_end command status (inr (inr e)) = inr (inr (inl e))

puts_reply : (command : Option Command) (bytes read : List ℕ) (status : Status) (before now : Option Outside)
    → IsReply status → PutsAll command bytes status before now → Puts command bytes read status before now
puts_reply command bytes read status before now (inl e) puts =
    let P : Status → Type 0 = λ s. (PutsAll command bytes s before now → Puts command bytes read s before now) in
    subst P (sym e) (λ p. p) puts
puts_reply command bytes read status before now (inr (inl e)) puts =
    let P : Status → Type 0 = λ s. (PutsAll command bytes s before now → Puts command bytes read s before now) in
    subst P (sym e) (λ p. p) puts
puts_reply command bytes read status before now (inr (inr e)) puts =
    let P : Status → Type 0 = λ s. (PutsAll command bytes s before now → Puts command bytes read s before now) in
    subst P (sym e) (λ p. p) puts

-- ---- something was put

module _ (command : Command) (before now : Option Outside) (faults_before faults_now : ℕ)
    (held left : Option (List ℕ)) where
  pub ends_prepared : (reply : LastWords) → Prepares command (Ok reply) held left → (status : Status)
      → EndsPut reply.out.items reply.status status before now faults_before faults_now
      → Ends (Some command) status held left before now
  ends_prepared reply p status (inl put) =
      let will : WillPut command p.bytes p.read reply = p.answer in
      subst (λ (s : Status). Ends (Some command) s held left before now) (sym put.0) (record {
        bytes = p.bytes;
        read = p.read;
        behind = p.behind;
        all = p.all;
        holds = p.holds;
        reads = will.reads;
        puts = puts_reply (Some command) p.bytes p.read reply.status before now
            (given_reply command p.bytes reply.status reply.out.items will.gives)
            (record { out = reply.out.items; gives = will.gives; grows = put.1 });
      })
  ends_prepared reply p status (inr put) =
      let will : WillPut command p.bytes p.read reply = p.answer in
      subst (λ (s : Status). Ends (Some command) s held left before now) (sym put.0) (record {
        bytes = p.bytes;
        read = p.read;
        behind = p.behind;
        all = p.all;
        holds = p.holds;
        reads = tt;
        puts = record {
          status = reply.status;
          out = reply.out.items;
          reads = will.reads;
          gives = will.gives;
          grows = put.1;
        };
      })

  pub put_may_end : (reply : LastWords) → Prepares command (Ok reply) held left → (status : Status)
      → EndsPut reply.out.items reply.status status before now faults_before faults_now → MayEnd (Some command) status
  put_may_end reply p status (inl put) =
      let will : WillPut command p.bytes p.read reply = p.answer in
      subst (λ (s : Status). MayEnd (Some command) s) (sym put.0)
      (reply_may_end command reply.status (given_reply command p.bytes reply.status reply.out.items will.gives))
  put_may_end reply p status (inr put) = inr (inr (inr (inr (inl put.0))))

-- a put touches no file
puts_no_file : (chunk : List ℕ) (w v : Outside) → PutsSome chunk w v → (v.a ≡ w.a) × (v.b ≡ w.b)
puts_no_file chunk w v (inl same) = (ap (λ (o : Outside). o.a) same, ap (λ (o : Outside). o.b) same)
puts_no_file chunk w v (inr put) = (ap (λ (o : Outside). o.a) put.1, ap (λ (o : Outside). o.b) put.1)

pub put_untouched : (chunk : List ℕ) (before now : Option Outside) → Told (PutsSome chunk) before now
    → TouchesNoFile before now
put_untouched chunk before now put =
    told_weaker before now (PutsSome chunk) (λ w v. (v.a ≡ w.a) × (v.b ≡ w.b)) put (puts_no_file chunk)

pub still_untouched : (x : Option Outside) → TouchesNoFile x x
still_untouched x = told_same x (λ w v. (v.a ≡ w.a) × (v.b ≡ w.b)) (λ w. (refl, refl))

-- ---- nothing was put

pub grows_nothing : (x : Option Outside) → Grows [] x x
grows_nothing x = told_same x (λ w v. v.output ≡ w.output ++ []) (λ w. sym (append-nil w.output))

module _ (command : Command) (x : Option Outside) (held left : Option (List ℕ)) where
  pub ends_failed : (failure : Failure) → Prepares command (Err failure) held left
      → Ends (Some command) (failure_status failure) held left x x
  ends_failed ReadFailure p = record {
    bytes = p.bytes;
    read = p.read;
    behind = p.behind;
    all = p.all;
    holds = p.holds;
    reads = p.answer;
    puts = grows_nothing x;
  }
  ends_failed SiteFailure p = absurd p.answer
  ends_failed MemoryFailure p = record {
    bytes = p.bytes;
    read = p.read;
    behind = p.behind;
    all = p.all;
    holds = p.holds;
    reads = tt;
    puts = grows_nothing x;
  }

  pub failed_may_end : (failure : Failure) → Prepares command (Err failure) held left
      → MayEnd (Some command) (failure_status failure)
  failed_may_end ReadFailure p = inr (inr (inr (inl refl)))
  failed_may_end SiteFailure p = absurd p.answer
  failed_may_end MemoryFailure p = inr (inr (inr (inr (inr refl))))

-- ---- nothing was read

module _ (command : Option Command) (x : Option Outside) (held : Option (List ℕ)) where
  -- memory ended before the words were known
  pub ends_unknown : Reads command NoMemory (behind_of held) [] → Ends command NoMemory held held x x
  ends_unknown reads = record {
    bytes = behind_of held;
    read = [];
    behind = behind_of held;
    all = refl;
    holds = held_still held;
    reads = reads;
    puts = grows_nothing x;
  }

pub unknown_reads : (command : Option Command) (bytes : List ℕ) → Reads command NoMemory bytes []
unknown_reads None bytes = refl
unknown_reads (Some command) bytes = tt

pub unknown_may_end : (command : Option Command) → MayEnd command NoMemory
unknown_may_end None = inr (inr refl)
unknown_may_end (Some command) = inr (inr (inr (inr (inr refl))))

module _ (usage : List ℕ) (before now : Option Outside) (faults_before faults_now : ℕ) where
  -- the words are no command's
  pub ends_usage : (held : Option (List ℕ)) → ((bytes : List ℕ) → Gives None bytes Usage usage) → (status : Status)
      → EndsPut usage Usage status before now faults_before faults_now → Ends None status held held before now
  ends_usage held gives status (inl put) = subst (λ (s : Status). Ends None s held held before now) (sym put.0)
      (record {
        bytes = behind_of held;
        read = [];
        behind = behind_of held;
        all = refl;
        holds = held_still held;
        reads = refl;
        puts = record { out = usage; gives = gives (behind_of held); grows = put.1 };
      })
  ends_usage held gives status (inr put) = subst (λ (s : Status). Ends None s held held before now) (sym put.0)
      (record {
        bytes = behind_of held;
        read = [];
        behind = behind_of held;
        all = refl;
        holds = held_still held;
        reads = refl;
        puts = record {
          status = Usage;
          out = usage;
          reads = refl;
          gives = gives (behind_of held);
          grows = put.1;
        };
      })

  pub usage_may_end : (status : Status) → EndsPut usage Usage status before now faults_before faults_now
      → MayEnd None status
  usage_may_end status (inl put) = inl put.0
  usage_may_end status (inr put) = inr (inl put.0)
