-- What is compiled by the words of a run is compiled under a known profile.
use Rattle.std.proofs.Common.{◌≡◌, ℕ, ◌^◌, ◌-◌, List, [], ◌∷◌, Option, None, Some, Bool, true, false, refl, subst}
use Rattle.std.specs.Prelude.{bytes_eq, codes, cond, nat_lt}
use Rattle.std.specs.Option.{option_and_then, option_map}
use Rattle.moment_rules.specs.declared.moment.Moment.{Moment}
use Rattle.moment_rules.specs.MomentTexts.{moment_of}
use Rattle.osmroad.specs.declared.command.BaseProfile.TheVariants.{Kept, Raised}
use Rattle.osmroad.specs.declared.command.Command.{Command}
use Rattle.osmroad.specs.declared.command.Command.TheVariants.{Compile, Inspect, Sample, Create, Apply}
use Rattle.osmroad.specs.declared.command.Command.TheVariants.{Graph, Audit, Checkpoint}
use Rattle.osmroad.specs.declared.command.Request.{Request}
use Rattle.osmroad.specs.declared.command.Request.TheVariants.{Session, Command as CommandRequest}
use Rattle.osmroad.specs.Commands.{HasProfile, is_store, number_of, asked_base, asked_numbered, asked_alone}
use Rattle.osmroad.specs.Commands.{asked_without, asked_profile, asked_sample, asked_without_numbered}
use Rattle.osmroad.specs.Commands.{asked_by_two, asked_graph, asked_with, asked_by_three, asked_command}
use Rattle.osmroad.specs.Commands.{asks_session, request_for, asked}

-- the command, if there is one, has a known profile
abbrev AreKnown : Option Command → Type 0
AreKnown None = Unit {0}
AreKnown (Some command) = HasProfile command

of_either : (b : Bool) (x y : Option Command) → AreKnown x → AreKnown y → AreKnown (cond b x y)
of_either true x y is other = is
of_either false x y is other = other

of_next : (f : ℕ → Option Command) (n : Option ℕ) → ((k : ℕ) → AreKnown (f k)) → AreKnown (option_and_then f n)
of_next f None each = tt
of_next f (Some k) each = each k

base_known : (n : ℕ) → AreKnown (asked_base n)
base_known n = of_either (nat_lt n (2 ^ 64 - 1)) (Some (Create (record { 0 = n }))) None tt tt

numbered_known : (name : List ℕ) (n : ℕ) → AreKnown (asked_numbered name n)
numbered_known name n =
    let apply : Option Command = Some (Apply (record { 0 = n })) in
    let applies = bytes_eq name (codes "apply") in
    of_either (bytes_eq name (codes "create")) (asked_base n) (cond applies apply None) (base_known n)
    (of_either applies apply None tt tt)

alone_known : (name : List ℕ) → AreKnown (asked_alone name)
alone_known name =
    let raise : Option Command = cond (bytes_eq name (codes "raise")) (Some (Checkpoint Raised)) None in
    let checkpoint : Option Command = cond (bytes_eq name (codes "checkpoint")) (Some (Checkpoint Kept)) raise in
    let audit : Option Command = cond (bytes_eq name (codes "audit")) (Some Audit) checkpoint in
    of_either (bytes_eq name (codes "graph")) (Some (Graph None)) audit tt
    (of_either (bytes_eq name (codes "audit")) (Some Audit) checkpoint tt
    (of_either (bytes_eq name (codes "checkpoint")) (Some (Checkpoint Kept)) raise tt
    (of_either (bytes_eq name (codes "raise")) (Some (Checkpoint Raised)) None tt tt)))

without_known : (name : List ℕ) → AreKnown (asked_without name)
without_known name =
    let inspects = bytes_eq name (codes "inspect") in
    of_either (bytes_eq name (codes "compile")) (Some (Compile 1)) (cond inspects (Some Inspect) None) refl
    (of_either inspects (Some Inspect) None tt tt)

profile_known : (word : List ℕ) → AreKnown (asked_profile word)
profile_known word = of_either (bytes_eq word (codes "2")) (Some (Compile 2)) None refl tt

sample_known : (name : List ℕ) (n : ℕ) → AreKnown (asked_sample name n)
sample_known name n = of_either (bytes_eq name (codes "sample")) (Some (Sample n)) None tt tt

without_numbered_known : (name number : List ℕ) → AreKnown (asked_without_numbered name number)
without_numbered_known name number =
    of_either (bytes_eq name (codes "compile")) (asked_profile number)
    (option_and_then (asked_sample name) (number_of number)) (profile_known number)
    (of_next (asked_sample name) (number_of number) (sample_known name))

two_known : (store name : List ℕ) → AreKnown (asked_by_two store name)
two_known store name =
    of_either (bytes_eq store (codes "-")) (asked_without name) (cond (is_store store) (asked_alone name) None)
    (without_known name)
    (of_either (is_store store) (asked_alone name) None (alone_known name) tt)

moment_known : (found : Option Moment) → AreKnown (option_map (λ m. Graph (Some m)) found)
moment_known None = tt
moment_known (Some m) = tt

with_known : (name word : List ℕ) → AreKnown (asked_with name word)
with_known name word =
    of_either (bytes_eq name (codes "graph")) (asked_graph word)
    (option_and_then (asked_numbered name) (number_of word)) (moment_known (moment_of word))
    (of_next (asked_numbered name) (number_of word) (numbered_known name))

three_known : (store name word : List ℕ) → AreKnown (asked_by_three store name word)
three_known store name word =
    of_either (bytes_eq store (codes "-")) (asked_without_numbered name word)
    (cond (is_store store) (asked_with name word) None)
    (without_numbered_known name word)
    (of_either (is_store store) (asked_with name word) None (with_known name word) tt)

command_known : (words : List (List ℕ)) → AreKnown (asked_command words)
command_known [] = tt
command_known (one ∷ []) = tt
command_known (store ∷ name ∷ []) = two_known store name
command_known (store ∷ name ∷ word ∷ []) = three_known store name word
command_known (one ∷ two ∷ three ∷ four ∷ more) = tt

-- the same of what a run is asked for
abbrev IsKnownRequest : Option Request → Type 0
IsKnownRequest None = Unit {0}
IsKnownRequest (Some Session) = Unit {0}
IsKnownRequest (Some (CommandRequest command)) = HasProfile command

request_known : (command : Option Command) → AreKnown command → IsKnownRequest (request_for command)
request_known None is = tt
request_known (Some command) is = is

either_request : (b : Bool) (x y : Option Request) → IsKnownRequest x → IsKnownRequest y
    → IsKnownRequest (cond b x y)
either_request true x y is other = is
either_request false x y is other = other

pub asked_known : (words : List (List ℕ)) (command : Command) → asked words ≡ Some (CommandRequest command)
    → HasProfile command
asked_known words command is = subst IsKnownRequest is
    (either_request (asks_session words) (Some Session) (request_for (asked_command words)) tt
    (request_known (asked_command words) (command_known words)))
