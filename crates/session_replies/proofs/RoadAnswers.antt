-- What the road network answers in a session, and what it follows.
use Rattle.std.proofs.Common.{◌≡◌, ◌∙◌, ◌⊎◌, ⊎_elim, ℕ, List, length, Option, None, Some, Result, Ok, Err, IfOk, OnOk}
use Rattle.std.proofs.Common.{OnErr, refl, sym, subst, arith}
use Rattle.std.proofs.lemmas.Result.{IfOk-weaker}
use Rattle.road_base.specs.declared.event.Event.{Event}
use Rattle.road_base.specs.Applying.{IsApplied}
use Rattle.road_base.specs.History.{History, HasObjects, kept}
use Rattle.road_base.specs.Objects.{Objects}
use Rattle.road_base.specs.declared.ids.WayId.{WayId}
use Rattle.road_model.specs.Links.{AreTouched}
use Rattle.road_model.specs.Rules.{Rules}
use Rattle.change_apply.specs.Engines.{Touches}
use Rattle.pinned_readers.specs.PinnedRuns.{Pins}
use Rattle.session_answers.specs.declared.reply.Reply.{Reply}
use Rattle.session_answers.specs.Replies.{CostsAtMost}
use Rattle.session_answers.specs.Said.{said}
use Rattle.session_replies.specs.declared.pin_messages.PinMessage.{PinMessage}
use Rattle.session_replies.specs.PinMessages.{pin_message}
use Rattle.session_replies.specs.PinReplies.{IsPinReply}
use Rattle.session_replies.specs.Replies.{IsLineReply, IsReplyAmong, answers_to, road_replies, road_costs}
use Rattle.session_replies.specs.Texts.{unknown_line}

-- ---- lines

module _ {E : Type 0} (P : Rules) (number : ℕ) (line : Option (List ℕ)) (r : Result Reply E)
    (Stands After : History → Pins → Type 0) where
  -- from what it stands for, the reply is one to the line, and it stands for what is pinned then
  abbrev pub Answers : Type 0
  Answers = IfOk r (λ x. (h : History) (pins : Pins) → Stands h pins → number ≡ kept h
      → (then : Pins) × road_replies P h pins line (said x) then × After h then)

  -- the line is no text
  pub unread_answered : ((h : History) (pins : Pins) → Stands h pins → After h pins)
      → ((h : History) → (M : Objects) × HasObjects h M) → line ≡ None → IfOk r (λ x. said x ≡ unknown_line) → Answers
  unread_answered stays objects is reply = IfOk-weaker r _ _
      (λ x unknown h pins stands n. let M = objects h in (
        pins,
        subst (λ (l : Option (List ℕ)). road_replies P h pins l (said x) pins) (sym is)
            ((M.0, M.1, unknown), refl),
        stays h pins stands,
      )) reply

  module _ (text : List ℕ) (asks : Option PinMessage) (is : line ≡ Some text) (read : asks ≡ pin_message text) where
    -- it is about pins
    pub pins_answered : (message : PinMessage) → asks ≡ Some message
        → IfOk r (λ x. (h : History) (pins : Pins) → Stands h pins
        → (then : Pins) × IsPinReply (answers_to P) h pins message (said x) then × After h then)
        → Answers
    pins_answered message some reply = IfOk-weaker r _ _
        (λ x step h pins stands n. let s = step h pins stands in (
          s.0,
          subst (λ (l : Option (List ℕ)). road_replies P h pins l (said x) s.0) (sym is)
              (subst (λ (a : Option PinMessage). IsReplyAmong P h pins a (Some text) (said x) s.0) (sym some ∙ read)
              s.1),
          s.2,
        )) reply

    -- it asks of the newest state
    pub newest_answered : (M : Objects) → ((h : History) (pins : Pins) → Stands h pins → HasObjects h M)
        → ((h : History) (pins : Pins) → Stands h pins → After h pins) → asks ≡ None
        → IfOk r (λ x. IsLineReply M P number (Some text) (said x)) → Answers
    newest_answered M has stays none reply = IfOk-weaker r _ _
        (λ x holds h pins stands n. (
          pins,
          subst (λ (l : Option (List ℕ)). road_replies P h pins l (said x) pins) (sym is)
              (subst (λ (a : Option PinMessage). IsReplyAmong P h pins a (Some text) (said x) pins) (sym none ∙ read)
              ((M, has h pins stands, subst (λ (k : ℕ). IsLineReply M P k (Some text) (said x)) n holds), refl)),
          stays h pins stands,
        )) reply

-- ---- changes

-- what holds anyway
pub ok_anyway : {T E : Type 0} (result : Result T E) (P : Type 0) → P → OnOk result P
ok_anyway (Ok x) P p = p
ok_anyway (Err e) P p = tt

pub err_anyway : {T E : Type 0} (result : Result T E) (P : Type 0) → P → OnErr result P
err_anyway (Ok x) P p = tt
err_anyway (Err e) P p = p

-- no block, or no more than the change costs
abbrev pub BuildsFew : Objects → List Event → ℕ → ℕ → Type 0
BuildsFew M events old new = (new ≡ old) ⊎ CostsAtMost road_costs M events old new

-- what a change touches
pub touched : ((M : Objects) (events : List Event) → (N : Objects) × IsApplied M events N)
    → ((M N : Objects) → (ways : List WayId) × AreTouched M N ways) → (M : Objects) (events : List Event)
    → Touches M events
touched some listed M events =
    let after = some M events in
    let ways = listed M after.0 in
    record { after = after.0; applied = after.1; ways = ways.0; touched = ways.1 }

-- what was built for the change of the newest objects was built for that of the history's
pub costs_most : (M O : Objects) (events : List Event) (old new : ℕ) → O ≡ M → Touches M events
    → BuildsFew M events old new → CostsAtMost road_costs O events old new
costs_most M O events old new same touches builds =
    subst (λ (N : Objects). CostsAtMost road_costs N events old new) (sym same)
    (⊎_elim (λ none. (length touches.ways, (touches, refl), omega (arith, none))) (λ some. some) builds)

pub costs_some : (M O : Objects) (events : List Event) (old new : ℕ) → O ≡ M → BuildsFew M events old new
    → BuildsFew O events old new
costs_some M O events old new same builds = subst (λ (N : Objects). BuildsFew N events old new) (sym same) builds
