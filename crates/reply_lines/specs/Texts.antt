-- The texts of replies, without a newline.
use Rattle.std.specs.Prelude.{◌++◌, ℕ, List, [], Option, Some, None, codes}
use Rattle.std.specs.Fmt.{decimal, signed_decimal}
use Rattle.road_base.specs.declared.ids.Dir.{Dir}
use Rattle.road_base.specs.declared.ids.Dir.TheVariants.{Forward, Backward}
use Rattle.road_base.specs.declared.ids.Step.{Step}
use Rattle.road_model.specs.declared.answers.ClosedBy.{ClosedBy}
use Rattle.road_model.specs.declared.answers.ClosedBy.TheVariants.{Area, Highway, Deciding, Conditional}
use Rattle.road_model.specs.AccessKeys.{key_name}
use Rattle.drive_judging.specs.declared.verdict.Rule.{Rule}
use Rattle.drive_judging.specs.declared.verdict.Rule.TheVariants.{NoStep, NoNode, Closed, WrongWay, Apart, Barrier}
use Rattle.drive_judging.specs.declared.verdict.Rule.TheVariants.{Reversal, No, Only}
use Rattle.drive_judging.specs.declared.verdict.Verdict.{Verdict}
use Rattle.drive_judging.specs.declared.verdict.Verdict.TheVariants.{Legal, Broken}
use Rattle.drive_queries.specs.declared.totals.Totals.{Totals}

-- ---- steps

abbrev pub dir_sign : Dir → List ℕ
dir_sign Forward = codes "+"
dir_sign Backward = codes "-"

-- `wW.I+` along the way, `wW.I-` against it
abbrev pub step_bytes : Step → List ℕ
step_bytes s = codes "w" ++ (signed_decimal s.way.0 ++ (codes "." ++ (decimal s.index ++ dir_sign s.dir)))

-- ---- verdicts

abbrev pub side_name : Option Dir → List ℕ
side_name None = []
side_name (Some Forward) = codes ":forward"
side_name (Some Backward) = codes ":backward"

-- the key that closes a direction, as tags hold it
abbrev pub closing_key : ClosedBy → List ℕ
closing_key Area = codes "area"
closing_key Highway = codes "highway"
closing_key (Deciding name side) = key_name name ++ side_name side
closing_key (Conditional name side) = key_name name ++ (side_name side ++ codes ":conditional")

-- a broken rule, with what it names
abbrev pub rule_bytes : Rule → List ℕ
rule_bytes NoStep = codes "no-step"
rule_bytes (NoNode v) = codes "no-node " ++ signed_decimal v.0
rule_bytes (Closed by) = codes "closed " ++ closing_key by
rule_bytes WrongWay = codes "wrong-way"
rule_bytes Apart = codes "apart"
rule_bytes (Barrier v) = codes "barrier " ++ signed_decimal v.0
rule_bytes (Reversal v) = codes "reversal " ++ signed_decimal v.0
rule_bytes (No r) = codes "no " ++ signed_decimal r.0
rule_bytes (Only r) = codes "only " ++ signed_decimal r.0

-- `legal`, or `broken K RULE` with the number of the step
abbrev pub verdict_bytes : Verdict → List ℕ
verdict_bytes Legal = codes "legal"
verdict_bytes (Broken step rule) = codes "broken " ++ (decimal step ++ (codes " " ++ rule_bytes rule))

-- ---- sizes

-- `ways W pieces P contexts C arcs A`
abbrev pub counts_bytes : Totals → List ℕ
counts_bytes t = codes "ways "
    ++ (decimal t.ways ++ (codes " pieces "
    ++ (decimal t.pieces ++ (codes " contexts " ++ (decimal t.contexts ++ (codes " arcs " ++ decimal t.arcs))))))
