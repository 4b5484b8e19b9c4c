-- The node is counted until it was found twice.
use Rattle.std.proofs.Common.{◌≡◌, ℕ, Bool, cond, sym, ap, arith}
use Rattle.std.proofs.lemmas.Bool.{lt-ltb, le-ltb}
use Rattle.road_model.specs.Lines.{same_node}
use Rattle.junctions.specs.Repeats.{times, nodes_of}
use Rattle.junctions.proofs.NodeCounts.{drop_one, drop_all, one_at_most}
use Rattle.junctions.proofs.repeats.stands_twice.Goals as goal

pub loop-other-preserved-then-not-is_same : goal.loop-other-preserved-then-not-is_same
loop-other-preserved-then-not-is_same c =
    let y = c.other-item.result in
    let here = drop_one c.args.node c.args.line.now c.loop-other.other-index y c.other-item.is c.loop-other-test.true in
    let other : cond {A = ℕ} (same_node c.args.node y.node) 1 0 ≡ 0 =
    ap (λ (b : Bool). cond {A = ℕ} b 1 0) (sym c.if-not-is_same.ensures) in
    let before = c.loop-other.invariant in
    omega arith

pub returns-then-found : goal.returns-then-found
returns-then-found c =
    let y = c.other-item.result in
    let here = drop_one c.args.node c.args.line.now c.loop-other.other-index y c.other-item.is c.loop-other-test.true in
    let same : cond {A = ℕ} (same_node c.args.node y.node) 1 0 ≡ 1 =
    ap (λ (b : Bool). cond {A = ℕ} b 1 0) (sym c.if-not-is_same.ensures) in
    let once : cond {A = ℕ} c.loop-other.found 1 0 ≡ 1 = ap (λ (b : Bool). cond {A = ℕ} b 1 0) c.if-found.true in
    let before = c.loop-other.invariant in
    sym (lt-ltb 1 (times c.args.node (nodes_of c.args.line.now)) (omega arith))

pub loop-other-preserved : goal.loop-other-preserved
loop-other-preserved c =
    let y = c.other-item.result in
    let here = drop_one c.args.node c.args.line.now c.loop-other.other-index y c.other-item.is c.loop-other-test.true in
    let same : cond {A = ℕ} (same_node c.args.node y.node) 1 0 ≡ 1 =
    ap (λ (b : Bool). cond {A = ℕ} b 1 0) (sym c.if-not-is_same.ensures) in
    let none : cond {A = ℕ} c.loop-other.found 1 0 ≡ 0 = ap (λ (b : Bool). cond {A = ℕ} b 1 0) c.if-found.false in
    let before = c.loop-other.invariant in
    omega arith

pub returns : goal.returns
returns c =
    let past = c.loop-other-test.false in
    let none = drop_all c.args.node c.args.line.now c.loop-other.other-index past in
    let most = one_at_most c.loop-other.found in
    let before = c.loop-other.invariant in
    sym (le-ltb 1 (times c.args.node (nodes_of c.args.line.now)) (omega arith))
