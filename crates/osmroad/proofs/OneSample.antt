-- A number gives one sample.
use Rattle.std.proofs.Common.{◌≡◌, ℕ, zero, suc, List, ◌++◌, length, sym, ap, ◌∙◌, subst}
use Rattle.std.specs.FinMap.{empty}
use Rattle.road_base.specs.declared.event.Event.{Event}
use Rattle.road_base.specs.Objects.{Objects}
use Rattle.road_model.specs.declared.blocks.Block.{Block}
use Rattle.road_model.specs.Naming.{OneGraph}
use Rattle.road_model.specs.Format.{IsGraph}
use Rattle.road_model.specs.Rules.{Rules}
use Rattle.graph_file.specs.GraphReading.{IsFile}
use Rattle.drive_queries.specs.Counting.{totals_of}
use Rattle.osmroad.specs.Texts.{sample_line}
use Rattle.osmroad.specs.Sampling.{events_of_lists, IsSampleLine, AreSampleLines, IsSample}
use Rattle.graph_file.proofs.GraphFiles.{one_file}
use Rattle.osmroad.proofs.CitedLaws.{OneMap}

module _ (P : Rules) (map : OneMap) (graph : (M : Objects) → OneGraph M P) where
  one_line : (q : ℕ) (events : List Event) (line other : List ℕ) → IsSampleLine P q events line
      → IsSampleLine P q events other → line ≡ other
  one_line q events line other a b =
      let objects = map empty b.objects a.objects events b.applied a.applied in
      let bytes : a.graph ≡ b.graph = graph a.objects a.graph b.graph a.is
      (subst (λ (M : Objects). IsGraph M P b.graph) objects b.is) in
      let blocks : a.blocks ≡ b.blocks = (one_file 2 2 P.number P.number b.graph a.blocks b.blocks
      (subst (λ (l : List ℕ). IsFile 2 P.number l a.blocks) bytes a.file) b.file).2 in
      a.spelled
      ∙ (ap (λ (l : List Block). sample_line q (totals_of l) (length a.graph)) blocks
      ∙ (ap (λ (l : List ℕ). sample_line q (totals_of b.blocks) (length l)) bytes ∙ sym b.spelled))

  one_text : (n count : ℕ) (text other : List ℕ) → AreSampleLines P n count text → AreSampleLines P n count other
      → text ≡ other
  one_text n zero text other a b = a ∙ sym b
  one_text n (suc count) text other a b =
      let front : a.0 ≡ b.0 = one_text n count a.0 b.0 a.2 b.2 in
      let line : a.1 ≡ b.1 = one_line count (events_of_lists n (suc count)) a.1 b.1 a.3 b.3 in
      a.4 ∙ (ap (λ (l : List ℕ). l ++ a.1) front ∙ (ap (λ (l : List ℕ). b.0 ++ l) line ∙ sym b.4))

  pub one_sample : (n : ℕ) (text other : List ℕ) → IsSample P n text → IsSample P n other → text ≡ other
  one_sample n text other a b = one_text n 11 text other a.lines b.lines
