use Rattle.std.proofs.Common.{◌≡◌, ◌++◌, Result, Ok, Err, OnOk, subst, sym, refl}
use Rattle.std.specs.List.{AllByRecursion}
use Rattle.std.specs.FinMap.{FinMap, values}
use Rattle.road_model.specs.declared.blocks.Block.{Block}
use Rattle.road_model.specs.Orders.{way_cmp}
use Rattle.road_model.specs.Format.{graph_bytes, is_sourced, IsBlockForm, IsGraphFile}
use Rattle.graph_file.specs.GraphReading.{Unless, IsBareBlock, IsFile, IsOfItsWay}
use Rattle.graph_blocks.specs.Lent.{map_of}
use Rattle.graph_file.proofs.Files.{is_graph_file}
use Rattle.graph_file.proofs.GraphFiles.{file_of}
use Rattle.graph_file.proofs.write.Goals as goal

-- what follows of two facts that come at Ok, comes at Ok
both : {T E A B C : Type 0} (r : Result T E) → OnOk r A → OnOk r B → (A → B → C) → OnOk r C
both (Ok x) a b f = f a b
both (Err x) a b f = tt

pub put_graph-written-requires : goal.put_graph-written-requires
put_graph-written-requires g c =
    subst (λ (m : FinMap way_cmp Block). AllByRecursion (IsBlockForm (is_sourced c.args.version)) (values m))
    (sym c.lend.ensures) c.requires.forms

pub returns-else-is_err-clause-bytes : goal.returns-else-is_err-clause-bytes
returns-else-is_err-clause-bytes g c =
    subst (λ (m : FinMap way_cmp Block). OnOk c.put_graph-written.result (c.put_graph-written.new.out.items
    ≡ c.args.out.now.items ++ graph_bytes c.args.version c.args.profile (values m)))
    c.lend.ensures c.put_graph-written.ensures.ok

pub returns-else-is_err-clause-grammar : goal.returns-else-is_err-clause-grammar
returns-else-is_err-clause-grammar g c =
    let is = c.put_graph-written.ensures in
    let v = c.args.version in
    let blocks = values (map_of c.lend.result) in
    let forms = subst (λ (m : FinMap way_cmp Block). AllByRecursion (IsBlockForm (is_sourced v)) (values m))
    (sym c.lend.ensures) c.requires.forms in
    subst (λ (m : FinMap way_cmp Block). OnOk c.put_graph-written.result
    (IsGraphFile (graph_bytes v c.args.profile (values m)))) c.lend.ensures
    (both c.put_graph-written.result is.fit is.count
    (λ fit count. is_graph_file v c.args.profile blocks c.requires.version c.requires.profile is.ascending forms fit
    count))

pub returns-else-is_err-clause-file : goal.returns-else-is_err-clause-file
returns-else-is_err-clause-file g c =
    let is = c.put_graph-written.ensures in
    let v = c.args.version in
    let blocks = values (map_of c.lend.result) in
    let forms = subst (λ (m : FinMap way_cmp Block). AllByRecursion (IsBlockForm (is_sourced v)) (values m))
    (sym c.lend.ensures) c.requires.forms in
    subst (λ (m : FinMap way_cmp Block). AllByRecursion IsOfItsWay (values m)
    → Unless (is_sourced v) (AllByRecursion IsBareBlock (values m)) → OnOk c.put_graph-written.result
    (IsFile v c.args.profile (graph_bytes v c.args.profile (values m)) (values m))) c.lend.ensures
    (λ own bare. both c.put_graph-written.result is.fit is.count
    (λ fit count. file_of v c.args.profile (graph_bytes v c.args.profile blocks) blocks c.requires.version
    c.requires.profile refl count is.ascending forms fit own bare))
