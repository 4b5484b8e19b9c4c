use Rattle.std.proofs.Common.{◌≡◌, ◌∙◌, ◌++◌, ℕ, List, ap, sym, subst, length, inr, refl}
use Rattle.std.specs.FinMap.{values}
use Rattle.road_model.specs.Format.{graph_bytes, IsGraphFile}
use Rattle.road_base.specs.Profiles.{IsProfile}
use Rattle.graph_blocks.specs.Lent.{map_of}
use Rattle.graph_file.specs.GraphReading.{IsFile}
use Rattle.graph_file.proofs.GraphFiles.{file_profile}
use Rattle.drive_queries.specs.declared.totals.Totals.{Totals}
use Rattle.drive_queries.specs.Counting.{totals_of}
use Rattle.osmroad.specs.Texts.{sample_line}
use Rattle.bounded_input.proofs.InputEnds.{ok_maps}
use Rattle.osmroad.proofs.sample.line_of.Goals as goal

-- the number of the graph's profile is that of the engine's
pub write-requires-clause-profile : goal.write-requires-clause-profile
write-requires-clause-profile g c =
    subst IsProfile (sym (c.number.ensures ∙ ap (λ (p : g.row.P.Denot). (g.P.Profile.rules p).number)
    c.profile.ensures)) c.requires

pub write-requires-clause-forms : goal.write-requires-clause-forms
write-requires-clause-forms g c = c.blocks-2.ensures.forms

pub totals_of-requires : goal.totals_of-requires
totals_of-requires g c =
    let blocks = values (map_of c.blocks-2.result.now) in
    let bytes : c.write.new.out.items ≡ graph_bytes 2 c.number.result blocks =
    c.in_ok-write.ensures.bytes
    ∙ ap (λ (l : List ℕ). l ++ graph_bytes 2 c.number.result blocks) c.new-graph.ensures.items
    in
    subst IsGraphFile (sym (c.deref.ensures.value ∙ bytes)) c.in_ok-write.ensures.grammar

pub returns : goal.returns
returns g c =
    let P = g.P.Profile.rules c.args.engine.now.profile in
    let number : c.number.result ≡ P.number = c.number.ensures ∙ ap (λ (p : g.row.P.Denot). (g.P.Profile.rules
    p).number)
    c.profile.ensures in
    let blocks = values (map_of c.blocks-2.result.now) in
    let graph = c.write.new.out.items in
    let bytes : graph ≡ graph_bytes 2 c.number.result blocks =
    c.in_ok-write.ensures.bytes
    ∙ ap (λ (l : List ℕ). l ++ graph_bytes 2 c.number.result blocks) c.new-graph.ensures.items
    in
    let read = c.in_ok-totals.ensures in
    let file : IsFile read.0 read.1 graph read.2 = subst (λ (l : List ℕ). IsFile read.0 read.1 l read.2)
    c.deref.ensures.value read.3 in
    let same = file_profile read.0 2 read.1 P.number graph read.2 blocks file (inr refl) c.requires
    (bytes ∙ ap (λ (n : ℕ). graph_bytes 2 n blocks) number) in
    let size : c.len.result ≡ length graph = c.len.ensures ∙ c.write.new.out.ok.0 in
    ok_maps c.sample_line.result c.sample_line.ensures (λ line spelled. λ events applied. record {
      objects = c.args.engine.now.world;
      applied = applied;
      graph = graph;
      is = record {
        blocks = blocks;
        listed = c.blocks-2.ensures.listed;
        spelled = bytes ∙ ap (λ (n : ℕ). graph_bytes 2 n blocks) number;
      };
      blocks = read.2;
      file = subst (λ (v : ℕ). IsFile v P.number graph read.2) same.0
          (subst (λ (n : ℕ). IsFile read.0 n graph read.2) same.1 file);
      spelled = spelled
          ∙ (ap (λ (t : Totals). sample_line c.args.change t c.len.result) read.4
          ∙ ap (λ (n : ℕ). sample_line c.args.change (totals_of read.2) n) size);
    })
