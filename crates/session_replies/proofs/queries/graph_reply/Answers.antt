use Rattle.std.proofs.Common.{◌≡◌, ◌++◌, ◌∙◌, ℕ, List, ap, sym, subst}
use Rattle.std.specs.FinMap.{values}
use Rattle.road_model.specs.declared.blocks.Block.{Block}
use Rattle.ordered_lists.specs.Orders.{Lists}
use Rattle.road_model.specs.Orders.{way_cmp}
use Rattle.road_model.specs.Blocks.{IsRoadBlock}
use Rattle.road_model.specs.Format.{graph_bytes}
use Rattle.road_model.specs.Walks.{AreWalked}
use Rattle.road_base.specs.Profiles.{IsProfile}
use Rattle.graph_blocks.specs.Lent.{map_of}
use Rattle.graph_file.specs.GraphReading.{IsFile}
use Rattle.graph_file.specs.WalkedFiles.{IsWalkedFile}
use Rattle.zone_files.specs.ZoneFileWalks.{IsZoneFile}
use Rattle.session_replies.specs.Texts.{graph_line}
use Rattle.session_replies.proofs.queries.graph_reply.Goals as goal

pub write-requires-clause-profile : goal.write-requires-clause-profile
write-requires-clause-profile g c =
    let R = g.P.Profile.rules in
    subst (λ (n : ℕ). IsProfile n) (sym (c.number.ensures ∙ ap (λ p. (R p).number) c.profile-profile.ensures))
    c.requires

pub returns : goal.returns
returns g c =
    let M = c.args.engine.now.world in
    let R = g.P.Profile.rules in
    let profile = c.args.engine.now.profile in
    let same : c.profile-profile.result ≡ profile = c.profile-profile.ensures in
    let blocks = values (map_of c.blocks-2.result.now) in
    let listed = c.blocks-2.ensures.listed in
    let mine = subst (λ p. Lists (λ (b : Block). b.way) way_cmp (IsRoadBlock M (R p)) blocks) (sym same) listed in
    let number = c.number.result in
    let bytes = c.write.new.out.items in
    let spelled : bytes ≡ graph_bytes 2 number blocks =
    c.in_ok-write.ensures.bytes ∙ ap (λ (l : List ℕ). l ++ graph_bytes 2 number blocks) c.new-graph.ensures.items in
    let is_file : IsFile 2 (R c.profile-profile.result).number (graph_bytes 2 number blocks) blocks =
    subst (λ (n : ℕ). IsFile 2 n (graph_bytes 2 number blocks) blocks) c.number.ensures
    (c.in_ok-write.ensures.file (c.walked_file.ensures.own M blocks mine) tt) in
    record {
      graph = bytes;
      is = record {
        blocks = blocks;
        listed = listed;
        spelled = spelled
            ∙ ap (λ (n : ℕ). graph_bytes 2 n blocks) (c.number.ensures ∙ ap (λ p. (R p).number) same);
      };
      walks = subst (λ p. AreWalked M (R p)) same (c.walk_law.ensures M);
      file = subst (λ p. IsWalkedFile M (R p) bytes) same
          (subst (λ (l : List ℕ). IsWalkedFile M (R c.profile-profile.result) l) (sym spelled)
          (c.walked_file.ensures.walks M (graph_bytes 2 number blocks) blocks mine is_file));
      zones = subst (λ p. IsZoneFile M (R p) bytes) same
          (subst (λ (l : List ℕ). IsZoneFile M (R c.profile-profile.result) l) (sym spelled)
          (c.zone_file.ensures M (graph_bytes 2 number blocks) blocks mine is_file));
      spelled = ap (λ (l : List ℕ). l ++ bytes)
          (c.in_ok-line.ensures ∙ ap (λ (l : List ℕ). graph_line l) c.deref.ensures.value);
    }
