use Rattle.road_model.proofs.TotalOrders.{node_cmp_total, node_cmp_exact, relation_cmp_total, relation_cmp_exact}
use Rattle.road_model.proofs.laws.number_order.Goals as goal

pub returns : goal.returns
returns c = record {
  nodes = node_cmp_total;
  node_ties = node_cmp_exact;
  relations = relation_cmp_total;
  relation_ties
      = relation_cmp_exact;
}
