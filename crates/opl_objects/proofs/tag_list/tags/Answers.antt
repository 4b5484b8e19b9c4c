use Rattle.opl_objects.proofs.tag_list.tags.Goals as goal

pub returns-clause-ok : goal.returns-clause-ok
returns-clause-ok c =
    rw c.in_ok-from_list-2.ensures (record {
      pairs = c.in_ok-list.list.items;
      read = c.in_ok-list.ensures.ok;
      ascending = c.in_ok-in_order.ensures.ascending;
      values = c.in_ok-in_order.ensures.values;
    })
