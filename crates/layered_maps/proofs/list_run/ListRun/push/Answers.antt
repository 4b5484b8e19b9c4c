use Rattle.std.proofs.Common.{◌++◌, ◌∷◌, [], Contains, subst, ap, ◌∙◌, arith, length-append}
use Rattle.std.specs.List.{zip}
use Rattle.ordered_lists.proofs.ListMembers.{contains_from_in}
use Rattle.ordered_lists.proofs.RisingLists.{one_more_rises}
use Rattle.layered_maps.proofs.KeyedLists.{zip_more, paired}
use Rattle.layered_maps.proofs.list_run.ListRun.push.Goals as goal

pub invariant_of-self-in-Ok : goal.invariant_of-self-in-Ok
invariant_of-self-in-Ok g c =
    let keys = c.self.inside.keys.items in
    let lists = c.self.inside.lists in
    let even = c.self.invariant.0 in
    rw (c.in_ok-push.ensures.items, c.in-Ok.ensures.ok) (
      omega (arith, length-append lists (c.args.list.now ∷ []), length-append keys (c.args.key ∷ [])),
      one_more_rises g.K.Ord.cmp keys c.args.key c.self.invariant.1 (λ k i.
          let p = paired keys lists k even i in
          c.requires (k, p.0) (subst (λ ps. Contains ps (k, p.0)) c.self.view_is
          (contains_from_in (zip keys lists) (k, p.0) p.1))),
    )

pub returns-in-Ok : goal.returns-in-Ok
returns-in-Ok g c =
    rw (c.in_ok-push.ensures.items, c.in-Ok.ensures.ok)
    (zip_more c.self.inside.keys.items c.self.inside.lists c.args.key c.args.list.now c.self.invariant.0)
    ∙ ap (λ ps. ps ++ (c.args.key, c.args.list.now) ∷ []) c.self.view_is
