use Rattle.std.proofs.Common.{[], Bool, inr, subst, sym}
use Rattle.libyaml_graphs.specs.machine.Loader.{between}
use Rattle.libyaml_loader.specs.pushes.Composing.{state_by}
use Rattle.libyaml_graphs.specs.loads.Leads.{Leads}
use Rattle.libyaml_graphs.proofs.exported.Leading.{leads_none}
use Rattle.libyaml_loader.proofs.push.yaml_push_loader_t.with_max_entries.Goals as goal

pub invariant_of-result : goal.invariant_of-result
invariant_of-result c =
    let composer = c.new-2.result in
    let none = c.new-2.ensures.none_open in (
      c.new-3.ensures.items,
      c.new-2.ensures.sound,
      inr (
        [],
        [],
        record {
          events = [];
          pushed = c.new.ensures.begins;
          leads = subst (λ (b : Bool). Leads composer.max_entries between [] [] (state_by b composer.ctx))
              (sym none) (leads_none composer.max_entries between);
          none_kept = c.new-2.ensures.fault;
        },
      ),
    )
