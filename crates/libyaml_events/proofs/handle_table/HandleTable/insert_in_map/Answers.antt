use Rattle.libyaml_events.proofs.code.HandleLemmas.{inserted_later}
use Rattle.libyaml_events.proofs.handle_table.HandleTable.insert_in_map.Goals as goal

pub returns-in-Ok-clause-ok : goal.returns-in-Ok-clause-ok
returns-in-Ok-clause-ok c = rw (← c.self.view_is)
    (inserted_later c.self.inside.first.items c.self.inside.others c.insert.new.self c.args.handle c.args.prefix
    c.in-Ok.ensures.updates (rw c.self.view_is c.requires))
