use Rattle.libyaml_loader.proofs.push.yaml_push_loader_t.expected.Goals as goal

pub returns-clause-acceptable : goal.returns-clause-acceptable
returns-clause-acceptable c
    = rw (← c.self.view_is) (λ tokens documents l. c.expected.ensures.acceptable tokens l.events l.pushed)
