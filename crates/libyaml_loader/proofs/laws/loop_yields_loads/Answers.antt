use Rattle.std.proofs.Common.{refl}
use Rattle.libyaml_graphs.proofs.exported.Roots.{roots_follow}
use Rattle.libyaml_loader.specs.document.Ids.{magnitude}
use Rattle.libyaml_loader.proofs.loads.Loops.{of_list, of_run}
use Rattle.libyaml_loader.proofs.laws.loop_yields_loads.Goals as goal

pub returns-clause-of_run : goal.returns-clause-of_run
returns-clause-of_run g c old new documents ending e x run nests loop =
    of_run g.S.yaml_token_source_t (magnitude old.max_entries) old new documents ending e x refl run
    (roots_follow e nests) loop

pub returns-clause-of_list : goal.returns-clause-of_list
returns-clause-of_list g c = of_list g.S.yaml_token_source_t
