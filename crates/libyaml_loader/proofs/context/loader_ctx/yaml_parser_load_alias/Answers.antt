use Rattle.std.proofs.Common.{arith}
use Rattle.libyaml_loader.proofs.document.Putting.{alias_fits}
use Rattle.libyaml_loader.proofs.context.loader_ctx.yaml_parser_load_alias.Goals as goal

pub returns-in_err-deed-clause-err : goal.returns-in_err-deed-clause-err
returns-in_err-deed-clause-err c = grind arith

pub attach_child-requires : goal.attach_child-requires
attach_child-requires c = alias_fits _ _ _ _ _ _ _ c.in_ok-deed.ensures.ok

pub returns-clause-ok : goal.returns-clause-ok
returns-clause-ok c = grind arith

pub returns-clause-stands : goal.returns-clause-stands
returns-clause-stands c = grind arith

pub returns-clause-err : goal.returns-clause-err
returns-clause-err c = grind arith
