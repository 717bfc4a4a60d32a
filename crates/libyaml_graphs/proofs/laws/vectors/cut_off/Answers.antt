use Rattle.std.proofs.Common.{refl}
use Rattle.libyaml_graphs.proofs.vectors.LoadVectors.{begin_loads, partial_loads}
use Rattle.libyaml_graphs.proofs.laws.vectors.cut_off.Goals as goal

pub returns : goal.returns
returns c = record {
  parser_fault = partial_loads 6 _ _ _ _ _ _ refl refl refl refl refl;
  source_ends = begin_loads _ _ _ _ refl refl refl;
  undefined_alias_before_source_ends = begin_loads _ _ _ _ refl refl refl;
}
