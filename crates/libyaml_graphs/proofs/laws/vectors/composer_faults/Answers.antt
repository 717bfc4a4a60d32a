use Rattle.std.proofs.Common.{refl}
use Rattle.libyaml_graphs.proofs.vectors.LoadVectors.{partial_loads, valid_list_loads}
use Rattle.libyaml_graphs.proofs.laws.vectors.composer_faults.Goals as goal

pub returns : goal.returns
returns c = record {
  undefined_alias = valid_list_loads 5 _ _ _ _ refl refl refl;
  second_alias_undefined = valid_list_loads 8 _ _ _ _ refl refl refl;
  anchor_of_document_before = valid_list_loads 7 _ _ _ _ refl refl refl;
  second_anchor = partial_loads 6 _ _ _ _ _ _ refl refl refl refl refl;
}
