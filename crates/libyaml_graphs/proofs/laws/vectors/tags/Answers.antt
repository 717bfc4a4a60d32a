use Rattle.std.proofs.Common.{refl}
use Rattle.libyaml_graphs.proofs.vectors.LoadVectors.{valid_list_loads}
use Rattle.libyaml_graphs.proofs.laws.vectors.tags.Goals as goal

pub returns : goal.returns
returns c = record {
  tag_that_is_an_exclamation_mark = valid_list_loads 4 _ _ _ _ refl refl refl;
  exclamation_marks_of_collections = valid_list_loads 8 _ _ _ _ refl refl refl;
  empty_tag = valid_list_loads 4 _ _ _ _ refl refl refl;
}
