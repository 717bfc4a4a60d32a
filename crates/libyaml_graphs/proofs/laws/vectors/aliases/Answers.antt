use Rattle.std.proofs.Common.{refl}
use Rattle.libyaml_graphs.proofs.vectors.LoadVectors.{valid_list_loads}
use Rattle.libyaml_graphs.proofs.laws.vectors.aliases.Goals as goal

pub returns : goal.returns
returns c = record {
  holds_itself = valid_list_loads 6 _ _ _ _ refl refl refl;
  item_twice = valid_list_loads 8 _ _ _ _ refl refl refl;
  nested_holds_itself = valid_list_loads 10 _ _ _ _ refl refl refl;
}
