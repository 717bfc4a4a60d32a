use Rattle.std.proofs.Common.{◌≡◌, drop}
use Rattle.std.specs.Option.{option_map}
use Rattle.libyaml_documents.specs.declared.pairs.yaml_node_pair_t.{yaml_node_pair_t}
use Rattle.yaml_path.specs.Paths.{pair_of, value_at}
use Rattle.yaml_path.proofs.step.found_value.Given as goal

-- the first pair of the key is among those to come
abbrev pub invariant-loop-pair : goal.invariant-loop-pair
invariant-loop-pair l =
    option_map (λ (pair : yaml_node_pair_t). pair.value)
    (pair_of l.document.nodes l.key (drop l.pair-index l.pairs)) ≡ value_at l.document.nodes l.id l.key
