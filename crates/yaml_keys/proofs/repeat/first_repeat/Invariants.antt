use Rattle.std.proofs.Common.{map}
use Rattle.yaml_keys.specs.Repeats.{class_at}
use Rattle.yaml_keys.proofs.Seen.{HasSeen}
use Rattle.libyaml_documents.specs.declared.pairs.yaml_node_pair_t.{yaml_node_pair_t}
use Rattle.yaml_keys.proofs.repeat.first_repeat.Given as goal

-- each class that a pair before this one has, with the place of that pair, and no other
abbrev pub invariant-loop-second : goal.invariant-loop-second
invariant-loop-second l = HasSeen (map (λ (pair : yaml_node_pair_t). class_at l.classes pair.key) l.pairs) l.second l.seen
