use Rattle.std.proofs.Common.{◌≡◌, ◌<◌, ◌≤◌, ℕ, length, get_or}
use Rattle.libyaml_documents.specs.declared.node.yaml_node_t.{yaml_node_t}
use Rattle.libyaml_documents.specs.Nodes.{pairs_of}
use Rattle.yaml_keys.proofs.duplicate.has_two_pairs.Given as goal

-- no node before this one has two pairs
abbrev pub invariant-loop-node : goal.invariant-loop-node
invariant-loop-node l = (node : yaml_node_t) (k : ℕ) → k < l.node-index → get_or l.nodes k node ≡ node → length (pairs_of node.content) ≤ 1
