use Rattle.yaml_keys.proofs.Duplicates.{NoneBefore}
use Rattle.yaml_keys.proofs.duplicate.duplicate_key.Given as goal

-- no mapping before this node has a duplicate
abbrev pub invariant-loop-place : goal.invariant-loop-place
invariant-loop-place l = NoneBefore l.nodes l.place
