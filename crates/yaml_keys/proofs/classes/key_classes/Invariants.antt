use Rattle.std.proofs.Common.{◌≡◌, ◌<◌, ℕ, length, get_or}
use Rattle.yaml_keys.specs.Firsts.{HasFirsts}
use Rattle.yaml_keys.specs.Keys.{IsFirstSame}
use Rattle.yaml_keys.proofs.classes.key_classes.Given as goal

-- the nodes before this one have their classes
abbrev pub invariant-loop-place : goal.invariant-loop-place
invariant-loop-place l = record {
  firsts : HasFirsts l.nodes l.place l.firsts;
  count : length l.classes.items ≡ l.place;
  each : (place : ℕ) → place < l.place → IsFirstSame l.nodes place (get_or l.classes.items place 0);
}
