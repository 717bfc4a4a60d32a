use Rattle.std.proofs.Common.{◌≡◌, map, take}
use Rattle.libyaml_types.specs.Texts.{directive_of}
use Rattle.libyaml_types.proofs.directive.copied_pairs.Given as goal

-- so far the list holds the directives of the pairs that were passed
abbrev pub invariant-loop-pair : goal.invariant-loop-pair
invariant-loop-pair l = l.list.items ≡ map directive_of (take l.pair-index l.pairs)
