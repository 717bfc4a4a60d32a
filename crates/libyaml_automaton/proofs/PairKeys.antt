-- The tokens that libyaml loses after a pair's KEY are those before which the key is nothing.
use Rattle.std.proofs.Common.{◌≡◌, true, false, arith}
use Rattle.libyaml_types.specs.declared.enums.yaml_token_type_t.{yaml_token_type_t}
use Rattle.libyaml_automaton.specs.Differing.{differs_after_pair_key}
use Rattle.libyaml_automaton.specs.Slots.{is_nothing_before}
use Rattle.libyaml_automaton.specs.declared.difference.Difference.TheVariants as difference
use Rattle.libyaml_automaton.specs.declared.slot.Slot.TheVariants as slot

pub lost_before : (k : yaml_token_type_t) → is_nothing_before slot.PairKey k ≡ true
    → differs_after_pair_key k ≡ difference.PairKey
lost_before k e = grind arith

pub kept_before : (k : yaml_token_type_t) → is_nothing_before slot.PairKey k ≡ false
    → differs_after_pair_key k ≡ difference.Nowhere
kept_before k e = grind arith

pub ruleset pair_keys = (lost_before, kept_before)
