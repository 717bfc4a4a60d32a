-- Where libyaml does something else with the next token.
use Rattle.libyaml_types.specs.declared.enums.yaml_token_type_t.{yaml_token_type_t}
use Rattle.libyaml_automaton.specs.declared.difference.Difference.{Difference}
use Rattle.libyaml_automaton.specs.Differing.{differs}
use Rattle.libyaml_automaton.specs.Numbers.{flag, state_of}
use Rattle.libyaml_automaton.specs.Purposes.{purpose_of}
use Rattle.token_steps.specs.declared.steps.steps_t.{steps_t}

-- this record's place, and a token of this kind
abbrev pub differs_in : steps_t → yaml_token_type_t → Difference
differs_in d k = differs (purpose_of d.read) (state_of d.machine.state) (flag d.machine.behind_document_end) k
