-- Which steps want a token of the state's function: after no other comes a further difference.
use Rattle.std.proofs.Common.{◌≡◌, Bool, false, Ok, arith}
use Rattle.libyaml_types.specs.Types.{token_type}
use Rattle.libyaml_types.specs.declared.mark.yaml_mark_t.{yaml_mark_t}
use Rattle.libyaml_types.specs.declared.enums.yaml_parser_state_t.{yaml_parser_state_t}
use Rattle.libyaml_types.specs.declared.enums.yaml_parser_state_t.TheVariants as st
use Rattle.libyaml_types.specs.declared.enums.yaml_token_type_t.{yaml_token_type_t}
use Rattle.libyaml_grammar.specs.grammar.Tokens.{Token}
use Rattle.libyaml_automaton.specs.Automaton as automaton
use Rattle.libyaml_automaton.specs.Automaton.{KindAndMarks, PropertiesRead, Purpose, Step}
use Rattle.libyaml_automaton.specs.Config.{Stacks}
use Rattle.libyaml_automaton.specs.declared.difference.Difference.TheVariants.{Nowhere}
use Rattle.libyaml_automaton.specs.declared.node_place.NodePlace.{NodePlace}
use Rattle.libyaml_automaton.specs.Differing.{differs}
use Rattle.libyaml_events.specs.machine.Config.{Machine, config_of}
use Rattle.libyaml_events.specs.machine.Machine.{Progressed, seen, step}
use Rattle.libyaml_events.specs.machine.Want.{Want, Wants}

abbrev pub Quiet : Purpose → Type 0
Quiet automaton.AtState = ⊥
Quiet _ = Unit {0}

abbrev pub QuietStep : Step → Type 0
QuietStep (automaton.Wants p c) = Quiet p
QuietStep _ = Unit {0}

abbrev pub QuietProgress : Progressed → Type 0
QuietProgress (Ok (Wants v d)) = Quiet v.next
QuietProgress _ = Unit {0}

pub nowhere : (p : Purpose) (s : yaml_parser_state_t) (b : Bool) (k : yaml_token_type_t) → Quiet p
    → differs p s b k ≡ Nowhere
nowhere p s b k q = grind arith

pub content : (p : NodePlace) (r : PropertiesRead) (x : Stacks) (t : KindAndMarks) (k : yaml_token_type_t)
    → QuietStep (automaton.node_content p r x t k)
content p r x t k = grind arith

pub node : (p : NodePlace) (x : Stacks) (t : KindAndMarks) (k : yaml_token_type_t) → QuietStep (automaton.parse_node p x t k)
node p x t k = grind arith

pub explicit : (m : yaml_mark_t) (b : Bool) (x : Stacks) (t : KindAndMarks) (k : yaml_token_type_t)
    → QuietStep (automaton.explicit_document m b x t k)
explicit m b x t k = grind arith

pub first_document : (x : Stacks) (t : KindAndMarks) (k : yaml_token_type_t) → x.behind_document_end ≡ false
    → QuietStep (automaton.parse_implicit_document_start x t k)
first_document x t k e = grind arith

-- the states whose functions want no token for a state's
abbrev pub QuietState : yaml_parser_state_t → Type 0
QuietState st.YAML_PARSE_IMPLICIT_DOCUMENT_START_STATE = ⊥
QuietState st.YAML_PARSE_FLOW_SEQUENCE_ENTRY_STATE = ⊥
QuietState st.YAML_PARSE_FLOW_MAPPING_KEY_STATE = ⊥
QuietState _ = Unit {0}

pub at_state : (s : yaml_parser_state_t) (x : Stacks) (t : KindAndMarks) (k : yaml_token_type_t) → QuietState s
    → QuietStep (automaton.at_state s x t k)
at_state s x t k q = grind arith

-- a token that follows another within a production
following : (p : Purpose) (x : Stacks) (t : KindAndMarks) (k : yaml_token_type_t) → Quiet p → QuietStep (automaton.step p x t k)
following p x t k q = grind arith

pub quiet_by : (w : Want) (c : Machine) (t : Token)
    → QuietStep (automaton.step w.next (config_of c) (seen t t.content) (token_type t.content)) → QuietProgress (step w c t)
quiet_by w c t q = grind arith

pub quiet_after : (w : Want) (c : Machine) (t : Token) → Quiet w.next → QuietProgress (step w c t)
quiet_after w c t q = quiet_by w c t (following w.next (config_of c) (seen t t.content) (token_type t.content) q)
