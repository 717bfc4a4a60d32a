-- The content after a node's properties, as it is put.
use Rattle.std.proofs.Common.{◌≡◌, ℕ, List, Option, None, Ok, sym, arith}
use Rattle.libyaml_types.specs.Types.{token_type}
use Rattle.libyaml_types.specs.declared.enums.yaml_token_type_t.TheVariants as kinds
use Rattle.libyaml_types.specs.declared.event.yaml_event_t.{yaml_event_t}
use Rattle.libyaml_types.specs.declared.mark.yaml_mark_t.{yaml_mark_t}
use Rattle.libyaml_types.specs.declared.token.yaml_token_t.{yaml_token_t}
use Rattle.libyaml_types.specs.declared.token.unnamed_yaml_token_t_data.{unnamed_yaml_token_t_data}
use Rattle.libyaml_types.specs.declared.token.unnamed_yaml_token_t_data_tag.{unnamed_yaml_token_t_data_tag}
use Rattle.libyaml_types.specs.declared.enums.yaml_sequence_style_t.TheVariants.{YAML_BLOCK_SEQUENCE_STYLE, YAML_FLOW_SEQUENCE_STYLE}
use Rattle.libyaml_types.specs.declared.enums.yaml_mapping_style_t.TheVariants.{YAML_BLOCK_MAPPING_STYLE, YAML_FLOW_MAPPING_STYLE}
use Rattle.libyaml_grammar.specs.grammar.Events.{event}
use Rattle.libyaml_automaton.specs.declared.action.Action.{Action}
use Rattle.libyaml_automaton.specs.declared.action.Action.TheVariants as action
use Rattle.libyaml_automaton.specs.declared.node_place.NodePlace.{NodePlace}
use Rattle.libyaml_automaton.specs.declared.reading.Reading.{Reading}
use Rattle.libyaml_automaton.specs.Automaton as automaton
use Rattle.libyaml_automaton.specs.Config as automaton_config
use Rattle.libyaml_automaton.specs.Fits.{FitsContent}
use Rattle.libyaml_automaton.specs.Numbers.{flag}
use Rattle.libyaml_events.specs.declared.pending.Pending.{Pending}
use Rattle.libyaml_events.specs.declared.step.Step.{Step}
use Rattle.libyaml_events.specs.declared.step.Step.TheVariants as stepped
use Rattle.libyaml_events.specs.machine.Outcomes.{result_of, only_if}
use Rattle.libyaml_events.specs.machine.Config.{Machine, holding}
use Rattle.libyaml_events.specs.machine.Machine.{Progressed, content_after, mapping_start_with, put, seen, sequence_start_with}
use Rattle.libyaml_events.specs.machine.Steps.{Steps}
use Rattle.libyaml_events.specs.machine.Want.{Given, Texts}
use Rattle.libyaml_events.specs.automaton.AutomatonResults.{IsContent, IsOpening, FollowsAutomaton, PutsContent, ReadsTag, SaysContent, collection_start}

-- the start of the collection that a token of this kind opens
block_sequence : (k : unnamed_yaml_token_t_data) (a g : Option (List ℕ))
    → token_type k ≡ kinds.YAML_BLOCK_SEQUENCE_START_TOKEN → sequence_start_with a g YAML_BLOCK_SEQUENCE_STYLE ≡ collection_start a g k
block_sequence k a g e = grind arith

block_mapping : (k : unnamed_yaml_token_t_data) (a g : Option (List ℕ))
    → token_type k ≡ kinds.YAML_BLOCK_MAPPING_START_TOKEN → mapping_start_with a g YAML_BLOCK_MAPPING_STYLE ≡ collection_start a g k
block_mapping k a g e = grind arith

flow_sequence : (k : unnamed_yaml_token_t_data) (a g : Option (List ℕ))
    → token_type k ≡ kinds.YAML_FLOW_SEQUENCE_START_TOKEN → sequence_start_with a g YAML_FLOW_SEQUENCE_STYLE ≡ collection_start a g k
flow_sequence k a g e = grind arith

flow_mapping : (k : unnamed_yaml_token_t_data) (a g : Option (List ℕ))
    → token_type k ≡ kinds.YAML_FLOW_MAPPING_START_TOKEN → mapping_start_with a g YAML_FLOW_MAPPING_STYLE ≡ collection_start a g k
flow_mapping k a g e = grind arith

-- so such a result gives that start
pub opening_put : (out : Progressed) (h : Texts) (a g : Option (List ℕ)) (t : yaml_token_t) (x : Action) (r r' : Reading)
    (d : Machine) (start : yaml_mark_t) → IsOpening x → FitsContent x (token_type t.content) r' → r.start_mark ≡ start
    → SaysContent out h a g t x r r' d → out ≡ Ok (Given (event (collection_start a g t.content) start t.end_mark) (holding None d))
opening_put out h a g t action.BlockSequence r r' d start o f e s
    = rw (sym (block_sequence t.content a g f), sym e) s
opening_put out h a g t action.BlockMapping r r' d start o f e s
    = rw (sym (block_mapping t.content a g f), sym e) s
opening_put out h a g t action.FlowSequence r r' d start o f e s
    = rw (sym (flow_sequence t.content a g f), sym e) s
opening_put out h a g t action.FlowMapping r r' d start o f e s
    = rw (sym (flow_mapping t.content a g f), sym e) s
opening_put out h a g t _ r r' d start o f e s = absurd o

-- the tag in full, where it is read
pub tag_read : (o : Option unnamed_yaml_token_t_data_tag) (g : Option (List ℕ)) (p : NodePlace)
    (r : automaton.PropertiesRead) (x : automaton_config.Stacks) (h : Texts) (c : Machine) (t : yaml_token_t)
    (k : unnamed_yaml_token_t_data) → ReadsTag o c g
    → content_after o p r x h c t k ≡ put h h.anchor g c t k (automaton.node_content p r x (seen t k) (token_type k))
tag_read o g p r x h c t k e = grind arith

-- what was asked is then what the content does
pub asked_content : (out : Progressed) (h : Texts) (t : yaml_token_t) (q : Pending) (c : Machine) (g : Option (List ℕ))
    → ReadsTag (only_if (flag q.reading.has_tag) q.properties.tag) c g → FollowsAutomaton out h t action.AsksContent q c
    → IsContent out h (only_if (flag q.reading.has_anchor) q.properties.anchor) g t q.reading c
asked_content out h t q c g e l = grind arith

module _ (o : Progressed) (h : Texts) (g : Option (List ℕ)) (t : yaml_token_t) (old was mid : Machine) (r0 r : Reading)
    (a0 a : Option (List ℕ)) (s : Step) (t' : yaml_token_t) (q : Pending) (e : yaml_event_t) (new : Machine) (same : was ≡ old)
    (ea : a ≡ a0)
    (er : r ≡ r0) where
  -- a content is put from the parser that its step left
  pub content_put : (x : Action) (r' : Reading) (a' : Option (List ℕ)) (start end : yaml_mark_t) → a' ≡ a
      → r.start_mark ≡ start → r.end_mark ≡ end → (IsContent o h a g t r was → SaysContent o h a g t x r r' mid)
      → PutsContent a' g start end x t r' mid s t' q e new → IsContent o h a0 g t r0 old
      → Steps o (result_of s q e t' new) new × (s ≡ stepped.Wants → ⊥)
  content_put x r' a' start end ea' es ee leads puts i =
      let j : IsContent o h a g t r was = rw (ea, er, same) i in
      puts o h r es ee (rw ea' (leads j))

  -- or from the parser as it was, where nothing was done
  pub content_again : (IsContent o h a g t r was → Steps o (result_of s q e t' new) new × (s ≡ stepped.Wants → ⊥))
      → IsContent o h a0 g t r0 old → Steps o (result_of s q e t' new) new × (s ≡ stepped.Wants → ⊥)
  content_again puts i = grind arith
