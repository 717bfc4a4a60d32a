-- What a result of the automaton's step says of the parser's: the outcome, with texts.
use Rattle.std.specs.Prelude.{◌≡◌, ◌⊎◌, ℕ, List, Option, None, Some, true}
use Rattle.libyaml_types.specs.declared.enums.yaml_error_type_t.{yaml_error_type_t}
use Rattle.libyaml_types.specs.declared.enums.yaml_error_type_t.TheVariants.{YAML_MEMORY_ERROR, YAML_PARSER_ERROR}
use Rattle.libyaml_types.specs.declared.event.yaml_event_t.{yaml_event_t}
use Rattle.libyaml_types.specs.declared.event.unnamed_yaml_event_t_data.{unnamed_yaml_event_t_data}
use Rattle.libyaml_types.specs.declared.token.yaml_token_t.{yaml_token_t}
use Rattle.libyaml_types.specs.declared.token.unnamed_yaml_token_t_data.{unnamed_yaml_token_t_data}
use Rattle.libyaml_types.specs.declared.token.unnamed_yaml_token_t_data.TheVariants as tok
use Rattle.libyaml_types.specs.declared.token.unnamed_yaml_token_t_data_tag.{unnamed_yaml_token_t_data_tag}
use Rattle.libyaml_types.specs.declared.enums.yaml_sequence_style_t.TheVariants.{YAML_BLOCK_SEQUENCE_STYLE, YAML_FLOW_SEQUENCE_STYLE}
use Rattle.libyaml_types.specs.declared.enums.yaml_mapping_style_t.TheVariants.{YAML_BLOCK_MAPPING_STYLE, YAML_FLOW_MAPPING_STYLE}
use Rattle.libyaml_types.specs.declared.mark.yaml_mark_t.{yaml_mark_t}
use Rattle.libyaml_types.specs.Fault.{memory_fault}
use Rattle.libyaml_types.specs.Types.{token_type}
use Rattle.libyaml_grammar.specs.partial.FaultTexts.{tag_fault}
use Rattle.libyaml_automaton.specs.declared.action.Action.{Action}
use Rattle.libyaml_automaton.specs.declared.action.Action.TheVariants as action
use Rattle.libyaml_automaton.specs.declared.reading.Reading.{Reading}
use Rattle.libyaml_automaton.specs.Numbers.{place_of}
use Rattle.libyaml_automaton.specs.Purposes as purposes
use Rattle.libyaml_automaton.specs.Purposes.{properties}
use Rattle.libyaml_automaton.specs.Automaton as automaton
use Rattle.libyaml_automaton.specs.Outcomes.{Outcome, NothingDone, Does, outcome}
use Rattle.libyaml_automaton.specs.Fits.{opens_at}
use Rattle.libyaml_events.specs.declared.step.Step.{Step}
use Rattle.libyaml_events.specs.declared.step.Step.TheVariants as stepped
use Rattle.libyaml_events.specs.declared.pending.Pending.{Pending}
use Rattle.libyaml_events.specs.machine.Config.{Machine, config_of, with_fault}
use Rattle.libyaml_events.specs.machine.Want.{Texts}
use Rattle.libyaml_events.specs.machine.Machine.{Progressed, put, resolve, seen, sequence_start_with, mapping_start_with, with_texts}
use Rattle.libyaml_events.specs.machine.Growth.{joins}
use Rattle.libyaml_events.specs.machine.Outcomes.{result_of, directive_texts, property_texts, texts_for}
use Rattle.libyaml_events.specs.machine.Steps.{Steps}
use Rattle.libyaml_events.specs.automaton.View.{Ready}

-- out is the parser's step at the token t, h the texts that were held, and d where the parser stands now
abbrev pub SaysIn : Progressed → Texts → Machine → yaml_token_t → Outcome → Type 0
SaysIn out h d t NothingDone = Unit {0}
SaysIn out h d t (Does x) = out ≡ with_texts h d t t.content x

abbrev pub IsWithTexts : Progressed → Texts → yaml_token_t → Action → Reading → Machine → Type 0
IsWithTexts out h t a r d
    = SaysIn out h d t (outcome a (automaton.no_properties (seen t t.content)) (seen t t.content) r (config_of d))

-- the texts of a parser that took a property
abbrev pub with_anchor : List ℕ → Pending → Pending
with_anchor anchor q = record q { properties = record q.properties { anchor = Some anchor } }

abbrev pub with_tag : unnamed_yaml_token_t_data_tag → Pending → Pending
with_tag tag q = record q { properties = record q.properties { tag = Some tag } }

-- a token is wanted for what has no texts
abbrev pub IsPlain : automaton.Purpose → Type 0
IsPlain (automaton.AfterDirective start has_version) = ⊥
IsPlain (automaton.AfterProperties place r) = ⊥
IsPlain _ = Unit {0}

-- what the texts h that were held have to do with those that are held now
abbrev pub IsHeld : Action → Texts → Pending → Type 0
IsHeld action.Wants h q = IsPlain (purposes.purpose_of q.reading)
IsHeld action.WantsAnchor h q = (anchor : List ℕ)
    → texts_for (purposes.purpose_of q.reading) (record q.properties { anchor = Some anchor }) q.directives
    ≡ record h { anchor = Some anchor }
IsHeld action.WantsTag h q = (tag : unnamed_yaml_token_t_data_tag)
    → texts_for (purposes.purpose_of q.reading) (record q.properties { tag = Some tag }) q.directives
    ≡ record h { tag = Some tag }
IsHeld action.AsksContent h q = h ≡ property_texts (properties q.reading) q.properties
IsHeld _ h q = Unit {0}

-- the result a of a step
abbrev pub FollowsAutomaton : Progressed → Texts → yaml_token_t → Action → Pending → Machine → Type 0
FollowsAutomaton out h t a q d = IsHeld a h q × IsWithTexts out h t a q.reading d

-- so each step of the parser that the result says is done
abbrev pub Puts : Action → yaml_token_t → Pending → Machine → Step → yaml_token_t → Pending → yaml_event_t → Machine → Type 0
Puts a t q old s t' q' e new = (out : Progressed) (h : Texts) → FollowsAutomaton out h t a q old
    → Steps out (result_of s q' e t' new) new × (s ≡ stepped.Wants → Ready q' new)

-- the result is put
abbrev pub IsPut : Action → Type 0
IsPut action.Document = ⊥
IsPut action.FullStates = ⊥
IsPut action.FullMarks = ⊥
IsPut _ = Unit {0}

-- directives: those that were held are those that are kept
abbrev pub FollowsAutomatonInDocuments : Progressed → Texts → yaml_token_t → Action → Pending → Machine → Type 0
FollowsAutomatonInDocuments out h t a q d = (h ≡ directive_texts q.directives) × IsWithTexts out h t a q.reading d

abbrev pub PutsDocument : Action → yaml_token_t → Pending → Machine → Step → yaml_token_t → Pending → yaml_event_t → Machine
    → Type 0
PutsDocument a t q old s t' q' e new = (out : Progressed) (h : Texts) → FollowsAutomatonInDocuments out h t a q old
    → Steps out (result_of s q' e t' new) new × (s ≡ stepped.Wants → Ready q' new)

abbrev pub IsPutDocument : Action → Type 0
IsPutDocument action.FullStates = ⊥
IsPutDocument _ = Unit {0}

-- the start of the collection that this token opens
abbrev pub collection_start : (anchor tag : Option (List ℕ)) → unnamed_yaml_token_t_data → unnamed_yaml_event_t_data
collection_start a g tok.BlockSequenceStart = sequence_start_with a g YAML_BLOCK_SEQUENCE_STYLE
collection_start a g tok.FlowSequenceStart = sequence_start_with a g YAML_FLOW_SEQUENCE_STYLE
collection_start a g tok.FlowMappingStart = mapping_start_with a g YAML_FLOW_MAPPING_STYLE
collection_start a g _ = mapping_start_with a g YAML_BLOCK_MAPPING_STYLE

-- content after properties: out is the parser's step, where the node has this anchor and this tag in full
abbrev pub IsContent : Progressed → Texts → (anchor tag : Option (List ℕ)) → yaml_token_t → Reading → Machine → Type 0
IsContent out h a g t r c = out ≡ put h a g c t t.content (automaton.node_content (place_of r.place) (properties r)
    (config_of c) (seen t t.content) (token_type t.content))

abbrev pub PutIn : Progressed → Texts → (anchor tag : Option (List ℕ)) → Machine → yaml_token_t → Outcome → Type 0
PutIn out h a g d t NothingDone = Unit {0}
PutIn out h a g d t (Does x) = out ≡ put h a g d t t.content x

-- what a result of `content_after` says of it, where the properties are those of the reading r
abbrev pub SaysContent : Progressed → Texts → (anchor tag : Option (List ℕ)) → yaml_token_t → Action → (r r' : Reading)
    → Machine → Type 0
SaysContent out h a g t x r r' d = PutIn out h a g d t (outcome x (properties r) (seen t t.content) r' (config_of d))

-- so the content is put, of a node with this anchor and this tag in full, whose properties have these marks
abbrev pub PutsContent : (anchor tag : Option (List ℕ)) → (start end : yaml_mark_t) → Action → yaml_token_t → Reading
    → Machine → Step → yaml_token_t → Pending → yaml_event_t → Machine → Type 0
PutsContent a g start end x t r' old s t' q e new = (out : Progressed) (h : Texts) (r : Reading) → r.start_mark ≡ start
    → r.end_mark ≡ end → SaysContent out h a g t x r r' old
    → Steps out (result_of s q e t' new) new × (s ≡ stepped.Wants → ⊥)

-- a collection whose start is kept
abbrev pub IsOpening : Action → Type 0
IsOpening action.BlockSequence = Unit {0}
IsOpening action.BlockMapping = Unit {0}
IsOpening action.FlowSequence = Unit {0}
IsOpening action.FlowMapping = Unit {0}
IsOpening _ = ⊥

-- the content after properties may take memory: the tag is joined, or a collection's start is pushed
abbrev pub GrowsAfter : Pending → Machine → yaml_token_t → Type 0
GrowsAfter q d t = (joins (property_texts (properties q.reading) q.properties).tag d.handles ≡ true)
    ⊎ (opens_at (place_of q.reading.place) (token_type t.content) ≡ true)

-- the tag in full can't be had: out of memory, or its handle isn't defined
abbrev pub RefusesTag : Option unnamed_yaml_token_t_data_tag → (start mark : yaml_mark_t) → Machine → yaml_error_type_t
    → Machine → Type 0
RefusesTag g start mark old YAML_MEMORY_ERROR new = (joins g old.handles ≡ true) × (new ≡ with_fault old memory_fault)
RefusesTag None start mark old YAML_PARSER_ERROR new = ⊥
RefusesTag (Some g) start mark old YAML_PARSER_ERROR new = (resolve old.handles g.handle g.suffix ≡ None)
    × (new ≡ with_fault old (tag_fault start mark))
RefusesTag g start mark old _ new = ⊥

-- the tag in full, where there is a tag
abbrev pub ReadsTag : Option unnamed_yaml_token_t_data_tag → Machine → Option (List ℕ) → Type 0
ReadsTag None c g = g ≡ None
ReadsTag (Some tag) c None = ⊥
ReadsTag (Some tag) c (Some g) = resolve c.handles tag.handle tag.suffix ≡ Some g
