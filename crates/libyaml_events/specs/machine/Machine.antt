-- The parser as a machine that is fed one token at a time (docs/DEFINITIONS.md, "The parser as a machine"): the automaton,
-- with texts. In each function k is the content of the token t.
use Rattle.std.specs.Prelude.{◌∷◌, ◌++◌, ℕ, List, [], Option, None, Some, Bool, true, false, Result, Ok, Err, codes, bytes_eq, cond, is_some, ◌==◌, if◌then◌else◌}
use Rattle.std.specs.FinMap.{get, insert}
use Rattle.libyaml_types.specs.Types.{token_type}
use Rattle.libyaml_types.specs.Fault.{Fault, no_fault}
use Rattle.libyaml_types.specs.declared.directive.yaml_version_directive_t.{yaml_version_directive_t}
use Rattle.libyaml_types.specs.declared.directive.yaml_tag_directive_t.{yaml_tag_directive_t}
use Rattle.libyaml_types.specs.declared.token.yaml_token_t.{yaml_token_t}
use Rattle.libyaml_types.specs.declared.token.unnamed_yaml_token_t_data.{unnamed_yaml_token_t_data}
use Rattle.libyaml_types.specs.declared.token.unnamed_yaml_token_t_data.TheVariants as tok
use Rattle.libyaml_types.specs.declared.token.unnamed_yaml_token_t_data_tag.{unnamed_yaml_token_t_data_tag}
use Rattle.libyaml_types.specs.declared.event.unnamed_yaml_event_t_data.{unnamed_yaml_event_t_data}
use Rattle.libyaml_types.specs.declared.event.unnamed_yaml_event_t_data.TheVariants as ev
use Rattle.libyaml_types.specs.declared.enums.yaml_encoding_t.{yaml_encoding_t}
use Rattle.libyaml_types.specs.declared.enums.yaml_encoding_t.TheVariants.{YAML_ANY_ENCODING}
use Rattle.libyaml_types.specs.declared.enums.yaml_scalar_style_t.{yaml_scalar_style_t}
use Rattle.libyaml_types.specs.declared.enums.yaml_scalar_style_t.TheVariants.{YAML_PLAIN_SCALAR_STYLE}
use Rattle.libyaml_types.specs.declared.enums.yaml_sequence_style_t.{yaml_sequence_style_t}
use Rattle.libyaml_types.specs.declared.enums.yaml_sequence_style_t.TheVariants.{YAML_BLOCK_SEQUENCE_STYLE, YAML_FLOW_SEQUENCE_STYLE}
use Rattle.libyaml_types.specs.declared.enums.yaml_mapping_style_t.{yaml_mapping_style_t}
use Rattle.libyaml_types.specs.declared.enums.yaml_mapping_style_t.TheVariants.{YAML_BLOCK_MAPPING_STYLE, YAML_FLOW_MAPPING_STYLE}
use Rattle.libyaml_grammar.specs.partial.FaultTexts as fault
use Rattle.libyaml_grammar.specs.grammar.Events.{event, is_missing, plain_flag, quoted_flag}
use Rattle.libyaml_grammar.specs.grammar.Order.{is_accepted}
use Rattle.libyaml_automaton.specs.Problems as problem
use Rattle.libyaml_automaton.specs.Config as automaton_config
use Rattle.libyaml_automaton.specs.declared.node_place.NodePlace.{NodePlace}
use Rattle.libyaml_automaton.specs.Automaton as automaton
use Rattle.libyaml_events.specs.machine.Config.{Machine, Handles, no_handles, config_of, config_with, holding, token_if}
use Rattle.libyaml_events.specs.machine.Want.{Texts, Want, Progress, Given, Wants, texts_after}

-- a step gives an event or wants a token, or ends in an error
abbrev pub Progressed : Type 0
Progressed = Result Progress Fault

-- handles: a TAG-DIRECTIVE declares one, and a document's end with it

abbrev pub declared_by : Handles → unnamed_yaml_token_t_data → Handles
declared_by hs (tok.TagDirective g) = insert hs g.handle g.prefix
declared_by hs _ = hs

abbrev pub handles_after_directive : Handles → unnamed_yaml_token_t_data → automaton.Purpose → Handles
handles_after_directive hs k (automaton.AfterDirective start has_version) = declared_by hs k
handles_after_directive hs k _ = hs

abbrev pub handles_after : Handles → automaton.Shape → Handles
handles_after hs (automaton.DocumentEnd implicit) = no_handles
handles_after hs _ = hs

-- tags

abbrev pub undeclared_prefix : List ℕ → Option (List ℕ)
undeclared_prefix handle = cond (bytes_eq handle (codes "!")) (Some (codes "!"))
    (cond (bytes_eq handle (codes "!!")) (Some (codes "tag:yaml.org,2002:")) None)

abbrev pub or_default : Option (List ℕ) → List ℕ → Option (List ℕ)
or_default None handle = undeclared_prefix handle
or_default (Some prefix) handle = Some prefix

abbrev pub with_prefix : Option (List ℕ) → List ℕ → Option (List ℕ)
with_prefix None suffix = None
with_prefix (Some prefix) suffix = Some (prefix ++ suffix)

-- the tag in full, where its handle is empty or has a prefix
abbrev pub resolve : Handles → (handle suffix : List ℕ) → Option (List ℕ)
resolve hs [] suffix = Some suffix
resolve hs (x ∷ xs) suffix = with_prefix (or_default (get hs (x ∷ xs)) (x ∷ xs)) suffix

-- events

abbrev pub scalar_with : (anchor tag : Option (List ℕ)) (value : List ℕ) (plain_implicit quoted_implicit : Bool)
    → yaml_scalar_style_t → unnamed_yaml_event_t_data
scalar_with anchor tag value plain_implicit quoted_implicit style
    = ev.Scalar (record {
      anchor = anchor;
      tag = tag;
      value = value;
      plain_implicit = plain_implicit;
      quoted_implicit = quoted_implicit;
      style = style;
    })

abbrev pub sequence_start_with : (anchor tag : Option (List ℕ)) → yaml_sequence_style_t → unnamed_yaml_event_t_data
sequence_start_with anchor tag style =
    ev.SequenceStart (record { anchor = anchor; tag = tag; implicit = is_missing tag; style = style })

abbrev pub mapping_start_with : (anchor tag : Option (List ℕ)) → yaml_mapping_style_t → unnamed_yaml_event_t_data
mapping_start_with anchor tag style =
    ev.MappingStart (record { anchor = anchor; tag = tag; implicit = is_missing tag; style = style })

abbrev pub document_start : Option yaml_version_directive_t → List yaml_tag_directive_t → Bool → unnamed_yaml_event_t_data
document_start version tags implicit =
    ev.DocumentStart (record { version_directive = version; tag_directives = tags; implicit = implicit })

abbrev pub document_end : Bool → unnamed_yaml_event_t_data
document_end implicit = ev.DocumentEnd (record { implicit = implicit })

-- an empty node without properties
abbrev pub empty_scalar : unnamed_yaml_event_t_data
empty_scalar = scalar_with None None [] true false YAML_PLAIN_SCALAR_STYLE

-- what a token's content has of these, where it has it
abbrev pub text_in : unnamed_yaml_token_t_data → List ℕ
text_in (tok.Scalar s) = s.value
text_in (tok.Alias a) = a.value
text_in _ = []

abbrev pub style_in : unnamed_yaml_token_t_data → yaml_scalar_style_t
style_in (tok.Scalar s) = s.style
style_in _ = YAML_PLAIN_SCALAR_STYLE

abbrev pub encoding_in : unnamed_yaml_token_t_data → yaml_encoding_t
encoding_in (tok.StreamStart s) = s.encoding
encoding_in _ = YAML_ANY_ENCODING

abbrev pub sequence_style_by : (is_flow : Bool) → yaml_sequence_style_t
sequence_style_by true = YAML_FLOW_SEQUENCE_STYLE
sequence_style_by false = YAML_BLOCK_SEQUENCE_STYLE

abbrev pub mapping_style_by : (is_flow : Bool) → yaml_mapping_style_t
mapping_style_by true = YAML_FLOW_MAPPING_STYLE
mapping_style_by false = YAML_BLOCK_MAPPING_STYLE

-- an implicit document has no directives
abbrev pub document_with : (implicit : Bool) → Texts → unnamed_yaml_event_t_data
document_with true h = document_start None [] true
document_with false h = document_start h.version h.tag_directives false

-- the content of an event of this shape, of a node with this anchor and this tag in full
abbrev pub content_with : Texts → (anchor tag : Option (List ℕ)) → unnamed_yaml_token_t_data → automaton.Shape
    → unnamed_yaml_event_t_data
content_with h a g k automaton.StreamStart = ev.StreamStart (record { encoding = encoding_in k })
content_with h a g k automaton.StreamEnd = ev.StreamEnd
content_with h a g k (automaton.DocumentStart implicit) = document_with implicit h
content_with h a g k (automaton.DocumentEnd implicit) = document_end implicit
content_with h a g k automaton.Alias = ev.Alias (record { anchor = text_in k })
content_with h a g k (automaton.Scalar has_anchor has_tag) = scalar_with a g (text_in k) (plain_flag g (style_in k))
    (quoted_flag g (style_in k)) (style_in k)
content_with h a g k (automaton.EmptyScalar has_anchor has_tag)
    = scalar_with a g [] (is_missing g) false YAML_PLAIN_SCALAR_STYLE
content_with h a g k (automaton.SequenceStart has_anchor has_tag is_flow) = sequence_start_with a g (sequence_style_by is_flow)
content_with h a g k automaton.SequenceEnd = ev.SequenceEnd
content_with h a g k (automaton.MappingStart has_anchor has_tag is_flow) = mapping_start_with a g (mapping_style_by is_flow)
content_with h a g k automaton.MappingEnd = ev.MappingEnd

abbrev pub fault_with : automaton.NumberedFault → Fault
fault_with f =
    if f.problem == problem.no_stream_start then fault.stream_start_fault f.mark else
    if f.problem == problem.no_document_start then fault.document_start_fault f.mark else
    if f.problem == problem.duplicate_version then fault.duplicate_version_fault f.mark else
    if f.problem == problem.incompatible_version then fault.version_fault f.mark else
    if f.problem == problem.duplicate_tag then fault.duplicate_tag_fault f.mark else
    if f.problem == problem.no_block_content then fault.content_fault true f.mark else
    if f.problem == problem.no_flow_content then fault.content_fault false f.mark else
    if f.problem == problem.undefined_handle then fault.tag_fault f.context_mark f.mark else
    if f.problem == problem.no_item then fault.item_fault f.context_mark f.mark else
    if f.problem == problem.no_key then fault.part_fault f.context_mark f.mark else
    if f.problem == problem.no_sequence_separator then fault.sequence_fault f.context_mark f.mark else
    fault.mapping_fault f.context_mark f.mark

-- steps

-- the token without its texts
abbrev pub seen : yaml_token_t → unnamed_yaml_token_t_data → automaton.KindAndMarks
seen t k = record { kind = token_type k; start_mark = t.start_mark; end_mark = t.end_mark }

-- what the automaton did that asks nothing, with the texts that were held, and of a node its anchor and its tag in full
abbrev pub put : Texts → (anchor tag : Option (List ℕ)) → Machine → yaml_token_t → unnamed_yaml_token_t_data
    → automaton.Step → Progressed
put h a g c t k (automaton.Gives e x) = Ok (Given (event (content_with h a g k e.shape) e.start_mark e.end_mark)
    (holding (token_if e.stays t) (config_with x (handles_after c.handles e.shape) c.fault)))
put h a g c t k (automaton.Wants n x) = Ok (Wants (record { next = n; texts = texts_after h k n })
    (config_with x (handles_after_directive c.handles k n) c.fault))
put h a g c t k (automaton.Fails f) = Err (fault_with f)
put h a g c t k _ = Err no_fault

-- the content after properties: an undefined handle is found now
abbrev pub content_resolved : Option (List ℕ) → NodePlace → automaton.PropertiesRead → automaton_config.Stacks → Texts → Machine
    → yaml_token_t → unnamed_yaml_token_t_data → Progressed
content_resolved None p r x h c t k = Err (fault.tag_fault r.start_mark r.tag_mark)
content_resolved (Some tag) p r x h c t k
    = put h h.anchor (Some tag) c t k (automaton.node_content p r x (seen t k) (token_type k))

abbrev pub content_after : Option unnamed_yaml_token_t_data_tag → NodePlace → automaton.PropertiesRead
    → automaton_config.Stacks → Texts → Machine → yaml_token_t → unnamed_yaml_token_t_data → Progressed
content_after None p r x h c t k = put h h.anchor None c t k (automaton.node_content p r x (seen t k) (token_type k))
content_after (Some g) p r x h c t k = content_resolved (resolve c.handles g.handle g.suffix) p r x h c t k

abbrev pub is_accepted_in : unnamed_yaml_token_t_data → Bool
is_accepted_in (tok.VersionDirective v) = is_accepted v.major v.minor
is_accepted_in _ = false

abbrev pub was_declared : Handles → unnamed_yaml_token_t_data → Bool
was_declared hs (tok.TagDirective g) = is_some (get hs g.handle)
was_declared hs _ = false

-- and where it asks, what it does as texts decide
abbrev pub with_texts : Texts → Machine → yaml_token_t → unnamed_yaml_token_t_data → automaton.Step → Progressed
with_texts h c t k (automaton.AsksVersion start x)
    = put h None None c t k (automaton.first_version (is_accepted_in k) start x (seen t k))
with_texts h c t k (automaton.AsksHandle start has_version x)
    = put h None None c t k (automaton.tag_directive (was_declared c.handles k) start has_version x (seen t k))
with_texts h c t k (automaton.AsksContent p r x) = content_after h.tag p r x h c t k
with_texts h c t k s = put h None None c t k s

abbrev pub step_at : Want → Machine → yaml_token_t → unnamed_yaml_token_t_data → Progressed
step_at w c t k = with_texts w.texts c t k (automaton.step w.next (config_of c) (seen t k) (token_type k))

-- a step by a token
abbrev pub step : Want → Machine → yaml_token_t → Progressed
step w c t = step_at w c t t.content
