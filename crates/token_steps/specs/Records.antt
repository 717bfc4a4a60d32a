-- What the records stand for, whatever their bytes are.
use Rattle.std.specs.Prelude.{◌≡◌, ◌≤◌, ◌==◌, ◌||◌, ℕ, Bool, true, false, if◌then◌else◌}
use Rattle.libyaml_types.specs.declared.mark.yaml_mark_t.{yaml_mark_t}
use Rattle.libyaml_types.specs.declared.enums.yaml_token_type_t.{yaml_token_type_t}
use Rattle.libyaml_types.specs.declared.enums.yaml_token_type_t.TheVariants as kinds
use Rattle.libyaml_automaton.specs.Numbers.{flag}
use Rattle.libyaml_automaton.specs.Automaton.{NumberedFault, PropertiesRead}
use Rattle.token_steps.specs.Facts.{StepEvent, StepShape, TagRead, StepToken, Undefined, tag_if}
use Rattle.token_steps.specs.Facts as facts
use Rattle.token_steps.specs.declared.records.step_span_t.{step_span_t}
use Rattle.token_steps.specs.declared.records.step_event_t.{step_event_t}
use Rattle.token_steps.specs.declared.records.step_fault_t.{step_fault_t}
use Rattle.token_steps.specs.declared.head.Head.{Head}

-- the kind of libyaml's number; of other bytes none
abbrev pub kind_of : ℕ → yaml_token_type_t
kind_of byte =
    if byte == 1 then kinds.YAML_STREAM_START_TOKEN else
    if byte == 2 then kinds.YAML_STREAM_END_TOKEN else
    if byte == 3 then kinds.YAML_VERSION_DIRECTIVE_TOKEN else
    if byte == 4 then kinds.YAML_TAG_DIRECTIVE_TOKEN else
    if byte == 5 then kinds.YAML_DOCUMENT_START_TOKEN else
    if byte == 6 then kinds.YAML_DOCUMENT_END_TOKEN else
    if byte == 7 then kinds.YAML_BLOCK_SEQUENCE_START_TOKEN else
    if byte == 8 then kinds.YAML_BLOCK_MAPPING_START_TOKEN else
    if byte == 9 then kinds.YAML_BLOCK_END_TOKEN else
    if byte == 10 then kinds.YAML_FLOW_SEQUENCE_START_TOKEN else
    if byte == 11 then kinds.YAML_FLOW_SEQUENCE_END_TOKEN else
    if byte == 12 then kinds.YAML_FLOW_MAPPING_START_TOKEN else
    if byte == 13 then kinds.YAML_FLOW_MAPPING_END_TOKEN else
    if byte == 14 then kinds.YAML_BLOCK_ENTRY_TOKEN else
    if byte == 15 then kinds.YAML_FLOW_ENTRY_TOKEN else
    if byte == 16 then kinds.YAML_KEY_TOKEN else
    if byte == 17 then kinds.YAML_VALUE_TOKEN else
    if byte == 18 then kinds.YAML_ALIAS_TOKEN else
    if byte == 19 then kinds.YAML_ANCHOR_TOKEN else
    if byte == 20 then kinds.YAML_TAG_TOKEN else
    if byte == 21 then kinds.YAML_SCALAR_TOKEN else
    kinds.YAML_NO_TOKEN

abbrev pub span_token : yaml_token_type_t → ℕ → step_span_t → StepToken
span_token kind fact at = record {
  kind = kind;
  fact = fact;
  start_mark = at.start_mark;
  end_mark = at.end_mark;
}

-- libyaml's numbers of events; of other bytes a mapping's end
abbrev pub shape_of : step_event_t → StepShape
shape_of e =
    if e.kind == 1 then facts.StreamStart else
    if e.kind == 2 then facts.StreamEnd else
    if e.kind == 3 then facts.DocumentStart (flag e.implicit) else
    if e.kind == 4 then facts.DocumentEnd (flag e.implicit) else
    if e.kind == 5 then facts.Alias else
    if e.kind == 6 then facts.Scalar (flag e.has_anchor) (flag e.has_tag) (flag e.implicit)
    (flag e.quoted_implicit) else
    if e.kind == 7 then facts.SequenceStart (flag e.has_anchor) (flag e.has_tag) (flag e.implicit)
    (flag e.is_flow) else
    if e.kind == 8 then facts.SequenceEnd else
    if e.kind == 9 then facts.MappingStart (flag e.has_anchor) (flag e.has_tag) (flag e.implicit)
    (flag e.is_flow) else
    facts.MappingEnd

-- its flags are 1 or 0
abbrev pub AreFlags : step_event_t → Type 0
AreFlags e = (e.has_anchor ≤ 1) × ((e.has_tag ≤ 1) × ((e.implicit ≤ 1) × ((e.quoted_implicit ≤ 1) × (e.is_flow ≤ 1))))

-- which flags an event of this number has: a node those of its properties, a node and a document's start and end
-- `implicit`, a scalar `quoted_implicit`, and a collection's start `is_flow`
abbrev pub opens_collection : ℕ → Bool
opens_collection kind = (kind == 7) || (kind == 9)

abbrev pub is_node : ℕ → Bool
is_node kind = (kind == 6) || opens_collection kind

abbrev pub has_implicit : ℕ → Bool
has_implicit kind = (kind == 3) || ((kind == 4) || is_node kind)

abbrev pub ZeroUnless : Bool → ℕ → Type 0
ZeroUnless true flag = Unit {0}
ZeroUnless false flag = flag ≡ 0

-- the others are 0
abbrev pub AreUnused : step_event_t → Type 0
AreUnused e = ZeroUnless (is_node e.kind) e.has_anchor
    × (ZeroUnless (is_node e.kind) e.has_tag
    × (ZeroUnless (has_implicit e.kind) e.implicit
    × (ZeroUnless (e.kind == 6) e.quoted_implicit × ZeroUnless (opens_collection e.kind) e.is_flow)))

abbrev pub event_of : step_event_t → (stays : Bool) → StepEvent
event_of e stays = record {
  shape = shape_of e;
  stays = stays;
  start_mark = e.start_mark;
  end_mark = e.end_mark;
}

abbrev pub step_fault : step_fault_t → NumberedFault
step_fault f = record { problem = f.problem; context_mark = f.context_mark; mark = f.problem_mark }

abbrev pub head_tag : Head → TagRead
head_tag h = tag_if (flag h.has_tag) h.tag

abbrev pub head_of : Head → (start end tag_mark : yaml_mark_t) → PropertiesRead
head_of h start end tag_mark = record {
  anchor = flag h.has_anchor;
  tag = flag h.has_tag;
  start_mark = start;
  end_mark = end;
  tag_mark = tag_mark;
}

abbrev pub is_undefined : TagRead → Bool
is_undefined Undefined = true
is_undefined _ = false
