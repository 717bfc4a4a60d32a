-- The automaton where a caller tells of texts what it asks, by numbers. In each function t is the token.
use Rattle.std.specs.Prelude.{◌==◌, ℕ, Bool, true, false, not, Result, Ok, Err, if◌then◌else◌}
use Rattle.libyaml_types.specs.Events.{zero_mark}
use Rattle.libyaml_types.specs.declared.mark.yaml_mark_t.{yaml_mark_t}
use Rattle.libyaml_types.specs.declared.enums.yaml_token_type_t.{yaml_token_type_t}
use Rattle.libyaml_types.specs.declared.enums.yaml_token_type_t.TheVariants as kinds
use Rattle.libyaml_automaton.specs.declared.node_place.NodePlace.{NodePlace}
use Rattle.libyaml_automaton.specs.Automaton as automaton
use Rattle.libyaml_automaton.specs.Automaton.{NumberedFault, PropertiesRead}
use Rattle.libyaml_automaton.specs.Config.{Stacks}
use Rattle.libyaml_automaton.specs.Numbers.{flag}
use Rattle.libyaml_automaton.specs.Problems as problem

-- A token without its texts. Its fact is a number that says what has to be known of them: of a scalar, a
-- VERSION-DIRECTIVE or a TAG-DIRECTIVE whether it is plain, accepted or declared before; of a TAG what `tag_read` says.
pub record StepToken : Type 0 where
  pub kind : yaml_token_type_t
  pub fact : ℕ
  pub start_mark : yaml_mark_t
  pub end_mark : yaml_mark_t

-- the token that the automaton sees
abbrev pub without_fact : StepToken → automaton.KindAndMarks
without_fact t = record { kind = t.kind; start_mark = t.start_mark; end_mark = t.end_mark }

-- a node's tag: none, an empty one, `!`, another, or one whose handle isn't declared
pub data TagRead : Type 0 where
  NoTag EmptyTag Bang OtherTag Undefined : TagRead

abbrev pub tag_read : ℕ → TagRead
tag_read fact = if fact == 1 then EmptyTag else if fact == 2 then Bang else if fact == 3 then OtherTag else Undefined

abbrev pub tag_if : Bool → ℕ → TagRead
tag_if false fact = NoTag
tag_if true fact = tag_read fact

-- what the next token is wanted for, and the fact of the TAG that was read last
pub record StepWant : Type 0 where
  pub next : automaton.Purpose
  pub tag : ℕ

-- the tag of the node whose properties are read
abbrev pub tag_for : automaton.Purpose → ℕ → TagRead
tag_for (automaton.AfterProperties p r) fact = tag_if r.tag fact
tag_for _ fact = NoTag

-- An event without its texts and marks. A flag of a property says that there is one. A scalar has its token's text,
-- unless the token stays: then it is empty.
pub data StepShape : Type 0 where
  StreamStart StreamEnd Alias SequenceEnd MappingEnd : StepShape
  DocumentStart DocumentEnd : (implicit : Bool) → StepShape
  Scalar : (anchor tag plain_implicit quoted_implicit : Bool) → StepShape
  SequenceStart MappingStart : (anchor tag implicit is_flow : Bool) → StepShape

-- an event; its token may stay, to be looked at again
pub record StepEvent : Type 0 where
  pub shape : StepShape
  pub stays : Bool
  pub start_mark : yaml_mark_t
  pub end_mark : yaml_mark_t

-- an event, or nothing yet
pub data StepProgress : Type 0 where
  Given : StepEvent → StepProgress
  Wants : StepWant → StepProgress

-- a step gives an event or wants a token, or ends in an error
abbrev pub StepResult : Type 0
StepResult = Result (StepProgress × Stacks) NumberedFault

-- flags

abbrev pub is_no_tag : TagRead → Bool
is_no_tag NoTag = true
is_no_tag EmptyTag = true
is_no_tag _ = false

abbrev pub plain_flag_for : TagRead → Bool → Bool
plain_flag_for NoTag plain = plain
plain_flag_for Bang plain = true
plain_flag_for _ plain = false

abbrev pub quoted_flag_for : TagRead → Bool → Bool
quoted_flag_for NoTag plain = not plain
quoted_flag_for _ plain = false

-- an event of the automaton's, of a node with this tag
abbrev pub shape_with : TagRead → (fact : ℕ) → automaton.Shape → StepShape
shape_with g fact automaton.StreamStart = StreamStart
shape_with g fact automaton.StreamEnd = StreamEnd
shape_with g fact automaton.Alias = Alias
shape_with g fact automaton.SequenceEnd = SequenceEnd
shape_with g fact automaton.MappingEnd = MappingEnd
shape_with g fact (automaton.DocumentStart implicit) = DocumentStart implicit
shape_with g fact (automaton.DocumentEnd implicit) = DocumentEnd implicit
shape_with g fact (automaton.Scalar anchor tag)
    = Scalar anchor tag (plain_flag_for g (flag fact)) (quoted_flag_for g (flag fact))
shape_with g fact (automaton.EmptyScalar anchor tag) = Scalar anchor tag (is_no_tag g) false
shape_with g fact (automaton.SequenceStart anchor tag is_flow) = SequenceStart anchor tag (is_no_tag g) is_flow
shape_with g fact (automaton.MappingStart anchor tag is_flow) = MappingStart anchor tag (is_no_tag g) is_flow

abbrev pub event_of_shape : TagRead → (fact : ℕ) → automaton.ShapedEvent → StepEvent
event_of_shape g fact e = record {
  shape = shape_with g fact e.shape;
  stays = e.stays;
  start_mark = e.start_mark;
  end_mark = e.end_mark;
}

-- steps

-- a TAG's fact is kept where properties follow it
abbrev pub tag_at : (tag : ℕ) → yaml_token_type_t → (fact : ℕ) → ℕ
tag_at tag kinds.YAML_TAG_TOKEN fact = fact
tag_at tag _ fact = tag

abbrev pub fact_after : automaton.Purpose → (tag : ℕ) → yaml_token_type_t → (fact : ℕ) → ℕ
fact_after (automaton.AfterProperties p r) tag k fact = tag_at tag k fact
fact_after _ tag k fact = tag

-- what the automaton did that asks nothing, where the fact `tag` is kept, of a node with the tag g
abbrev pub put_by_fact : TagRead → (tag : ℕ) → StepToken → automaton.Step → StepResult
put_by_fact g tag t (automaton.Gives e c) = Ok (Given (event_of_shape g t.fact e), c)
put_by_fact g tag t (automaton.Wants w c) = Ok (Wants (record { next = w; tag = fact_after w tag t.kind t.fact }), c)
put_by_fact g tag t (automaton.Fails f) = Err f
put_by_fact g tag t _ = Err (record { problem = 0; context_mark = zero_mark; mark = zero_mark })

-- the content after properties: an undefined handle is found now
abbrev pub content_by_fact : TagRead → (tag : ℕ) → NodePlace → PropertiesRead → Stacks → StepToken → StepResult
content_by_fact Undefined tag p r c t
    = Err (record { problem = problem.undefined_handle; context_mark = r.start_mark; mark = r.tag_mark })
content_by_fact g tag p r c t = put_by_fact g tag t (automaton.node_content p r c (without_fact t) t.kind)

-- and where it asks, what it does by the fact
abbrev pub with_facts : (tag : ℕ) → StepToken → automaton.Step → StepResult
with_facts tag t (automaton.AsksVersion start c)
    = put_by_fact NoTag tag t (automaton.first_version (flag t.fact) start c (without_fact t))
with_facts tag t (automaton.AsksHandle start has_version c)
    = put_by_fact NoTag tag t (automaton.tag_directive (flag t.fact) start has_version c (without_fact t))
with_facts tag t (automaton.AsksContent p r c) = content_by_fact (tag_if r.tag tag) tag p r c t
with_facts tag t s = put_by_fact NoTag tag t s

-- a step by a token
abbrev pub step_by_fact : StepWant → Stacks → StepToken → StepResult
step_by_fact v c t = with_facts v.tag t (automaton.step v.next c (without_fact t) t.kind)
