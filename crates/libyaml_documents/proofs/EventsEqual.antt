-- The comparison of events decides whether two are one.
use Rattle.std.proofs.Common.{◌≡◌}
use Rattle.std.specs.Bool.{Decides}
use Rattle.std.specs.Cmp.{booleans_Decides}
use Rattle.std.specs.Cmp.Lexicographic.{bytes_decides}
use Rattle.libyaml_documents.proofs.Choices.{both, through, no_field, one_field, enum_decides, ◌then◌}
use Rattle.libyaml_documents.proofs.Fields.{mark_decides, text_decides, encoding_decides, scalar_style_decides, sequence_style_decides, mapping_style_decides, versions_decide, directives_decide}
use Rattle.libyaml_types.specs.declared.event.unnamed_yaml_event_t_data_stream_start.{unnamed_yaml_event_t_data_stream_start}
use Rattle.libyaml_types.specs.contracts.event.unnamed_yaml_event_t_data_stream_startPartialEq.TheImpl as stream_start_eq
use Rattle.libyaml_types.specs.declared.event.unnamed_yaml_event_t_data_document_start.{unnamed_yaml_event_t_data_document_start}
use Rattle.libyaml_types.specs.contracts.event.Unnamed_yaml_event_t_data_document_startPartialEq.TheImpl as document_start_eq
use Rattle.libyaml_types.specs.declared.event.unnamed_yaml_event_t_data_document_end.{unnamed_yaml_event_t_data_document_end}
use Rattle.libyaml_types.specs.contracts.event.unnamed_yaml_event_t_data_document_endPartialEq.TheImpl as document_end_eq
use Rattle.libyaml_types.specs.declared.event.unnamed_yaml_event_t_data_alias.{unnamed_yaml_event_t_data_alias}
use Rattle.libyaml_types.specs.contracts.event.Unnamed_yaml_event_t_data_aliasPartialEq.TheImpl as alias_eq
use Rattle.libyaml_types.specs.declared.event.unnamed_yaml_event_t_data_scalar.{unnamed_yaml_event_t_data_scalar}
use Rattle.libyaml_types.specs.contracts.event.Unnamed_yaml_event_t_data_scalarPartialEq.TheImpl as scalar_eq
use Rattle.libyaml_types.specs.declared.event.unnamed_yaml_event_t_data_sequence_start.{unnamed_yaml_event_t_data_sequence_start}
use Rattle.libyaml_types.specs.contracts.event.Unnamed_yaml_event_t_data_sequence_startPartialEq.TheImpl as sequence_start_eq
use Rattle.libyaml_types.specs.declared.event.unnamed_yaml_event_t_data_mapping_start.{unnamed_yaml_event_t_data_mapping_start}
use Rattle.libyaml_types.specs.contracts.event.Unnamed_yaml_event_t_data_mapping_startPartialEq.TheImpl as mapping_start_eq
use Rattle.libyaml_types.specs.declared.event.unnamed_yaml_event_t_data.{unnamed_yaml_event_t_data}
use Rattle.libyaml_types.specs.contracts.event.unnamed_yaml_event_t_data.{enum}
use Rattle.libyaml_types.specs.contracts.event.unnamed_yaml_event_t_dataPartialEq.TheImpl as content_eq
use Rattle.libyaml_types.specs.declared.event.yaml_event_t.{yaml_event_t}
use Rattle.libyaml_types.specs.contracts.event.yaml_event_tPartialEq.TheImpl as event_eq

stream_start_decides : (a b : unnamed_yaml_event_t_data_stream_start) → Decides ((stream_start_eq.ghosts).eq a b) (a ≡ b)
stream_start_decides a b
    = through (encoding_decides a.encoding b.encoding) (λ p i. record { encoding = p i }) (λ e. search)

document_start_decides : (a b : unnamed_yaml_event_t_data_document_start)
    → Decides ((document_start_eq.ghosts).eq a b) (a ≡ b)
document_start_decides a b =
    through (both (versions_decide a.version_directive b.version_directive)
    (both (directives_decide a.tag_directives b.tag_directives) (booleans_Decides a.implicit b.implicit)))
    (λ p i. record { version_directive = p.0 i; tag_directives = p.1.0 i; implicit = p.1.1 i })
    (λ e. search)

document_end_decides : (a b : unnamed_yaml_event_t_data_document_end) → Decides ((document_end_eq.ghosts).eq a b) (a ≡ b)
document_end_decides a b
    = through (booleans_Decides a.implicit b.implicit) (λ p i. record { implicit = p i }) (λ e. search)

alias_decides : (a b : unnamed_yaml_event_t_data_alias) → Decides ((alias_eq.ghosts).eq a b) (a ≡ b)
alias_decides a b = through (bytes_decides a.anchor b.anchor) (λ p i. record { anchor = p i }) (λ e. search)

scalar_decides : (a b : unnamed_yaml_event_t_data_scalar) → Decides ((scalar_eq.ghosts).eq a b) (a ≡ b)
scalar_decides a b =
    through (both (text_decides a.anchor b.anchor)
    (both (text_decides a.tag b.tag)
    (both (bytes_decides a.value b.value)
    (both (booleans_Decides a.plain_implicit b.plain_implicit)
    (both (booleans_Decides a.quoted_implicit b.quoted_implicit) (scalar_style_decides a.style b.style))))))
    (λ p i. record {
      anchor = p.0 i;
      tag = p.1.0 i;
      value = p.1.1.0 i;
      plain_implicit = p.1.1.1.0 i;
      quoted_implicit = p.1.1.1.1.0 i;
      style = p.1.1.1.1.1 i;
    })
    (λ e. search)

sequence_start_decides : (a b : unnamed_yaml_event_t_data_sequence_start)
    → Decides ((sequence_start_eq.ghosts).eq a b) (a ≡ b)
sequence_start_decides a b =
    through (both (text_decides a.anchor b.anchor)
    (both (text_decides a.tag b.tag)
    (both (booleans_Decides a.implicit b.implicit) (sequence_style_decides a.style b.style))))
    (λ p i. record { anchor = p.0 i; tag = p.1.0 i; implicit = p.1.1.0 i; style = p.1.1.1 i })
    (λ e. search)

mapping_start_decides : (a b : unnamed_yaml_event_t_data_mapping_start) → Decides ((mapping_start_eq.ghosts).eq a b) (a ≡ b)
mapping_start_decides a b =
    through (both (text_decides a.anchor b.anchor)
    (both (text_decides a.tag b.tag)
    (both (booleans_Decides a.implicit b.implicit) (mapping_style_decides a.style b.style))))
    (λ p i. record { anchor = p.0 i; tag = p.1.0 i; implicit = p.1.1.0 i; style = p.1.1.1 i })
    (λ e. search)

content_decides : (a b : unnamed_yaml_event_t_data) → Decides ((content_eq.ghosts).eq a b) (a ≡ b)
content_decides =
    enum_decides enum _ (no_field then one_field (stream_start_eq.ghosts).eq stream_start_decides then no_field then
    one_field (document_start_eq.ghosts).eq document_start_decides then
    one_field (document_end_eq.ghosts).eq document_end_decides then
    one_field (alias_eq.ghosts).eq alias_decides then one_field (scalar_eq.ghosts).eq scalar_decides then
    one_field (sequence_start_eq.ghosts).eq sequence_start_decides then no_field then
    one_field (mapping_start_eq.ghosts).eq mapping_start_decides then no_field then tt)

pub event_decides : (a b : yaml_event_t) → Decides ((event_eq.ghosts).eq a b) (a ≡ b)
event_decides a b =
    through (both (content_decides a.content b.content)
    (both (mark_decides a.start_mark b.start_mark) (mark_decides a.end_mark b.end_mark)))
    (λ p i. record { content = p.0 i; start_mark = p.1.0 i; end_mark = p.1.1 i })
    (λ e. search)
