-- The comparison of tokens decides whether two are one.
use Rattle.std.proofs.Common.{◌≡◌}
use Rattle.std.specs.Bool.{Decides}
use Rattle.std.specs.Cmp.{signed_Decides}
use Rattle.std.specs.Cmp.Lexicographic.{bytes_decides}
use Rattle.libyaml_documents.proofs.Choices.{both, through, no_field, one_field, enum_decides, ◌then◌}
use Rattle.libyaml_documents.proofs.Fields.{mark_decides, encoding_decides, scalar_style_decides}
use Rattle.libyaml_types.specs.declared.token.unnamed_yaml_token_t_data_stream_start.{unnamed_yaml_token_t_data_stream_start}
use Rattle.libyaml_types.specs.contracts.token.unnamed_yaml_token_t_data_stream_startPartialEq.TheImpl as stream_start_eq
use Rattle.libyaml_types.specs.declared.token.unnamed_yaml_token_t_data_version_directive.{unnamed_yaml_token_t_data_version_directive}
use Rattle.libyaml_types.specs.contracts.token.unnamed_yaml_token_t_data_version_directivePartialEq.TheImpl as version_directive_eq
use Rattle.libyaml_types.specs.declared.token.unnamed_yaml_token_t_data_tag_directive.{unnamed_yaml_token_t_data_tag_directive}
use Rattle.libyaml_types.specs.contracts.token.Unnamed_yaml_token_t_data_tag_directivePartialEq.TheImpl as tag_directive_eq
use Rattle.libyaml_types.specs.declared.token.unnamed_yaml_token_t_data_alias.{unnamed_yaml_token_t_data_alias}
use Rattle.libyaml_types.specs.contracts.token.Unnamed_yaml_token_t_data_aliasPartialEq.TheImpl as alias_eq
use Rattle.libyaml_types.specs.declared.token.unnamed_yaml_token_t_data_anchor.{unnamed_yaml_token_t_data_anchor}
use Rattle.libyaml_types.specs.contracts.token.Unnamed_yaml_token_t_data_anchorPartialEq.TheImpl as anchor_eq
use Rattle.libyaml_types.specs.declared.token.unnamed_yaml_token_t_data_tag.{unnamed_yaml_token_t_data_tag}
use Rattle.libyaml_types.specs.contracts.token.Unnamed_yaml_token_t_data_tagPartialEq.TheImpl as tag_eq
use Rattle.libyaml_types.specs.declared.token.unnamed_yaml_token_t_data_scalar.{unnamed_yaml_token_t_data_scalar}
use Rattle.libyaml_types.specs.contracts.token.Unnamed_yaml_token_t_data_scalarPartialEq.TheImpl as scalar_eq
use Rattle.libyaml_types.specs.declared.token.unnamed_yaml_token_t_data.{unnamed_yaml_token_t_data}
use Rattle.libyaml_types.specs.contracts.token.unnamed_yaml_token_t_data.{enum}
use Rattle.libyaml_types.specs.contracts.token.unnamed_yaml_token_t_dataPartialEq.TheImpl as content_eq
use Rattle.libyaml_types.specs.declared.token.yaml_token_t.{yaml_token_t}
use Rattle.libyaml_types.specs.contracts.token.yaml_token_tPartialEq.TheImpl as token_eq

stream_start_decides : (a b : unnamed_yaml_token_t_data_stream_start) → Decides ((stream_start_eq.ghosts).eq a b) (a ≡ b)
stream_start_decides a b
    = through (encoding_decides a.encoding b.encoding) (λ p i. record { encoding = p i }) (λ e. search)

version_directive_decides : (a b : unnamed_yaml_token_t_data_version_directive)
    → Decides ((version_directive_eq.ghosts).eq a b) (a ≡ b)
version_directive_decides a b =
    through (both (signed_Decides a.major b.major) (signed_Decides a.minor b.minor))
    (λ p i. record { major = p.0 i; minor = p.1 i })
    (λ e. search)

tag_directive_decides : (a b : unnamed_yaml_token_t_data_tag_directive) → Decides ((tag_directive_eq.ghosts).eq a b) (a ≡ b)
tag_directive_decides a b =
    through (both (bytes_decides a.handle b.handle) (bytes_decides a.prefix b.prefix))
    (λ p i. record { handle = p.0 i; prefix = p.1 i })
    (λ e. search)

alias_decides : (a b : unnamed_yaml_token_t_data_alias) → Decides ((alias_eq.ghosts).eq a b) (a ≡ b)
alias_decides a b = through (bytes_decides a.value b.value) (λ p i. record { value = p i }) (λ e. search)

anchor_decides : (a b : unnamed_yaml_token_t_data_anchor) → Decides ((anchor_eq.ghosts).eq a b) (a ≡ b)
anchor_decides a b = through (bytes_decides a.value b.value) (λ p i. record { value = p i }) (λ e. search)

tag_decides : (a b : unnamed_yaml_token_t_data_tag) → Decides ((tag_eq.ghosts).eq a b) (a ≡ b)
tag_decides a b =
    through (both (bytes_decides a.handle b.handle) (bytes_decides a.suffix b.suffix))
    (λ p i. record { handle = p.0 i; suffix = p.1 i })
    (λ e. search)

scalar_decides : (a b : unnamed_yaml_token_t_data_scalar) → Decides ((scalar_eq.ghosts).eq a b) (a ≡ b)
scalar_decides a b =
    through (both (bytes_decides a.value b.value) (scalar_style_decides a.style b.style))
    (λ p i. record { value = p.0 i; style = p.1 i })
    (λ e. search)

content_decides : (a b : unnamed_yaml_token_t_data) → Decides ((content_eq.ghosts).eq a b) (a ≡ b)
content_decides =
    enum_decides enum _ (no_field then one_field (stream_start_eq.ghosts).eq stream_start_decides then no_field then
    one_field (version_directive_eq.ghosts).eq version_directive_decides then
    one_field (tag_directive_eq.ghosts).eq tag_directive_decides then no_field then no_field then
    no_field then no_field then no_field then no_field then no_field then no_field then no_field then
    no_field then no_field then no_field then no_field then
    one_field (alias_eq.ghosts).eq alias_decides then one_field (anchor_eq.ghosts).eq anchor_decides then
    one_field (tag_eq.ghosts).eq tag_decides then one_field (scalar_eq.ghosts).eq scalar_decides then tt)

pub token_decides : (a b : yaml_token_t) → Decides ((token_eq.ghosts).eq a b) (a ≡ b)
token_decides a b =
    through (both (content_decides a.content b.content)
    (both (mark_decides a.start_mark b.start_mark) (mark_decides a.end_mark b.end_mark)))
    (λ p i. record { content = p.0 i; start_mark = p.1.0 i; end_mark = p.1.1 i })
    (λ e. search)
