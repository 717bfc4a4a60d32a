-- When two tokens, events or directives are equal: each of their fields is (docs/DEFINITIONS.md, "Equality").
use Rattle.std.specs.Prelude.{Bool, ◌&&◌, nat_eq}
use Rattle.std.specs.Bool.{beq}
use Rattle.std.specs.Option.{option_eq}
use Rattle.std.specs.Cmp.{IsEquivalence, and_equiv, on_equiv, bool_eq_equiv}
use Rattle.std.specs.Cmp.Lexicographic.{pointwise, lists_equiv, options_equiv, nat_list_eq_equiv}
use Rattle.libyaml_types.specs.Models.{TagDirective, TagDirectiveToken, AliasToken, AnchorToken, TagToken, ScalarToken, DocumentStart, Alias, Scalar, SequenceStart, MappingStart}
use Rattle.libyaml_types.specs.contracts.directive.yaml_version_directive_tPartialEq.TheImpl as version_eq
use Rattle.libyaml_types.specs.contracts.directive.yaml_version_directive_tEq.TheImpl.Laws as version_laws
use Rattle.libyaml_types.specs.contracts.enums.yaml_scalar_style_tPartialEq.TheImpl as scalar_style_eq
use Rattle.libyaml_types.specs.contracts.enums.yaml_scalar_style_tEq.TheImpl.Laws as scalar_style_laws
use Rattle.libyaml_types.specs.contracts.enums.yaml_sequence_style_tPartialEq.TheImpl as sequence_style_eq
use Rattle.libyaml_types.specs.contracts.enums.yaml_sequence_style_tEq.TheImpl.Laws as sequence_style_laws
use Rattle.libyaml_types.specs.contracts.enums.yaml_mapping_style_tPartialEq.TheImpl as mapping_style_eq
use Rattle.libyaml_types.specs.contracts.enums.yaml_mapping_style_tEq.TheImpl.Laws as mapping_style_laws

abbrev pub same_directive : TagDirective → TagDirective → Bool
same_directive x y = pointwise nat_eq x.handle y.handle && pointwise nat_eq x.prefix y.prefix

pub same_directive_equiv : IsEquivalence same_directive
same_directive_equiv = and_equiv (on_equiv (λ x. x.handle) nat_list_eq_equiv) (on_equiv (λ x. x.prefix) nat_list_eq_equiv)

abbrev pub same_tag_directive_token : TagDirectiveToken → TagDirectiveToken → Bool
same_tag_directive_token x y = pointwise nat_eq x.handle y.handle && pointwise nat_eq x.prefix y.prefix

pub same_tag_directive_token_equiv : IsEquivalence same_tag_directive_token
same_tag_directive_token_equiv = and_equiv (on_equiv (λ x. x.handle) nat_list_eq_equiv)
    (on_equiv (λ x. x.prefix) nat_list_eq_equiv)

abbrev pub same_alias_token : AliasToken → AliasToken → Bool
same_alias_token x y = pointwise nat_eq x.value y.value

pub same_alias_token_equiv : IsEquivalence same_alias_token
same_alias_token_equiv = on_equiv (λ x. x.value) nat_list_eq_equiv

abbrev pub same_anchor_token : AnchorToken → AnchorToken → Bool
same_anchor_token x y = pointwise nat_eq x.value y.value

pub same_anchor_token_equiv : IsEquivalence same_anchor_token
same_anchor_token_equiv = on_equiv (λ x. x.value) nat_list_eq_equiv

abbrev pub same_tag_token : TagToken → TagToken → Bool
same_tag_token x y = pointwise nat_eq x.handle y.handle && pointwise nat_eq x.suffix y.suffix

pub same_tag_token_equiv : IsEquivalence same_tag_token
same_tag_token_equiv = and_equiv (on_equiv (λ x. x.handle) nat_list_eq_equiv) (on_equiv (λ x. x.suffix) nat_list_eq_equiv)

abbrev pub same_scalar_token : ScalarToken → ScalarToken → Bool
same_scalar_token x y = pointwise nat_eq x.value y.value && (scalar_style_eq.ghosts).eq x.style y.style

pub same_scalar_token_equiv : IsEquivalence same_scalar_token
same_scalar_token_equiv = and_equiv (on_equiv (λ x. x.value) nat_list_eq_equiv)
    (on_equiv (λ x. x.style) scalar_style_laws.laws-law)

abbrev pub same_document_start : DocumentStart → DocumentStart → Bool
same_document_start x y = option_eq (version_eq.ghosts).eq x.version_directive y.version_directive
    && (pointwise same_directive x.tag_directives y.tag_directives && beq x.implicit y.implicit)

pub same_document_start_equiv : IsEquivalence same_document_start
same_document_start_equiv = and_equiv (on_equiv (λ x. x.version_directive) (options_equiv version_laws.laws-law))
    (and_equiv (on_equiv (λ x. x.tag_directives) (lists_equiv same_directive_equiv))
    (on_equiv (λ x. x.implicit) bool_eq_equiv))

abbrev pub same_alias : Alias → Alias → Bool
same_alias x y = pointwise nat_eq x.anchor y.anchor

pub same_alias_equiv : IsEquivalence same_alias
same_alias_equiv = on_equiv (λ x. x.anchor) nat_list_eq_equiv

abbrev pub same_scalar : Scalar → Scalar → Bool
same_scalar x y = option_eq (pointwise nat_eq) x.anchor y.anchor
    && (option_eq (pointwise nat_eq) x.tag y.tag
    && (pointwise nat_eq x.value y.value
    && (beq x.plain_implicit y.plain_implicit
    && (beq x.quoted_implicit y.quoted_implicit && (scalar_style_eq.ghosts).eq x.style y.style))))

pub same_scalar_equiv : IsEquivalence same_scalar
same_scalar_equiv = and_equiv (on_equiv (λ x. x.anchor) (options_equiv nat_list_eq_equiv))
    (and_equiv (on_equiv (λ x. x.tag) (options_equiv nat_list_eq_equiv))
    (and_equiv (on_equiv (λ x. x.value) nat_list_eq_equiv)
    (and_equiv (on_equiv (λ x. x.plain_implicit) bool_eq_equiv)
    (and_equiv (on_equiv (λ x. x.quoted_implicit) bool_eq_equiv)
    (on_equiv (λ x. x.style) scalar_style_laws.laws-law)))))

abbrev pub same_sequence_start : SequenceStart → SequenceStart → Bool
same_sequence_start x y = option_eq (pointwise nat_eq) x.anchor y.anchor
    && (option_eq (pointwise nat_eq) x.tag y.tag
    && (beq x.implicit y.implicit && (sequence_style_eq.ghosts).eq x.style y.style))

pub same_sequence_start_equiv : IsEquivalence same_sequence_start
same_sequence_start_equiv = and_equiv (on_equiv (λ x. x.anchor) (options_equiv nat_list_eq_equiv))
    (and_equiv (on_equiv (λ x. x.tag) (options_equiv nat_list_eq_equiv))
    (and_equiv (on_equiv (λ x. x.implicit) bool_eq_equiv) (on_equiv (λ x. x.style) sequence_style_laws.laws-law)))

abbrev pub same_mapping_start : MappingStart → MappingStart → Bool
same_mapping_start x y = option_eq (pointwise nat_eq) x.anchor y.anchor
    && (option_eq (pointwise nat_eq) x.tag y.tag
    && (beq x.implicit y.implicit && (mapping_style_eq.ghosts).eq x.style y.style))

pub same_mapping_start_equiv : IsEquivalence same_mapping_start
same_mapping_start_equiv = and_equiv (on_equiv (λ x. x.anchor) (options_equiv nat_list_eq_equiv))
    (and_equiv (on_equiv (λ x. x.tag) (options_equiv nat_list_eq_equiv))
    (and_equiv (on_equiv (λ x. x.implicit) bool_eq_equiv) (on_equiv (λ x. x.style) mapping_style_laws.laws-law)))
