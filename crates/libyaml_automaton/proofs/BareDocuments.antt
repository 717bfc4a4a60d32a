-- Which implicit documents libyaml refuses.
use Rattle.std.proofs.Common.{◌≡◌, Bool, true, false, refl}
use Rattle.libyaml_types.specs.declared.enums.yaml_token_type_t.{yaml_token_type_t}
use Rattle.libyaml_types.specs.declared.enums.yaml_token_type_t.TheVariants as kinds
use Rattle.libyaml_automaton.specs.Differing.{differs_before_document}
use Rattle.libyaml_automaton.specs.declared.difference.Difference.TheVariants.{Nowhere, BareDocument}

pub same_stream_end : (b : Bool) → differs_before_document b kinds.YAML_STREAM_END_TOKEN ≡ Nowhere
same_stream_end false = refl
same_stream_end true = refl

pub same_version : (b : Bool) → differs_before_document b kinds.YAML_VERSION_DIRECTIVE_TOKEN ≡ Nowhere
same_version false = refl
same_version true = refl

pub same_tag : (b : Bool) → differs_before_document b kinds.YAML_TAG_DIRECTIVE_TOKEN ≡ Nowhere
same_tag false = refl
same_tag true = refl

pub same_start : (b : Bool) → differs_before_document b kinds.YAML_DOCUMENT_START_TOKEN ≡ Nowhere
same_start false = refl
same_start true = refl

pub same_end : (b : Bool) → differs_before_document b kinds.YAML_DOCUMENT_END_TOKEN ≡ Nowhere
same_end false = refl
same_end true = refl

pub bare : (k : yaml_token_type_t) → (k ≡ kinds.YAML_STREAM_END_TOKEN → ⊥) → (k ≡ kinds.YAML_VERSION_DIRECTIVE_TOKEN → ⊥)
    → (k ≡ kinds.YAML_TAG_DIRECTIVE_TOKEN → ⊥) → (k ≡ kinds.YAML_DOCUMENT_START_TOKEN → ⊥)
    → (k ≡ kinds.YAML_DOCUMENT_END_TOKEN → ⊥) → differs_before_document true k ≡ BareDocument
bare kinds.YAML_STREAM_END_TOKEN a b c d e = absurd (a refl)
bare kinds.YAML_VERSION_DIRECTIVE_TOKEN a b c d e = absurd (b refl)
bare kinds.YAML_TAG_DIRECTIVE_TOKEN a b c d e = absurd (c refl)
bare kinds.YAML_DOCUMENT_START_TOKEN a b c d e = absurd (d refl)
bare kinds.YAML_DOCUMENT_END_TOKEN a b c d e = absurd (e refl)
bare _ a b c d e = refl

pub ruleset bare_documents = (same_stream_end, same_version, same_tag, same_start, same_end, bare)
