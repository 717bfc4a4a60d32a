-- The comparisons of the fields of tokens, events and nodes decide whether two values are one.
use Rattle.std.proofs.Common.{◌≡◌, ℕ, ℤ, List, Option, Some, None, Bool, refl, sym, ap, nat_eq}
use Rattle.std.specs.Bool.{Decides}
use Rattle.std.specs.Option.{option_eq}
use Rattle.std.specs.Cmp.{unsigned_Decides, signed_Decides}
use Rattle.std.specs.Cmp.Lexicographic.{pointwise, pointwise_decides, bytes_decides}
use mathlib.Core.Bool.{true≢false}
use denote.Enum.Bare.{sameb, same_true, true_same}
use Rattle.libyaml_documents.proofs.Choices.{both, through}
use Rattle.libyaml_documents.specs.declared.pairs.yaml_node_pair_t.{yaml_node_pair_t}
use Rattle.libyaml_documents.specs.contracts.pairs.yaml_node_pair_tPartialEq.TheImpl as pair_eq
use Rattle.std.specs.Ordering.{int_eq}
use Rattle.libyaml_types.specs.declared.enums.yaml_encoding_t.{yaml_encoding_t}
use Rattle.libyaml_types.specs.contracts.enums.yaml_encoding_t as encoding
use Rattle.libyaml_types.specs.declared.enums.yaml_scalar_style_t.{yaml_scalar_style_t}
use Rattle.libyaml_types.specs.contracts.enums.yaml_scalar_style_t as scalar_style
use Rattle.libyaml_types.specs.declared.enums.yaml_sequence_style_t.{yaml_sequence_style_t}
use Rattle.libyaml_types.specs.contracts.enums.yaml_sequence_style_t as sequence_style
use Rattle.libyaml_types.specs.declared.enums.yaml_mapping_style_t.{yaml_mapping_style_t}
use Rattle.libyaml_types.specs.contracts.enums.yaml_mapping_style_t as mapping_style
use Rattle.libyaml_types.specs.declared.directive.yaml_tag_directive_t.{yaml_tag_directive_t}
use Rattle.libyaml_types.specs.declared.directive.yaml_version_directive_t.{yaml_version_directive_t}
use Rattle.libyaml_types.specs.declared.mark.yaml_mark_t.{yaml_mark_t}
use Rattle.libyaml_types.specs.contracts.directive.yaml_version_directive_tPartialEq.TheImpl as version_eq
use Rattle.libyaml_types.specs.contracts.directive.Yaml_tag_directive_tPartialEq.TheImpl as directive_eq
use Rattle.libyaml_types.specs.contracts.mark.yaml_mark_tPartialEq.TheImpl as mark_eq

pub option_decides : {A : Type 0} (E : A → A → Bool) → ((x y : A) → Decides (E x y) (x ≡ y)) → (a b : Option A)
    → Decides (option_eq E a b) (a ≡ b)
option_decides E decides None None = (λ e. refl, λ e. refl)
option_decides E decides None (Some y) = (λ e. absurd (true≢false (sym e)), λ e. cc)
option_decides E decides (Some x) None = (λ e. absurd (true≢false (sym e)), λ e. cc)
option_decides E decides (Some x) (Some y) = through (decides x y) (λ e. ap Some e) (λ e. cc)

pub text_decides : (a b : Option (List ℕ)) → Decides (option_eq (pointwise nat_eq) a b) (a ≡ b)
text_decides = option_decides (pointwise nat_eq) bytes_decides

pub encoding_decides : (a b : yaml_encoding_t) → Decides (sameb encoding.the_type a b) (a ≡ b)
encoding_decides a b = (same_true encoding.the_type tt a b, true_same encoding.the_type a b)

pub scalar_style_decides : (a b : yaml_scalar_style_t) → Decides (sameb scalar_style.the_type a b) (a ≡ b)
scalar_style_decides a b = (same_true scalar_style.the_type tt a b, true_same scalar_style.the_type a b)

pub sequence_style_decides : (a b : yaml_sequence_style_t) → Decides (sameb sequence_style.the_type a b) (a ≡ b)
sequence_style_decides a b = (same_true sequence_style.the_type tt a b, true_same sequence_style.the_type a b)

pub mapping_style_decides : (a b : yaml_mapping_style_t) → Decides (sameb mapping_style.the_type a b) (a ≡ b)
mapping_style_decides a b = (same_true mapping_style.the_type tt a b, true_same mapping_style.the_type a b)

pub mark_decides : (a b : yaml_mark_t) → Decides ((mark_eq.ghosts).eq a b) (a ≡ b)
mark_decides a b =
    through (both (unsigned_Decides a.index b.index)
    (both (unsigned_Decides a.line b.line) (unsigned_Decides a.column b.column)))
    (λ p i. record { index = p.0 i; line = p.1.0 i; column = p.1.1 i })
    (λ e. search)

pub version_decides : (a b : yaml_version_directive_t) → Decides ((version_eq.ghosts).eq a b) (a ≡ b)
version_decides a b =
    through (both (signed_Decides a.major b.major) (signed_Decides a.minor b.minor))
    (λ p i. record { major = p.0 i; minor = p.1 i })
    (λ e. search)

directive_decides : (a b : yaml_tag_directive_t) → Decides ((directive_eq.ghosts).eq a b) (a ≡ b)
directive_decides a b =
    through (both (bytes_decides a.handle b.handle) (bytes_decides a.prefix b.prefix))
    (λ p i. record { handle = p.0 i; prefix = p.1 i })
    (λ e. search)

pub versions_decide : (a b : Option yaml_version_directive_t) → Decides (option_eq ((version_eq.ghosts).eq) a b) (a ≡ b)
versions_decide = option_decides ((version_eq.ghosts).eq) version_decides

pub directives_decide : (a b : List yaml_tag_directive_t) → Decides (pointwise (directive_eq.ghosts).eq a b) (a ≡ b)
directives_decide = pointwise_decides directive_decides

-- the children of nodes
pub items_decide : (a b : List ℤ) → Decides (pointwise int_eq a b) (a ≡ b)
items_decide = pointwise_decides signed_Decides

pair_decides : (a b : yaml_node_pair_t) → Decides ((pair_eq.ghosts).eq a b) (a ≡ b)
pair_decides a b =
    through (both (signed_Decides a.key b.key) (signed_Decides a.value b.value))
    (λ p i. record { key = p.0 i; value = p.1 i })
    (λ e. search)

pub pairs_decide : (a b : List yaml_node_pair_t) → Decides (pointwise (pair_eq.ghosts).eq a b) (a ≡ b)
pairs_decide = pointwise_decides pair_decides
