use Rattle.std.proofs.Common.{◌≡◌, ℕ, List, ◌++◌, ◌+◌, ◌≤◌, length, take, codes, Some, true, refl, sym, subst, arith}
use Rattle.libyaml_types.specs.declared.enums.yaml_token_type_t.{yaml_token_type_t}
use Rattle.libyaml_types.specs.declared.enums.yaml_token_type_t.TheVariants as kinds
use Rattle.line_reading.specs.declared.token_name.NameRead.{NameRead}
use Rattle.line_reading.specs.tokens.Buffered.{IsBufferedName}
use Rattle.line_reading.specs.tokens.Prefixes.{before_byte, after_byte}
use Rattle.line_reading.specs.tokens.TokenName.{token_type_of}
use Rattle.line_reading.proofs.tokens.Buffers.{clear, buffered_name}
use Rattle.line_reading.proofs.buffered.names.read_buffered_name.Goals as goal

here : (bytes start : List ℕ) (type : yaml_token_type_t) (end : ℕ) (name : NameRead)
    → name ≡ record { type_ = type; end = end } → take (length start) bytes ≡ start → length start ≡ end + 1 → 3 ≤ end
    → clear start ≡ true
    → ((rest : List ℕ) → token_type_of (before_byte 32 (start ++ rest)) ≡ Some type)
    → ((rest : List ℕ) → after_byte 32 (start ++ rest) ≡ Some rest) → IsBufferedName bytes name
here bytes start type end name same e n long no_feed typed behind =
    subst (IsBufferedName bytes) (sym same)
    (buffered_name bytes start (record { type_ = type; end = end }) e n long no_feed typed behind)

pub returns-then-begins_with-clause-some : goal.returns-then-begins_with-clause-some
returns-then-begins_with-clause-some c some =
    here c.args.bytes.now (codes "SCALAR ") kinds.YAML_SCALAR_TOKEN 6 _ c.name_read.ensures
    (c.begins_with.ensures c.if-begins_with.true) refl (omega arith) refl (λ rest. refl) (λ rest. refl)

pub returns-then-begins_with-2-clause-some : goal.returns-then-begins_with-2-clause-some
returns-then-begins_with-2-clause-some c some =
    here c.args.bytes.now (codes "KEY ") kinds.YAML_KEY_TOKEN 3 _ c.name_read-then-begins_with-2.ensures
    (c.begins_with-2.ensures c.if-begins_with-2.true) refl (omega arith) refl (λ rest. refl) (λ rest. refl)

pub returns-then-begins_with-3-clause-some : goal.returns-then-begins_with-3-clause-some
returns-then-begins_with-3-clause-some c some =
    here c.args.bytes.now (codes "VALUE ") kinds.YAML_VALUE_TOKEN 5 _ c.name_read-then-begins_with-3.ensures
    (c.begins_with-3.ensures c.if-begins_with-3.true) refl (omega arith) refl (λ rest. refl) (λ rest. refl)

pub returns-then-begins_with-4-clause-some : goal.returns-then-begins_with-4-clause-some
returns-then-begins_with-4-clause-some c some =
    here c.args.bytes.now (codes "BLOCK-END ") kinds.YAML_BLOCK_END_TOKEN 9 _ c.name_read-then-begins_with-4.ensures
    (c.begins_with-4.ensures c.if-begins_with-4.true) refl (omega arith) refl (λ rest. refl) (λ rest. refl)

pub returns-then-begins_with-5-clause-some : goal.returns-then-begins_with-5-clause-some
returns-then-begins_with-5-clause-some c some =
    here c.args.bytes.now (codes "BLOCK-MAPPING-START ") kinds.YAML_BLOCK_MAPPING_START_TOKEN 19 _ c.name_read-then-begins_with-5.ensures
    (c.begins_with-5.ensures c.if-begins_with-5.true) refl (omega arith) refl (λ rest. refl) (λ rest. refl)

pub returns-then-begins_with-6-clause-some : goal.returns-then-begins_with-6-clause-some
returns-then-begins_with-6-clause-some c some =
    here c.args.bytes.now (codes "BLOCK-ENTRY ") kinds.YAML_BLOCK_ENTRY_TOKEN 11 _ c.name_read-then-begins_with-6.ensures
    (c.begins_with-6.ensures c.if-begins_with-6.true) refl (omega arith) refl (λ rest. refl) (λ rest. refl)

pub returns-then-begins_with-7-clause-some : goal.returns-then-begins_with-7-clause-some
returns-then-begins_with-7-clause-some c some =
    here c.args.bytes.now (codes "FLOW-ENTRY ") kinds.YAML_FLOW_ENTRY_TOKEN 10 _ c.name_read-then-begins_with-7.ensures
    (c.begins_with-7.ensures c.if-begins_with-7.true) refl (omega arith) refl (λ rest. refl) (λ rest. refl)

pub returns-then-begins_with-8-clause-some : goal.returns-then-begins_with-8-clause-some
returns-then-begins_with-8-clause-some c some =
    here c.args.bytes.now (codes "BLOCK-SEQUENCE-START ") kinds.YAML_BLOCK_SEQUENCE_START_TOKEN 20 _ c.name_read-then-begins_with-8.ensures
    (c.begins_with-8.ensures c.if-begins_with-8.true) refl (omega arith) refl (λ rest. refl) (λ rest. refl)

pub returns-then-begins_with-9-clause-some : goal.returns-then-begins_with-9-clause-some
returns-then-begins_with-9-clause-some c some =
    here c.args.bytes.now (codes "FLOW-SEQUENCE-START ") kinds.YAML_FLOW_SEQUENCE_START_TOKEN 19 _ c.name_read-then-begins_with-9.ensures
    (c.begins_with-9.ensures c.if-begins_with-9.true) refl (omega arith) refl (λ rest. refl) (λ rest. refl)

pub returns-then-begins_with-10-clause-some : goal.returns-then-begins_with-10-clause-some
returns-then-begins_with-10-clause-some c some =
    here c.args.bytes.now (codes "FLOW-SEQUENCE-END ") kinds.YAML_FLOW_SEQUENCE_END_TOKEN 17 _ c.name_read-then-begins_with-10.ensures
    (c.begins_with-10.ensures c.if-begins_with-10.true) refl (omega arith) refl (λ rest. refl) (λ rest. refl)

pub returns-then-begins_with-11-clause-some : goal.returns-then-begins_with-11-clause-some
returns-then-begins_with-11-clause-some c some =
    here c.args.bytes.now (codes "FLOW-MAPPING-START ") kinds.YAML_FLOW_MAPPING_START_TOKEN 18 _ c.name_read-then-begins_with-11.ensures
    (c.begins_with-11.ensures c.if-begins_with-11.true) refl (omega arith) refl (λ rest. refl) (λ rest. refl)

pub returns-then-begins_with-12-clause-some : goal.returns-then-begins_with-12-clause-some
returns-then-begins_with-12-clause-some c some =
    here c.args.bytes.now (codes "FLOW-MAPPING-END ") kinds.YAML_FLOW_MAPPING_END_TOKEN 16 _ c.name_read-then-begins_with-12.ensures
    (c.begins_with-12.ensures c.if-begins_with-12.true) refl (omega arith) refl (λ rest. refl) (λ rest. refl)

pub returns-then-begins_with-13-clause-some : goal.returns-then-begins_with-13-clause-some
returns-then-begins_with-13-clause-some c some =
    here c.args.bytes.now (codes "DOCUMENT-START ") kinds.YAML_DOCUMENT_START_TOKEN 14 _ c.name_read-then-begins_with-13.ensures
    (c.begins_with-13.ensures c.if-begins_with-13.true) refl (omega arith) refl (λ rest. refl) (λ rest. refl)

pub returns-then-begins_with-14-clause-some : goal.returns-then-begins_with-14-clause-some
returns-then-begins_with-14-clause-some c some =
    here c.args.bytes.now (codes "DOCUMENT-END ") kinds.YAML_DOCUMENT_END_TOKEN 12 _ c.name_read-then-begins_with-14.ensures
    (c.begins_with-14.ensures c.if-begins_with-14.true) refl (omega arith) refl (λ rest. refl) (λ rest. refl)

pub returns-then-begins_with-15-clause-some : goal.returns-then-begins_with-15-clause-some
returns-then-begins_with-15-clause-some c some =
    here c.args.bytes.now (codes "TAG ") kinds.YAML_TAG_TOKEN 3 _ c.name_read-then-begins_with-15.ensures
    (c.begins_with-15.ensures c.if-begins_with-15.true) refl (omega arith) refl (λ rest. refl) (λ rest. refl)

pub returns-then-begins_with-16-clause-some : goal.returns-then-begins_with-16-clause-some
returns-then-begins_with-16-clause-some c some =
    here c.args.bytes.now (codes "ANCHOR ") kinds.YAML_ANCHOR_TOKEN 6 _ c.name_read-then-begins_with-16.ensures
    (c.begins_with-16.ensures c.if-begins_with-16.true) refl (omega arith) refl (λ rest. refl) (λ rest. refl)

pub returns-then-begins_with-17-clause-some : goal.returns-then-begins_with-17-clause-some
returns-then-begins_with-17-clause-some c some =
    here c.args.bytes.now (codes "ALIAS ") kinds.YAML_ALIAS_TOKEN 5 _ c.name_read-then-begins_with-17.ensures
    (c.begins_with-17.ensures c.if-begins_with-17.true) refl (omega arith) refl (λ rest. refl) (λ rest. refl)
