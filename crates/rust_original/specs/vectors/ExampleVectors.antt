-- Test vectors of the lists in examples (`list`, `compose` and `fault`, with .tokens, .events and .nodes), line by line of
-- their texts, in the notation of Notation.
use Rattle.std.specs.Prelude.{◌≡◌, ◌∷◌, ◌++◌, List, [], None, Some, true, codes, take, Err}
use Rattle.libyaml_types.specs.declared.event.unnamed_yaml_event_t_data.TheVariants as ev
use Rattle.libyaml_types.specs.declared.token.unnamed_yaml_token_t_data.TheVariants.{BlockEnd, BlockEntry, BlockMappingStart, BlockSequenceStart, FlowEntry, FlowMappingEnd, FlowMappingStart, FlowSequenceEnd, FlowSequenceStart, Key, StreamEnd, Value}
use Rattle.libyaml_documents.specs.declared.node.yaml_node_t.{yaml_node_t}
use Rattle.libyaml_grammar.specs.vectors.VectorNotation.{ALIAS, ANCHOR, SCALAR, STREAM, STYLED, alias, bare_document, flow_mapping, flow_sequence, mapping, mapping_of, no_document_end, no_more, nothing, sequence, stream, text}
use Rattle.libyaml_grammar.specs.grammar.Events.{Event}
use Rattle.libyaml_grammar.specs.grammar.Tokens.{Token}
use Rattle.libyaml_graphs.specs.vectors.LoadVectors.{no_root, pair}
use Rattle.rust_original.specs.loader.LoadsThere.{LoadsThere}
use Rattle.rust_original.specs.vectors.Notation.{alike, block_map, block_seq, double, e, e_to, ends, fails, flow_map, flow_seq, folded, line, line_of, literal, mark, n, n_to, no_separator, parse, plain, single, str, styled, t, t_to, whole_load}

abbrev pub list_tokens : List Token
list_tokens =
    line 0 0 (t 0 0 STREAM ∷ []) ++
    line 1 21 (t 0 0 BlockSequenceStart ∷ t 0 1 BlockEntry ∷
    t 2 31 (SCALAR (codes "https://eu.example.org/debian")) ∷ []) ++
    line 2 53 (t 0 1 BlockEntry ∷ t 2 33 (STYLED double (codes "https://us.example.org/debian")) ∷ []) ++
    line 3 87 (t 0 1 BlockEntry ∷ []) ++
    line 4 89 (t 0 1 BlockEntry ∷ t 2 2 BlockSequenceStart ∷ t 2 3 BlockEntry ∷ t 4 7 (SCALAR (codes "cdn")) ∷ []) ++
    line 5 97 (t 2 3 BlockEntry ∷ t 4 36 (STYLED single (codes "https://cdn.example.org/debian")) ∷ []) ++
    line 6 134 (t 2 3 BlockEntry ∷ []) ++
    line 7 138 (t 4 4 BlockSequenceStart ∷ t 4 5 BlockEntry ∷
    t_to 6 (mark 170 10 0) (STYLED folded (line_of (codes "folded text"))) ∷ []) ++
    line 10 170 (t 0 0 BlockEnd ∷ t 0 0 BlockEnd ∷ t 0 1 BlockEntry ∷
    t_to 2 (mark 184 12 0) (STYLED literal (line_of (codes "literal"))) ∷ []) ++
    line 12 184 (t 0 0 BlockEnd ∷ t 0 0 StreamEnd ∷ [])

abbrev pub list_events : List Event
list_events =
    line 0 0 (e 0 0 stream ∷ []) ++
    line 1 21 (e 0 0 bare_document ∷ e 0 0 sequence ∷ e 2 31 (text (codes "https://eu.example.org/debian")) ∷ []) ++
    line 2 53 (e 2 33 (styled double (codes "https://us.example.org/debian")) ∷ []) ++
    line 3 87 (e 1 1 nothing ∷ []) ++
    line 4 89 (e 2 2 sequence ∷ e 4 7 (text (codes "cdn")) ∷ []) ++
    line 5 97 (e 4 36 (styled single (codes "https://cdn.example.org/debian")) ∷ []) ++
    line 7 138 (e 4 4 sequence ∷ e_to 6 (mark 170 10 0) (styled folded (line_of (codes "folded text"))) ∷ []) ++
    line 10 170 (e 0 0 ev.SequenceEnd ∷ e 0 0 ev.SequenceEnd ∷
    e_to 2 (mark 184 12 0) (styled literal (line_of (codes "literal"))) ∷ []) ++
    line 12 184 (e 0 0 ev.SequenceEnd ∷ e 0 0 no_document_end ∷ e 0 0 ev.StreamEnd ∷ [])

abbrev pub list_nodes : List yaml_node_t
list_nodes =
    line 1 21 (n_to 0 (mark 184 12 0) (block_seq (2 ∷ 3 ∷ 4 ∷ 5 ∷ 10 ∷ [])) ∷
    n 2 31 (str plain (codes "https://eu.example.org/debian")) ∷ []) ++
    line 2 53 (n 2 33 (str double (codes "https://us.example.org/debian")) ∷ []) ++
    line 3 87 (n 1 1 (str plain []) ∷ []) ++
    line 4 89 (n_to 2 (mark 170 10 0) (block_seq (6 ∷ 7 ∷ 8 ∷ [])) ∷ n 4 7 (str plain (codes "cdn")) ∷ []) ++
    line 5 97 (n 4 36 (str single (codes "https://cdn.example.org/debian")) ∷ []) ++
    line 7 138 (n_to 4 (mark 170 10 0) (block_seq (9 ∷ [])) ∷
    n_to 6 (mark 170 10 0) (str folded (line_of (codes "folded text"))) ∷ []) ++
    line 10 170 (n_to 2 (mark 184 12 0) (str literal (line_of (codes "literal"))) ∷ [])

abbrev pub compose_tokens : List Token
compose_tokens =
    line 0 0 (t 0 0 STREAM ∷ []) ++
    line 1 17 (t 0 0 BlockMappingStart ∷ t 0 0 Key ∷ t 0 7 (SCALAR (codes "version")) ∷ t 7 8 Value ∷
    t 9 14 (STYLED double (codes "3.9")) ∷ []) ++
    line 2 32 (t 0 0 Key ∷ t 0 9 (SCALAR (codes "x-logging")) ∷ t 9 10 Value ∷
    t 11 19 (ANCHOR (codes "logging")) ∷ []) ++
    line 3 52 (t 2 2 BlockMappingStart ∷ t 2 2 Key ∷ t 2 8 (SCALAR (codes "driver")) ∷ t 8 9 Value ∷
    t 10 19 (SCALAR (codes "json-file")) ∷ []) ++
    line 4 72 (t 2 2 Key ∷ t 2 9 (SCALAR (codes "options")) ∷ t 9 10 Value ∷ t 11 12 FlowMappingStart ∷ t 13 13 Key ∷
    t 13 21 (SCALAR (codes "max-size")) ∷ t 21 22 Value ∷ t 23 28 (STYLED double (codes "10m")) ∷
    t 28 29 FlowEntry ∷ t 30 30 Key ∷ t 30 38 (SCALAR (codes "max-file")) ∷ t 38 39 Value ∷
    t 40 43 (STYLED double (codes "3")) ∷ t 44 45 FlowMappingEnd ∷ []) ++
    line 5 118 (t 0 0 BlockEnd ∷ t 0 0 Key ∷ t 0 8 (SCALAR (codes "services")) ∷ t 8 9 Value ∷ []) ++
    line 6 128 (t 2 2 BlockMappingStart ∷ t 2 2 Key ∷ t 2 5 (SCALAR (codes "web")) ∷ t 5 6 Value ∷ []) ++
    line 7 135 (t 4 4 BlockMappingStart ∷ t 4 4 Key ∷ t 4 9 (SCALAR (codes "image")) ∷ t 9 10 Value ∷
    t 11 21 (SCALAR (codes "nginx:1.25")) ∷ []) ++
    line 8 157 (t 4 4 Key ∷ t 4 11 (SCALAR (codes "logging")) ∷ t 11 12 Value ∷
    t 13 21 (ALIAS (codes "logging")) ∷ []) ++
    line 9 179 (t 4 4 Key ∷ t 4 9 (SCALAR (codes "ports")) ∷ t 9 10 Value ∷ []) ++
    line 10 190 (t 4 5 BlockEntry ∷ t 6 15 (STYLED double (codes "8080:80")) ∷ []) ++
    line 11 206 (t 4 5 BlockEntry ∷ t 6 16 (STYLED double (codes "8443:443")) ∷ []) ++
    line 12 223 (t 4 4 Key ∷ t 4 15 (SCALAR (codes "environment")) ∷ t 15 16 Value ∷ []) ++
    line 13 240 (t 6 6 BlockSequenceStart ∷ t 6 7 BlockEntry ∷ t 8 17 (SCALAR (codes "KEY=value")) ∷ []) ++
    line 14 258 (t 6 7 BlockEntry ∷ t 8 14 (SCALAR (codes "EMPTY=")) ∷ []) ++
    line 15 273 (t 4 4 BlockEnd ∷ t 4 4 Key ∷ t 4 15 (SCALAR (codes "healthcheck")) ∷ t 15 16 Value ∷ []) ++
    line 16 290 (t 6 6 BlockMappingStart ∷ t 6 6 Key ∷ t 6 10 (SCALAR (codes "test")) ∷ t 10 11 Value ∷
    t 12 13 FlowSequenceStart ∷ t 13 18 (STYLED double (codes "CMD")) ∷ t 18 19 FlowEntry ∷
    t 20 26 (STYLED double (codes "curl")) ∷ t 26 27 FlowEntry ∷ t 28 32 (STYLED double (codes "-f")) ∷
    t 32 33 FlowEntry ∷ t 34 52 (STYLED double (codes "http://localhost")) ∷ t 52 53 FlowSequenceEnd ∷ []) ++
    line 17 344 (t 6 6 Key ∷ t 6 14 (SCALAR (codes "interval")) ∷ t 14 15 Value ∷ t 16 19 (SCALAR (codes "30s")) ∷ []) ++
    line 18 364 (t 2 2 BlockEnd ∷ t 2 2 BlockEnd ∷ t 2 2 Key ∷ t 2 4 (SCALAR (codes "db")) ∷ t 4 5 Value ∷ []) ++
    line 19 370 (t 4 4 BlockMappingStart ∷ t 4 4 Key ∷ t 4 9 (SCALAR (codes "image")) ∷ t 9 10 Value ∷
    t 11 22 (SCALAR (codes "postgres:15")) ∷ []) ++
    line 20 393 (t 4 4 Key ∷ t 4 11 (SCALAR (codes "logging")) ∷ t 11 12 Value ∷
    t 13 21 (ALIAS (codes "logging")) ∷ []) ++
    line 21 415 (t 4 4 Key ∷ t 4 11 (SCALAR (codes "volumes")) ∷ t 11 12 Value ∷ []) ++
    line 22 428 (t 6 6 BlockSequenceStart ∷ t 6 7 BlockEntry ∷ t 8 8 BlockMappingStart ∷ t 8 8 Key ∷
    t 8 12 (SCALAR (codes "type")) ∷ t 12 13 Value ∷ t 14 20 (SCALAR (codes "volume")) ∷ []) ++
    line 23 449 (t 8 8 Key ∷ t 8 14 (SCALAR (codes "source")) ∷ t 14 15 Value ∷ t 16 20 (SCALAR (codes "data")) ∷ []) ++
    line 24 470 (t 8 8 Key ∷ t 8 14 (SCALAR (codes "target")) ∷ t 14 15 Value ∷
    t 16 40 (SCALAR (codes "/var/lib/postgresql/data")) ∷ []) ++
    line 25 511 (t 0 0 BlockEnd ∷ t 0 0 BlockEnd ∷ t 0 0 BlockEnd ∷ t 0 0 BlockEnd ∷ t 0 0 Key ∷
    t 0 7 (SCALAR (codes "volumes")) ∷ t 7 8 Value ∷ []) ++
    line 26 520 (t 2 2 BlockMappingStart ∷ t 2 2 Key ∷ t 2 6 (SCALAR (codes "data")) ∷ t 6 7 Value ∷ []) ++
    line 27 528 (t 0 0 BlockEnd ∷ t 0 0 BlockEnd ∷ t 0 0 StreamEnd ∷ [])

abbrev pub compose_events : List Event
compose_events =
    line 0 0 (e 0 0 stream ∷ []) ++
    line 1 17 (e 0 0 bare_document ∷ e 0 0 mapping ∷ e 0 7 (text (codes "version")) ∷
    e 9 14 (styled double (codes "3.9")) ∷ []) ++
    line 2 32 (e 0 9 (text (codes "x-logging")) ∷
    e_to 11 (mark 54 3 2) (mapping_of (Some (codes "logging")) None true) ∷ []) ++
    line 3 52 (e 2 8 (text (codes "driver")) ∷ e 10 19 (text (codes "json-file")) ∷ []) ++
    line 4 72 (e 2 9 (text (codes "options")) ∷ e 11 12 flow_mapping ∷ e 13 21 (text (codes "max-size")) ∷
    e 23 28 (styled double (codes "10m")) ∷ e 30 38 (text (codes "max-file")) ∷
    e 40 43 (styled double (codes "3")) ∷ e 44 45 ev.MappingEnd ∷ []) ++
    line 5 118 (e 0 0 ev.MappingEnd ∷ e 0 8 (text (codes "services")) ∷ []) ++
    line 6 128 (e 2 2 mapping ∷ e 2 5 (text (codes "web")) ∷ []) ++
    line 7 135 (e 4 4 mapping ∷ e 4 9 (text (codes "image")) ∷ e 11 21 (text (codes "nginx:1.25")) ∷ []) ++
    line 8 157 (e 4 11 (text (codes "logging")) ∷ e 13 21 (alias (codes "logging")) ∷ []) ++
    line 9 179 (e 4 9 (text (codes "ports")) ∷ []) ++
    line 10 190 (e 4 5 sequence ∷ e 6 15 (styled double (codes "8080:80")) ∷ []) ++
    line 11 206 (e 6 16 (styled double (codes "8443:443")) ∷ []) ++
    line 12 223 (e 4 4 ev.SequenceEnd ∷ e 4 15 (text (codes "environment")) ∷ []) ++
    line 13 240 (e 6 6 sequence ∷ e 8 17 (text (codes "KEY=value")) ∷ []) ++
    line 14 258 (e 8 14 (text (codes "EMPTY=")) ∷ []) ++
    line 15 273 (e 4 4 ev.SequenceEnd ∷ e 4 15 (text (codes "healthcheck")) ∷ []) ++
    line 16 290 (e 6 6 mapping ∷ e 6 10 (text (codes "test")) ∷ e 12 13 flow_sequence ∷
    e 13 18 (styled double (codes "CMD")) ∷ e 20 26 (styled double (codes "curl")) ∷
    e 28 32 (styled double (codes "-f")) ∷ e 34 52 (styled double (codes "http://localhost")) ∷
    e 52 53 ev.SequenceEnd ∷ []) ++
    line 17 344 (e 6 14 (text (codes "interval")) ∷ e 16 19 (text (codes "30s")) ∷ []) ++
    line 18 364 (e 2 2 ev.MappingEnd ∷ e 2 2 ev.MappingEnd ∷ e 2 4 (text (codes "db")) ∷ []) ++
    line 19 370 (e 4 4 mapping ∷ e 4 9 (text (codes "image")) ∷ e 11 22 (text (codes "postgres:15")) ∷ []) ++
    line 20 393 (e 4 11 (text (codes "logging")) ∷ e 13 21 (alias (codes "logging")) ∷ []) ++
    line 21 415 (e 4 11 (text (codes "volumes")) ∷ []) ++
    line 22 428 (e 6 6 sequence ∷ e 8 8 mapping ∷ e 8 12 (text (codes "type")) ∷ e 14 20 (text (codes "volume")) ∷ []) ++
    line 23 449 (e 8 14 (text (codes "source")) ∷ e 16 20 (text (codes "data")) ∷ []) ++
    line 24 470 (e 8 14 (text (codes "target")) ∷ e 16 40 (text (codes "/var/lib/postgresql/data")) ∷ []) ++
    line 25 511 (e 0 0 ev.MappingEnd ∷ e 0 0 ev.SequenceEnd ∷ e 0 0 ev.MappingEnd ∷ e 0 0 ev.MappingEnd ∷
    e 0 7 (text (codes "volumes")) ∷ []) ++
    line 26 520 (e 2 2 mapping ∷ e 2 6 (text (codes "data")) ∷ e 7 7 nothing ∷ []) ++
    line 27 528 (e 0 0 ev.MappingEnd ∷ e 0 0 ev.MappingEnd ∷ e 0 0 no_document_end ∷ e 0 0 ev.StreamEnd ∷ [])

abbrev pub compose_nodes : List yaml_node_t
compose_nodes =
    line 1 17 (n_to 0 (mark 528 27 0) (block_map (pair 2 3 ∷ pair 4 5 ∷ pair 14 15 ∷ pair 53 54 ∷ [])) ∷
    n 0 7 (str plain (codes "version")) ∷ n 9 14 (str double (codes "3.9")) ∷ []) ++
    line 2 32 (n 0 9 (str plain (codes "x-logging")) ∷
    n_to 11 (mark 118 5 0) (block_map (pair 6 7 ∷ pair 8 9 ∷ [])) ∷ []) ++
    line 3 52 (n 2 8 (str plain (codes "driver")) ∷ n 10 19 (str plain (codes "json-file")) ∷ []) ++
    line 4 72 (n 2 9 (str plain (codes "options")) ∷ n 11 45 (flow_map (pair 10 11 ∷ pair 12 13 ∷ [])) ∷
    n 13 21 (str plain (codes "max-size")) ∷ n 23 28 (str double (codes "10m")) ∷
    n 30 38 (str plain (codes "max-file")) ∷ n 40 43 (str double (codes "3")) ∷ []) ++
    line 5 118 (n 0 8 (str plain (codes "services")) ∷ []) ++
    line 6 128 (n_to 2 (mark 511 25 0) (block_map (pair 16 17 ∷ pair 39 40 ∷ [])) ∷
    n 2 5 (str plain (codes "web")) ∷ []) ++
    line 7 135 (n_to 4 (mark 366 18 2) (block_map (pair 18 19 ∷ pair 20 5 ∷ pair 21 22 ∷ pair 25 26 ∷ pair 29 30 ∷ [])) ∷
    n 4 9 (str plain (codes "image")) ∷ n 11 21 (str plain (codes "nginx:1.25")) ∷ []) ++
    line 8 157 (n 4 11 (str plain (codes "logging")) ∷ []) ++
    line 9 179 (n 4 9 (str plain (codes "ports")) ∷ []) ++
    line 10 190 (n_to 4 (mark 227 12 4) (block_seq (23 ∷ 24 ∷ [])) ∷ n 6 15 (str double (codes "8080:80")) ∷ []) ++
    line 11 206 (n 6 16 (str double (codes "8443:443")) ∷ []) ++
    line 12 223 (n 4 15 (str plain (codes "environment")) ∷ []) ++
    line 13 240 (n_to 6 (mark 277 15 4) (block_seq (27 ∷ 28 ∷ [])) ∷ n 8 17 (str plain (codes "KEY=value")) ∷ []) ++
    line 14 258 (n 8 14 (str plain (codes "EMPTY=")) ∷ []) ++
    line 15 273 (n 4 15 (str plain (codes "healthcheck")) ∷ []) ++
    line 16 290 (n_to 6 (mark 366 18 2) (block_map (pair 31 32 ∷ pair 37 38 ∷ [])) ∷
    n 6 10 (str plain (codes "test")) ∷ n 12 53 (flow_seq (33 ∷ 34 ∷ 35 ∷ 36 ∷ [])) ∷
    n 13 18 (str double (codes "CMD")) ∷ n 20 26 (str double (codes "curl")) ∷ n 28 32 (str double (codes "-f")) ∷
    n 34 52 (str double (codes "http://localhost")) ∷ []) ++
    line 17 344 (n 6 14 (str plain (codes "interval")) ∷ n 16 19 (str plain (codes "30s")) ∷ []) ++
    line 18 364 (n 2 4 (str plain (codes "db")) ∷ []) ++
    line 19 370 (n_to 4 (mark 511 25 0) (block_map (pair 41 42 ∷ pair 43 5 ∷ pair 44 45 ∷ [])) ∷
    n 4 9 (str plain (codes "image")) ∷ n 11 22 (str plain (codes "postgres:15")) ∷ []) ++
    line 20 393 (n 4 11 (str plain (codes "logging")) ∷ []) ++
    line 21 415 (n 4 11 (str plain (codes "volumes")) ∷ []) ++
    line 22 428 (n_to 6 (mark 511 25 0) (block_seq (46 ∷ [])) ∷
    n_to 8 (mark 511 25 0) (block_map (pair 47 48 ∷ pair 49 50 ∷ pair 51 52 ∷ [])) ∷
    n 8 12 (str plain (codes "type")) ∷ n 14 20 (str plain (codes "volume")) ∷ []) ++
    line 23 449 (n 8 14 (str plain (codes "source")) ∷ n 16 20 (str plain (codes "data")) ∷ []) ++
    line 24 470 (n 8 14 (str plain (codes "target")) ∷ n 16 40 (str plain (codes "/var/lib/postgresql/data")) ∷ []) ++
    line 25 511 (n 0 7 (str plain (codes "volumes")) ∷ []) ++
    line 26 520 (n_to 2 (mark 528 27 0) (block_map (pair 55 56 ∷ [])) ∷ n 2 6 (str plain (codes "data")) ∷
    n 7 7 (str plain []) ∷ [])

abbrev pub fault_tokens : List Token
fault_tokens =
    line 0 0 (t 0 0 STREAM ∷ t 0 0 BlockMappingStart ∷ t 0 0 Key ∷ t 0 5 (SCALAR (codes "ports")) ∷ t 5 6 Value ∷
    t 7 8 FlowSequenceStart ∷ t 8 10 (SCALAR (codes "80")) ∷ t 10 11 FlowEntry ∷ t 12 15 (SCALAR (codes "443")) ∷
    t 15 16 FlowMappingEnd ∷ []) ++
    line 1 17 (t 0 0 Key ∷ t 0 4 (SCALAR (codes "host")) ∷ t 4 5 Value ∷
    t 6 20 (SCALAR (codes "eu.example.org")) ∷ []) ++
    line 2 38 (t 0 0 BlockEnd ∷ t 0 0 StreamEnd ∷ [])

abbrev pub fault_events : List Event
fault_events =
    line 0 0 (e 0 0 stream ∷ e 0 0 bare_document ∷ e 0 0 mapping ∷ e 0 5 (text (codes "ports")) ∷ e 7 8 flow_sequence ∷
    e 8 10 (text (codes "80")) ∷ e 12 15 (text (codes "443")) ∷ [])

-- A list whose source fails early: the events of its tokens so far, and then the source's error.
abbrev pub VectorListBegun : Type 0
VectorListBegun = parse (take 10 list_tokens) ≡ alike (fails no_more (take 7 list_events)) (Err no_more ∷ [])

abbrev pub VectorList : Type 0
VectorList = parse list_tokens ≡ alike (ends list_events) (whole_load (mark 21 1 0) (mark 184 12 0) list_nodes ∷ no_root ∷ [])

abbrev pub VectorCompose : Type 0
VectorCompose = parse compose_tokens
    ≡ alike (ends compose_events) (whole_load (mark 17 1 0) (mark 528 27 0) compose_nodes ∷ no_root ∷ [])

abbrev pub VectorFault : Type 0
VectorFault = parse fault_tokens ≡ alike (fails (no_separator 7 15) fault_events) (Err (no_separator 7 15) ∷ [])

-- Its loads are those of LoadsThere.
abbrev pub VectorLoadsOfFault : Type 0
VectorLoadsOfFault = LoadsThere 2147483646 fault_tokens no_more (Err (no_separator 7 15) ∷ [])
