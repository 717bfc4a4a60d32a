-- The notation of test vectors, beside that of VectorNotation and of LoadVectors, where token k of a list begins at index and
-- column 2k and ends at 2k + 1, on line 0.
use Rattle.std.specs.Prelude.{◌∷◌, ◌++◌, ◌+◌, ℕ, pos, List, [], map, Option, Some, None, true, false, codes, Ok}
use Rattle.libyaml_types.specs.declared.enums.yaml_mapping_style_t.TheVariants.{YAML_BLOCK_MAPPING_STYLE, YAML_FLOW_MAPPING_STYLE}
use Rattle.libyaml_types.specs.declared.enums.yaml_scalar_style_t.{yaml_scalar_style_t}
use Rattle.libyaml_types.specs.declared.enums.yaml_scalar_style_t.TheVariants as style
use Rattle.libyaml_types.specs.declared.enums.yaml_sequence_style_t.TheVariants.{YAML_BLOCK_SEQUENCE_STYLE, YAML_FLOW_SEQUENCE_STYLE}
use Rattle.libyaml_types.specs.declared.event.unnamed_yaml_event_t_data.{unnamed_yaml_event_t_data}
use Rattle.libyaml_types.specs.declared.event.unnamed_yaml_event_t_data.TheVariants as ev
use Rattle.libyaml_documents.specs.declared.node.unnamed_yaml_node_t_data.TheVariants.{Scalar, Sequence, Mapping}
use Rattle.libyaml_documents.specs.declared.node.yaml_node_t.{yaml_node_t}
use Rattle.libyaml_documents.specs.declared.node.unnamed_yaml_node_t_data.{unnamed_yaml_node_t_data}
use Rattle.libyaml_documents.specs.declared.pairs.yaml_node_pair_t.{yaml_node_pair_t}
use Rattle.libyaml_types.specs.Fault.{Fault}
use Rattle.libyaml_grammar.specs.vectors.VectorNotation.{at, bare_document, no_document_end, no_more, place, says, says_while, scalar, stream}
use Rattle.libyaml_grammar.specs.runs.Runs.{Ending, Ends, Fails}
use Rattle.libyaml_grammar.specs.grammar.Events.{Event, event}
use Rattle.libyaml_grammar.specs.grammar.Tokens.{Content, Mark, Token}
use Rattle.libyaml_graphs.specs.loads.Loads.{Load}
use Rattle.rust_original.specs.loader.Loader.{loads_there}
use Rattle.rust_original.specs.parser.Runs.{run_here, run_there}

-- What a test vector compares: the run of a list there and here, and the loads there, with the bound that lists have there.
-- After the list the source fails with `no_more`.
pub record Parsed : Type 0 where
  pub there : List Event × Option Ending
  pub here : List Event × Option Ending
  pub loads : List Load

abbrev pub vector_loads : (limit : ℕ) → List Event × Option Ending → List Load
vector_loads limit (e, None) = []
vector_loads limit (e, Some x) = loads_there limit e x

abbrev pub loads_within : (limit : ℕ) → List Token → List Load
loads_within limit l = vector_loads limit (run_there l no_more)

abbrev pub parse : List Token → Parsed
parse l = record { there = run_there l no_more; here = run_here l no_more; loads = loads_within 2147483646 l }

-- runs; and where both are the same
abbrev pub ends : List Event → List Event × Option Ending
ends e = (e, Some Ends)

abbrev pub fails : Fault → List Event → List Event × Option Ending
fails f e = (e, Some (Fails f))

abbrev pub alike : List Event × Option Ending → List Load → Parsed
alike r loads = record { there = r; here = r; loads = loads }

-- the runs of one implicit document, which begins at 2: with these events in it up to its end, or to an error
abbrev pub run_to : ℕ → List Event → List Event × Option Ending
run_to n e = ends (at 0 0 stream ∷ at 2 2 bare_document ∷ e ++ at n n no_document_end ∷ at n (n + 1) ev.StreamEnd ∷ [])

abbrev pub broken_run : Fault → List Event → List Event × Option Ending
broken_run f e = fails f (at 0 0 stream ∷ at 2 2 bare_document ∷ e)

-- errors: where the collection begins and where the problem is, or where the problem alone is
abbrev pub no_separator : ℕ → ℕ → Fault
no_separator i j = says_while (codes "while parsing a flow sequence") i (codes "did not find expected ',' or ']'") j

abbrev pub fails_without_key : ℕ → ℕ → Fault
fails_without_key i j = says_while (codes "while parsing a block mapping") i (codes "did not find expected key") j

abbrev pub fails_without_flow_content : ℕ → Fault
fails_without_flow_content j = says_while (codes "while parsing a flow node") j (codes "did not find expected node content") j

abbrev pub fails_without_block_content : ℕ → Fault
fails_without_block_content j = says_while (codes "while parsing a block node") j (codes "did not find expected node content") j

abbrev pub fails_at_undefined_handle : ℕ → Fault
fails_at_undefined_handle j = says_while (codes "while parsing a node") j (codes "found undefined tag handle") j

abbrev pub second_handle : ℕ → Fault
second_handle j = says (codes "found duplicate %TAG directive") j

abbrev pub fails_without_document_start : ℕ → Fault
fails_without_document_start j = says (codes "did not find expected <document start>") j

-- texts: two with a zero byte between them, and one with its line feed
abbrev pub zero_between : List ℕ → List ℕ → List ℕ
zero_between a b = a ++ 0 ∷ b

abbrev pub line_of : List ℕ → List ℕ
line_of a = a ++ 10 ∷ []

-- styles of scalars, and the event of a scalar that is not plain and has no properties
abbrev pub plain : yaml_scalar_style_t
plain = style.YAML_PLAIN_SCALAR_STYLE

abbrev pub single : yaml_scalar_style_t
single = style.YAML_SINGLE_QUOTED_SCALAR_STYLE

abbrev pub double : yaml_scalar_style_t
double = style.YAML_DOUBLE_QUOTED_SCALAR_STYLE

abbrev pub literal : yaml_scalar_style_t
literal = style.YAML_LITERAL_SCALAR_STYLE

abbrev pub folded : yaml_scalar_style_t
folded = style.YAML_FOLDED_SCALAR_STYLE

abbrev pub styled : yaml_scalar_style_t → List ℕ → unnamed_yaml_event_t_data
styled s v = scalar None None v false true s

-- nodes: a tag and a content; a scalar of a tag, and one of the default's; collections with their children
pub record NodePart : Type 0 where
  pub tag : List ℕ
  pub content : unnamed_yaml_node_t_data

abbrev pub vector_tagged : (tag : List ℕ) → yaml_scalar_style_t → List ℕ → NodePart
vector_tagged t s v = record { tag = t; content = Scalar (record { value = v; style = s }) }

abbrev pub str : yaml_scalar_style_t → List ℕ → NodePart
str s v = vector_tagged (codes "tag:yaml.org,2002:str") s v

abbrev pub block_seq : List ℕ → NodePart
block_seq is = record {
  tag = codes "tag:yaml.org,2002:seq";
  content = Sequence (record { items = map (λ i. pos i) is; style = YAML_BLOCK_SEQUENCE_STYLE });
}

abbrev pub flow_seq : List ℕ → NodePart
flow_seq is = record {
  tag = codes "tag:yaml.org,2002:seq";
  content = Sequence (record { items = map (λ i. pos i) is; style = YAML_FLOW_SEQUENCE_STYLE });
}

abbrev pub block_map : List yaml_node_pair_t → NodePart
block_map ps = record {
  tag = codes "tag:yaml.org,2002:map";
  content = Mapping (record { pairs = ps; style = YAML_BLOCK_MAPPING_STYLE });
}

abbrev pub flow_map : List yaml_node_pair_t → NodePart
flow_map ps = record {
  tag = codes "tag:yaml.org,2002:map";
  content = Mapping (record { pairs = ps; style = YAML_FLOW_MAPPING_STYLE });
}

abbrev pub node_from : Mark → Mark → NodePart → yaml_node_t
node_from m n p = record { tag = p.tag; content = p.content; start_mark = m; end_mark = n }

-- on line 0, from an index to another
abbrev pub vector_node : ℕ → ℕ → NodePart → yaml_node_t
vector_node i j p = node_from (place i) (place j) p

-- a document whose start and end are implicit
abbrev pub whole_load : Mark → Mark → List yaml_node_t → Load
whole_load m n nodes = Ok (record {
  nodes = nodes;
  version_directive = None;
  tag_directives = [];
  start_implicit = true;
  end_implicit = true;
  start_mark = m;
  end_mark = n;
})

-- Line by line: the line's number, the index of its first character, and what begins in it: tokens `t`, events `e` or
-- nodes `n` from a column to another, or, with `_to`, from a column to a mark in a later line.
abbrev pub mark : (index line column : ℕ) → Mark
mark i l c = record { index = i; line = l; column = c }

abbrev pub line : {A : Type 0} → (number first : ℕ) → List ((ℕ → Mark) → A) → List A
line k i [] = []
line k i (a ∷ more) = a (λ c. mark (i + c) k c) ∷ line k i more

abbrev pub t_to : ℕ → Mark → Content → (ℕ → Mark) → Token
t_to a n k column = record { content = k; start_mark = column a; end_mark = n }

abbrev pub t : ℕ → ℕ → Content → (ℕ → Mark) → Token
t a b k column = t_to a (column b) k column

abbrev pub e_to : ℕ → Mark → unnamed_yaml_event_t_data → (ℕ → Mark) → Event
e_to a n k column = event k (column a) n

abbrev pub e : ℕ → ℕ → unnamed_yaml_event_t_data → (ℕ → Mark) → Event
e a b k column = e_to a (column b) k column

abbrev pub n_to : ℕ → Mark → NodePart → (ℕ → Mark) → yaml_node_t
n_to a m p column = node_from (column a) m p

abbrev pub n : ℕ → ℕ → NodePart → (ℕ → Mark) → yaml_node_t
n a b p column = n_to a (column b) p column
