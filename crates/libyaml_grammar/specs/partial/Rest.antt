-- Tokens that complete a partial tree to a stream tree (docs/DEFINITIONS.md, "Partial trees"), all with the marks m: what
-- is expected at its place, the closing tokens of what is open from the inside out, and the stream's end.
use Rattle.std.specs.Prelude.{List, [], ◌∷◌}
use Rattle.libyaml_types.specs.declared.enums.yaml_encoding_t.TheVariants.{YAML_ANY_ENCODING}
use Rattle.libyaml_grammar.specs.grammar.Tokens.{BlockEnd, DocumentStart, Marks, Scalar, StreamEnd, StreamHead, StreamStart, Token, empty_plain, tok}
use Rattle.libyaml_grammar.specs.grammar.Trees.{Directives, closing, directive, no_directives}
use Rattle.libyaml_grammar.specs.partial.PartialTrees.{BlockPlace, PartialTree, Open, Place, at_directive, at_tag, at_tag_after, before_stream, block, content_due, document_due, entry, entry_due, flow_entry, flow_key, flow_value, indentless_entry, open_collection, part_due, part_place, root}
use Rattle.libyaml_grammar.specs.partial.PartialTrees.{separator_due, slot, start_due}

abbrev pub rest_block_place : Marks → BlockPlace → List Token
rest_block_place m (root t) = tok StreamEnd m ∷ []
rest_block_place m (entry c o s is e) = tok BlockEnd m ∷ rest_block_place m c
rest_block_place m (slot (part_place c o s ps k v)) = tok BlockEnd m ∷ rest_block_place m c
rest_block_place m (indentless_entry (part_place c o s ps k v) x is e) = tok BlockEnd m ∷ rest_block_place m c

abbrev pub rest_place : Marks → Place → List Token
rest_place m (block c) = rest_block_place m c
rest_place m (flow_entry (open_collection p o k s is)) = tok (closing k) m ∷ rest_place m p
rest_place m (flow_key (open_collection p o k s is) e) = tok (closing k) m ∷ rest_place m p
rest_place m (flow_value (open_collection p o k s is) e n v) = tok (closing k) m ∷ rest_place m p

abbrev pub rest_at_directive : Marks → Directives → List Token
rest_at_directive m no_directives = tok StreamEnd m ∷ []
rest_at_directive m (directive ds d) = tok DocumentStart m ∷ tok StreamEnd m ∷ []

-- the closing token of an open flow collection, and what completes the rest
abbrev pub rest_open : Marks → Open → List Token
rest_open m (open_collection p o k s is) = tok (closing k) m ∷ rest_place m p

abbrev pub any_encoding : StreamHead
any_encoding = record { encoding = YAML_ANY_ENCODING }

abbrev pub rest : Marks → PartialTree → List Token
rest m before_stream = tok (StreamStart any_encoding) m ∷ tok StreamEnd m ∷ []
rest m (document_due d) = tok StreamEnd m ∷ []
rest m (start_due b ds d) = tok DocumentStart m ∷ tok StreamEnd m ∷ []
rest m (at_directive b ds) = rest_at_directive m ds
rest m (content_due p) = tok (Scalar empty_plain) m ∷ rest_place m p
rest m (at_tag p) = tok (Scalar empty_plain) m ∷ rest_place m p
rest m (at_tag_after p a n) = tok (Scalar empty_plain) m ∷ rest_place m p
rest m (entry_due c o s is) = tok BlockEnd m ∷ rest_block_place m c
rest m (part_due c o s ps) = tok BlockEnd m ∷ rest_block_place m c
rest m (separator_due c e) = rest_open m c
