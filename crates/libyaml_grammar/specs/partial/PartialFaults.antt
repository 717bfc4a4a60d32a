-- The error of a partial tree (docs/DEFINITIONS.md, "Partial trees"): which problem its place names, at the start m of the
-- bad token.
use Rattle.std.specs.Prelude.{Bool, true, false}
use Rattle.libyaml_types.specs.Fault.{Fault}
use Rattle.libyaml_grammar.specs.partial.FaultTexts.{stream_start_fault, document_start_fault, duplicate_version_fault, version_fault, duplicate_tag_fault, content_fault, tag_fault, item_fault, part_fault, sequence_fault, mapping_fault}
use Rattle.libyaml_grammar.specs.grammar.Tokens.{Content, Mark, VersionDirective}
use Rattle.libyaml_grammar.specs.grammar.Trees.{Directives, mapping, sequence}
use Rattle.libyaml_grammar.specs.grammar.Order.{no_version}
use Rattle.libyaml_grammar.specs.partial.PartialTrees.{PartialTree, Open, Place, at_directive, at_tag, at_tag_after, before_stream, block, content_due, document_due, entry_due, open_collection, part_due, separator_due, start_due}

-- of a directive after others: a second version is a duplicate before its number is looked at
abbrev pub directive_fault : Directives → Content → Mark → Fault
directive_fault ds (VersionDirective a) m =
    elim (no_version ds) [ true ↦ version_fault m | false ↦ duplicate_version_fault m ]
directive_fault ds _ m = duplicate_tag_fault m

abbrev pub is_block : Place → Bool
is_block (block c) = true
is_block _ = false

abbrev pub separator_fault : Open → Mark → Fault
separator_fault (open_collection p o sequence s is) m = sequence_fault s.start m
separator_fault (open_collection p o mapping s is) m = mapping_fault s.start m

-- the error of a partial tree at the bad token of this content, which begins at m
abbrev pub fault : PartialTree → Content → Mark → Fault
fault before_stream k m = stream_start_fault m
fault (document_due d) k m = document_start_fault m
fault (start_due b ds d) k m = document_start_fault m
fault (at_directive b ds) k m = directive_fault ds k m
fault (content_due p) k m = content_fault (is_block p) m
fault (at_tag p) k m = tag_fault m m
fault (at_tag_after p a x) k m = tag_fault x.start m
fault (entry_due c o s is) k m = item_fault s.start m
fault (part_due c o s ps) k m = part_fault s.start m
fault (separator_due c e) k m = separator_fault c m
