-- The table of the places where a node may be nothing (docs/DEFINITIONS.md, "Where a node may be nothing"): of a list with
-- one token of each kind, those that may follow it.
use Rattle.std.specs.Prelude.{◌≡◌, ◌∷◌, [], Option}
use Rattle.libyaml_types.specs.declared.token.unnamed_yaml_token_t_data.TheVariants.{BlockEnd, BlockEntry, DocumentEnd, DocumentStart, FlowEntry, FlowMappingEnd, FlowSequenceEnd, Key, StreamEnd, Value}
use Rattle.libyaml_grammar.specs.partial.PartialTrees.{BlockPlace, Open, PartPlace, Place, block, entry, explicit_root, flow_entry, flow_key, flow_value, implicit_root, indentless_entry, open_collection, root, slot}
use Rattle.libyaml_grammar.specs.partial.Fits.{ends_empty}
use Rattle.libyaml_grammar.specs.vectors.VectorNotation.{HANDLE, VERSION, kinds, passing}
use Rattle.libyaml_grammar.specs.grammar.Tokens.{Marks}
use Rattle.libyaml_grammar.specs.grammar.Trees.{Before, BlockItems, Directives, FlowItems, FlowSlot, Free, Properties, mapping, sequence}

abbrev pub VectorEmptyEntry : Type 0
VectorEmptyEntry = (c : BlockPlace) (o : Option Properties) (m : Marks) (is : BlockItems) (e : Marks)
    → passing (ends_empty (block (entry c o m is e))) kinds ≡ (BlockEnd ∷ BlockEntry ∷ [])

abbrev pub VectorEmptyIndentlessEntry : Type 0
VectorEmptyIndentlessEntry = (c : PartPlace) (o : Option Properties) (is : BlockItems) (e : Marks)
    → passing (ends_empty (block (indentless_entry c o is e))) kinds ≡ (BlockEnd ∷ BlockEntry ∷ Key ∷ Value ∷ [])

abbrev pub VectorEmptyPart : Type 0
VectorEmptyPart = (c : PartPlace) → passing (ends_empty (block (slot c))) kinds ≡ (BlockEnd ∷ Key ∷ Value ∷ [])

abbrev pub VectorEmptyDocument : Type 0
VectorEmptyDocument = (b : Before) (ds : Directives) (m : Marks)
    → passing (ends_empty (block (root (explicit_root b ds m)))) kinds
    ≡ (StreamEnd ∷ VERSION 1 1 ∷ HANDLE [] [] ∷ DocumentStart ∷ DocumentEnd ∷ [])

abbrev pub VectorEmptyPairKey : Type 0
VectorEmptyPairKey = (p : Place) (o : Option Properties) (m : Marks) (is : FlowItems) (e : Marks)
    → passing (ends_empty (flow_key (open_collection p o sequence m is) e)) kinds
    ≡ (FlowSequenceEnd ∷ FlowEntry ∷ Value ∷ [])

abbrev pub VectorEmptyPairValue : Type 0
VectorEmptyPairValue = (p : Place) (o : Option Properties) (m : Marks) (is : FlowItems) (e : Marks) (x : FlowSlot) (v : Marks)
    → passing (ends_empty (flow_value (open_collection p o sequence m is) e x v)) kinds ≡ (FlowSequenceEnd ∷ FlowEntry ∷ [])

abbrev pub VectorEmptyFlowKey : Type 0
VectorEmptyFlowKey = (p : Place) (o : Option Properties) (m : Marks) (is : FlowItems) (e : Marks)
    → passing (ends_empty (flow_key (open_collection p o mapping m is) e)) kinds ≡ (FlowMappingEnd ∷ FlowEntry ∷ Value ∷ [])

abbrev pub VectorEmptyFlowValue : Type 0
VectorEmptyFlowValue = (p : Place) (o : Option Properties) (m : Marks) (is : FlowItems) (e : Marks) (x : FlowSlot) (v : Marks)
    → passing (ends_empty (flow_value (open_collection p o mapping m is) e x v)) kinds ≡ (FlowMappingEnd ∷ FlowEntry ∷ [])

-- never nothing
abbrev pub NeverEmptyRoot : Type 0
NeverEmptyRoot = (f : Free) → passing (ends_empty (block (root (implicit_root f)))) kinds ≡ []

abbrev pub NeverEmptyFlowEntry : Type 0
NeverEmptyFlowEntry = (c : Open) → passing (ends_empty (flow_entry c)) kinds ≡ []
