-- What holds of every run that counts a parser's events, which nest so far (docs/DEFINITIONS.md, "Expanded size while
-- composing").
use Rattle.std.specs.Prelude.{◌≡◌, ◌≤◌, ◌<◌, ◌∷◌, ◌++◌, ℕ, List, [], Ok}
use Rattle.libyaml_grammar.specs.grammar.Events.{Event}
use Rattle.libyaml_grammar.specs.grammar.Nesting.{NestsSoFar}
use Rattle.libyaml_grammar.specs.runs.Runs.{Ending}
use Rattle.libyaml_documents.specs.Documents.{Document}
use Rattle.libyaml_documents.specs.declared.node.yaml_node_t.{yaml_node_t}
use Rattle.libyaml_graphs.specs.loads.Leads.{loads_from}
use Rattle.libyaml_graphs.specs.loads.Loads.{Load}
use Rattle.libyaml_composer.specs.declared.deed.Deed.TheVariants as deed
use Rattle.libyaml_composer.specs.Composing.{Composer, Told}
use Rattle.libyaml_composer.specs.DocumentSoFar.{DocumentSoFar, applied, loader_state}
use Rattle.yaml_expansion.specs.Expansion.{HasExpandedSize, IsCyclicAt}
use Rattle.document_sizes.specs.declared.counted.Counted.TheVariants as counted
use Rattle.document_sizes.specs.Counting.{Count, bound_of, count_of}
use Rattle.document_sizes.specs.ParserRuns.{CountsEvent, StreamRun}
use Rattle.document_sizes.specs.RunLaws.{Continues}
use Rattle.document_sizes.specs.Runs.{LosesNothing}

-- no event within a document is lost
abbrev pub NothingIsLost : Type 0
NothingIsLost = (max : ℕ) (c : Composer) (h : DocumentSoFar) (total : ℕ) (sizes : List ℕ) (es : List Event) (e : Event) (t : Told)
    (count : Count) → StreamRun max c h total sizes es → CountsEvent max c h total sizes e t count → NestsSoFar (es ++ e ∷ [])
    → LosesNothing t.deed c

-- where a document ends, the total is its expanded size, and at most the bound
abbrev pub EndsWithItsSize : Type 0
EndsWithItsSize = (max : ℕ) (c : Composer) (h : DocumentSoFar) (total : ℕ) (sizes : List ℕ) (es : List Event) (e : Event) (t : Told)
    (count : Count) → StreamRun max c h total sizes es → CountsEvent max c h total sizes e t count → NestsSoFar (es ++ e ∷ [])
    → t.deed ≡ deed.Ends → HasExpandedSize h.nodes total × (total ≤ bound_of max)

-- at an event that is too large, however the document goes on, its expanded size is above the bound
abbrev pub StopsAtTheBound : Type 0
StopsAtTheBound = (max : ℕ) (c : Composer) (h : DocumentSoFar) (total total' : ℕ) (sizes sizes' : List ℕ) (es : List Event)
    (e : Event) (t : Told) → StreamRun max c h total sizes es
    → CountsEvent max c h total sizes e t (count_of counted.TooLarge total' sizes') → NestsSoFar (es ++ e ∷ [])
    → (later : List yaml_node_t) → Continues (applied t.deed t.place e h).nodes t.composer.stack later
    → (size : ℕ) → HasExpandedSize later size → bound_of max < size

-- at an alias that makes the tree endless, however the document goes on, the node that it names lies on a cycle
abbrev pub StopsAtACycle : Type 0
StopsAtACycle = (max : ℕ) (c : Composer) (h : DocumentSoFar) (total total' : ℕ) (sizes sizes' : List ℕ) (es : List Event)
    (e : Event) (t : Told) → StreamRun max c h total sizes es
    → CountsEvent max c h total sizes e t (count_of counted.Endless total' sizes') → NestsSoFar (es ++ e ∷ [])
    → (later : List yaml_node_t) → Continues (applied t.deed t.place e h).nodes t.composer.stack later
    → IsCyclicAt later t.place.child

-- at an event that isn't counted within the bound, whatever events come after it: a document that becomes whole continues the
-- nodes that the event leaves
abbrev pub WholeContinues : Type 0
WholeContinues = (max : ℕ) (c : Composer) (h : DocumentSoFar) (total : ℕ) (sizes : List ℕ) (es : List Event) (e : Event) (t : Told)
    (count : Count) → StreamRun max c h total sizes es → CountsEvent max c h total sizes e t count
    → (count.answer ≡ counted.Within → ⊥) → (later : List Event) → NestsSoFar (es ++ e ∷ later)
    → (ending : Ending) (d : Document) (more : List Load)
    → loads_from t.composer.most (loader_state t.composer (applied t.deed t.place e h)) later ending ≡ Ok d ∷ more
    → (d.nodes ≡ [] → ⊥) → Continues (applied t.deed t.place e h).nodes t.composer.stack d.nodes
