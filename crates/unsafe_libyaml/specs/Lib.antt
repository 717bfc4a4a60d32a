pub mod WholeRun
pub mod WholeLoads
pub mod OneWhole
pub mod ParsesOnto
-- what the public clauses reach, here and in the crates below (scripts/gate/reexports.py), so that a user names this crate alone
pub use Rattle.libyaml_types.specs.Equal as EqualTypes
pub use Rattle.libyaml_types.specs.Events as MadeEvents
pub use Rattle.libyaml_types.specs.Models as TypeModels
pub use Rattle.libyaml_types.specs.Numbers
pub use Rattle.libyaml_types.specs.Texts
pub use Rattle.libyaml_types.specs.TokensMade
pub use Rattle.libyaml_types.specs.Types
pub use Rattle.libyaml_types.specs.Words
pub use Rattle.libyaml_grammar.specs.partial.PartialEvents
pub use Rattle.libyaml_grammar.specs.partial.PartialFaults
pub use Rattle.libyaml_grammar.specs.partial.PartialTrees
pub use Rattle.libyaml_grammar.specs.partial.FaultTexts
pub use Rattle.libyaml_grammar.specs.partial.Fits
pub use Rattle.libyaml_grammar.specs.partial.Rest
pub use Rattle.libyaml_grammar.specs.partial.DeterminedEvents
pub use Rattle.libyaml_grammar.specs.vectors.PartialVectors
pub use Rattle.libyaml_grammar.specs.vectors.EmptyNodeVectors
pub use Rattle.libyaml_grammar.specs.vectors.VectorNotation
pub use Rattle.libyaml_grammar.specs.vectors.Vectors
pub use Rattle.libyaml_types.specs.Errors
pub use Rattle.libyaml_types.specs.Fault
pub use Rattle.libyaml_types.specs.Message
pub use Rattle.libyaml_grammar.specs.runs.Runs
pub use Rattle.libyaml_grammar.specs.runs.StreamEnds
pub use Rattle.libyaml_grammar.specs.grammar.Events
pub use Rattle.libyaml_grammar.specs.grammar.Nesting
pub use Rattle.libyaml_grammar.specs.grammar.Order
pub use Rattle.libyaml_grammar.specs.grammar.ValidLists
pub use Rattle.libyaml_grammar.specs.grammar.Tokens
pub use Rattle.libyaml_grammar.specs.grammar.Trees
pub use Rattle.libyaml_automaton.specs.Acceptable as AutomatonAcceptable
pub use Rattle.libyaml_automaton.specs.Automaton
pub use Rattle.libyaml_automaton.specs.Config as AutomatonConfig
pub use Rattle.libyaml_automaton.specs.Fits as AutomatonFits
pub use Rattle.libyaml_automaton.specs.Growth as AutomatonGrowth
pub use Rattle.libyaml_automaton.specs.Numbers as AutomatonNumbers
pub use Rattle.libyaml_automaton.specs.Problems
pub use Rattle.libyaml_automaton.specs.Slots
pub use Rattle.libyaml_automaton.specs.Purposes as AutomatonWanted
pub use Rattle.libyaml_events.specs.automaton.View
pub use Rattle.libyaml_events.specs.machine.Outcomes
pub use Rattle.libyaml_events.specs.machine.Config
pub use Rattle.libyaml_events.specs.machine.Growth
pub use Rattle.libyaml_events.specs.machine.Machine
pub use Rattle.libyaml_events.specs.machine.Read
pub use Rattle.libyaml_events.specs.machine.Want
pub use Rattle.libyaml_events.specs.parsers.EventsLeft
pub use Rattle.libyaml_events.specs.parsers.Lookahead
pub use Rattle.libyaml_events.specs.parsers.OutsideEvents
pub use Rattle.libyaml_events.specs.parsers.Pops
pub use Rattle.libyaml_events.specs.parsers.Stages
pub use Rattle.libyaml_events.specs.vectors.StackVectors
pub use Rattle.libyaml_events.specs.sources.Acceptable
pub use Rattle.libyaml_events.specs.sources.Calls
pub use Rattle.libyaml_events.specs.sources.CallsInTurn
pub use Rattle.libyaml_events.specs.sources.Determined
pub use Rattle.libyaml_events.specs.sources.History
pub use Rattle.libyaml_types.specs.ListLaws
pub use Rattle.libyaml_events.specs.sources.Naming
pub use Rattle.libyaml_events.specs.sources.Needs
pub use Rattle.libyaml_events.specs.sources.Iterates
pub use Rattle.libyaml_events.specs.sources.Iterated
pub use Rattle.libyaml_events.specs.sources.ParsesNext
pub use Rattle.libyaml_events.specs.sources.Parsing
pub use Rattle.libyaml_events.specs.sources.Pushed
pub use Rattle.libyaml_events.specs.sources.OnePush
pub use Rattle.libyaml_events.specs.sources.Pushes
pub use Rattle.libyaml_events.specs.sources.Trace
pub use Rattle.libyaml_events.specs.sources.RunToCome
pub use Rattle.libyaml_types.specs.Source
pub use Rattle.libyaml_types.specs.Scanned
pub use Rattle.libyaml_types.specs.ScannedLaws
pub use Rattle.libyaml_documents.specs.Documents
pub use Rattle.libyaml_documents.specs.Equal as EqualDocuments
pub use Rattle.libyaml_documents.specs.EqualNodes
pub use Rattle.libyaml_documents.specs.EqualPayloads
pub use Rattle.libyaml_documents.specs.LoadedNodes
pub use Rattle.libyaml_documents.specs.Models as DocumentModels
pub use Rattle.libyaml_documents.specs.Node
pub use Rattle.libyaml_documents.specs.Nodes
pub use Rattle.libyaml_graphs.specs.loads.Bounds
pub use Rattle.libyaml_graphs.specs.graphs.ComposerFaults
pub use Rattle.libyaml_graphs.specs.loads.GraphLaws
pub use Rattle.libyaml_graphs.specs.graphs.Graphs
pub use Rattle.libyaml_graphs.specs.vectors.LoadVectors
pub use Rattle.libyaml_graphs.specs.machine.Loader
pub use Rattle.libyaml_graphs.specs.loads.Linear
pub use Rattle.libyaml_graphs.specs.loads.Loads
pub use Rattle.libyaml_graphs.specs.loads.Leads
pub use Rattle.libyaml_graphs.specs.graphs.GraphParts
pub use Rattle.libyaml_composer.specs.Composing as ComposerSteps
pub use Rattle.libyaml_composer.specs.DocumentSoFar as ComposerDocumentSoFar
pub use Rattle.libyaml_composer.specs.Numbers as ComposerNumbers
pub use Rattle.libyaml_composer.specs.Represents as ComposerRepresents
pub use Rattle.libyaml_loader.specs.loads.LoadGrowth
pub use Rattle.libyaml_loader.specs.document.Ids
pub use Rattle.libyaml_loader.specs.document.Anchors
pub use Rattle.libyaml_loader.specs.document.Context
pub use Rattle.libyaml_loader.specs.document.Refusals
pub use Rattle.libyaml_loader.specs.document.Stack as LoaderStack
pub use Rattle.libyaml_loader.specs.composed.Anchoring
pub use Rattle.libyaml_loader.specs.composed.EventComposer
pub use Rattle.libyaml_loader.specs.composed.Telling
pub use Rattle.libyaml_loader.specs.composed.Places
pub use Rattle.libyaml_loader.specs.composed.ComposedEvents
pub use Rattle.libyaml_loader.specs.composed.PlacedEvents
pub use Rattle.libyaml_loader.specs.composed.PlacedDocuments
pub use Rattle.libyaml_loader.specs.composed.ComposedLoops
pub use Rattle.libyaml_loader.specs.composed.PlacedLoops
pub use Rattle.libyaml_loader.specs.composed.Written
pub use Rattle.libyaml_loader.specs.loads.Loading
pub use Rattle.libyaml_loader.specs.loads.HalfDocument
pub use Rattle.libyaml_loader.specs.loads.PartialLoad
pub use Rattle.libyaml_loader.specs.loads.SharedNodes
pub use Rattle.libyaml_loader.specs.loads.LoadsInTurn
pub use Rattle.libyaml_loader.specs.loads.NextLoad
pub use Rattle.libyaml_loader.specs.loads.OneLoad
pub use Rattle.libyaml_loader.specs.pushes.LoadMemory
pub use Rattle.libyaml_loader.specs.pushes.Composing
pub use Rattle.libyaml_loader.specs.pushes.Loaded
pub use Rattle.libyaml_loader.specs.pushes.OnePushLoads
pub use Rattle.libyaml_loader.specs.pushes.PushesLoads
