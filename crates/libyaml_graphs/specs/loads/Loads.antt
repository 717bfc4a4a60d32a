-- The loads of a run, which is its events and its ending (docs/DEFINITIONS.md, "Loads").
use Rattle.std.specs.Prelude.{◌≡◌, List, [], ◌∷◌, Option, Some, None, false, Result, Ok, Err}
use Rattle.libyaml_grammar.specs.grammar.Events.{Event}
use Rattle.libyaml_types.specs.Fault.{Fault}
use Rattle.libyaml_grammar.specs.grammar.Nesting.{DocumentTexts, no_texts, text_after, value_events}
use Rattle.libyaml_grammar.specs.runs.Runs.{Ending, Ends, Fails, IsRun}
use Rattle.libyaml_grammar.specs.grammar.Tokens.{Token}
use Rattle.libyaml_documents.specs.Documents.{Document, empty_document}
use Rattle.libyaml_documents.specs.declared.node.yaml_node_t.{yaml_node_t}
use Rattle.libyaml_graphs.specs.graphs.ComposerFaults.{composer_fault}
use Rattle.libyaml_graphs.specs.graphs.Graphs.{nodes_of}
use Rattle.libyaml_graphs.specs.graphs.GraphParts.{Closing, Opening, Part, closing_of, graph, opening_of, parts}

-- what a load returns: a document, or an error
abbrev pub Load : Type 0
Load = Result Document Fault

-- after all documents: the document without root, or the error that ended the run
abbrev pub last_load : Ending → Load
last_load Ends = Ok (empty_document None [] false false)
last_load (Fails f) = Err f

abbrev pub document : Opening → List yaml_node_t → Closing → Document
document o nodes c = record {
  nodes = nodes;
  version_directive = o.start.version_directive;
  tag_directives = o.start.tag_directives;
  start_implicit = o.start.implicit;
  end_implicit = c.is_implicit;
  start_mark = o.mark;
  end_mark = c.mark;
}

-- the end of the document that the events are in, if it comes, and the events after that end
abbrev pub end_of_document : List Event → Option Closing
end_of_document [] = None
end_of_document (e ∷ r) = elim (closing_of e) [ Some c ↦ Some c | None ↦ end_of_document r ]

abbrev pub after_document : List Event → List Event
after_document [] = []
after_document (e ∷ r) = elim (closing_of e) [ Some c ↦ r | None ↦ after_document r ]

-- What a document gives: its error f, if it has one, and else its nodes where its end c is there, and else `last`.
abbrev pub load_answer : Option Fault → Option Closing → Opening → List yaml_node_t → (last : Load) → Load
load_answer (Some f) c o nodes last = Err f
load_answer None (Some c) o nodes last = Ok (document o nodes c)
load_answer None None o nodes last = last

-- and after it the loads l, where it is whole
abbrev pub load_then : Option Fault → Option Closing → Opening → List yaml_node_t → (last : Load) → List Load → List Load
load_then (Some f) c o nodes last l = Err f ∷ []
load_then None (Some c) o nodes last l = Ok (document o nodes c) ∷ l
load_then None None o nodes last l = last ∷ []

-- a document that begins: its start, and the events after that
pub record Begun : Type 0 where
  pub opening : Opening
  pub rest : List Event

abbrev mutual
  -- the documents that begin in events
  pub begun : List Event → List Begun
  begun [] = []
  begun (e ∷ r) = elim (opening_of e) [ None ↦ begun r | Some o ↦ record { opening = o; rest = r } ∷ begun_after r ]

  -- those that begin after the end of the document that the events are in
  pub begun_after : List Event → List Begun
  begun_after [] = []
  begun_after (e ∷ r) = elim (closing_of e) [ Some c ↦ begun r | None ↦ begun_after r ]

-- What stops a document, by its parts: its composer error, or also a bound (docs/DEFINITIONS.md, "Loads within a bound").
abbrev pub Stop : Type 0
Stop = List Part → Option Fault

-- The loads of documents, up to the first error or the document without root.
abbrev pub loads_by : Stop → Ending → List Begun → List Load
loads_by stop x [] = last_load x ∷ []
loads_by stop x (b ∷ bs) = load_then (stop (parts b.rest)) (end_of_document b.rest) b.opening (graph [] (parts b.rest))
    (last_load x) (loads_by stop x bs)

-- One load: what it returns, and the events that it leaves to the next.
abbrev pub next_by : Stop → Ending → List Begun → Load
next_by stop x [] = last_load x
next_by stop x (b ∷ bs) = load_answer (stop (parts b.rest)) (end_of_document b.rest) b.opening (graph [] (parts b.rest))
    (last_load x)

abbrev pub left_by : List Begun → List Event
left_by [] = []
left_by (b ∷ bs) = after_document b.rest

abbrev pub left_over : List Event → List Event
left_over e = left_by (begun e)

-- the loads of a run, and one of them, where a composer error alone stops a document
abbrev pub loads : List Event → Ending → List Load
loads e x = loads_by (composer_fault []) x (begun e)

abbrev pub next_load : List Event → Ending → Load
next_load e x = next_by (composer_fault []) x (begun e)

-- The loads of whole documents by the trees of their values, up to the first composer error, and after them l.
abbrev pub loads_of : DocumentTexts → List Load → List Load
loads_of no_texts l = l
loads_of (text_after ts d m n v i p q) l
    = loads_of ts (load_then (composer_fault [] (parts (value_events v [])))
    (Some (record { is_implicit = i; mark = q })) (record { start = d; mark = m })
    (nodes_of v [] []) (last_load Ends) l)

-- the loads over a list of tokens, after which the source fails with f
pub record AreLoads (stop : Stop) (l : List Token) (f : Fault) (a : List Load) : Type 0 where
  pub events : List Event
  pub ending : Ending
  pub run : IsRun l f events ending
  pub all : a ≡ loads_by stop ending (begun events)

abbrev pub IsLoads : List Token → Fault → List Load → Type 0
IsLoads l f a = AreLoads (composer_fault []) l f a
