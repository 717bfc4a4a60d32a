-- What the laws of graphs and loads (src/laws.rt) say.
use Rattle.std.specs.Prelude.{◌≡◌, ◌≤◌, ◌<◌, ◌++◌, ℕ, zero, suc, List, [], ◌∷◌, length, Option, Some, None, true, Ok, Err}
use Rattle.libyaml_grammar.specs.partial.PartialEvents.{partial_events}
use Rattle.libyaml_grammar.specs.partial.PartialFaults.{fault}
use Rattle.libyaml_grammar.specs.partial.PartialTrees.{PartialTree}
use Rattle.libyaml_grammar.specs.grammar.Events.{Event, events}
use Rattle.libyaml_types.specs.Fault.{Fault}
use Rattle.libyaml_grammar.specs.partial.Fits.{Fits}
use Rattle.libyaml_grammar.specs.grammar.Nesting.{HasBegun, IsNested, DocumentTexts, Value, Values, alias_value, collection_value, first_value, no_texts, no_values, scalar_value, text_after}
use Rattle.libyaml_grammar.specs.grammar.Order.{in_order}
use Rattle.libyaml_grammar.specs.runs.Runs.{Ending, Ends, Fails}
use Rattle.libyaml_grammar.specs.grammar.Tokens.{Token}
use Rattle.libyaml_grammar.specs.grammar.Trees.{Stream, tokens}
use Rattle.libyaml_documents.specs.Nodes.{EveryIdNamesANode, ids_of}
use Rattle.libyaml_graphs.specs.graphs.ComposerFaults.{composer_fault}
use Rattle.libyaml_graphs.specs.graphs.Graphs.{Start, collection_loaded, id_of, ids_of_all, items, starts_after}
use Rattle.libyaml_graphs.specs.loads.Loads.{IsLoads, Load, last_load, loads_of}
use Rattle.libyaml_graphs.specs.graphs.GraphParts.{Opening, Part, alias_part, end_part, leaf_part, opening_of, part_of, parts, start_part}

-- A child that is no alias has a greater id than n. An alias's id is that of a node which starts before the alias:
-- an earlier one, or one that the alias stands in.
abbrev pub IsLater : ℕ → Value → List Start → Type 0
IsLater n (alias_value a m k) es = id_of (alias_value a m k) es ≤ length es
IsLater n v es = n < id_of v es

-- each child in a value is later than its parent, or is such an alias
abbrev mutual
  pub ChildrenAreLater : Value → List Start → Type 0
  ChildrenAreLater (alias_value a m n) es = Unit {0}
  ChildrenAreLater (scalar_value s m n) es = Unit {0}
  ChildrenAreLater (collection_value k a t i s m n vs p q) es =
      AllLater (suc (length es)) vs (record { anchor = a; mark = m } ∷ es)

  pub AllLater : ℕ → Values → List Start → Type 0
  AllLater n no_values es = Unit {0}
  AllLater n (first_value v vs) es = IsLater n v es × ChildrenAreLater v es × AllLater n vs (starts_after v es)

-- and so it is in the value of each document
abbrev pub EachIsLater : DocumentTexts → Type 0
EachIsLater no_texts = Unit {0}
EachIsLater (text_after ts d m n v i p q) = EachIsLater ts × ChildrenAreLater v []

-- each node in a value holds the ids of all its children, in their order; so no pair lacks its value
abbrev mutual
  pub HoldsItsChildren : Value → List Start → Type 0
  HoldsItsChildren (alias_value a m n) es = Unit {0}
  HoldsItsChildren (scalar_value s m n) es = Unit {0}
  HoldsItsChildren (collection_value k a t i s m n vs p q) es =
      (ids_of (collection_loaded k t s (ids_of_all vs (record { anchor = a; mark = m } ∷ es)) m q).content
      ≡ items (ids_of_all vs (record { anchor = a; mark = m } ∷ es)))
      × AllHoldTheirChildren vs (record { anchor = a; mark = m } ∷ es)

  pub AllHoldTheirChildren : Values → List Start → Type 0
  AllHoldTheirChildren no_values es = Unit {0}
  AllHoldTheirChildren (first_value v vs) es = HoldsItsChildren v es × AllHoldTheirChildren vs (starts_after v es)

-- and so it is in the value of each document
abbrev pub EachHoldsItsChildren : DocumentTexts → Type 0
EachHoldsItsChildren no_texts = Unit {0}
EachHoldsItsChildren (text_after ts d m n v i p q) = EachHoldsItsChildren ts × HoldsItsChildren v []

-- every id in each loaded document names one of its nodes
abbrev pub EachIdNames : List Load → Type 0
EachIdNames [] = Unit {0}
EachIdNames (Ok d ∷ l) = EveryIdNamesANode d.nodes × EachIdNames l
EachIdNames (Err f ∷ l) = EachIdNames l

-- the load of a number, counted from 0: after the last that one again and again, and z where there is none
abbrev pub load_at : Load → ℕ → List Load → Load
load_at z n [] = z
load_at z zero (a ∷ l) = a
load_at z (suc n) (a ∷ l) = load_at a n l

-- an error again and again, else what comes after
abbrev pub unless_fault : Load → Load → Load
unless_fault (Ok d) b = b
unless_fault (Err f) b = Err f

-- what the events of a document that is open at the end of a run give, if there is one: its composer error, if it has one,
-- and else how the run ends
abbrev pub fault_or : Option Fault → Load → Load
fault_or None z = z
fault_or (Some f) z = Err f

abbrev pub open_load : List Event → Ending → Load
open_load [] x = last_load x
open_load (e ∷ r) x = fault_or (composer_fault [] (parts r)) (last_load x)

-- an alias, a scalar or the start of a collection: a node begins with it
abbrev pub BeginsNode : Option Part → Type 0
BeginsNode None = ⊥
BeginsNode (Some (alias_part a m)) = Unit {0}
BeginsNode (Some (leaf_part a x)) = Unit {0}
BeginsNode (Some (start_part a x)) = Unit {0}
BeginsNode (Some (end_part n)) = ⊥

abbrev pub RootFollows : Option Opening → List Event → Type 0
RootFollows None r = Unit {0}
RootFollows (Some o) [] = Unit {0}
RootFollows (Some o) (e ∷ r) = BeginsNode (part_of e)

-- after each document's start its root begins, unless the events stop there
abbrev pub RootsFollow : List Event → Type 0
RootsFollow [] = Unit {0}
RootsFollow (e ∷ r) = RootFollows (opening_of e) r × RootsFollow r

-- The loads of events that nest as far as they go: the graphs of the whole documents, up to the first composer error, and
-- then what the open document gives.
pub data NestedLoads (e : List Event) (x : Ending) (a : List Load) : Type 0 where
  not_begun : e ≡ [] → a ≡ last_load x ∷ [] → NestedLoads e x a
  has_begun : (n : HasBegun e) → a ≡ loads_of n.texts (open_load n.open_document x ∷ []) → NestedLoads e x a
  whole : (n : IsNested e) → a ≡ loads_of n.texts (last_load x ∷ []) → NestedLoads e x a

-- The loads over a list whose only STREAM-END is its last token: the graphs of its one tree's documents, up to the first
-- composer error, and then the document without root; or those of the one partial tree that fits, and then the composer
-- error of the document that is open in it, or the partial tree's own. The error after the list never shows.
pub data LoadsWhole (l : List Token) (f : Fault) : Type 0 where
  to_its_end : (t : Stream) → in_order t ≡ true → l ≡ tokens t → (a : List Load) → IsLoads l f a → (n : IsNested (events t))
      → a ≡ loads_of n.texts (last_load Ends ∷ []) → LoadsWhole l f
  to_its_fault : (before : List Token) (token : Token) (following : List Token) (c : PartialTree)
      → l ≡ before ++ token ∷ following → Fits before token c → (a : List Load)
      → IsLoads l f a → NestedLoads (partial_events c token) (Fails (fault c token.content token.start_mark)) a → LoadsWhole l f
