-- The loads over a list of tokens: there is one list of them, and those of known trees are known.
use Rattle.std.proofs.Common.{◌≡◌, List, [], ◌∷◌, ◌++◌, Option, Some, None, true, false, refl, sym, subst, arith}
use Rattle.libyaml_grammar.specs.partial.PartialEvents.{partial_events}
use Rattle.libyaml_grammar.specs.partial.PartialFaults.{fault}
use Rattle.libyaml_grammar.specs.partial.PartialTrees.{PartialTree}
use Rattle.libyaml_grammar.specs.grammar.Events.{Event, events}
use Rattle.libyaml_types.specs.Fault.{Fault}
use Rattle.libyaml_grammar.specs.partial.Fits.{Fits}
use Rattle.libyaml_grammar.specs.grammar.Nesting.{IsNested, DocumentTexts, Value, no_texts, text_after, value_events}
use Rattle.libyaml_grammar.specs.grammar.Order.{in_order}
use Rattle.libyaml_grammar.specs.runs.Runs.{Ending, Ends, Fails, IsRun, RunsWhole, is_after_properties, to_its_end, to_its_fault}
use Rattle.libyaml_grammar.specs.grammar.ValidLists.{IsViablePrefix, has_end}
use Rattle.libyaml_grammar.specs.partial.DeterminedEvents.{Determines}
use Rattle.libyaml_grammar.specs.grammar.Tokens.{Marks, StreamEnd, Token, tok}
use Rattle.libyaml_grammar.specs.grammar.Trees.{Stream, tokens}
use Rattle.libyaml_grammar.proofs.exported.Headline.{runs_whole}
use Rattle.libyaml_grammar.proofs.exported.Nesting.{events_nest_proof}
use Rattle.libyaml_grammar.proofs.exported.NestingSoFar.{run_nests_so_far}
use Rattle.libyaml_grammar.proofs.exported.Running.{amid_run, begin_run, partial_run, one_run_proof, valid_list_run, some_run_proof}
use Rattle.libyaml_documents.specs.Nodes.{EveryIdNamesANode}
use Rattle.libyaml_graphs.specs.graphs.ComposerFaults.{composer_fault}
use Rattle.libyaml_graphs.specs.loads.GraphLaws.{EachIdNames, LoadsWhole, NestedLoads, fault_or, has_begun, not_begun, open_load, whole}
use Rattle.libyaml_graphs.specs.loads.GraphLaws as law
use Rattle.libyaml_graphs.specs.graphs.Graphs.{nodes_of}
use Rattle.libyaml_graphs.specs.loads.Loads.{IsLoads, Load, last_load, load_then, loads, loads_of}
use Rattle.libyaml_graphs.specs.graphs.GraphParts.{Closing, Opening, parts}
use Rattle.libyaml_graphs.proofs.graphs.Ids.{every_id}
use Rattle.libyaml_graphs.proofs.loads.TextLoads.{nested_loads, whole_loads}

pub some_loads : (l : List Token) (f : Fault) → (a : List Load) × IsLoads l f a
some_loads l f =
    let h : (e : List Event) × (x : Ending) × IsRun l f e x = some_run_proof l f in
    (loads h.0 h.1, record { events = h.0; ending = h.1; run = h.2; all = refl })

pub one_loads : (l : List Token) (f : Fault) (a b : List Load) → IsLoads l f a → IsLoads l f b → a ≡ b
one_loads l f a b h k = grind (arith, one_run_proof l f h.events k.events h.ending k.ending h.run k.run)

-- the loads of every run, whatever cuts it off
pub run_loads : (l : List Token) (f : Fault) (a : List Load) (h : IsLoads l f a) → NestedLoads h.events h.ending a
run_loads l f a h = subst (NestedLoads h.events h.ending) (sym h.all)
    (nested_loads h.events h.ending (run_nests_so_far l f h.events h.ending h.run))

of_run : (l : List Token) (f : Fault) (e : List Event) (x : Ending) → IsRun l f e x
    → (a : List Load) × IsLoads l f a × NestedLoads e x a
of_run l f e x r = (
  loads e x,
  record { events = e; ending = x; run = r; all = refl },
  nested_loads e x (run_nests_so_far l f e x r),
)

pub valid_list_loads : (t : Stream) (r : List Token) (f : Fault) → in_order t ≡ true → (n : IsNested (events t))
    × IsLoads (tokens t ++ r) f (loads_of n.texts (last_load Ends ∷ []))
valid_list_loads t r f o =
    let n : IsNested (events t) = events_nest_proof t in
    (n, record { events = events t; ending = Ends; run = valid_list_run t r f o; all = sym (whole_loads (events t) n Ends) })

pub partial_tree_loads : (l : List Token) (b : Token) (r : List Token) (c : PartialTree) (f : Fault) → Fits l b c
    → is_after_properties c r ≡ true → (a : List Load)
    × IsLoads (l ++ b ∷ r) f a × NestedLoads (partial_events c b) (Fails (fault c b.content b.start_mark)) a
partial_tree_loads l b r c f i h = search (arith, of_run, partial_run)

pub amid_loads : (l : List Token) (b : Token) (r : List Token) (c : PartialTree) (f : Fault) → Fits l b c
    → is_after_properties c r ≡ false → (a : List Load)
    × IsLoads (l ++ b ∷ r) f a × NestedLoads (partial_events c b) (Fails f) a
amid_loads l b r c f i h = of_run (l ++ b ∷ r) f (partial_events c b) (Fails f) (amid_run l b r c f i h)

pub viable_prefix_loads : (l : List Token) (e : List Event) (f : Fault) → IsViablePrefix l → has_end l ≡ false
    → Determines l e → (a : List Load) × IsLoads l f a
    × NestedLoads e (Fails f) a
viable_prefix_loads l e f b h s = of_run l f e (Fails f) (begin_run l e f b h s)

-- the headline
loads_whole : (l : List Token) (f : Fault) → RunsWhole l f → LoadsWhole l f
loads_whole l f (to_its_end t o e r) =
    let n : IsNested (events t) = events_nest_proof t in
    law.to_its_end t o e (loads (events t) Ends) (record { events = events t; ending = Ends; run = r; all = refl })
    n (whole_loads (events t) n Ends)
loads_whole l f (to_its_fault before token following c e i r) =
    let x : Ending = Fails (fault c token.content token.start_mark) in
    let y = of_run l f (partial_events c token) x r in
    law.to_its_fault before token following c e i y.0 y.1 y.2

pub headline : (l : List Token) (m : Marks) (f : Fault) → has_end l ≡ false → LoadsWhole (l ++ tok StreamEnd m ∷ []) f
headline l m f h = loads_whole (l ++ tok StreamEnd m ∷ []) f (runs_whole l m f h)

-- every id in each loaded document names one of its nodes
text_ids : (v : Value) (f : Option Fault) (c : Closing) (o : Opening) (z : Load) (l : List Load)
    → (f ≡ None → EveryIdNamesANode (nodes_of v [] []))
    → EachIdNames l → EachIdNames (load_then f (Some c) o (nodes_of v [] []) z l)
text_ids v f c o z l h k = grind arith

texts_ids : (ts : DocumentTexts) (l : List Load) → EachIdNames l → EachIdNames (loads_of ts l)
texts_ids no_texts l k = k
texts_ids (text_after ts d m n v i p q) l k
    = texts_ids ts _ (text_ids v (composer_fault [] (parts (value_events v [])))
    (record { is_implicit = i; mark = q }) (record { start = d; mark = m })
    (last_load Ends) l (λ e. every_id v e) k)

last_ids : (x : Ending) → EachIdNames (last_load x ∷ [])
last_ids x = grind arith

open_ids : (l : List Event) (x : Ending) → EachIdNames (open_load l x ∷ [])
open_ids l x = grind arith

nested_ids : (e : List Event) (x : Ending) (a : List Load) → NestedLoads e x a → EachIdNames a
nested_ids e x a h = grind (arith, last_ids, texts_ids, open_ids)

pub loaded_ids : (l : List Token) (f : Fault) (a : List Load) → IsLoads l f a → EachIdNames a
loaded_ids l f a h = nested_ids h.events h.ending a (run_loads l f a h)
