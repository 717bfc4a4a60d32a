-- How the loads of a run go on by the events that a loader is handed.
use Rattle.std.proofs.Common.{◌≡◌, ℕ, List, [], ◌∷◌, ◌++◌, Option, Some, None, Ok, Err, refl, sym, ap, ◌∙◌, append_assoc}
use Rattle.libyaml_documents.specs.Documents.{Document}
use Rattle.libyaml_documents.specs.declared.node.yaml_node_t.{yaml_node_t}
use Rattle.libyaml_grammar.specs.grammar.Events.{Event}
use Rattle.libyaml_grammar.specs.runs.Runs.{Ending}
use Rattle.libyaml_types.specs.Fault.{Fault}
use Rattle.libyaml_graphs.specs.graphs.GraphParts.{Closing, Opening, closing_of, graph, opening_of, part_of, parts}
use Rattle.libyaml_graphs.specs.loads.Bounds.{bounded_loads, first_stop}
use Rattle.libyaml_graphs.specs.loads.Loads.{Begun, Load, load_answer, begun, begun_after, after_document, document, end_of_document, last_load, load_then, loads_by, next_by}
use Rattle.libyaml_graphs.specs.machine.Loader.{Loader, Loading, State, between, bounded_option, failed, fresh, going, if_going, load_from, within}
use Rattle.libyaml_graphs.proofs.exported.BoundedLoader.{one_load}
use Rattle.libyaml_graphs.proofs.exported.LoaderSteps.{nothing_left, opens, within_event}
use Rattle.libyaml_graphs.proofs.exported.Roots.{left_after}
use Rattle.libyaml_graphs.specs.loads.Leads.{Leads, as_loads, after_event, after_events, loads_from, whole_then}

-- at the end of the events
pub from_none : (n : ℕ) (s : State) (x : Ending) → loads_from n s [] x ≡ last_load x ∷ []
from_none n between x = refl
from_none n (within o l) x = go (last_load x) (sym (nothing_left n (within o l) x))
  where
    go : (a : Load) → a ≡ load_from n (within o l) [] x
        → whole_then None (load_from n (within o l) [] x) (bounded_loads n [] x) ≡ a ∷ []
    go (Ok d) h = ap (λ (b : Load). whole_then None b (bounded_loads n [] x)) (sym h)
    go (Err f) h = ap (λ (b : Load). whole_then None b (bounded_loads n [] x)) (sym h)

-- nothing is handed to it, or some events and then more
pub leads_none : (n : ℕ) (s : State) → Leads n s [] [] s
leads_none n s = record { loads = λ rest x. refl; state = refl }

as_loads_both : (a b : List Document) (l : List Load) → as_loads a ++ (as_loads b ++ l) ≡ as_loads (a ++ b) ++ l
as_loads_both [] b l = refl
as_loads_both (d ∷ a) b l = ap (λ (m : List Load). Ok d ∷ m) (as_loads_both a b l)

after_both : (n : ℕ) (s : State) (a b : List Event) → after_events n s (a ++ b) ≡ after_events n (after_events n s a) b
after_both n s [] b = refl
after_both n s (e ∷ a) b = after_both n (after_event n s e) a b

pub leads_both : (n : ℕ) (s t u : State) (a b : List Event) (ds es : List Document) → Leads n s a ds t
    → Leads n t b es u → Leads n s (a ++ b) (ds ++ es) u
leads_both n s t u a b ds es h k = record {
  loads = λ rest x.
      ap (λ (l : List Event). loads_from n s l x) (append_assoc a b rest)
      ∙ (h.loads (b ++ rest) x ∙ (ap (λ (l : List Load). as_loads ds ++ l) (k.loads rest x)
      ∙ as_loads_both ds es (loads_from n u rest x)));
  state = k.state ∙ (ap (λ (v : State). after_events n v b) h.state ∙ sym (after_both n s a b));
}

-- between documents
pub passes_by : (n : ℕ) (e : Event) → opening_of e ≡ None → Leads n between (e ∷ []) [] between
passes_by n e h = record {
  loads = λ rest x. ap (λ (c : Option Opening). loads_by (first_stop n [] []) x
      (elim c [ None ↦ begun rest | Some o ↦ record { opening = o; rest = rest } ∷ begun_after rest ])) h;
  state = sym (ap (λ (c : Option Opening). elim c [ None ↦ between | Some o ↦ within o fresh ]) h);
}

first_whole : (f : Option Fault) (c : Option Closing) (o : Opening) (nodes : List yaml_node_t) (x : Ending) (l : List Load)
    → load_then f c o nodes (last_load x) l ≡ whole_then c (load_answer f c o nodes (last_load x)) l
first_whole (Some f) c o nodes x l = refl
first_whole None (Some c) o nodes x l = refl
first_whole None None o nodes x l = go (last_load x)
  where
    go : (a : Load) → a ∷ [] ≡ whole_then None a l
    go (Ok y) = refl
    go (Err y) = refl

opens_loads : (n : ℕ) (e : Event) (o : Opening) → opening_of e ≡ Some o → (rest : List Event) (x : Ending)
    → loads_from n between (e ∷ rest) x ≡ loads_from n (within o fresh) rest x
opens_loads n e o h rest x
    = ap (λ (c : Option Opening). loads_by (first_stop n [] []) x (at c)) h
    ∙ (first_whole (first_stop n [] [] (parts rest)) (end_of_document rest) o (graph [] (parts rest)) x
    (loads_by (first_stop n [] []) x (begun_after rest))
    ∙ (ap (λ (a : Load). whole_then (end_of_document rest) a (loads_by (first_stop n [] []) x (begun_after rest))) first
    ∙ ap (λ (l : List Begun). whole_then (end_of_document rest) (load_from n (within o fresh) rest x)
    (loads_by (first_stop n [] []) x l)) (left_after rest)))
  where
    at : Option Opening → List Begun
    at c = elim c [ None ↦ begun rest | Some p ↦ record { opening = p; rest = rest } ∷ begun_after rest ]

    first : load_answer (first_stop n [] [] (parts rest)) (end_of_document rest) o (graph [] (parts rest)) (last_load x)
        ≡ load_from n (within o fresh) rest x
    first = sym (ap (λ (c : Option Opening). next_by (first_stop n [] []) x (at c)) h)
        ∙ (sym (one_load (e ∷ rest) x n) ∙ opens n e rest x o h)

pub opens_there : (n : ℕ) (e : Event) (o : Opening) → opening_of e ≡ Some o → Leads n between (e ∷ []) [] (within o fresh)
opens_there n e o h = record {
  loads = opens_loads n e o h;
  state = sym (ap (λ (c : Option Opening). elim c [ None ↦ between | Some p ↦ within p fresh ]) h);
}

-- within a document, by whether the event is its end
abbrev by_end : ℕ → Opening → Loader → Event → List Event → Ending → Option Closing → List Load
by_end n o l e rest x c = whole_then (elim c [ Some y ↦ Some y | None ↦ end_of_document rest ])
    (within_event n o l rest x c (part_of e))
    (bounded_loads n (elim c [ Some y ↦ rest | None ↦ after_document rest ]) x)

abbrev state_by : ℕ → Opening → Loader → Event → Option Closing → State
state_by n o l e c = elim c [
  | Some y ↦ between
  | None ↦ if_going (λ (f : Fault). between) (bounded_option n l (part_of e))
      (λ (k : Loader). within o k)
]

pub closes_there : (n : ℕ) (o : Opening) (l : Loader) (e : Event) (c : Closing) → closing_of e ≡ Some c
    → Leads n (within o l) (e ∷ []) (document o l.nodes c ∷ []) between
closes_there n o l e c h = record {
  loads = λ rest x. ap (by_end n o l e rest x) h;
  state = sym (ap (state_by n o l e) h);
}

goes : (n : ℕ) (o : Opening) (l : Loader) (e : Event) (r : Loading) → closing_of e ≡ None
    → bounded_option n l (part_of e) ≡ r
    → (rest : List Event) (x : Ending) → loads_from n (within o l) (e ∷ rest) x
    ≡ whole_then (end_of_document rest) (if_going (λ (f : Fault). Err f) r (λ (k : Loader). load_from n (within o k) rest x))
    (bounded_loads n (after_document rest) x)
goes n o l e r h g rest x = ap (by_end n o l e rest x) h
    ∙ ap (λ (u : Loading). whole_then (end_of_document rest)
    (if_going (λ (f : Fault). Err f) u (λ (k : Loader). load_from n (within o k) rest x))
    (bounded_loads n (after_document rest) x)) g

pub goes_there : (n : ℕ) (o : Opening) (l k : Loader) (e : Event) → closing_of e ≡ None
    → bounded_option n l (part_of e) ≡ going k
    → Leads n (within o l) (e ∷ []) [] (within o k)
goes_there n o l k e h g = record {
  loads = goes n o l e (going k) h g;
  state = sym (ap (state_by n o l e) h
      ∙ ap (λ (u : Loading). if_going (λ (f : Fault). between) u (λ (m : Loader). within o m)) g);
}

pub refused_there : (n : ℕ) (o : Opening) (l : Loader) (e : Event) (f : Fault) → closing_of e ≡ None
    → bounded_option n l (part_of e) ≡ failed f
    → (rest : List Event) (x : Ending) → loads_from n (within o l) (e ∷ rest) x ≡ Err f ∷ []
refused_there n o l e f h g rest x = goes n o l e (failed f) h g rest x
