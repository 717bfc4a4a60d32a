-- One load by events that lead from one state to another and end no document: it comes to the load from there.
use Rattle.std.proofs.Common.{◌≡◌, ◌++◌, ◌∷◌, ℕ, List, [], Option, Some, None, Ok, Err, refl, sym, ap, ◌∙◌, append-nil, arith}
use Rattle.libyaml_documents.specs.Documents.{Document}
use Rattle.libyaml_grammar.specs.grammar.Events.{Event}
use Rattle.libyaml_grammar.specs.runs.Runs.{Ending, Ends, Fails}
use Rattle.libyaml_types.specs.Fault.{Fault, memory_fault}
use Rattle.libyaml_graphs.specs.graphs.GraphParts.{Closing, Opening, closing_of, opening_of, part_of}
use Rattle.libyaml_graphs.specs.loads.Loads.{Begun, Load, Stop, last_load, loads_by, next_by}
use Rattle.libyaml_graphs.specs.machine.Loader.{Loading, State, between, bounded_option, failed, fresh, going, left_from, load_from, within}
use Rattle.libyaml_graphs.proofs.exported.BoundedLoader.{one_load}
use Rattle.libyaml_graphs.proofs.exported.LoaderSteps.{goes_on_left, opens_left, passes_left}
use Rattle.libyaml_graphs.specs.loads.Leads.{Leads, after_events, loads_from, whole_then}
use Rattle.libyaml_graphs.proofs.exported.Leading.{closes_there, from_none, goes_there, opens_there, passes_by, refused_there}

-- a load is the first of the loads to come
abbrev first : List Load → Load
first [] = last_load Ends
first (a ∷ l) = a

first_by : (stop : Stop) (x : Ending) (bs : List Begun) → first (loads_by stop x bs) ≡ next_by stop x bs
first_by stop x bs = grind arith

first_whole : (c : Option Closing) (a : Load) (l : List Load) → first (whole_then c a l) ≡ a
first_whole c a l = grind arith

first_load : (n : ℕ) (s : State) (e : List Event) (x : Ending) → first (loads_from n s e x) ≡ load_from n s e x
first_load n s e x = grind (arith, first_by, one_load, first_whole)

-- the first of the loads from a state is the load from there
pub load_of_first : (n : ℕ) (s : State) (e : List Event) (x : Ending) (a : Load) (l : List Load)
    → loads_from n s e x ≡ a ∷ l → load_from n s e x ≡ a
load_of_first n s e x a l h = sym (first_load n s e x) ∙ ap first h

pub load_by : (n : ℕ) (s t : State) (taken : List Event) → Leads n s taken [] t → (rest : List Event) (x : Ending)
    → load_from n s (taken ++ rest) x ≡ load_from n t rest x
load_by n s t taken h rest x = sym (first_load n s (taken ++ rest) x) ∙ (ap first (h.loads rest x) ∙ first_load n t rest x)

-- no document ends with these events, and none is refused
abbrev Waits : ℕ → State → List Event → Type 0
Waits n s taken = (x : Ending) → loads_from n s taken x ≡ last_load x ∷ []

not_refused : {f : Fault} {d : Document} {l m : List Load} → ◌≡◌ {A = List Load} (Ok d ∷ l) (Err f ∷ m) → ⊥
not_refused h = cc

module _ (n : ℕ) (e : Event) (a rest : List Event)
    (later : (t : State) → Waits n t a → left_from t (a ++ rest) ≡ left_from (after_events n t a) rest) where
  left_step : (s t : State) → Leads n s (e ∷ []) [] t → left_from s (e ∷ (a ++ rest)) ≡ left_from t (a ++ rest)
      → Waits n s (e ∷ a) → left_from s (e ∷ (a ++ rest)) ≡ left_from (after_events n s (e ∷ a)) rest
  left_step s t h left waits = grind arith

  left_first : (s : State) → Waits n s (e ∷ a) → left_from s (e ∷ (a ++ rest)) ≡ left_from (after_events n s (e ∷ a)) rest
  left_first between waits = go (opening_of e) refl
    where
      go : (c : Option Opening) → opening_of e ≡ c
          → left_from between (e ∷ (a ++ rest)) ≡ left_from (after_events n between (e ∷ a)) rest
      go None is = left_step between between (passes_by n e is) (passes_left e (a ++ rest) is) waits
      go (Some o) is = left_step between (within o fresh) (opens_there n e o is) (opens_left e (a ++ rest) o is) waits
  left_first (within o l) waits = go (closing_of e) refl
    where
      by : (r : Loading) → closing_of e ≡ None → bounded_option n l (part_of e) ≡ r
          → left_from (within o l) (e ∷ (a ++ rest)) ≡ left_from (after_events n (within o l) (e ∷ a)) rest
      by (going k) no_end is = left_step (within o l) (within o k) (goes_there n o l k e no_end is)
          (goes_on_left o l k e (a ++ rest) no_end) waits
      by (failed f) no_end is = absurd (not_refused (sym (waits Ends) ∙ refused_there n o l e f no_end is a Ends))

      go : (c : Option Closing) → closing_of e ≡ c
          → left_from (within o l) (e ∷ (a ++ rest)) ≡ left_from (after_events n (within o l) (e ∷ a)) rest
      go None is = by (bounded_option n l (part_of e)) is refl
      go (Some c) is = absurd (not_refused (sym ((closes_there n o l e c is).loads a (Fails memory_fault))
          ∙ waits (Fails memory_fault)))

left_after : (taken : List Event) (n : ℕ) (rest : List Event) (s : State) → Waits n s taken
    → left_from s (taken ++ rest) ≡ left_from (after_events n s taken) rest
left_after [] n rest s waits = refl
left_after (e ∷ a) n rest s waits = left_first n e a rest (left_after a n rest) s waits

pub left_by : (n : ℕ) (s t : State) (taken : List Event) → Leads n s taken [] t → (rest : List Event)
    → left_from s (taken ++ rest) ≡ left_from t rest
left_by n s t taken h rest = left_after taken n rest s waits ∙ ap (λ (u : State). left_from u rest) (sym h.state)
  where
    waits : Waits n s taken
    waits x = ap (λ (e : List Event). loads_from n s e x) (sym (append-nil taken)) ∙ (h.loads [] x ∙ from_none n t x)
