-- A load that fails, with the document that is open there.
use Rattle.std.proofs.Common.{◌≡◌, ◌++◌, ◌∷◌, ℕ, List, [], Bool, false, true, Option, None, Some, Err, refl, sym, ap, ◌∙◌, subst, option_map, string_bytes, arith}
use Rattle.libyaml_types.specs.Events.{zero_mark}
use Rattle.libyaml_types.specs.Fault.{Fault}
use Rattle.libyaml_types.specs.Types.{event_anchor}
use Rattle.libyaml_types.specs.declared.source.yaml_token_source_t.{Ghosts}
use Rattle.libyaml_grammar.specs.grammar.Events.{Event}
use Rattle.libyaml_grammar.specs.grammar.Tokens.{Mark, Token}
use Rattle.libyaml_grammar.specs.runs.Runs.{Ending, Ends}
use Rattle.libyaml_documents.specs.Documents.{Document}
use Rattle.libyaml_events.specs.machine.Config.{Parser}
use Rattle.libyaml_events.specs.sources.CallsInTurn.{Took}
use Rattle.libyaml_events.specs.sources.History.{History, keeping}
use Rattle.libyaml_events.proofs.exported.Taking.{took_both, took_none}
use Rattle.libyaml_graphs.specs.graphs.GraphParts.{Closing, Opening, closing_of, opening_of, part_of}
use Rattle.libyaml_graphs.specs.loads.Leads.{Leads, as_loads, loads_from}
use Rattle.libyaml_graphs.specs.loads.Loads.{Load, last_load}
use Rattle.libyaml_graphs.specs.machine.Loader.{Loading, State, between, bounded_option, failed, going, within}
use Rattle.libyaml_graphs.proofs.exported.Leading.{closes_there, from_none, goes_there, leads_both, leads_none, opens_there, passes_by}
use Rattle.libyaml_loader.specs.declared.load_partial.yaml_partial_t.{yaml_partial_t}
use Rattle.libyaml_loader.specs.document.Context.{loader_of}
use Rattle.libyaml_loader.specs.loads.HalfDocument.{IsHalf, last_end}
use Rattle.libyaml_loader.specs.loads.Loading.{ParserFails}
use Rattle.libyaml_events.specs.sources.Naming.{NamesHandle}
use Rattle.libyaml_loader.specs.loads.PartialLoad.{HalfOf, DocumentTakes, by_loader, by_memory, by_parser, named_by}
use Rattle.libyaml_loader.specs.pushes.Composing as composing
use Rattle.libyaml_loader.specs.declared.composer.DocumentBuilder.{DocumentBuilder}
use Rattle.libyaml_loader.specs.pushes.Composing.{RefusesEvent, composer_state, state_by}
use Rattle.libyaml_loader.proofs.loads.OnTheWay.{OnTheWay}

-- an event that leads on is not refused
not_first : (d : List Document) (f : Fault) → as_loads d ++ last_load Ends ∷ [] ≡ Err f ∷ [] → ⊥
not_first [] f h = cc
not_first (x ∷ d) f h = cc

not_refused : (n : ℕ) (s t : State) (e : Event) (d : List Document) (f : Fault) → Leads n s (e ∷ []) d t
    → loads_from n s (e ∷ []) Ends ≡ Err f ∷ [] → ⊥
not_refused n s t e d f leads h = not_first d f
    (sym (leads.loads [] Ends ∙ ap (λ (l : List Load). as_loads d ++ l) (from_none n t Ends)) ∙ h)

-- an event that the document takes isn't refused
never : (n : ℕ) (s : State) (e : Event) (f : Fault) → DocumentTakes n s e
    → ((rest : List Event) (x : Ending) → loads_from n s (e ∷ rest) x ≡ Err f ∷ []) → ⊥
never n between e f taken h = by (opening_of e) refl
  where
    by : (o : Option Opening) → opening_of e ≡ o → ⊥
    by None is = not_refused n between between e [] f (passes_by n e is) (h [] Ends)
    by (Some o) is = not_refused n between _ e [] f (opens_there n e o is) (h [] Ends)
never n (within o l) e f taken h = by (closing_of e) refl
  where
    on : closing_of e ≡ None → (r : Loading) → bounded_option n l (part_of e) ≡ r → ⊥
    on none (going k) is = not_refused n (within o l) (within o k) e [] f (goes_there n o l k e none is) (h [] Ends)
    on none (failed x) is = taken o l refl x is

    by : (c : Option Closing) → closing_of e ≡ c → ⊥
    by None is = on is (bounded_option n l (part_of e)) refl
    by (Some c) is = not_refused n (within o l) between e _ f (closes_there n o l e c is) (h [] Ends)

module _ {S : Type 0} (g : Ghosts S) (n : ℕ) (first now : Parser S) (here : State) (w : OnTheWay g n first now here)
    (m : Mark) (same : m ≡ last_end zero_mark w.taken) (p : yaml_partial_t) where
  at_last_end : IsHalf n m here p.document → IsHalf n (last_end zero_mark w.taken) here p.document
  at_last_end half = subst (λ (q : Mark). IsHalf n q here p.document) same half

  pub half_by_parser : (new : Parser S) → ParserFails g now new → IsHalf n m here p.document
      → NamesHandle g.gives now p.error new (option_map string_bytes p.name)
      → HalfOf g n first new p
  half_by_parser new fails half names = by_parser w.taken now here w.took fails w.leads (at_last_end half) names

  pub half_by_loader : (mid new : Parser S) (e : Event) (f : Fault) → Took g now mid (e ∷ [])
      → ((rest : List Event) (x : Ending) → loads_from n here (e ∷ rest) x ≡ Err f ∷ []) → new ≡ keeping f mid
      → IsHalf n m here p.document → option_map string_bytes p.name ≡ named_by f.error (event_anchor e.content) → HalfOf g n first new p
  half_by_loader mid new e f took refuses keeps half name = by_loader w.taken e mid here f
      (took_both g first now mid w.taken (e ∷ []) w.took took)
      (λ (asked : List Token) (given : List Event) (h : History mid asked given). keeps) w.leads refuses (at_last_end half) name

  -- an allocation failed at an event that the document takes
  pub half_by_memory : (mid new : Parser S) (e : Event) (f : Fault) → Took g now mid (e ∷ []) → RefusesEvent ⊥ n here e f
      → DocumentTakes n here e → new ≡ keeping f mid → p.document ≡ None → p.name ≡ None → HalfOf g n first new p
  half_by_memory mid new e f took (composing.by_loads loads) taken keeps document name = absurd (never n here e f taken loads)
  half_by_memory mid new e f took (composing.by_memory is needs) taken keeps document name = by_memory w.taken e mid here
      (took_both g first now mid w.taken (e ∷ []) w.took took)
      (λ (asked : List Token) (given : List Event) (h : History mid asked given). keeps ∙ ap (λ (v : Fault). keeping v mid) is)
      w.leads needs taken document name

last_end_more : (m : Mark) (l : List Event) (e : Event) → last_end m (l ++ e ∷ []) ≡ e.end_mark
last_end_more m [] e = refl
last_end_more m (x ∷ l) e = last_end_more x.end_mark l e

-- on the way, with the end of the last event that was taken
module _ {S : Type 0} (g : Ghosts S) (n : ℕ) where
  abbrev pub HalfWay : (first now : Parser S) → State → Mark → Type 0
  HalfWay first now here m = (w : OnTheWay g n first now here) × (m ≡ last_end zero_mark w.taken)

  pub half_none : (p : Parser S) (b : DocumentBuilder) → b.is_open ≡ false → HalfWay p p (composer_state b) zero_mark
  half_none p b none = subst (λ (o : Bool). HalfWay p p (state_by o b.ctx) zero_mark) (sym none)
      (record { taken = []; took = took_none g p; leads = leads_none n between; most = refl }, refl)

  pub half_more : (first now new : Parser S) (here there : State) (w : OnTheWay g n first now here) (e : Event)
      → Took g now new (e ∷ []) → Leads n here (e ∷ []) [] there → new.max_entries ≡ now.max_entries
      → HalfWay first new there e.end_mark
  half_more first now new here there w e took leads most = (
    record {
      taken = w.taken ++ e ∷ [];
      took = took_both g first now new w.taken (e ∷ []) w.took took;
      leads = leads_both n between here there w.taken (e ∷ []) [] [] w.leads leads;
      most = most ∙ w.most;
    },
    sym (last_end_more zero_mark w.taken e),
  )

pub no_error : (b : DocumentBuilder) (e : Event) (n : ℕ) → b.max_entries ≡ n
    → (b.is_open ≡ true → (x : Fault) → bounded_option b.max_entries (loader_of b.ctx) (part_of e) ≡ failed x → ⊥)
    → DocumentTakes n (composer_state b) e
no_error b e n is none o l at x fails = by b.is_open refl
  where
    by : (i : Bool) → b.is_open ≡ i → ⊥
    by true here = grind arith
    by false here = grind arith
