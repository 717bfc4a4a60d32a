-- A load on the way: the events that it took lead to where its composer stands.
use Rattle.std.proofs.Common.{◌≡◌, ◌++◌, ◌∷◌, ℕ, List, [], None, Some, Ok, Err, refl, sym, ap, ◌∙◌, append_assoc, true, append-nil, false, arith}
use Rattle.libyaml_documents.specs.Documents.{Document, empty_document}
use Rattle.libyaml_events.specs.machine.Config.{Parser}
use Rattle.libyaml_events.specs.sources.History.{History, between_documents, keeping}
use Rattle.libyaml_events.specs.sources.RunToCome.{RunToCome}
use Rattle.libyaml_grammar.specs.runs.Runs.{Ending}
use Rattle.libyaml_grammar.specs.grammar.Events.{Event}
use Rattle.libyaml_grammar.specs.grammar.Tokens.{Token}
use Rattle.libyaml_types.specs.Fault.{Fault}
use Rattle.libyaml_types.specs.declared.source.yaml_token_source_t.{Ghosts}
use Rattle.libyaml_graphs.specs.loads.Bounds.{next_bounded}
use Rattle.libyaml_graphs.specs.graphs.GraphParts.{Closing, Opening, closing_of}
use Rattle.libyaml_graphs.specs.loads.Loads.{document, last_load, left_over}
use Rattle.libyaml_graphs.specs.machine.Loader.{Loader, State, between, left_from, load_from, within}
use Rattle.libyaml_graphs.proofs.exported.BoundedLoader.{one_load}
use Rattle.libyaml_graphs.proofs.exported.LoaderSteps.{closes, closes_left, nothing_left}
use Rattle.libyaml_events.specs.sources.CallsInTurn.{Took}
use Rattle.libyaml_loader.specs.loads.Loading.{LoadFails, LoadsFrom, ParserFails, at_end, by_loader, by_memory, by_parser, whole}
use Rattle.libyaml_loader.specs.pushes.Composing as composing
use Rattle.libyaml_loader.specs.pushes.Composing.{RefusesEvent}
use Rattle.libyaml_graphs.specs.loads.Leads.{Leads}
use Rattle.libyaml_loader.specs.pushes.LoadMemory.{for_document, for_node}
use Rattle.libyaml_loader.proofs.loads.Reaching.{left_by, load_by, load_of_first}
use Rattle.libyaml_events.proofs.exported.Taking.{took_both, took_none}
use Rattle.libyaml_loader.proofs.loads.Taking.{FindsEnd}
use Rattle.libyaml_graphs.proofs.exported.Leading.{leads_both, leads_none}

none_left : (s : State) → left_from s [] ≡ []
none_left s = grind arith

module _ {S : Type 0} (g : Ghosts S) (n : ℕ) where
  -- the events taken since the first parser lead here, and end no document
  pub record OnTheWay (first now : Parser S) (here : State) : Type 0 where
    pub taken : List Event
    pub took : Took g first now taken
    pub leads : Leads n between taken [] here
    pub most : now.max_entries ≡ first.max_entries

  pub way_none : (p : Parser S) → OnTheWay p p between
  way_none p = record {
    taken = [];
    took = took_none g p;
    leads = leads_none n between;
    most = refl;
  }

  module _ (first now : Parser S) (here : State) (w : OnTheWay first now here) where
    pub way_more : (new : Parser S) (there : State) (e : Event) → Took g now new (e ∷ [])
        → Leads n here (e ∷ []) [] there → new.max_entries ≡ now.max_entries → OnTheWay first new there
    way_more new there e took leads most = record {
      taken = w.taken ++ e ∷ [];
      took = took_both g first now new w.taken (e ∷ []) w.took took;
      leads = leads_both n between here there w.taken (e ∷ []) [] [] w.leads leads;
      most = most ∙ w.most;
    }

    load_here : (rest : List Event) (x : Ending) → next_bounded n (w.taken ++ rest) x ≡ load_from n here rest x
    load_here rest x = sym (one_load (w.taken ++ rest) x n) ∙ load_by n between here w.taken w.leads rest x

    load_after : (e : Event) (rest : List Event) (x : Ending)
        → next_bounded n ((w.taken ++ e ∷ []) ++ rest) x ≡ load_from n here (e ∷ rest) x
    load_after e rest x = grind (arith, append_assoc, load_here)

    waits : (x : Ending) → next_bounded n w.taken x ≡ last_load x
    waits x = cc (append-nil w.taken, load_here [] x, nothing_left n here x)

    -- the next event ends the document
    pub way_ends : (new : Parser S) (e : Event) (o : Opening) (l : Loader) (c : Closing) (d : Document)
        → Took g now new (e ∷ []) → here ≡ within o l → closing_of e ≡ Some c → d ≡ document o l.nodes c
        → between_documents new ≡ true → LoadsFrom g (next_bounded n) left_over first (Ok d) new
    way_ends new e o l c d took at ends is stands = whole (w.taken ++ e ∷ [])
        (took_both g first now new w.taken (e ∷ []) w.took took)
        (λ (rest : List Event) (x : Ending). load_after e rest x
        ∙ (ap (λ (s : State). load_from n s (e ∷ rest) x) at
        ∙ (closes n o l e rest x c ends ∙ ap (λ (y : Document). Ok y) (sym is))))
        (λ (rest : List Event). ap left_over (append_assoc w.taken (e ∷ []) rest)
        ∙ (left_by n between here w.taken w.leads (e ∷ rest)
        ∙ (ap (λ (s : State). left_from s (e ∷ rest)) at ∙ closes_left o l e rest c ends)))
        (λ (asked : List Token) (given : List Event) (h : History first asked given). stands)

    -- no event is left
    pub way_finds_end : (new : Parser S) (d : Document) → FindsEnd g now new → d ≡ empty_document None [] false false
        → LoadsFrom g (next_bounded n) left_over first (Ok d) new
    way_finds_end new d h is = at_end (w.taken ++ [])
        (took_both g first now new w.taken [] w.took h.took) (λ (x : Ending). load_here [] x ∙ nothing_left n here x)
        (left_by n between here w.taken w.leads [] ∙ none_left here)
        (λ (events : List Event) (ending : Ending) (run : RunToCome g.known first events ending).
        let t = w.took.runs events ending run in
        let e = h.ends t.later ending t.run in
        (t.all ∙ ap (λ (l : List Event). w.taken ++ l) e.0, e.1))
        is
        (λ (asked : List Token) (given : List Event) (history : History first asked given). h.stands _ _
        (w.took.history asked given history).history)

    -- the parser fails
    pub way_fails : (new : Parser S) → ParserFails g now new → LoadFails g (next_bounded n) left_over first new
    way_fails new h = by_parser w.taken now w.took h waits

    -- the next event is refused
    pub way_refused : (mid new : Parser S) (e : Event) (f : Fault) → Took g now mid (e ∷ [])
        → RefusesEvent ⊥ n here e f → new ≡ keeping f mid → LoadFails g (next_bounded n) left_over first new
    way_refused mid new e f took refuses keeps = go refuses
      where
        took_all : Took g first mid (w.taken ++ e ∷ [])
        took_all = took_both g first now mid w.taken (e ∷ []) w.took took

        go : RefusesEvent ⊥ n here e f → LoadFails g (next_bounded n) left_over first new
        go (composing.by_loads loads) = by_loader w.taken e mid took_all f
            (λ (asked : List Token) (given : List Event) (h : History mid asked given). keeps) waits
            (λ (rest : List Event) (x : Ending). load_after e rest x
            ∙ load_of_first n here (e ∷ rest) x (Err f) [] (loads rest x))
        go (composing.by_memory is (for_node o l at grows)) = by_memory w.taken e mid took_all
            (λ (asked : List Token) (given : List Event) (h : History mid asked given). keeps
            ∙ ap (λ (v : Fault). keeping v mid) is)
            (record {
              most = n;
              opening = o;
              loader = l;
              stands = λ (rest : List Event) (x : Ending). load_here rest x
                  ∙ ap (λ (s : State). load_from n s rest x) at;
              grows = grows;
            })
        go (composing.by_memory is (for_document c ends full)) = absurd full
