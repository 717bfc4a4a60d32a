-- Two lists of documents that the contract of a whole load allows are one.
use Rattle.std.proofs.Common.{◌≡◌, ◌⊎◌, inl, inr, List, Option, Some, None, refl, sym, ap, ◌∙◌, subst}
use Rattle.libyaml_documents.specs.Documents.{Document}
use Rattle.libyaml_types.specs.Fault.{SourceResult, fault_of}
use Rattle.libyaml_types.specs.declared.fault.yaml_parser_t_prefix.{yaml_parser_t_prefix}
use Rattle.libyaml_grammar.specs.grammar.Events.{Event}
use Rattle.libyaml_grammar.specs.partial.DeterminedEvents.{Begins}
use Rattle.libyaml_grammar.specs.runs.Runs.{Ending}
use Rattle.libyaml_events.specs.sources.Determined.{OneBegins}
use Rattle.libyaml_events.specs.sources.History.{source_results}
use Rattle.libyaml_graphs.proofs.exported.LoadLists.{last_same, same_loads}
use Rattle.libyaml_events.proofs.exported.RunStops.{RunStop, begins_stopped, ended_stop, one_run_by_answers, taken_comparable}
use Rattle.libyaml_graphs.specs.loads.Loads.{last_load, loads}
use Rattle.unsafe_libyaml.specs.OneWhole.{OneDocuments}
use Rattle.unsafe_libyaml.specs.WholeLoads.{ComposerError, GathersLoads, as_whole_loads}
use Rattle.unsafe_libyaml.specs.WholeRun.{StoppedBy, ending_of}
use Rattle.unsafe_libyaml.specs.declared.load_all.yaml_documents_t.{yaml_documents_t}
use Rattle.unsafe_libyaml.proofs.OneRuns.{failed_stop}

loads_same : (c d : List Document) (x y : Ending) → as_whole_loads c x ≡ as_whole_loads d y → (c ≡ d) × (x ≡ y)
loads_same c d x y e = let s = same_loads c d (last_load x) (last_load y) e in (s.0, last_same x y s.1)

-- what a list of loads says of itself: it stopped as a run does, or by a composer error
data LoadStop (a : List SourceResult) (taken : List Event) (all : yaml_documents_t) : Type 0 where
  as_run : RunStop a taken (ending_of all.fault) → LoadStop a taken all
  composer : ComposerError taken all → LoadStop a taken all

load_stop : {S : Type 0} (gives : S → SourceResult → S → Type 0) (source : S) (all : yaml_documents_t)
    (g : GathersLoads gives source all) (o : Option yaml_parser_t_prefix)
    → all.fault ≡ o → LoadStop (source_results g.asked g.last) g.taken all
load_stop gives source all g None e
    = as_run (subst (λ (z : Option yaml_parser_t_prefix). RunStop (source_results g.asked g.last) g.taken (ending_of z)) (sym e)
    (ended_stop g.asked g.last g.taken g.tokens.needed_last (g.whole e)))
load_stop gives source all g (Some f) e = go (g.stopped f e)
  where
    go : StoppedBy g.asked g.last g.taken (fault_of f) ⊎ ComposerError g.taken all
        → LoadStop (source_results g.asked g.last) g.taken all
    go (inl h) = as_run (subst
        (λ (z : Option yaml_parser_t_prefix). RunStop (source_results g.asked g.last) g.taken (ending_of z)) (sym e)
        (failed_stop g.asked g.last g.taken (fault_of f) h))
    go (inr h) = composer h

turned : (a b : List SourceResult) → OneBegins a b → OneBegins b a
turned a b (inl h) = inr h
turned a b (inr h) = inl h

module _ {S : Type 0} (gives : S → SourceResult → S → Type 0) (source : S) where
  abbrev AreOne : yaml_documents_t → yaml_documents_t → Type 0
  AreOne a b = (a.documents.items ≡ b.documents.items) × (ending_of a.fault ≡ ending_of b.fault)

  -- a composer error is one of all longer lists of events
  by_composer : (a b : yaml_documents_t) (g : GathersLoads gives source a) (h : GathersLoads gives source b)
      → ComposerError g.taken a
      → Begins g.taken h.taken → AreOne a b
  by_composer a b g h e n
      = loads_same a.documents.items b.documents.items (ending_of a.fault) (ending_of b.fault)
      (sym (e n.0 (ending_of b.fault)) ∙ (ap (λ (z : List Event). loads z (ending_of b.fault)) (sym n.1) ∙ sym h.are_loads))

  turned_one : (a b : yaml_documents_t) → AreOne b a → AreOne a b
  turned_one a b o = (sym o.0, sym o.1)

  pub one_documents_proof : (a b : yaml_documents_t) (g : GathersLoads gives source a)
      (h : GathersLoads gives source b) → OneDocuments gives source a b g h
  one_documents_proof a b g h =
      λ o. go o (load_stop gives source a g a.fault refl) (load_stop gives source b h b.fault refl)
    where
      go : OneBegins (source_results g.asked g.last) (source_results h.asked h.last) → LoadStop (source_results g.asked g.last) g.taken a
          → LoadStop (source_results h.asked h.last) h.taken b → AreOne a b
      go o (as_run s) (as_run t) =
          let w = one_run_by_answers g.taken h.taken (ending_of a.fault) (ending_of b.fault)
          (record {
            asked = g.asked;
            last = g.last;
            needed = g.tokens.needed;
            needed_last = g.tokens.needed_last;
            stop = s;
          })
          (record {
            asked = h.asked;
            last = h.last;
            needed = h.tokens.needed;
            needed_last = h.tokens.needed_last;
            stop = t;
          }) o in
          loads_same a.documents.items b.documents.items (ending_of a.fault) (ending_of b.fault)
          (g.are_loads ∙ (ap (λ (z : List Event). loads z (ending_of a.fault)) w.1
          ∙ (ap (loads h.taken) w.2 ∙ sym h.are_loads)))
      go o (composer e) (as_run t)
          = by_composer a b g h e
          (begins_stopped g.asked g.last (source_results h.asked h.last) g.taken h.taken (ending_of b.fault)
          g.tokens.needed g.begins_run t o)
      go o (as_run s) (composer e)
          = turned_one a b (by_composer b a h g e
          (begins_stopped h.asked h.last (source_results g.asked g.last) h.taken g.taken (ending_of a.fault)
          h.tokens.needed h.begins_run s
          (turned (source_results g.asked g.last) (source_results h.asked h.last) o)))
      go o (composer e) (composer f)
          = both (taken_comparable g.asked h.asked g.last h.last g.taken h.taken g.begins_run h.begins_run o)
        where
          both : Begins g.taken h.taken ⊎ Begins h.taken g.taken → AreOne a b
          both (inl n) = by_composer a b g h e n
          both (inr n) = turned_one a b (by_composer b a h g f n)
