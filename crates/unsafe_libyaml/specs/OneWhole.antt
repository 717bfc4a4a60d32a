-- Two whole runs, or two lists of loads, that a contract allows: they are one (docs/DEFINITIONS.md, "One outcome").
use Rattle.std.specs.Prelude.{◌≡◌}
use Rattle.libyaml_types.specs.Fault.{SourceResult}
use Rattle.libyaml_events.specs.sources.Determined.{OneBegins}
use Rattle.libyaml_events.specs.sources.History.{source_results}
use Rattle.unsafe_libyaml.specs.WholeLoads.{GathersLoads}
use Rattle.unsafe_libyaml.specs.WholeRun.{Gathers, ending_of}
use Rattle.unsafe_libyaml.specs.declared.load_all.yaml_documents_t.{yaml_documents_t}
use Rattle.unsafe_libyaml.specs.declared.parse_all.yaml_run_t.{yaml_run_t}

-- Where the source gave the same in each as far as both asked, both asked for the same, and the events and the
-- ending are one.
abbrev pub OneRun : {S : Type 0} → (gives : S → SourceResult → S → Type 0) → (source : S) → (a b : yaml_run_t)
    → Gathers gives source a → Gathers gives source b
    → Type 0
OneRun gives source a b g h
    = OneBegins (source_results g.asked g.last) (source_results h.asked h.last)
    → (source_results g.asked g.last ≡ source_results h.asked h.last) × (a.events.items ≡ b.events.items)
    × (ending_of a.fault ≡ ending_of b.fault)

-- Likewise of documents. After a composer error nothing says how many tokens more were taken.
abbrev pub OneDocuments : {S : Type 0} → (gives : S → SourceResult → S → Type 0) → (source : S) → (a b : yaml_documents_t)
    → GathersLoads gives source a
    → GathersLoads gives source b → Type 0
OneDocuments gives source a b g h
    = OneBegins (source_results g.asked g.last) (source_results h.asked h.last)
    → (a.documents.items ≡ b.documents.items) × (ending_of a.fault ≡ ending_of b.fault)
