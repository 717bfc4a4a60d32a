-- All documents of a source are together at most twice as large as their events, and at most eight for each token.
use Rattle.std.proofs.Common.{◌≤◌, ◌*◌, arith, List, [], ◌∷◌, length, length-append, ap, sym, ◌∙◌, subst}
use Rattle.std.proofs.lemmas.List.{append-nil}
use Rattle.libyaml_types.specs.Fault.{SourceResult, no_fault}
use Rattle.libyaml_grammar.specs.runs.Runs.{IsRun}
use Rattle.libyaml_grammar.specs.grammar.Events.{Event}
use Rattle.libyaml_grammar.specs.grammar.Tokens.{Token}
use Rattle.libyaml_grammar.proofs.exported.Running.{some_run_proof}
use Rattle.libyaml_events.specs.sources.Determined.{BeginsEachRun}
use Rattle.libyaml_events.proofs.exported.KnownTokens.{run_count}
use Rattle.libyaml_graphs.specs.loads.Linear.{documents_size}
use Rattle.libyaml_graphs.specs.loads.Loads.{last_load}
use Rattle.libyaml_graphs.proofs.exported.RunLoads.{first_linear}
use Rattle.libyaml_graphs.specs.graphs.ComposerFaults.{composer_fault}
use Rattle.unsafe_libyaml.specs.WholeLoads.{GathersLoads}
use Rattle.unsafe_libyaml.specs.WholeRun.{ending_of}
use Rattle.unsafe_libyaml.specs.declared.load_all.yaml_documents_t.{yaml_documents_t}

-- events that begin those of each run are at most four for each token
few : (asked : List Token) (taken : List Event) → BeginsEachRun asked taken → length taken ≤ 4 * length asked
few asked taken begins =
    let (e, x, run) = some_run_proof asked no_fault in
    let (rest, all) = begins [] no_fault e x
    (subst (λ (l : List Token). IsRun l no_fault e x) (sym (append-nil asked)) run) in
    let h = run_count asked no_fault e x run in
    let i = ap length all ∙ length-append taken rest in
    omega arith

pub loads_linear : {S : Type 0} (gives : S → SourceResult → S → Type 0) (source : S) (all : yaml_documents_t) → GathersLoads gives source all
    → (g : GathersLoads gives source all) × (documents_size all.documents.items ≤ 2 * length g.taken)
    × (documents_size all.documents.items ≤ 8 * length g.asked)
loads_linear gives source all g =
    let ending = ending_of all.fault in
    let h : documents_size all.documents.items ≤ 2 * length g.taken = first_linear (composer_fault []) g.taken ending all.documents.items
    (last_load ending ∷ []) (sym g.are_loads) in
    let i : length g.taken ≤ 4 * length g.asked = few g.asked g.taken g.begins_run in
    let j : documents_size all.documents.items ≤ 8 * length g.asked = omega arith in
    (g, h, j)
