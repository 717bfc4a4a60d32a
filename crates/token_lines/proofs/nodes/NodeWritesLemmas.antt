-- What a run over documents wrote, by its loads in their turn.
use Rattle.std.proofs.Common.{◌≡◌, ◌≢◌, ◌⊎◌, ◌++◌, ◌∷◌, ℕ, List, [], All, map, Option, Some, Ok, Err, refl, sym, ap, ◌∙◌, inl, inr, append_assoc, arith}
use Rattle.std.proofs.KnownBytes.{Appends-kept}
use Rattle.std.proofs.lemmas.List.{append-nil}
use Rattle.std.proofs.lemmas.List.Elements.{All-head, All-tail}
use Rattle.std.proofs.lemmas.List.Folds.{concat-append}
use Rattle.std.specs.List.{concat, flat_map}
use Rattle.std.specs.Io.KnownBytes.{Appends}
use Rattle.libyaml_types.specs.declared.event.yaml_event_t.{yaml_event_t}
use Rattle.libyaml_documents.specs.Documents.{Document}
use Rattle.libyaml_events.specs.machine.Config.{Parser}
use Rattle.libyaml_events.specs.sources.History.{kept_fault}
use Rattle.libyaml_events.specs.sources.RunToCome.{RestOfRun, RunToCome}
use Rattle.libyaml_events.proofs.exported.KnownTokens.{further}
use Rattle.libyaml_grammar.proofs.exported.NestingSoFar.{run_nests_so_far}
use Rattle.libyaml_grammar.specs.runs.Runs.{Ending, Ends, Fails}
use Rattle.libyaml_types.specs.Fault.{SourceResult, Fault, memory_fault}
use Rattle.libyaml_types.specs.Source.{Follows}
use Rattle.libyaml_types.specs.declared.source.yaml_token_source_t.{Ghosts}
use Rattle.libyaml_graphs.specs.loads.Bounds.{bounded_loads, next_bounded}
use Rattle.libyaml_graphs.specs.loads.GraphLaws.{RootsFollow}
use Rattle.libyaml_graphs.specs.loads.Loads.{Load, left_over}
use Rattle.libyaml_graphs.proofs.exported.Roots as roots
use Rattle.libyaml_graphs.proofs.exported.Roots.{earlier_of, last_of, roots_follow}
use Rattle.libyaml_graphs.proofs.exported.LoadLists.{HasRoot, roots_after}
use Rattle.libyaml_loader.specs.loads.Loading.{DocumentOrError}
use Rattle.libyaml_loader.specs.loads.NextLoad.{LoadOfRun}
use Rattle.libyaml_loader.proofs.exported.Loops.{load_of_run}
use Rattle.line_writing.specs.DocumentText.{document_lines}
use Rattle.line_writing.specs.FaultText.{fault_text}
use Rattle.token_lines.specs.declared.run.run_end_t.{run_end_t}
use Rattle.token_lines.specs.declared.run.run_end_t.TheVariants.{Ended, Faulted, OutputFailed}
use Rattle.token_lines.specs.lines.LineRun.{broken_off, ending_told, output_failed}
use Rattle.token_lines.specs.nodes.LastLoad.{LastLoad, WroteForLoad}
use Rattle.token_lines.specs.nodes.NodeRun.{WritesLoads, loads_ending, loads_lines}
use Rattle.token_lines.proofs.lines.RunLemmas.{told_whole}

-- the lines of loads whose first is this document
first_lines : (loads later : List Load) (d : Document) → loads ≡ Ok d ∷ later → d.nodes ≢ []
    → loads_lines loads ≡ document_lines d ++ loads_lines later
first_lines loads later d is some = grind arith

no_lines : (loads : List Load) (d : Document) → loads ≡ Ok d ∷ [] → d.nodes ≡ [] → loads_lines loads ≡ []
no_lines loads d is none = grind arith

-- the lines and the ending of loads whose first are these documents
lines_of : (ds : List Document) → All (λ (d : Document). d.nodes ≢ []) ds → (l : List Load) → loads_lines (map Ok ds ++ l)
    ≡ flat_map document_lines ds ++ loads_lines l
lines_of [] h l = refl
lines_of (d ∷ ds) h l =
    first_lines (Ok d ∷ (map Ok ds ++ l)) (map Ok ds ++ l) d refl (All-head HasRoot d ds h)
    ∙ ap (λ (x : List (List ℕ)). document_lines d ++ x) (lines_of ds (All-tail HasRoot d ds h) l)
    ∙ sym (append_assoc (document_lines d) (flat_map document_lines ds) (loads_lines l))

pub ending_of : (ds : List Document) (l : List Load) → loads_ending (map Ok ds ++ l) ≡ loads_ending l
ending_of [] l = refl
ending_of (d ∷ ds) l = ending_of ds l

module _ {S W : Type 0} (g : Ghosts S)
    (follows : (s t : S) (a : SourceResult) → g.gives s a t → Follows (g.may_break t) (g.known s) a (g.known t))
    (contents : W → Option (List ℕ)) (n : ℕ) (first last : Parser S) (before after : Option (List ℕ))
    (events : List yaml_event_t) (ending : Ending) (run : RunToCome g.known first events ending) (result : run_end_t)
    (l : LastLoad g contents n result first last before after run.asked run.given) where
  rest : RestOfRun g.known l.parser l.earlier.loaded.taken events ending
  rest = grind (arith, further)

  abbrev later : List Load
  later = bounded_loads n rest.later ending

  abbrev loads : List Load
  loads = bounded_loads n events ending

  abbrev earlier : List (List ℕ)
  earlier = flat_map document_lines l.earlier.documents

  all : loads ≡ map Ok l.earlier.documents ++ later
  all = ap (λ (e : List yaml_event_t). bounded_loads n e ending) rest.all ∙ l.earlier.loaded.loads rest.later ending

  lines : loads_lines loads ≡ earlier ++ loads_lines later
  lines = ap loads_lines all ∙ lines_of l.earlier.documents l.earlier.loaded.roots later

  ends : loads_ending loads ≡ loads_ending later
  ends = ap loads_ending all ∙ ending_of l.earlier.documents later

  wrote_then : (ls : List (List ℕ)) (bs : List ℕ) → Appends (contents l.writer) after (concat ls ++ bs)
      → Appends before after (concat (earlier ++ ls) ++ bs)
  wrote_then ls bs h = grind (arith, append_assoc, concat-append)

  abbrev tells : Fault → Option Ending
  tells f = Some (Fails f)

  abbrev Wrote : run_end_t → Type 0
  Wrote end = WritesLoads (g.may_break last.source) end before after loads

  cut : (end : run_end_t) (f : Fault) → ending_told end ≡ Some (Fails f) → (f ≡ memory_fault) ⊎ g.may_break last.source f
      → (ls more : List (List ℕ)) → loads_lines later ≡ ls ++ more
      → Appends (contents l.writer) after (concat ls ++ fault_text f) → Wrote end
  cut end f told why ls more is wrote = broken_off f told why (earlier ++ ls) more
      (lines ∙ ap (λ (x : List (List ℕ)). earlier ++ x) is ∙ sym (append_assoc earlier ls more))
      (wrote_then ls (fault_text f) wrote)

  follow : RootsFollow rest.later
  follow =
      let r = rest.run in
      roots_after r.given rest.later
      (roots_follow (r.given ++ rest.later)
      (run_nests_so_far (r.asked ++ r.rest) r.fault (r.given ++ rest.later) ending r.run))

  go : (end : run_end_t) (r : DocumentOrError) → LoadOfRun g (next_bounded n) left_over r last rest.later ending
      → WroteForLoad end r (kept_fault last) (contents l.writer) after → Wrote end
  go Ended (Ok d) load wrote =
      let only = last_of rest.later ending n d follow load.0 wrote.0 in
      let none = lines ∙ ap (λ (x : List (List ℕ)). earlier ++ x) (no_lines later d only.0 wrote.0)
      ∙ append-nil earlier in
      told_whole Ended before after (loads_lines loads) Ends (loads_ending loads) refl (ends ∙ ap loads_ending only.0)
      (rw (← none) at (Appends-kept before (contents l.writer) after (concat earlier) l.earlier.wrote wrote.1))
  go (Faulted f) (Ok d) load (memory, some, text) =
      let more = loads_lines (bounded_loads n (left_over rest.later) ending) in
      let is = first_lines later (bounded_loads n (left_over rest.later) ending) d
      (earlier_of rest.later ending n d load.0 some) some
      ∙ ap (λ (x : List (List ℕ)). x ++ more) text.all ∙ append_assoc text.written (text.line ∷ text.rest) more in
      cut (Faulted f) memory_fault (ap tells memory) (inl refl) text.written ((text.line ∷ text.rest) ++ more) is text.wrote
  go Ended (Err x) load wrote = absurd wrote
  go (Faulted f) (Err x) (inl is) wrote =
      let only = roots.fault_of rest.later ending n (kept_fault last) is in
      let none = lines ∙ ap (λ (x : List Load). earlier ++ loads_lines x) only in
      told_whole (Faulted f) before after (loads_lines loads) (Fails (kept_fault last)) (loads_ending loads)
      (ap tells wrote.0) (ends ∙ ap loads_ending only)
      (rw (← none) at (wrote_then [] (fault_text (kept_fault last)) wrote.1))
  go (Faulted f) (Err x) (inr why) wrote =
      cut (Faulted f) (kept_fault last) (ap tells wrote.0) why [] (loads_lines later) refl wrote.1
  go OutputFailed r load wrote = output_failed refl

  pub writes_loads_so : WritesLoads (g.may_break last.source) result before after loads
  writes_loads_so = go result l.loaded (load_of_run g (next_bounded n) left_over l.parser last l.loaded rest.later
      ending rest.run l.load) l.wrote
