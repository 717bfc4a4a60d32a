-- Two outcomes of one `write_nodes` over any source wrote the same.
use Rattle.std.proofs.Common.{◌≡◌, ◌⊎◌, inl, inr, ℕ, List, [], ◌∷◌, ◌++◌, map, Option, None, Some, Ok, Err, false, refl, sym, ap, ◌∙◌, subst, append_assoc, arith}
use Rattle.std.proofs.KnownBytes.{Appends-kept, Appends-trans}
use Rattle.std.proofs.lemmas.List.{append-nil}
use Rattle.std.specs.List.{concat, flat_map}
use Rattle.std.specs.Io.KnownBytes.{Appends}
use Rattle.libyaml_types.specs.declared.event.yaml_event_t.{yaml_event_t}
use Rattle.libyaml_types.specs.declared.token.yaml_token_t.{yaml_token_t}
use Rattle.libyaml_documents.specs.Documents.{Document, empty_document}
use Rattle.libyaml_events.specs.machine.Config.{Parser}
use Rattle.libyaml_events.specs.sources.CallsInTurn.{CarriedOn}
use Rattle.libyaml_events.specs.sources.Determined.{BeginsEachRun, OneBegins}
use Rattle.libyaml_events.specs.sources.History.{source_results, kept_fault}
use Rattle.libyaml_events.specs.sources.Needs.{EachNeeded, EachWasNeeded}
use Rattle.libyaml_events.specs.sources.Parsing.{Cause, FailsBy, of_grammar, of_memory, of_source}
use Rattle.libyaml_events.proofs.exported.CallsInTurn.{both_calls}
use Rattle.libyaml_events.proofs.exported.OneOutcome.{prefix_same}
use Rattle.libyaml_events.proofs.exported.RunStops.{RunStop, answers_both, begins_stopped, ended_stop, grammar_stop, one_run_by_answers, source_stop, taken_comparable}
use Rattle.libyaml_events.proofs.exported.Histories as histories
use Rattle.libyaml_grammar.specs.partial.DeterminedEvents.{Begins}
use Rattle.libyaml_grammar.specs.runs.Runs.{Ending, Ends, Fails}
use Rattle.libyaml_grammar.proofs.exported.Injectivity.{ok_not_err}
use Rattle.libyaml_graphs.specs.loads.Bounds.{bounded_loads, next_bounded}
use Rattle.libyaml_graphs.specs.loads.GraphLaws.{RootsFollow}
use Rattle.libyaml_graphs.specs.loads.Loads.{Load, last_load, left_over}
use Rattle.libyaml_graphs.proofs.exported.Roots.{fault_of, last_of, roots_follow}
use Rattle.libyaml_graphs.proofs.exported.LoadLists.{last_same, roots_after, same_loads}
use Rattle.libyaml_loader.specs.loads.Loading.{DocumentOrError, LoadsFrom, at_end, by_loader, by_memory, by_parser, whole}
use Rattle.libyaml_loader.specs.loads.OneLoad.{results_in}
use Rattle.libyaml_types.specs.Fault.{SourceResult, Fault, memory_fault, no_fault}
use Rattle.libyaml_types.specs.declared.fault.yaml_parser_t_prefix.{yaml_parser_t_prefix}
use Rattle.libyaml_types.specs.declared.source.yaml_token_source_t.{Ghosts}
use Rattle.line_writing.specs.DocumentText.{document_lines}
use Rattle.line_writing.specs.FaultText.{fault_text}
use Rattle.token_lines.specs.declared.run.Outcome.{Outcome}
use Rattle.token_lines.specs.declared.run.Outcome.TheVariants as outcome
use Rattle.token_lines.specs.declared.run.run_end_t.{run_end_t}
use Rattle.token_lines.specs.declared.run.run_end_t.TheVariants.{Ended, Faulted, OutputFailed}
use Rattle.token_lines.specs.lines.LineRun.{outcome_of}
use Rattle.token_lines.specs.lines.OneOutput.{BrokeOff, OneOutput, first_breaks, output_failed, second_breaks}
use Rattle.token_lines.specs.lines.OneWriting.{BreaksOffByNone, results_of_nodes}
use Rattle.token_lines.specs.nodes.LastLoad.{CutText, LastLoad, WroteForLoad}
use Rattle.token_lines.proofs.lines.OneWritings.{Wrote, after_asked, nothing_needed}

after_given : (given a b : List yaml_event_t) → Begins (given ++ a) (given ++ b) → Begins a b
after_given given a b h = (h.0, prefix_same given b (a ++ h.0) (h.1 ∙ append_assoc given a h.0))

turned : (a b : List SourceResult) → OneBegins a b → OneBegins b a
turned a b h = grind arith

module _ {S W : Type 0} (g : Ghosts S) (contents : W → Option (List ℕ)) (n : ℕ) (old : Parser S)
    (before : Option (List ℕ)) (asked : List yaml_token_t) (given : List yaml_event_t) where
  -- how an outcome came: the parser stopped, or the last event has a composer error; or memory ran out, or the
  -- output failed
  data Came (o : Outcome) (after : Option (List ℕ)) (a : List SourceResult) : Type 0 where
    stopped : (m : List yaml_token_t) (u : List SourceResult) (e : List yaml_event_t) (d : List Document) (x : Ending)
        → a ≡ source_results m u
        → EachWasNeeded [] (asked ++ m) [] (given ++ e) → EachNeeded (asked ++ m) u (given ++ e)
        → RunStop (source_results (asked ++ m) u) (given ++ e) x
        → bounded_loads n e x ≡ map Ok d ++ last_load x ∷ [] → Wrote x o (flat_map document_lines d) before after → Came o after a
    composer : (m : List yaml_token_t) (e : List yaml_event_t) (d : List Document) (f : Fault) → a ≡ source_results m []
        → EachWasNeeded [] (asked ++ m) [] (given ++ e)
        → BeginsEachRun (asked ++ m) (given ++ e)
        → ((rest : List yaml_event_t) (x : Ending) → bounded_loads n (e ++ rest) x ≡ map Ok d
        ++ last_load (Fails f) ∷ [])
        → Wrote (Fails f) o (flat_map document_lines d) before after → Came o after a
    broke : BrokeOff BreaksOffByNone o before after → Came o after a
    unknown : o ≡ outcome.OutputFailed → Came o after a

  module _ (last : Parser S) (after : Option (List ℕ)) where
    abbrev Of : run_end_t → Type 0
    Of end = LastLoad g contents n end old last before after asked given

    abbrev so_far : (end : run_end_t) → (o : Of end) → CarriedOn g.gives old o.parser asked given o.earlier.loaded.taken
    so_far end o = o.earlier.loaded.carried

    -- the events of a load are further ones of the run
    abbrev further : (end : run_end_t) → (o : Of end) → (p : Parser S) → (taken : List yaml_event_t)
        → CarriedOn g.gives o.parser p (asked ++ (so_far end o).more) (given ++ o.earlier.loaded.taken) taken
        → CarriedOn g.gives old p asked given (o.earlier.loaded.taken ++ taken)
    further end o p taken c = both_calls g.gives old o.parser p asked given o.earlier.loaded.taken taken (so_far end o) c

    all_loads : (end : run_end_t) (o : Of end) (taken : List yaml_event_t) (x : Ending) (z : Load)
        → bounded_loads n taken x ≡ z ∷ []
        → bounded_loads n (o.earlier.loaded.taken ++ taken) x ≡ map Ok o.earlier.documents ++ z ∷ []
    all_loads end o taken x z e = o.earlier.loaded.loads taken x ∙ ap (λ (l : List Load). map Ok o.earlier.documents ++ l) e

    roots : (end : run_end_t) (o : Of end) (p : Parser S) (taken : List yaml_event_t)
        → (c : CarriedOn g.gives o.parser p (asked ++ (so_far end o).more) (given ++ o.earlier.loaded.taken) taken)
        → RootsFollow taken
    roots end o p taken c = roots_after (given ++ o.earlier.loaded.taken) taken
        (roots_follow ((given ++ o.earlier.loaded.taken) ++ taken)
        (histories.nests p ((asked ++ (so_far end o).more) ++ c.more) ((given ++ o.earlier.loaded.taken) ++ taken) c.history))

    abbrev text : (end : run_end_t) → Of end → List ℕ
    text end o = concat (flat_map document_lines o.earlier.documents)

    faulted : (told : yaml_parser_t_prefix) (o : Of (Faulted told)) (f : Fault)
        → Appends (contents o.writer) after (fault_text f)
        → Appends before after (text (Faulted told) o ++ fault_text f)
    faulted told o f w = Appends-trans before (contents o.writer) after (text (Faulted told) o)
        (fault_text f) o.earlier.wrote w

    cut : (told : yaml_parser_t_prefix) (o : Of (Faulted told)) (d : Document)
        → CutText (contents o.writer) after (document_lines d) → BrokeOff BreaksOffByNone outcome.Faulted before after
    cut told o d c = record {
      faulted = refl;
      fault = memory_fault;
      cause = inl refl;
      written = text (Faulted told) o ++ concat c.written;
      wrote = subst (Appends before after)
          (sym (append_assoc (text (Faulted told) o) (concat c.written) (fault_text memory_fault)))
          (Appends-trans before (contents o.writer) after (text (Faulted told) o)
          (concat c.written ++ fault_text memory_fault) o.earlier.wrote c.wrote);
    }

    abbrev asked_there : (end : run_end_t) → Of end → List yaml_token_t
    asked_there end o = asked ++ (so_far end o).more

    abbrev given_there : (end : run_end_t) → Of end → List yaml_event_t
    given_there end o = given ++ o.earlier.loaded.taken

    abbrev FromHere : (end : run_end_t) → Of end → DocumentOrError → Type 0
    FromHere end o r = LoadsFrom g (next_bounded n) left_over o.parser r last

    abbrev results : (end : run_end_t) (o : Of end) (r : DocumentOrError) → FromHere end o r → List SourceResult
    results end o r l = source_results (so_far end o).more
        (results_in g (next_bounded n) left_over o.parser last (asked_there end o)
        (given_there end o) (so_far end o).history r l)

    -- the same of lists that were put together the other way round
    moved : (P : List yaml_token_t → List yaml_event_t → Type 0) (a b : List yaml_token_t) (d e : List yaml_event_t)
        → P ((asked ++ a) ++ b) ((given ++ d) ++ e)
        → P (asked ++ (a ++ b)) (given ++ (d ++ e))
    moved P a b d e h = rw (append_assoc asked a b) at (subst (P ((asked ++ a) ++ b)) (append_assoc given d e) h)

    -- the parser has ended
    ended : (o : Of Ended) (r : DocumentOrError) (l : FromHere Ended o r)
        → WroteForLoad Ended r (kept_fault last) (contents o.writer) after
        → Came outcome.Ended after (results Ended o r l)
    ended o (Err x) l w = absurd w
    ended o (Ok d) (whole taken took load leaves stands) w =
        let c = took.history (asked_there Ended o) (given_there Ended o) (so_far Ended o).history in
        let here : next_bounded n taken (Fails no_fault) ≡ Ok d =
        ap (λ (l : List yaml_event_t). next_bounded n l (Fails no_fault)) (sym (append-nil taken))
        ∙ load [] (Fails no_fault) in
        absurd (ok_not_err d no_fault (sym (last_of taken (Fails no_fault) n d (roots Ended o last taken c) here w.0).1))
    ended o (Ok d) (at_end taken took load leaves runs is over) w =
        let c = took.history (asked_there Ended o) (given_there Ended o) (so_far Ended o).history in
        let k = further Ended o last taken c in
        let all = o.earlier.loaded.taken ++ taken in
        let none = nothing_needed (asked ++ k.more) (given ++ all) in
        stopped k.more [] all o.earlier.documents Ends (answers_both (so_far Ended o).more c.more [])
        (histories.needed last (asked ++ k.more) (given ++ all) k.history) none
        (ended_stop (asked ++ k.more) [] (given ++ all) none ((over (asked_there Ended o) (given_there Ended o)
        (so_far Ended o).history).whole (asked ++ k.more) (given ++ all) k.history))
        (all_loads Ended o taken Ends (last_load Ends)
        (last_of taken Ends n (empty_document None [] false false) (roots Ended o last taken c)
        (load Ends) refl).0)
        (refl, Appends-kept before (contents o.writer) after (text Ended o) o.earlier.wrote w.1)

    -- it failed
    at_stop : (told : yaml_parser_t_prefix) (o : Of (Faulted told)) (parser : Parser S) (taken : List yaml_event_t)
        → (c : CarriedOn g.gives o.parser parser (asked_there (Faulted told) o) (given_there (Faulted told) o) taken)
        → (load : (x : Ending) → next_bounded n taken x ≡ last_load x)
        → Appends (contents o.writer) after (fault_text (kept_fault last))
        → (h : FailsBy g.gives parser last (asked_there (Faulted told) o ++ c.more)
        (given_there (Faulted told) o ++ taken))
        → RunStop (source_results (asked_there (Faulted told) o ++ c.more) h.more) (given_there (Faulted told) o ++ taken)
        (Fails (kept_fault last))
        → Came outcome.Faulted after (source_results (so_far (Faulted told) o).more (source_results c.more h.more))
    at_stop told o parser taken c load w h stop =
        let before = so_far (Faulted told) o in
        let k = further (Faulted told) o parser taken c in
        let first = o.earlier.loaded.taken in
        let x = Fails (kept_fault last) in
        stopped k.more h.more (first ++ taken) o.earlier.documents x (answers_both before.more c.more h.more)
        (histories.needed parser (asked ++ k.more) (given ++ (first ++ taken)) k.history)
        (moved (λ (l : List yaml_token_t) (v : List yaml_event_t). EachNeeded l h.more v) before.more c.more
        first taken h.needed)
        (moved (λ (l : List yaml_token_t) (v : List yaml_event_t). RunStop (source_results l h.more) v x)
        before.more c.more first taken stop)
        (all_loads (Faulted told) o taken x (Err (kept_fault last)) (fault_of taken x n (kept_fault last) (load x)))
        (refl, faulted told o (kept_fault last) w)

    by_cause : (told : yaml_parser_t_prefix) (o : Of (Faulted told)) (parser : Parser S) (taken : List yaml_event_t)
        → (c : CarriedOn g.gives o.parser parser (asked_there (Faulted told) o) (given_there (Faulted told) o) taken)
        → (load : (x : Ending) → next_bounded n taken x ≡ last_load x)
        → Appends (contents o.writer) after (fault_text (kept_fault last))
        → (h : FailsBy g.gives parser last (asked_there (Faulted told) o ++ c.more)
        (given_there (Faulted told) o ++ taken))
        → Cause parser.config (asked_there (Faulted told) o ++ c.more) (given_there (Faulted told) o ++ taken)
        h.more (kept_fault last)
        → Came outcome.Faulted after (source_results (so_far (Faulted told) o).more (source_results c.more h.more))
    by_cause told o parser taken c load w h (of_memory l e take meets f) = broke (record {
      faulted = refl;
      fault = kept_fault last;
      cause = inl f;
      written = text (Faulted told) o;
      wrote = faulted told o (kept_fault last) w;
    })
    by_cause told o parser taken c load w h (of_grammar l e f) = at_stop told o parser taken c load w h
        (grammar_stop (asked_there (Faulted told) o ++ c.more) h.more (given_there (Faulted told) o ++ taken)
        (kept_fault last) l e f)
    by_cause told o parser taken c load w h (of_source l e s f) = at_stop told o parser taken c load w h
        (source_stop (asked_there (Faulted told) o ++ c.more) h.more (given_there (Faulted told) o ++ taken)
        (kept_fault last) l e f)

    failed : (told : yaml_parser_t_prefix) (o : Of (Faulted told)) (r : DocumentOrError)
        (l : FromHere (Faulted told) o r) → WroteForLoad (Faulted told) r (kept_fault last) (contents o.writer) after
        → Came outcome.Faulted after (results (Faulted told) o r l)
    failed told o (Ok d) l w = broke (cut told o d w.2)
    failed told o (Err x) (by_parser taken parser took fails load) w =
        let c = took.history (asked_there (Faulted told) o) (given_there (Faulted told) o) (so_far (Faulted told) o).history in
        let h = fails.history (asked_there (Faulted told) o ++ c.more) (given_there (Faulted told) o ++ taken) c.history in
        by_cause told o parser taken c load w.1 h h.cause
    failed told o (Err x) (by_loader prior e parser took f kept waits load) w =
        let c = took.history (asked_there (Faulted told) o) (given_there (Faulted told) o) (so_far (Faulted told) o).history in
        let taken = prior ++ e ∷ [] in
        let k = further (Faulted told) o parser taken c in
        let all = o.earlier.loaded.taken ++ taken in
        let is : kept_fault last ≡ f = ap (λ (p : Parser S). p.config.machine.fault)
        (kept (asked_there (Faulted told) o ++ c.more) (given_there (Faulted told) o ++ taken) c.history) in
        composer k.more all o.earlier.documents f (answers_both (so_far (Faulted told) o).more c.more [])
        (histories.needed parser (asked ++ k.more) (given ++ all) k.history)
        (histories.begins_each_run parser (asked ++ k.more) (given ++ all) k.history)
        (λ rest y. ap (λ (l : List yaml_event_t). bounded_loads n l y) (append_assoc o.earlier.loaded.taken taken rest)
        ∙ (o.earlier.loaded.loads (taken ++ rest) y ∙ ap (λ (l : List Load). map Ok o.earlier.documents ++ l)
        (fault_of (taken ++ rest) y n f (load rest y))))
        (refl, faulted told o f (subst (λ (v : Fault). Appends (contents o.writer) after (fault_text v)) is w.1))
    failed told o (Err x) (by_memory prior e parser took kept grows) w =
        let c = took.history (asked_there (Faulted told) o) (given_there (Faulted told) o) (so_far (Faulted told) o).history in
        broke (record {
          faulted = refl;
          fault = kept_fault last;
          cause = inl (ap (λ (p : Parser S). p.config.machine.fault)
              (kept (asked_there (Faulted told) o ++ c.more) (given_there (Faulted told) o ++ (prior ++ e ∷ []))
              c.history));
          written = text (Faulted told) o;
          wrote = faulted told o (kept_fault last) w.1;
        })

    came : (end : run_end_t) (o : Of end) → Came (outcome_of end) after (results_of_nodes o)
    came Ended o = ended o o.loaded o.load o.wrote
    came (Faulted told) o = failed told o o.loaded o.load o.wrote
    came OutputFailed o = unknown refl

pub one_writing_of_nodes_proof : {S W : Type 0} (g : Ghosts S) (contents : W → Option (List ℕ)) (n : ℕ)
    → (old p q : Parser S) (first second : run_end_t) (written : List ℕ) (after later : Option (List ℕ))
    (asked : List yaml_token_t) (given : List yaml_event_t)
    → (a : LastLoad g contents n first old p (Some written) after asked given)
    → (b : LastLoad g contents n second old q (Some written) later asked given)
    → OneBegins (results_of_nodes a) (results_of_nodes b)
    → OneOutput BreaksOffByNone BreaksOffByNone (outcome_of first) (outcome_of second) (Some written) after later
one_writing_of_nodes_proof {S} g contents n old p q first second written
    after later asked given a b one
    = go (results_of_nodes a) (results_of_nodes b) one
    (came g contents n old (Some written) asked given p after first a)
    (came g contents n old (Some written) asked given q later second b)
  where
    after_both : (k l : List SourceResult) (m i : List yaml_token_t) (u v : List SourceResult) → k ≡ source_results m u
        → l ≡ source_results i v → OneBegins k l
        → OneBegins (source_results (asked ++ m) u) (source_results (asked ++ i) v)
    after_both k l m i u v e f o =
        after_asked asked m i u v
        (subst (λ (j : List SourceResult). OneBegins j (source_results i v)) e (subst (OneBegins k) f o))

    -- a composer error is one of all longer lists of events
    by_composer : (d c : List Document) (f : Fault) (y : Ending) (e t : List yaml_event_t)
        → ((rest : List yaml_event_t) (x : Ending) → bounded_loads n (e ++ rest) x ≡ map Ok d
        ++ last_load (Fails f) ∷ []) → bounded_loads n t y ≡ map Ok c ++ last_load y ∷ []
        → Begins e t → (d ≡ c) × (Fails f ≡ y)
    by_composer d c f y e t l k h =
        let s = same_loads d c (last_load (Fails f)) (last_load y)
        (sym (l h.0 y) ∙ (ap (λ (z : List yaml_event_t). bounded_loads n z y) (sym h.1) ∙ k)) in
        (s.0, last_same (Fails f) y s.1)

    both_composer : (d c : List Document) (f x : Fault) (e t : List yaml_event_t)
        → ((rest : List yaml_event_t) (y : Ending) → bounded_loads n (e ++ rest) y ≡ map Ok d ++ last_load (Fails f) ∷ [])
        → ((rest : List yaml_event_t) (y : Ending) → bounded_loads n (t ++ rest) y ≡ map Ok c
        ++ last_load (Fails x) ∷ []) → Begins e t → (d ≡ c) × (Fails f ≡ Fails x)
    both_composer d c f x e t l k h =
        by_composer d c f (Fails x) e t l
        (ap (λ (z : List yaml_event_t). bounded_loads n z (Fails x)) (sym (append-nil t)) ∙ k [] (Fails x)) h

    alike_by : (x y : Ending) (d c : List Document) → (d ≡ c) × (x ≡ y)
        → Wrote x (outcome_of first) (flat_map document_lines d) (Some written) after
        → Wrote y (outcome_of second) (flat_map document_lines c) (Some written) later
        → OneOutput BreaksOffByNone BreaksOffByNone (outcome_of first) (outcome_of second) (Some written) after later
    alike_by x y d c s w z = grind arith

    go : (k l : List SourceResult) → OneBegins k l → Came g contents n old
        (Some written) asked given (outcome_of first) after k → Came g contents n old (Some written) asked given
        (outcome_of second) later l → OneOutput BreaksOffByNone BreaksOffByNone (outcome_of first)
        (outcome_of second) (Some written) after later
    go k l o (broke x) y = first_breaks x
    go k l o x (broke y) = second_breaks y
    go k l o (unknown e) y = output_failed (inl e)
    go k l o x (unknown e) = output_failed (inr e)
    go k l o (stopped m u e d x i each then stop loads w) (stopped j v t c y f other also halt more z) =
        let r = one_run_by_answers (given ++ e) (given ++ t) x y
        (record { asked = asked ++ m; last = u; needed = each; needed_last = then; stop = stop })
        (record { asked = asked ++ j; last = v; needed = other; needed_last = also; stop = halt })
        (after_both k l m j u v i f o) in
        let s = same_loads d c (last_load x) (last_load y)
        (sym loads ∙ (ap (λ (b : List yaml_event_t). bounded_loads n b x) (prefix_same given e t r.1)
        ∙ (ap (bounded_loads n t) r.2 ∙ more))) in
        alike_by x y d c (s.0, r.2) w z
    go k l o (composer m e d f i each runs loads w) (stopped j v t c y h other also halt more z) =
        let b = begins_stopped (asked ++ m) [] (source_results (asked ++ j) v) (given ++ e) (given ++ t) y each runs halt
        (after_both k l m j [] v i h o) in
        alike_by (Fails f) y d c (by_composer d c f y e t loads more (after_given given e t b)) w z
    go k l o (stopped m u e d x i each then stop loads w) (composer j t c f h other runs more z) =
        let b = begins_stopped (asked ++ j) [] (source_results (asked ++ m) u) (given ++ t) (given ++ e) x other runs stop
        (turned (source_results (asked ++ m) u) (source_results (asked ++ j) []) (after_both k l m j u [] i h o)) in
        let s = by_composer c d f x t e more loads (after_given given t e b) in
        alike_by x (Fails f) d c (sym s.0, sym s.1) w z
    go k l o (composer m e d f i each runs loads w) (composer j t c x h other begins more z) =
        both (taken_comparable (asked ++ m) (asked ++ j) [] [] (given ++ e) (given ++ t) runs begins
        (after_both k l m j [] [] i h o))
      where
        both : Begins (given ++ e) (given ++ t) ⊎ Begins (given ++ t) (given ++ e)
            → OneOutput BreaksOffByNone BreaksOffByNone (outcome_of first) (outcome_of second) (Some written) after later
        both (inl b) = alike_by (Fails f) (Fails x) d c
            (both_composer d c f x e t loads more (after_given given e t b)) w z
        both (inr b) = let s = both_composer c d x f t e more loads (after_given given t e b)
            in alike_by (Fails f) (Fails x) d c (sym s.0, sym s.1) w z
