-- Two outcomes of one `write_events` over any source wrote the same.
use Rattle.std.proofs.Common.{◌≡◌, inl, inr, ℕ, List, [], ◌∷◌, ◌++◌, Option, Some, Ok, refl, ap, ◌∙◌, subst, arith}
use Rattle.std.proofs.KnownBytes.{Appends-trans}
use Rattle.std.specs.List.{concat}
use Rattle.std.specs.Io.KnownBytes.{Appends}
use Rattle.libyaml_types.specs.declared.event.yaml_event_t.{yaml_event_t}
use Rattle.libyaml_types.specs.declared.token.yaml_token_t.{yaml_token_t}
use Rattle.libyaml_events.specs.machine.Config.{Parser}
use Rattle.libyaml_events.specs.sources.Determined.{OneBegins}
use Rattle.libyaml_events.specs.sources.History.{source_results, kept_fault}
use Rattle.libyaml_events.specs.sources.Needs.{EachNeeded, EachWasNeeded}
use Rattle.libyaml_events.specs.sources.Parsing.{CarriesOn, Cause, FailsBy, of_grammar, of_memory, of_source}
use Rattle.libyaml_events.proofs.exported.CallsInTurn.{both_calls, one_call}
use Rattle.libyaml_events.proofs.exported.OneOutcome.{prefix_same}
use Rattle.libyaml_events.proofs.exported.RunStops.{RunStop, answers_both, ended_stop, grammar_stop, one_run_by_answers, source_stop}
use Rattle.libyaml_events.proofs.exported.Histories as histories
use Rattle.libyaml_grammar.specs.runs.Runs.{Ending, Ends, Fails}
use Rattle.libyaml_types.specs.Fault.{SourceResult, memory_fault}
use Rattle.libyaml_types.specs.declared.fault.yaml_parser_t_prefix.{yaml_parser_t_prefix}
use Rattle.line_writing.specs.EventText.{event_line}
use Rattle.line_writing.specs.FaultText.{fault_text}
use Rattle.token_lines.specs.declared.run.Outcome.{Outcome}
use Rattle.token_lines.specs.declared.run.Outcome.TheVariants as outcome
use Rattle.token_lines.specs.declared.run.run_end_t.{run_end_t}
use Rattle.token_lines.specs.declared.run.run_end_t.TheVariants.{Ended, Faulted, OutputFailed}
use Rattle.token_lines.specs.events.EventRun.{event_lines}
use Rattle.token_lines.specs.events.InTurn.{CallSays, failed, gave_event}
use Rattle.token_lines.specs.events.LastCall.{LastCall, NothingLeft, WroteForEvent}
use Rattle.token_lines.specs.lines.LineRun.{WroteFault, outcome_by, outcome_of, run_bytes}
use Rattle.token_lines.specs.lines.OneOutput.{BrokeOff, OneOutput, alike, first_breaks, output_failed, second_breaks}
use Rattle.token_lines.specs.lines.OneWriting.{BreaksOffByNone, results_in_call, writing_results_of}
use Rattle.token_lines.proofs.events.InTurnLemmas.{texts_more}

-- results that begin one another, after the same tokens
more_after : (l : List yaml_token_t) (x y : List SourceResult) → source_results l (x ++ y) ≡ source_results l x ++ y
more_after [] x y = refl
more_after (t ∷ l) x y = ap (λ (z : List SourceResult). Ok t ∷ z) (more_after l x y)

both_after : (l : List yaml_token_t) (x y : List SourceResult) → OneBegins x y → OneBegins (source_results l x) (source_results l y)
both_after l x y h = grind (arith, more_after)

pub after_asked : (asked m n : List yaml_token_t) (x y : List SourceResult) → OneBegins (source_results m x) (source_results n y)
    → OneBegins (source_results (asked ++ m) x) (source_results (asked ++ n) y)
after_asked asked m n x y o
    = rw (answers_both asked m x) at (subst (OneBegins (source_results asked (source_results m x))) (answers_both asked n y)
    (both_after asked (source_results m x) (source_results n y) o))

pub nothing_needed : (l : List yaml_token_t) (g : List yaml_event_t) → EachNeeded l [] g
nothing_needed l g [] x later e = absurd cc
nothing_needed l g (t ∷ front) x later e = absurd cc

-- what was written of these lines and an ending
abbrev pub Wrote : Ending → Outcome → (lines : List (List ℕ)) → (before after : Option (List ℕ)) → Type 0
Wrote x o lines before after = (o ≡ outcome_by (Some x)) × Appends before after (run_bytes lines x)

module _ {S W : Type 0} (gives : S → SourceResult → S → Type 0) (contents : W → Option (List ℕ))
    (old : Parser S)
    (before : Option (List ℕ))
    (asked : List yaml_token_t) (given : List yaml_event_t) where
  -- how an outcome came: the parser stopped; or memory ran out, or the output failed
  data Came (o : Outcome) (after : Option (List ℕ)) (a : List SourceResult) : Type 0 where
    stopped : (m : List yaml_token_t) (u : List SourceResult) (e : List yaml_event_t) (x : Ending) → a ≡ source_results m u
        → EachWasNeeded [] (asked ++ m) [] (given ++ e)
        → EachNeeded (asked ++ m) u (given ++ e) → RunStop (source_results (asked ++ m) u) (given ++ e) x
        → Wrote x o (event_lines e) before after → Came o after a
    broke : BrokeOff BreaksOffByNone o before after → Came o after a
    unknown : o ≡ outcome.OutputFailed → Came o after a

  module _ (last : Parser S) (after : Option (List ℕ)) where
    -- the last call gave the stream end event
    ended : (o : LastCall gives contents Ended old last before after asked given) (e : yaml_event_t)
        → (c : CarriesOn gives o.parser e last (asked ++ o.earlier.carried.more) (given ++ o.earlier.events))
        → WroteForEvent Ended e (contents o.writer) after
        → Came outcome.Ended after (source_results o.earlier.carried.more (source_results c.more []))
    ended o e c w =
        let so_far = o.earlier.carried in
        let all = o.earlier.events ++ e ∷ [] in
        let k = both_calls gives old o.parser last asked given o.earlier.events (e ∷ []) so_far
        (one_call gives o.parser o.parser last (asked ++ so_far.more) (given ++ o.earlier.events) e c) in
        let none = nothing_needed (asked ++ k.more) (given ++ all) in
        stopped k.more [] all Ends (answers_both so_far.more c.more [])
        (histories.needed last (asked ++ k.more) (given ++ all) k.history) none
        (ended_stop (asked ++ k.more) [] (given ++ all) none
        (histories.whole last (c.ends ∙ w.0) (asked ++ k.more) (given ++ all) k.history)) (
          refl,
          subst (Appends before after) (texts_more event_line gives o.earlier.events e)
              (Appends-trans before (contents o.writer) after (concat (event_lines o.earlier.events))
              (event_line e) o.earlier.wrote w.1),
        )

    -- it failed
    at_stop : (told : yaml_parser_t_prefix) (o : LastCall gives contents (Faulted told) old last before after asked given)
        → (h : FailsBy gives o.parser last (asked ++ o.earlier.carried.more) (given ++ o.earlier.events))
        → Appends (contents o.writer) after (fault_text (kept_fault last))
        → RunStop (source_results (asked ++ o.earlier.carried.more) h.more) (given ++ o.earlier.events) (Fails (kept_fault last))
        → Came outcome.Faulted after (source_results o.earlier.carried.more h.more)
    at_stop told o h w stop =
        let k = o.earlier.carried in
        stopped k.more h.more o.earlier.events (Fails (kept_fault last)) refl
        (histories.needed o.parser (asked ++ k.more) (given ++ o.earlier.events) k.history) h.needed stop (
          refl,
          Appends-trans before (contents o.writer) after (concat (event_lines o.earlier.events))
              (fault_text (kept_fault last)) o.earlier.wrote w,
        )

    by_fault : (told : yaml_parser_t_prefix) (o : LastCall gives contents (Faulted told) old last before after asked given)
        → (h : FailsBy gives o.parser last (asked ++ o.earlier.carried.more) (given ++ o.earlier.events))
        → Appends (contents o.writer) after (fault_text (kept_fault last))
        → Cause o.parser.config (asked ++ o.earlier.carried.more) (given ++ o.earlier.events) h.more (kept_fault last)
        → Came outcome.Faulted after (source_results o.earlier.carried.more h.more)
    by_fault told o h w (of_memory l e take meets f) = broke (record {
      faulted = refl;
      fault = kept_fault last;
      cause = inl f;
      written = concat (event_lines o.earlier.events);
      wrote = Appends-trans before (contents o.writer) after (concat (event_lines o.earlier.events))
          (fault_text (kept_fault last)) o.earlier.wrote w;
    })
    by_fault told o h w (of_grammar l e f) = at_stop told o h w
        (grammar_stop (asked ++ o.earlier.carried.more) h.more (given ++ o.earlier.events) (kept_fault last) l e f)
    by_fault told o h w (of_source l e s f) = at_stop told o h w
        (source_stop (asked ++ o.earlier.carried.more) h.more (given ++ o.earlier.events) (kept_fault last) l e f)

    came : (end : run_end_t) (o : LastCall gives contents end old last before after asked given)
        → Came (outcome_of end) after (writing_results_of end o)
    came Ended o = go o.call
      where
        go : (k : CallSays gives (λ e. WroteForEvent Ended e (contents o.writer) after)
            (λ f. WroteFault Ended f (contents o.writer) after) o.parser last
            (asked ++ o.earlier.carried.more) (given ++ o.earlier.events))
            → Came outcome.Ended after (source_results o.earlier.carried.more (results_in_call k))
        go (gave_event e c w) = ended o e c w
        go (failed h w) = absurd w
    came (Faulted told) o = go o.call
      where
        go : (k : CallSays gives (λ e. WroteForEvent (Faulted told) e (contents o.writer) after)
            (λ f. WroteFault (Faulted told) f (contents o.writer) after) o.parser last
            (asked ++ o.earlier.carried.more) (given ++ o.earlier.events))
            → Came outcome.Faulted after (source_results o.earlier.carried.more (results_in_call k))
        go (gave_event e c w) = broke (record {
          faulted = refl;
          fault = memory_fault;
          cause = inl refl;
          written = concat (event_lines o.earlier.events);
          wrote = Appends-trans before (contents o.writer) after (concat (event_lines o.earlier.events))
              (fault_text memory_fault) o.earlier.wrote w.1;
        })
        go (failed h w) = by_fault told o h w.1 h.cause
    came OutputFailed o = unknown refl

-- two that stopped wrote the same
pub both_wrote : (x y : Ending) (o u : Outcome) (d e : List (List ℕ)) (written : List ℕ)
    (after later : Option (List ℕ)) → x ≡ y → d ≡ e
    → Wrote x o d (Some written) after → Wrote y u e (Some written) later → (o ≡ u) × (after ≡ later)
both_wrote x y o u d e written after later i j g h = grind arith

pub one_writing_proof : {S W : Type 0} (gives : S → SourceResult → S → Type 0) (contents : W → Option (List ℕ))
    → (old p q : Parser S) (first second : run_end_t)
    (written : List ℕ) (after later : Option (List ℕ)) (asked : List yaml_token_t) (given : List yaml_event_t)
    → (a : LastCall gives contents first old p (Some written) after asked given)
    → (b : LastCall gives contents second old q (Some written) later asked given)
    → OneBegins (writing_results_of first a) (writing_results_of second b)
    → OneOutput BreaksOffByNone BreaksOffByNone (outcome_of first) (outcome_of second) (Some written) after later
one_writing_proof {S} gives contents old p q first second written after later asked given a b one
    = go (writing_results_of first a) (writing_results_of second b) one
    (came gives contents old (Some written) asked given p after first a)
    (came gives contents old (Some written) asked given q later second b)
  where
    go : (k l : List SourceResult) → OneBegins k l → Came gives contents old (Some written) asked given
        (outcome_of first) after k
        → Came gives contents old (Some written) asked given (outcome_of second) later l
        → OneOutput BreaksOffByNone BreaksOffByNone (outcome_of first) (outcome_of second) (Some written) after
        later
    go k l o (broke x) y = first_breaks x
    go k l o x (broke y) = second_breaks y
    go k l o (unknown e) y = output_failed (inl e)
    go k l o x (unknown e) = output_failed (inr e)
    go k l o (stopped m u d x e each then stop w) (stopped n v c y f other also halt z) =
        let both = after_asked asked m n u v
        (subst (λ (i : List SourceResult). OneBegins i (source_results n v)) e (subst (OneBegins k) f o)) in
        let r = one_run_by_answers (given ++ d) (given ++ c) x y
        (record { asked = asked ++ m; last = u; needed = each; needed_last = then; stop = stop })
        (record { asked = asked ++ n; last = v; needed = other; needed_last = also; stop = halt }) both in
        let s = both_wrote x y (outcome_of first) (outcome_of second) (event_lines d) (event_lines c) written after
        later r.2 (ap event_lines (prefix_same given d c r.1)) w z in
        alike s.0 s.1

-- nothing was left to write
pub nothing_left_proof : {S : Type 0} (old p q : Parser S) (first second : run_end_t) (written : List ℕ)
    (after later : Option (List ℕ))
    → NothingLeft first old p (Some written) after → NothingLeft second old q (Some written) later
    → OneOutput BreaksOffByNone BreaksOffByNone (outcome_of first) (outcome_of second) (Some written) after later
nothing_left_proof old p q first second written after later a b = grind arith
