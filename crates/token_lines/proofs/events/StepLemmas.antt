-- What a run over events wrote of a run that was to come, by its last call.
use Rattle.std.proofs.Common.{◌≡◌, ◌++◌, ℕ, List, [], ◌∷◌, Option, Some, refl, sym, ap, ◌∙◌, subst, inl, inr, true}
use Rattle.std.proofs.KnownBytes.{Appends-kept, Appends-nil, Appends-trans}
use Rattle.std.proofs.lemmas.List.{append-nil, map-append}
use Rattle.std.specs.List.{concat}
use Rattle.std.specs.Io.KnownBytes.{Appends}
use Rattle.libyaml_types.specs.declared.event.yaml_event_t.{yaml_event_t}
use Rattle.libyaml_events.specs.machine.Config.{Parser}
use Rattle.libyaml_events.specs.sources.History.{is_over, kept_fault}
use Rattle.libyaml_events.specs.sources.RunToCome.{FailsHere, RunToCome}
use Rattle.libyaml_events.proofs.exported.CallsInTurn.{both_calls, one_call}
use Rattle.libyaml_events.proofs.exported.KnownTokens.{fails_after, further, nothing_after_end}
use Rattle.libyaml_grammar.specs.runs.Runs.{Ending, Ends, Fails}
use Rattle.libyaml_types.specs.declared.fault.yaml_parser_t_prefix.{yaml_parser_t_prefix}
use Rattle.libyaml_types.specs.Fault.{SourceResult, Fault, fault_of, memory_fault}
use Rattle.libyaml_types.specs.Source.{Coming, Follows}
use Rattle.libyaml_types.specs.declared.source.yaml_token_source_t.{Ghosts}
use Rattle.line_writing.specs.EventText.{event_line}
use Rattle.line_writing.specs.FaultText.{fault_text}
use Rattle.token_lines.specs.events.EventRun.{event_lines}
use Rattle.token_lines.specs.events.InTurn.{gave_event, failed}
use Rattle.token_lines.specs.events.LastCall.{Closes, LastCall, NothingLeft}
use Rattle.token_lines.specs.declared.run.run_end_t.{run_end_t}
use Rattle.token_lines.specs.declared.run.run_end_t.TheVariants.{Ended, Faulted, OutputFailed}
use Rattle.token_lines.specs.lines.LineRun.{Writes, broken_off, output_failed}
use Rattle.token_lines.proofs.events.InTurnLemmas.{texts_more}
use Rattle.token_lines.proofs.lines.RunLemmas.{told_whole, writes_ended}

-- a run over a parser that had ended
pub writes_none : {S : Type 0} (known : S → Option Coming) (may_break : Fault → Type 0) (first last : Parser S)
    (end : run_end_t) (a d : Option (List ℕ)) (all : List yaml_event_t) (ending : Ending) → is_over first ≡ true
    → RunToCome known first all ending → NothingLeft end first last a d → Writes may_break end a d (event_lines all) ending
writes_none known may_break first last end a d all ending over run n =
    let none = nothing_after_end known first over all ending run in
    writes_ended may_break end a d (event_lines all) ending n.ended (
      none.1,
      subst (λ (l : List yaml_event_t). Appends a d (concat (event_lines l))) (sym none.0)
          (Appends-kept a a d [] (Appends-nil a) n.keeps),
    )

module _ {S W : Type 0} (g : Ghosts S)
    (follows : (s t : S) (a : SourceResult) → g.gives s a t → Follows (g.may_break t) (g.known s) a (g.known t))
    (contents : W → Option (List ℕ)) (first q : Parser S) (a d : Option (List ℕ)) (all : List yaml_event_t)
    (ending : Ending) (r : RunToCome g.known first all ending) (result : run_end_t)
    (l : LastCall g.gives contents result first q a d r.asked r.given) where
  abbrev done : List yaml_event_t
  done = l.earlier.events

  abbrev Wrote : run_end_t → Type 0
  Wrote end = Writes (g.may_break q.source) end a d (event_lines all) ending

  wrote_then : (bytes : List ℕ) → Appends (contents l.writer) d bytes → Appends a d (concat (event_lines done) ++ bytes)
  wrote_then bytes h = Appends-trans a (contents l.writer) d (concat (event_lines done)) bytes l.earlier.wrote h

  -- where the run tells this error
  fails_there : (told : yaml_parser_t_prefix) (f : Fault) → fault_of told ≡ f → (later : List yaml_event_t)
      → all ≡ done ++ later → FailsHere (g.may_break q.source) f later ending
      → Appends (contents l.writer) d (fault_text f) → Wrote (Faulted told)
  fails_there told f is later split (inl e) h =
      let same : done ≡ all = sym (split ∙ ap (λ (x : List yaml_event_t). done ++ x) e.0 ∙ append-nil done) in
      told_whole (Faulted told) a d (event_lines all) (Fails f) ending (ap (λ (x : Fault). Some (Fails x)) is) e.1
      (subst (λ (x : List yaml_event_t). Appends a d (concat (event_lines x) ++ fault_text f)) same
      (wrote_then (fault_text f) h))
  fails_there told f is later split (inr why) h
      = broken_off f (ap (λ (x : Fault). Some (Fails x)) is) why (event_lines done) (event_lines later)
      (ap event_lines split ∙ map-append event_line done later) (wrote_then (fault_text f) h)

  go : (end : run_end_t)
      → Closes g.gives end l.parser q (contents l.writer) d (r.asked ++ l.earlier.carried.more) (r.given ++ done)
      → Wrote end
  go OutputFailed call = output_failed refl
  go Ended (gave_event e on wrote) =
      let k = both_calls g.gives first l.parser q r.asked r.given done (e ∷ []) l.earlier.carried
      (one_call g.gives l.parser l.parser q (r.asked ++ l.earlier.carried.more) (r.given ++ done) e on) in
      let rest = further g follows first q all ending r k.more (done ++ e ∷ []) k.gave k.history in
      let none = nothing_after_end g.known q (on.ends ∙ wrote.0) rest.later ending rest.run in
      let same : done ++ e ∷ [] ≡ all =
      sym (rest.all ∙ ap (λ (x : List yaml_event_t). (done ++ e ∷ []) ++ x) none.0 ∙ append-nil (done ++ e ∷ [])) in
      told_whole Ended a d (event_lines all) Ends ending refl none.1
      (subst (λ (x : List yaml_event_t). Appends a d (concat (event_lines x))) same
      (subst (Appends a d) (texts_more event_line g.gives done e) (wrote_then (event_line e) wrote.1)))
  go (Faulted told) (gave_event e on wrote) =
      let rest = further g follows first l.parser all ending r l.earlier.carried.more done l.earlier.carried.gave
      l.earlier.carried.history in
      fails_there told memory_fault wrote.0 rest.later rest.all (inr (inl refl)) wrote.1
  go Ended (failed by wrote) = absurd wrote
  go (Faulted told) (failed by wrote) =
      let rest = fails_after g follows first l.parser q all ending r l.earlier.carried.more done l.earlier.carried.gave
      l.earlier.carried.history by in
      fails_there told (kept_fault q) wrote.0 rest.0 rest.1 rest.2 wrote.1

  pub writes_events : Wrote result
  writes_events = go result l.call
