-- That no line is held back: each is written before the next event is parsed (docs/DEFINITIONS.md, "Runs over lines").
use Rattle.std.specs.Prelude.{◌≡◌, ◌⊎◌, ℕ, List, [], true, Option, None}
use Rattle.std.specs.Io.KnownBytes.{Appends, Keeps}
use Rattle.libyaml_types.specs.declared.event.yaml_event_t.{yaml_event_t}
use Rattle.libyaml_types.specs.declared.token.yaml_token_t.{yaml_token_t}
use Rattle.libyaml_events.specs.machine.Config.{Parser}
use Rattle.libyaml_types.specs.Fault.{SourceResult, fault_of, memory_fault}
use Rattle.libyaml_events.specs.sources.History.{History, is_stream_end}
use Rattle.token_lines.specs.declared.run.Outcome.{Outcome}
use Rattle.token_lines.specs.declared.run.run_end_t.{run_end_t}
use Rattle.token_lines.specs.declared.run.run_end_t.TheVariants.{Ended, Faulted, OutputFailed}
use Rattle.token_lines.specs.events.EventRun.{most_tokens, WritesRunOf}
use Rattle.token_lines.specs.events.InTurn.{CallSays, WrittenInTurn}
use Rattle.token_lines.specs.lines.LineRun.{WroteFault, outcome_of}
use Rattle.line_writing.specs.EventText.{event_line}
use Rattle.line_writing.specs.FaultText.{fault_text}
use Rattle.line_reading.specs.sources.LineSource.{LineSource, Gives, BreaksOff}

-- What a run wrote after a last call that returned this event: its line, which is the stream end's, where the run ended; or
-- else, where memory ran out for that line, the text of a failed allocation. Where the output failed, nothing is said.
abbrev pub WroteForEvent : run_end_t → yaml_event_t → (before after : Option (List ℕ)) → Type 0
WroteForEvent Ended e before after = (is_stream_end e ≡ true) × Appends before after (event_line e)
WroteForEvent (Faulted f) e before after = (fault_of f ≡ memory_fault) × Appends before after (fault_text memory_fault)
WroteForEvent OutputFailed e before after = Unit {0}

-- the last call of a run, and what was written after it: the text of the error, where the call failed
abbrev pub Closes : {S : Type 0} → (gives : S → SourceResult → S → Type 0) → run_end_t → (old new : Parser S)
    → (before after : Option (List ℕ)) → List yaml_token_t
    → List yaml_event_t → Type 0
Closes gives end old new before after asked given
    = CallSays gives (λ e. WroteForEvent end e before after) (λ f. WroteFault end f before after) old new asked given

-- At the last call of the parser the writer held the line of each event that was given before, and what was written since
-- is of this call.
abbrev pub LastCall : {S W : Type 0} → (gives : S → SourceResult → S → Type 0) → (contents : W → Option (List ℕ))
    → run_end_t → (first last : Parser S)
    → (before after : Option (List ℕ)) → List yaml_token_t → List yaml_event_t → Type 0
LastCall gives contents end first last before after asked given
    = WrittenInTurn event_line (WroteForEvent end) (WroteFault end) gives contents first last before after asked given

-- nothing was left to write: the parser and the writer's bytes are as they were
pub record NothingLeft {S : Type 0} (end : run_end_t) (old new : Parser S) (before after : Option (List ℕ)) : Type 0 where
  pub ended : (end ≡ Ended) ⊎ (end ≡ OutputFailed)
  pub parser : new ≡ old
  pub keeps : Keeps before after

-- a parser at the start of a reader's lines
pub record StartsAt {R : Type 0} (reader : R) (p : Parser (LineSource R)) : Type 0 where
  pub source : p.source ≡ record { reader = reader; given = 0; max_tokens = most_tokens; fault = None }
  pub begins : History p [] []

-- A run over a reader's lines: what it wrote, where a source of these lines may have failed early as it then was; and
-- that a parser which starts there can have written it in turn. Which calls were made is said of `write_events`, whose
-- parser stays.
pub record RunsOver {R W : Type 0} (remaining : R → Option (List ℕ)) (contents : W
    → Option (List ℕ)) (reader : R) (outcome : Outcome) (before after : Option (List ℕ)) : Type 0 where
  pub end : run_end_t
  pub outcome_is : outcome ≡ outcome_of end
  pub first : Parser (LineSource R)
  pub last : Parser (LineSource R)
  pub starts : StartsAt reader first
  pub writes : WritesRunOf (remaining reader) (BreaksOff last.source) end before after
  pub in_turn : LastCall (Gives remaining) contents end first last before after [] []
