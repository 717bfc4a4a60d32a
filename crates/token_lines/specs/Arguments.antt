-- The arguments of the command line: what its words ask for, and the exit statuses (docs/DEFINITIONS.md, "The program").
use Rattle.std.specs.Prelude.{◌≡◌, ℕ, List, [], ◌∷◌, Option, Some, None, codes, take, bytes_eq, if◌then◌else◌}
use Rattle.std.specs.Io.KnownBytes.{Appends}
use Rattle.token_lines.specs.declared.run.Outcome.{Outcome}
use Rattle.token_lines.specs.declared.run.Outcome.TheVariants.{Ended, Faulted, OutputFailed}
use Rattle.token_lines.specs.events.LastCall.{RunsOver}
use Rattle.token_lines.specs.nodes.LastLoad.{NodesOver}
use Rattle.token_lines.specs.declared.command.words.Run.{Run}
use Rattle.token_lines.specs.declared.command.words.Run.TheVariants.{Events, Nodes}

-- the run that one word asks for
abbrev pub run_of : List ℕ → Option Run
run_of word = if bytes_eq word (codes "events") then Some Events else
    (if bytes_eq word (codes "nodes") then Some Nodes else None)

-- the run that the words ask for: there is exactly one word
abbrev pub asked_run : List (List ℕ) → Option Run
asked_run (word ∷ []) = run_of word
asked_run _ = None

abbrev pub exit_status_of : Outcome → ℕ
exit_status_of Ended = 0
exit_status_of Faulted = 1
exit_status_of OutputFailed = 3

-- known bytes grew by the line, or by what could be written of it
abbrev pub BeginsLine : (line : List ℕ) → (before after : Option (List ℕ)) → Type 0
BeginsLine line before after = (n : ℕ) × Appends before after (take n line)

-- the run was over a reader's lines, and wrote what it writes
abbrev pub WasOver : {R W : Type 0} → Run → (remaining : R → Option (List ℕ)) → (contents : W → Option (List ℕ)) → R
    → Outcome
    → (before after : Option (List ℕ)) → Type 0
WasOver Events remaining contents reader outcome before after = RunsOver remaining contents reader outcome before after
WasOver Nodes remaining contents reader outcome before after = NodesOver remaining contents reader outcome before after

-- such a run, and this status says how it ended
pub record RunsWith {R W : Type 0} (run : Run) (remaining : R → Option (List ℕ)) (contents : W
    → Option (List ℕ)) (reader : R) (status : ℕ) (before after : Option (List ℕ)) : Type 0 where
  pub outcome : Outcome
  pub status_is : status ≡ exit_status_of outcome
  pub over : WasOver run remaining contents reader outcome before after
