use Rattle.std.proofs.Common.{◌≡◌, ◌∙◌, ℕ, List, Option, Some, ap, subst, sym}
use Rattle.token_lines.specs.declared.run.Outcome.{Outcome}
use Rattle.token_lines.specs.Arguments.{RunsWith, WasOver, exit_status_of}
use Rattle.token_lines.specs.declared.command.words.Run.{Run}
use Rattle.token_lines.proofs.command.words.run_words.Goals as goal

one_run : (a b : Run) → Some a ≡ Some b → a ≡ b
one_run a b e = cc

-- the run that was asked for was made
made : {R W : Type 0} (remaining : R → Option (List ℕ)) (contents : W → Option (List ℕ)) (reader : R) (asked run : Run)
    (outcome : Outcome) (status : ℕ) (before after : Option (List ℕ)) → Some asked ≡ Some run → status ≡ exit_status_of outcome
    → WasOver asked remaining contents reader outcome before after → RunsWith run remaining contents reader status before after
made remaining contents reader asked run outcome status before after e s w = record {
  outcome = outcome;
  status_is = s;
  over = subst (λ (x : Run). WasOver x remaining contents reader outcome before after) (one_run asked run e) w;
}

pub returns-in-Ended-clause-runs : goal.returns-in-Ended-clause-runs
returns-in-Ended-clause-runs g c run e = made g.R.Read.remaining g.W.Write.contents c.args.reader c.in-Some.asked run
    c.run_asked.result 0 _ _ (sym c.in-Some.is ∙ (c.asked_run.ensures ∙ e)) (sym (ap exit_status_of c.in-Ended.is)) c.run_asked.ensures

pub returns-in-Faulted-clause-runs : goal.returns-in-Faulted-clause-runs
returns-in-Faulted-clause-runs g c run e = made g.R.Read.remaining g.W.Write.contents c.args.reader c.in-Some.asked run
    c.run_asked.result 1 _ _ (sym c.in-Some.is ∙ (c.asked_run.ensures ∙ e)) (sym (ap exit_status_of c.in-Faulted.is)) c.run_asked.ensures

pub returns-in-OutputFailed-clause-runs : goal.returns-in-OutputFailed-clause-runs
returns-in-OutputFailed-clause-runs g c run e = made g.R.Read.remaining g.W.Write.contents c.args.reader c.in-Some.asked run
    c.run_asked.result c.refuse.result _ _ (sym c.in-Some.is ∙ (c.asked_run.ensures ∙ e))
    (c.refuse.ensures.status ∙ sym (ap exit_status_of c.in-OutputFailed.is)) c.run_asked.ensures
