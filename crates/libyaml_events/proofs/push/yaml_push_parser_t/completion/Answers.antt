use Rattle.std.proofs.Common.{◌≤◌, ◌+◌, List, length, subst, sym}
use Rattle.std.proofs.lemmas.Result.{IfOk-weaker}
use Rattle.libyaml_types.specs.declared.enums.yaml_token_type_t.{yaml_token_type_t}
use Rattle.libyaml_events.specs.parsers.Stages.{open_collections, stage_of}
use Rattle.libyaml_events.specs.sources.Acceptable.{Complete}
use Rattle.libyaml_events.proofs.expected.Completing.{fed_completes, fed_ended}
use Rattle.libyaml_events.proofs.push.yaml_push_parser_t.completion.Goals as goal

pub returns-then-is_over-clause-completes : goal.returns-then-is_over-clause-completes
returns-then-is_over-clause-completes c = rw (← c.self.view_is)
    (λ tokens events f h. subst (λ (types : List yaml_token_type_t). Complete types tokens)
    (sym c.new.ensures.items) (fed_ended f (sym c.if-is_over.ensures)))

pub returns-clause-completes : goal.returns-clause-completes
returns-clause-completes c = rw (← c.self.view_is) (IfOk-weaker c.completion.result _ _
    (λ types e tokens events f h. subst (λ (l : List yaml_token_type_t). Complete l tokens) (sym e)
    (fed_completes f (sym c.if-is_over.ensures) h).0) c.completion.ensures)

pub returns-clause-few : goal.returns-clause-few
returns-clause-few c = rw (← c.self.view_is) (IfOk-weaker c.completion.result _ _
    (λ types e tokens events f h.
    subst (λ (l : List yaml_token_type_t). length l ≤ open_collections (stage_of events) + 2) (sym e) (fed_completes f (sym c.if-is_over.ensures) h).1) c.completion.ensures)
