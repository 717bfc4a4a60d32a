use Rattle.std.proofs.Common.{◌≡◌, ℤ, Some, false}
use Rattle.libyaml_events.specs.machine.Outcomes.{wanted}
use Rattle.libyaml_events.specs.machine.Config.{parser, with_lookahead}
use Rattle.libyaml_events.specs.automaton.View.{Ready}
use Rattle.libyaml_events.proofs.calls.CallLemmas.{Reading}
use Rattle.libyaml_events.proofs.parser.TokenParser.parse_event.Given as goal

abbrev pub invariant-loop-lookahead : goal.invariant-loop-lookahead
invariant-loop-lookahead g l = ((max : ℤ) → Reading g.S.yaml_token_source_t.gives
    (parser max l.fn.source (with_lookahead l.fn.lookahead l.fn.self)) (Some l.lookahead.token) l.source l.self
    (wanted l.pending)) × Ready l.pending l.self × (l.lookahead.stays ≡ false)

abbrev pub decreases-loop-lookahead : goal.decreases-loop-lookahead
decreases-loop-lookahead g l = g.S.yaml_token_source_t.bound l.source
