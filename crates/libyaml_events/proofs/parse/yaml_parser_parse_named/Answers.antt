use Rattle.std.proofs.Common.{refl, ap, option_map, string_bytes}
use Rattle.libyaml_events.specs.machine.Config.{parser, with_lookahead}
use Rattle.libyaml_events.proofs.calls.CallLemmas.{names_handle}
use Rattle.libyaml_events.proofs.calls.ParsesNext.{parses_next}
use Rattle.libyaml_events.proofs.calls.Remembering.{remembers}
use Rattle.libyaml_events.proofs.parse.yaml_parser_parse_named.Goals as goal

pub invariant_of-parser : goal.invariant_of-parser
invariant_of-parser g c =
    let max = c.parser.inside.max_entries.number in
    remembers g.S.yaml_token_source_t.gives _ (parser max c.parse_event.new.source
    (with_lookahead c.parse_event.new.lookahead c.parse_event.new.self)) c.parse_event.result
    c.parse_event.new.event c.parser.invariant
    (λ over. let e = c.parse_event.ensures.over over in rw (e.0, e.1, e.2) refl)
    (c.parse_event.ensures.call max) c.parse_event.ensures.failed

pub returns-in-Ok-clause-parses : goal.returns-in-Ok-clause-parses
returns-in-Ok-clause-parses g c =
    let met = g.met.S.yaml_token_source_t in
    let call = c.in-Ok.ensures in
    rw c.parser.view_is at (parses_next g.S.yaml_token_source_t met.falls met.follows _ _ _
    (call.call c.parser.inside.max_entries.number) call.kept call.failed refl call.left c.parser.invariant)

pub returns-in-Err-clause-parses : goal.returns-in-Err-clause-parses
returns-in-Err-clause-parses g c =
    let met = g.met.S.yaml_token_source_t in
    let call = c.in-Err.ensures in
    rw c.parser.view_is at (parses_next g.S.yaml_token_source_t met.falls met.follows _ _ _
    (call.call c.parser.inside.max_entries.number) call.kept call.failed refl call.left c.parser.invariant)

pub returns-in-Err-clause-names : goal.returns-in-Err-clause-names
returns-in-Err-clause-names g c =
    rw c.parser.view_is at (names_handle g.S.yaml_token_source_t.gives _ _ _ _ _
    (c.in-Err.ensures.handle c.parser.inside.max_entries.number) c.take_undefined.ensures.undefined
    (λ o. ap (option_map string_bytes) (c.take_undefined.ensures.other o)))
