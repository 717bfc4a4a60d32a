use Rattle.std.proofs.Common.{◌++◌, refl, ap, ◌∙◌, subst, sym, arith}
use Rattle.std.specs.Io.KnownBytes.{Appends}
use Rattle.std.proofs.KnownBytes.{Appends-kept}
use Rattle.line_writing.specs.EventText.{event_line}
use Rattle.token_lines.specs.events.InTurn.{gave_event}
use Rattle.token_lines.proofs.lines.RunLemmas.{Keeps-same}
use Rattle.token_lines.proofs.run.events.write_next.Goals as goal

pub returns-clause-falls : goal.returns-clause-falls
returns-clause-falls g c written = grind arith

pub returns-in_default-clause-turn : goal.returns-in_default-clause-turn
returns-in_default-clause-turn g c running asked given h = grind arith

pub returns-in_default-append_event-clause-turn : goal.returns-in_default-append_event-clause-turn
returns-in_default-append_event-clause-turn g c running asked given h =
    gave_event c.yaml_parser_parse_into-parsed.new.event
    ((rw c.in-Ok.is at (c.yaml_parser_parse_into-parsed.ensures.next.carries_on running)) asked given h)
    (refl, Keeps-same _)

pub returns-in_default-write_line-clause-turn : goal.returns-in_default-write_line-clause-turn
returns-in_default-write_line-clause-turn g c running asked given h =
    gave_event c.yaml_parser_parse_into-parsed.new.event
    ((rw c.in-Ok.is at (c.yaml_parser_parse_into-parsed.ensures.next.carries_on running)) asked given h) tt

pub returns-then-is_stream_end-clause-turn : goal.returns-then-is_stream_end-clause-turn
returns-then-is_stream_end-clause-turn g c running asked given h =
    let line = c.in-Ok-append_event.ensures ∙ ap (λ l. l ++ event_line c.yaml_parser_parse_into-parsed.new.event)
    c.clear.ensures.bytes in
    let ended = sym c.is_stream_end.ensures ∙ c.if-is_stream_end.true in
    gave_event c.yaml_parser_parse_into-parsed.new.event
    ((rw c.in-Ok.is at (c.yaml_parser_parse_into-parsed.ensures.next.carries_on running)) asked given h)
    (ended, subst (Appends _ _) line c.in-Ok-write_line.ensures.ok)

pub returns-in_default-show-clause-turn : goal.returns-in_default-show-clause-turn
returns-in_default-show-clause-turn g c running asked given h =
    gave_event c.yaml_parser_parse_into-parsed.new.event
    ((rw c.in-Ok.is at (c.yaml_parser_parse_into-parsed.ensures.next.carries_on running)) asked given h) tt

pub returns-clause-turn : goal.returns-clause-turn
returns-clause-turn g c running asked given h =
    let line = c.in-Ok-append_event.ensures ∙ ap (λ l. l ++ event_line c.yaml_parser_parse_into-parsed.new.event)
    c.clear.ensures.bytes in
    let more = sym c.is_stream_end.ensures ∙ c.if-is_stream_end.false in
    gave_event c.yaml_parser_parse_into-parsed.new.event
    ((rw c.in-Ok.is at (c.yaml_parser_parse_into-parsed.ensures.next.carries_on running)) asked given h)
    (more, Appends-kept _ _ _ _ (subst (Appends _ _) line c.in-Ok-write_line.ensures.ok) c.show.ensures)
