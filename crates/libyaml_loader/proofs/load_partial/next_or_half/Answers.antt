use Rattle.std.proofs.Common.{◌≡◌, Ok, ap, sym, ◌∙◌, refl, true, false, arith, Bool, Some}
use Rattle.std.proofs.Math.Nat.{le_refl}
use Rattle.libyaml_events.specs.parsers.Stages.{is_event}
use Rattle.libyaml_events.specs.sources.Calls.{event_result}
use Rattle.libyaml_events.specs.sources.History.{kept_fault}
use Rattle.libyaml_events.specs.sources.Naming.{without_name}
use Rattle.libyaml_types.specs.Fault.{fault_of}
use Rattle.libyaml_types.specs.Types.{event_anchor}
use Rattle.libyaml_types.specs.declared.enums.yaml_error_type_t.{yaml_error_type_t}
use Rattle.libyaml_graphs.specs.graphs.GraphParts.{closing_of}
use Rattle.libyaml_loader.specs.declared.composer.DocumentBuilder.{DocumentBuilder}
use Rattle.libyaml_loader.specs.document.Context.{loader_of, opening_of_document}
use Rattle.libyaml_loader.specs.loads.PartialLoad.{named_by}
use Rattle.libyaml_loader.specs.pushes.Composing as composing
use Rattle.libyaml_loader.specs.pushes.Composing.{closing_by, ended_by, state_by, composer_state}
use Rattle.libyaml_loader.proofs.loads.Ended.{has_not_ended}
use Rattle.libyaml_loader.proofs.loads.Halves.{half_by_loader, half_by_memory, half_by_parser, half_more, half_none, no_error}
use Rattle.libyaml_loader.proofs.loads.OnTheWay.{way_ends, way_fails, way_finds_end, way_refused}
use Rattle.libyaml_loader.proofs.loads.Taking.{Came, after_close, event_came, finds_end, parser_fails}
use Rattle.libyaml_loader.proofs.load_partial.next_or_half.Given as given
use Rattle.libyaml_loader.proofs.load_partial.next_or_half.Goals as goal
use Rattle.libyaml_loader.proofs.load_partial.next_or_half.Goals.{After-yaml_parser_parse_named}

-- an event came
abbrev CameBy : (g : given.Over) (c : After-yaml_parser_parse_named g) → Type 0
CameBy g c = Came g.S.yaml_token_source_t c.loop-error.parser c.yaml_parser_parse_named.new.parser c.yaml_parser_parse_named.new.event

came : (g : given.Over) (c : After-yaml_parser_parse_named g) (u : Unit {0}) → c.yaml_parser_parse_named.result ≡ Ok u
    → is_event c.yaml_parser_parse_named.new.event.content ≡ true → CameBy g c
came g c u ok =
    let call = c.yaml_parser_parse_named in
    event_came g.S.yaml_token_source_t g.met.S.yaml_token_source_t.follows c.loop-error.parser call.new.parser
    (event_result (without_name call.result) call.new.event) call.ensures.parses call.new.event (ap (λ r. event_result (without_name r) call.new.event) ok)

pub loop-error-init : goal.loop-error-init
loop-error-init g c =
    let h = half_none g.S.yaml_token_source_t c.args.composer.now.max_entries c.args.parser.now c.args.composer.now
    c.requires.none_open in
    (h.0, h.1, c.requires.sound, refl, le_refl _, λ ended. refl)

pub loop-error-smaller : goal.loop-error-smaller
loop-error-smaller g c = (came g (goal.at.loop-error-smaller g c).After-yaml_parser_parse_named _
    c.in_default.is (sym c.is_event.ensures ∙ c.if-not-is_event.false)).fell

pub loop-error-preserved : goal.loop-error-preserved
loop-error-preserved g c =
    let call = c.yaml_parser_parse_named in
    let k = came g (goal.at.loop-error-preserved g c).After-yaml_parser_parse_named _
    c.in_default.is (sym c.is_event.ensures ∙ c.if-not-is_event.false) in
    let i = c.loop-error.invariant in
    let more = half_more g.S.yaml_token_source_t c.args.composer.now.max_entries c.args.parser.now c.loop-error.parser
    call.new.parser (composer_state c.loop-error.composer) (composer_state c.take_event.new.self) i.0 call.new.event k.took
    (rw i.3 at (rw c.in-Ok-None.field-0-is at c.in-Ok-None.ensures.composes)) call.ensures.parses.always.bound in (
      more.0,
      more.1,
      c.take_event.ensures.sound,
      c.take_event.ensures.bound ∙ i.3,
      (let low = i.4 in let fell = k.fell in omega (arith, low, fell)),
      λ ended. absurd (has_not_ended c.args.parser.now c.loop-error.parser i.5 k.runs ended),
    )

pub returns-in-Err-clause-loads : goal.returns-in-Err-clause-loads
returns-in-Err-clause-loads g c =
    let t = g.S.yaml_token_source_t in
    let call = c.yaml_parser_parse_named in
    way_fails t c.args.composer.now.max_entries c.args.parser.now c.loop-error.parser
    (composer_state c.loop-error.composer) c.loop-error.invariant.0 call.new.parser
    (parser_fails t g.met.S.yaml_token_source_t.follows c.loop-error.parser call.new.parser
    (event_result (without_name call.result) call.new.event) call.ensures.parses c.in-Err.field-0.error
    (ap (λ r. event_result (without_name r) call.new.event) c.in-Err.is))

pub returns-in-Err-clause-half : goal.returns-in-Err-clause-half
returns-in-Err-clause-half g c =
    let t = g.S.yaml_token_source_t in
    let call = c.yaml_parser_parse_named in
    let i = c.loop-error.invariant in
    half_by_parser t c.args.composer.now.max_entries c.args.parser.now c.loop-error.parser
    (composer_state c.loop-error.composer) i.0 c.loop-error.end_mark i.1 _ call.new.parser
    (parser_fails t g.met.S.yaml_token_source_t.follows c.loop-error.parser call.new.parser
    (event_result (without_name call.result) call.new.event) call.ensures.parses c.in-Err.field-0.error
    (ap (λ r. event_result (without_name r) call.new.event) c.in-Err.is))
    (rw i.3 at c.end_half-document.ensures) c.in-Err.ensures.names

pub returns-then-not-is_event-clause-loads : goal.returns-then-not-is_event-clause-loads
returns-then-not-is_event-clause-loads g c =
    let t = g.S.yaml_token_source_t in
    let call = c.yaml_parser_parse_named in
    let empty : is_event call.new.event.content ≡ false = sym c.is_event.ensures ∙ c.if-not-is_event.true in
    way_finds_end t c.args.composer.now.max_entries c.args.parser.now c.loop-error.parser
    (composer_state c.loop-error.composer) c.loop-error.invariant.0 call.new.parser c.empty_document.result
    (finds_end t g.met.S.yaml_token_source_t.follows c.loop-error.parser call.new.parser
    (event_result (without_name call.result) call.new.event)
    call.ensures.parses call.new.event (ap (λ r. event_result (without_name r) call.new.event) c.in_default.is) empty)
    c.empty_document.ensures

pub returns-in-Some-clause-loads : goal.returns-in-Some-clause-loads
returns-in-Some-clause-loads g c =
    let call = c.yaml_parser_parse_named in
    let k = came g (goal.at.returns-in-Some-clause-loads g c).After-yaml_parser_parse_named _
    c.in_default.is (sym c.is_event.ensures ∙ c.if-not-is_event.false) in
    way_refused g.S.yaml_token_source_t c.args.composer.now.max_entries c.args.parser.now c.loop-error.parser
    (composer_state c.loop-error.composer) c.loop-error.invariant.0 call.new.parser c.keep_fault-error.new.parser
    call.new.event (fault_of c.in-Some.fault) k.took
    (composing.by_loads (rw c.loop-error.invariant.3 at c.in-Some.ensures.refuses)) c.keep_fault-error.ensures.kept

pub returns-in-Some-clause-half : goal.returns-in-Some-clause-half
returns-in-Some-clause-half g c =
    let call = c.yaml_parser_parse_named in
    let k = came g (goal.at.returns-in-Some-clause-half g c).After-yaml_parser_parse_named _
    c.in_default.is (sym c.is_event.ensures ∙ c.if-not-is_event.false) in
    let i = c.loop-error.invariant in
    half_by_loader g.S.yaml_token_source_t c.args.composer.now.max_entries c.args.parser.now c.loop-error.parser
    (composer_state c.loop-error.composer) i.0 c.loop-error.end_mark i.1 _ call.new.parser c.keep_fault-error.new.parser call.new.event (fault_of c.in-Some.fault) k.took
    (rw i.3 at c.in-Some.ensures.refuses) c.keep_fault-error.ensures.kept (rw i.3 at c.end_half-document-in-Some.ensures)
    (c.take_name-name.ensures ∙ ap (λ (x : yaml_error_type_t). named_by x (event_anchor call.new.event.content))
    (c.keep_fault-error.ensures.error ∙ ap (λ q. (kept_fault q).error) c.keep_fault-error.ensures.kept))

pub returns-in-Ok-Some-clause-loads : goal.returns-in-Ok-Some-clause-loads
returns-in-Ok-Some-clause-loads g c =
    let t = g.S.yaml_token_source_t in
    let call = c.yaml_parser_parse_named in
    let k = came g (goal.at.returns-in-Ok-Some-clause-loads g c).After-yaml_parser_parse_named _
    c.in_default.is (sym c.is_event.ensures ∙ c.if-not-is_event.false) in
    let x = c.loop-error.composer in
    let ends : (x.is_open ≡ true) × (closing_of call.new.event ≡ Some (closing_by c.in-Ok-Some.closing))
    × (c.take_event.new.self ≡ x) = rw c.in-Ok-Some.field-0-is at c.in-Ok-Some.ensures.composes in
    way_ends t c.args.composer.now.max_entries c.args.parser.now c.loop-error.parser
    (composer_state x) c.loop-error.invariant.0 call.new.parser call.new.event (opening_of_document x.ctx.document) (loader_of x.ctx)
    (closing_by c.in-Ok-Some.closing) c.end.result k.took (ap (λ (b : Bool). state_by b x.ctx) ends.0) ends.1
    (c.end.ensures.ended ∙ ap (λ (y : DocumentBuilder). ended_by (closing_by c.in-Ok-Some.closing) y.ctx) ends.2)
    (after_close t g.met.S.yaml_token_source_t.follows c.loop-error.parser call.new.parser
    (event_result (without_name call.result) call.new.event)
    call.ensures.parses call.new.event
    (ap (λ r. event_result (without_name r) call.new.event) c.in_default.is) (closing_by c.in-Ok-Some.closing) ends.1)

pub returns-in-Err-take_event-clause-loads : goal.returns-in-Err-take_event-clause-loads
returns-in-Err-take_event-clause-loads g c =
    let call = c.yaml_parser_parse_named in
    let k = came g (goal.at.returns-in-Err-take_event-clause-loads g c).After-yaml_parser_parse_named _
    c.in_default.is (sym c.is_event.ensures ∙ c.if-not-is_event.false) in
    way_refused g.S.yaml_token_source_t c.args.composer.now.max_entries c.args.parser.now c.loop-error.parser
    (composer_state c.loop-error.composer) c.loop-error.invariant.0 call.new.parser c.keep_fault-error-in-Err-take_event.new.parser
    call.new.event (fault_of c.take_event.new.self.fault) k.took
    (rw c.loop-error.invariant.3 at c.in-Err-take_event.ensures.composes) c.keep_fault-error-in-Err-take_event.ensures.kept

pub returns-in-Err-take_event-clause-half : goal.returns-in-Err-take_event-clause-half
returns-in-Err-take_event-clause-half g c =
    let call = c.yaml_parser_parse_named in
    let k = came g (goal.at.returns-in-Err-take_event-clause-half g c).After-yaml_parser_parse_named _
    c.in_default.is (sym c.is_event.ensures ∙ c.if-not-is_event.false) in
    let x = c.loop-error.composer in
    let i = c.loop-error.invariant in
    half_by_memory g.S.yaml_token_source_t c.args.composer.now.max_entries c.args.parser.now c.loop-error.parser
    (composer_state x) i.0 c.loop-error.end_mark i.1 _ call.new.parser c.keep_fault-error-in-Err-take_event.new.parser
    call.new.event (fault_of c.take_event.new.self.fault) k.took (rw i.3 at c.in-Err-take_event.ensures.composes)
    (no_error x call.new.event c.args.composer.now.max_entries i.3 (c.in_default-event_fault.ensures.accepts refl))
    c.keep_fault-error-in-Err-take_event.ensures.kept refl refl
