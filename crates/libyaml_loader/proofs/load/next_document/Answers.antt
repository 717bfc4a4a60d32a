use Rattle.std.proofs.Common.{◌≡◌, Ok, Err, ap, rules, sym, ◌∙◌, subst, true, false, arith, Bool, Some}
use Rattle.std.proofs.Math.Nat.{le_refl}
use Rattle.libyaml_events.specs.parsers.Stages.{is_event}
use Rattle.libyaml_events.specs.sources.Calls.{event_result}
use Rattle.libyaml_types.specs.Fault.{fault_of}
use Rattle.libyaml_graphs.specs.graphs.GraphParts.{closing_of}
use Rattle.libyaml_graphs.specs.loads.Bounds.{next_bounded}
use Rattle.libyaml_graphs.specs.loads.Loads.{left_over}
use Rattle.libyaml_loader.specs.declared.composer.DocumentBuilder.{DocumentBuilder}
use Rattle.libyaml_loader.specs.document.Context.{loader_of, opening_of_document}
use Rattle.libyaml_loader.specs.loads.Loading.{DocumentOrError, LoadsFrom}
use Rattle.libyaml_loader.specs.pushes.Composing.{closing_by, ended_by, state_by, composer_state}
use Rattle.libyaml_loader.proofs.loads.Ended.{has_not_ended}
use Rattle.libyaml_loader.proofs.loads.OnTheWay.{way_ends, way_fails, way_finds_end, way_more, way_none, way_refused}
use Rattle.libyaml_loader.proofs.loads.Taking.{Came, after_close, event_came, finds_end, parser_fails}
use Rattle.libyaml_loader.proofs.load.next_document.Given as given
use Rattle.libyaml_loader.proofs.load.next_document.Goals as goal
use Rattle.libyaml_loader.proofs.load.next_document.Goals.{After-yaml_parser_parse_into}

-- an event came
abbrev CameBy : (g : given.Over) (c : After-yaml_parser_parse_into g) → Type 0
CameBy g c = Came g.S.yaml_token_source_t c.loop-composer.parser c.yaml_parser_parse_into.new.parser c.yaml_parser_parse_into.new.event

came : (g : given.Over) (c : After-yaml_parser_parse_into g) (u : Unit {0}) → c.yaml_parser_parse_into.result ≡ Ok u
    → is_event c.yaml_parser_parse_into.new.event.content ≡ true → CameBy g c
came g c u ok =
    let call = c.yaml_parser_parse_into in
    event_came g.S.yaml_token_source_t g.met.S.yaml_token_source_t.follows c.loop-composer.parser call.new.parser
    (event_result call.result call.new.event) call.ensures call.new.event (ap (λ r. event_result r call.new.event) ok)

pub loop-composer-init : goal.loop-composer-init
loop-composer-init g c = grind (arith, way_none, le_refl)

pub take_event-requires : goal.take_event-requires
take_event-requires g c = record { sound = c.loop-composer.invariant.1 }

pub loop-composer-smaller : goal.loop-composer-smaller
loop-composer-smaller g c = (came g (goal.at.loop-composer-smaller g c).After-yaml_parser_parse_into _
    c.in_ok-yaml_parser_parse_into.was (sym c.is_event.ensures ∙ c.if-not-is_event.false)).fell

pub loop-composer-preserved : goal.loop-composer-preserved
loop-composer-preserved g c =
    let call = c.yaml_parser_parse_into in
    let k = came g (goal.at.loop-composer-preserved g c).After-yaml_parser_parse_into _
    c.in_ok-yaml_parser_parse_into.was (sym c.is_event.ensures ∙ c.if-not-is_event.false) in
    let i = c.loop-composer.invariant in (
      way_more g.S.yaml_token_source_t c.args.composer.max_entries c.args.parser.now c.loop-composer.parser
          (composer_state c.loop-composer.composer) i.0 call.new.parser (composer_state c.take_event.new.self) call.new.event
          k.took
          (rw i.2 at (rw c.in-Ok-None.field-0-is at c.in-Ok-None.ensures.composes))
          call.ensures.always.bound,
      c.take_event.ensures.sound,
      c.take_event.ensures.bound ∙ i.2,
      (let low = i.3 in let fell = k.fell in omega (arith, low, fell)),
      λ ended. absurd (has_not_ended c.args.parser.now c.loop-composer.parser i.4 k.runs ended),
    )

pub returns-in_err-yaml_parser_parse_into-clause-loads : goal.returns-in_err-yaml_parser_parse_into-clause-loads
returns-in_err-yaml_parser_parse_into-clause-loads g c =
    let t = g.S.yaml_token_source_t in
    let call = c.yaml_parser_parse_into in
    let n = c.args.composer.max_entries in
    let e : c.from_residual.result ≡ Err c.in_err-yaml_parser_parse_into.field-0.0 = search rules in
    subst (λ (r : DocumentOrError). LoadsFrom t (next_bounded n) left_over c.args.parser.now r
    call.new.parser) (sym e)
    (way_fails t n c.args.parser.now c.loop-composer.parser
    (composer_state c.loop-composer.composer) c.loop-composer.invariant.0 call.new.parser
    (parser_fails t g.met.S.yaml_token_source_t.follows c.loop-composer.parser call.new.parser
    (event_result call.result call.new.event) call.ensures c.in_err-yaml_parser_parse_into.field-0.0
    (ap (λ r. event_result r call.new.event) c.in_err-yaml_parser_parse_into.was)))

pub returns-in_err-yaml_parser_parse_into-clause-ended : goal.returns-in_err-yaml_parser_parse_into-clause-ended
returns-in_err-yaml_parser_parse_into-clause-ended g c ended = grind arith

pub returns-then-not-is_event-clause-loads : goal.returns-then-not-is_event-clause-loads
returns-then-not-is_event-clause-loads g c =
    let t = g.S.yaml_token_source_t in
    let call = c.yaml_parser_parse_into in
    let empty : is_event call.new.event.content ≡ false = sym c.is_event.ensures ∙ c.if-not-is_event.true in
    way_finds_end t c.args.composer.max_entries c.args.parser.now c.loop-composer.parser
    (composer_state c.loop-composer.composer) c.loop-composer.invariant.0 call.new.parser c.empty_document.result
    (finds_end t g.met.S.yaml_token_source_t.follows c.loop-composer.parser call.new.parser
    (event_result call.result call.new.event)
    call.ensures call.new.event (ap (λ r. event_result r call.new.event) c.in_ok-yaml_parser_parse_into.was) empty)
    c.empty_document.ensures

pub returns-then-not-is_event-clause-ended : goal.returns-then-not-is_event-clause-ended
returns-then-not-is_event-clause-ended g c ended = grind arith

pub returns-in-Ok-Some-clause-loads : goal.returns-in-Ok-Some-clause-loads
returns-in-Ok-Some-clause-loads g c =
    let t = g.S.yaml_token_source_t in
    let call = c.yaml_parser_parse_into in
    let k = came g (goal.at.returns-in-Ok-Some-clause-loads g c).After-yaml_parser_parse_into _
    c.in_ok-yaml_parser_parse_into.was (sym c.is_event.ensures ∙ c.if-not-is_event.false) in
    let x = c.loop-composer.composer in
    let ends : (x.is_open ≡ true) × (closing_of call.new.event ≡ Some (closing_by c.in-Ok-Some.closing))
    × (c.take_event.new.self ≡ x) = rw c.in-Ok-Some.field-0-is at c.in-Ok-Some.ensures.composes in
    way_ends t c.args.composer.max_entries c.args.parser.now c.loop-composer.parser
    (composer_state x) c.loop-composer.invariant.0 call.new.parser call.new.event (opening_of_document x.ctx.document) (loader_of x.ctx)
    (closing_by c.in-Ok-Some.closing) c.into_document.result k.took (ap (λ (b : Bool). state_by b x.ctx) ends.0) ends.1
    (c.into_document.ensures ∙ ap (λ (y : DocumentBuilder). ended_by (closing_by c.in-Ok-Some.closing) y.ctx) ends.2)
    (after_close t g.met.S.yaml_token_source_t.follows c.loop-composer.parser call.new.parser
    (event_result call.result call.new.event)
    call.ensures call.new.event
    (ap (λ r. event_result r call.new.event) c.in_ok-yaml_parser_parse_into.was) (closing_by c.in-Ok-Some.closing) ends.1)

pub returns-in-Ok-Some-clause-falls : goal.returns-in-Ok-Some-clause-falls
returns-in-Ok-Some-clause-falls g c = grind arith

pub returns-in-Ok-Some-clause-ended : goal.returns-in-Ok-Some-clause-ended
returns-in-Ok-Some-clause-ended g c ended = grind arith

pub returns-in-Err-clause-loads : goal.returns-in-Err-clause-loads
returns-in-Err-clause-loads g c =
    let call = c.yaml_parser_parse_into in
    let k = came g (goal.at.returns-in-Err-clause-loads g c).After-yaml_parser_parse_into _
    c.in_ok-yaml_parser_parse_into.was (sym c.is_event.ensures ∙ c.if-not-is_event.false) in
    let n = c.args.composer.max_entries in
    way_refused g.S.yaml_token_source_t n c.args.parser.now c.loop-composer.parser
    (composer_state c.loop-composer.composer) c.loop-composer.invariant.0 call.new.parser c.keep_fault.new.parser
    call.new.event (fault_of c.take_event.new.self.fault) k.took
    (rw c.loop-composer.invariant.2 at c.in-Err.ensures.composes) c.keep_fault.ensures.kept

pub returns-in-Err-clause-ended : goal.returns-in-Err-clause-ended
returns-in-Err-clause-ended g c ended = grind arith
