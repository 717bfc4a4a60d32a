use Rattle.std.proofs.Common.{◌≡◌, ◌∙◌, None, Err, ap, pos, rules, sym}
use Rattle.libyaml_events.specs.machine.Config.{is_fault, parser, token_if, with_lookahead}
use Rattle.libyaml_events.proofs.calls.CallLemmas.{asks_less, fetched, faulted, faulted_holds, first_reading, gave_event, gave_fault, names_held, wants_more}
use Rattle.libyaml_events.proofs.calls.FailedCalls.{fault_left, steps_empty}
use Rattle.libyaml_events.proofs.layer.Agreeing.{fetched_fault, fetched_ready, kept_fault}
use Rattle.libyaml_events.proofs.parser.TokenParser.parse_event.Goals as goal

pub loop-lookahead-init : goal.loop-lookahead-init
loop-lookahead-init g c =
    let gives = g.S.yaml_token_source_t.gives in (
      λ max. rw c.begin_call.ensures.wanted (fetched gives _ _ (token_if c.args.lookahead.now.stays c.args.lookahead.now.token) c.args.source.now c.next_token.new.source c.args.self.now c.next_token.new.self
          c.next_token.new.lookahead.token (first_reading gives
          (parser max c.args.source.now (with_lookahead c.args.lookahead.now c.args.self.now))
          (sym c.is_over.ensures ∙ c.if-is_over.false)) c.in_ok-next_token.ensures.fetches),
      fetched_ready gives c.begin_call.new.pending (token_if c.args.lookahead.now.stays c.args.lookahead.now.token) c.args.source.now c.next_token.new.source c.args.self.now c.next_token.new.self
          c.next_token.new.lookahead.token c.in_ok-next_token.ensures.fetches c.begin_call.ensures.ready,
      c.next_token.ensures.taken,
    )

pub loop-lookahead-preserved : goal.loop-lookahead-preserved
loop-lookahead-preserved g c =
    let gives = g.S.yaml_token_source_t.gives in
    let fetches = c.in_ok-ask_source-in-Wants.ensures.fetches in (
      λ max. fetched gives _ _ None c.loop-lookahead.source c.ask_source.new.source c.step.new.self c.ask_source.new.self
          c.ask_source.new.token (wants_more gives _ _ _ _ _ (c.loop-lookahead.invariant.0 max) _ _
          (rw c.in-Wants.is at c.step.ensures.steps)) fetches,
      fetched_ready gives c.step.new.pending None c.loop-lookahead.source c.ask_source.new.source c.step.new.self c.ask_source.new.self
          c.ask_source.new.token fetches (c.step.ensures.ready c.in-Wants.is),
      c.loop-lookahead.invariant.2,
    )

pub loop-lookahead-smaller : goal.loop-lookahead-smaller
loop-lookahead-smaller g c = asks_less g.S.yaml_token_source_t g.met.S.yaml_token_source_t.falls c.loop-lookahead.source
    c.ask_source.new.source c.step.new.self c.ask_source.new.self c.ask_source.new.token c.in_ok-ask_source-in-Wants.ensures.fetches

pub returns-in_err-next_token-clause-call : goal.returns-in_err-next_token-clause-call
returns-in_err-next_token-clause-call g c = λ max.
    let gives = g.S.yaml_token_source_t.gives in
    let e : c.from_residual.result ≡ Err c.in_err-next_token.field-0.0 = search rules in
    rw (e, c.next_token.ensures.taken) (faulted gives _ _ (token_if c.args.lookahead.now.stays c.args.lookahead.now.token) c.args.source.now c.next_token.new.source c.args.self.now c.next_token.new.self
    c.in_err-next_token.field-0.0 max (first_reading gives
    (parser max c.args.source.now (with_lookahead c.args.lookahead.now c.args.self.now))
    (sym c.is_over.ensures ∙ c.if-is_over.false)) c.in_err-next_token.ensures.fetches)

pub returns-in_err-next_token-clause-left : goal.returns-in_err-next_token-clause-left
returns-in_err-next_token-clause-left g c =
    let gives = g.S.yaml_token_source_t.gives in
    let e : c.from_residual.result ≡ Err c.in_err-next_token.field-0.0 = search rules in
    rw (e, c.next_token.ensures.taken) (fault_left gives _ (token_if c.args.lookahead.now.stays c.args.lookahead.now.token) c.args.source.now c.next_token.new.source c.args.self.now c.next_token.new.self _
    c.in_err-next_token.field-0.0 (first_reading gives
    (parser (pos 1) c.args.source.now (with_lookahead c.args.lookahead.now c.args.self.now))
    (sym c.is_over.ensures ∙ c.if-is_over.false)) c.in_err-next_token.ensures.fetches)

pub returns-in_err-next_token-clause-kept : goal.returns-in_err-next_token-clause-kept
returns-in_err-next_token-clause-kept g c =
    let e : c.from_residual.result ≡ Err c.in_err-next_token.field-0.0 = search rules in
    rw e (kept_fault g.S.yaml_token_source_t.gives (token_if c.args.lookahead.now.stays c.args.lookahead.now.token) c.args.source.now c.next_token.new.source c.args.self.now c.next_token.new.self
    c.in_err-next_token.field-0.0 c.in_err-next_token.ensures.fetches c.in_err-next_token.ensures.error)

pub returns-in_err-next_token-clause-failed : goal.returns-in_err-next_token-clause-failed
returns-in_err-next_token-clause-failed g c =
    let e : c.from_residual.result ≡ Err c.in_err-next_token.field-0.0 = search rules in
    rw e (ap is_fault (sym (fetched_fault g.S.yaml_token_source_t.gives (token_if c.args.lookahead.now.stays c.args.lookahead.now.token) c.args.source.now c.next_token.new.source c.args.self.now c.next_token.new.self
    c.in_err-next_token.field-0.0 c.in_err-next_token.ensures.fetches))
    ∙ c.in_err-next_token.ensures.error)

pub returns-in_err-ask_source-in-Wants-clause-call : goal.returns-in_err-ask_source-in-Wants-clause-call
returns-in_err-ask_source-in-Wants-clause-call g c = λ max.
    let gives = g.S.yaml_token_source_t.gives in
    let e : c.from_residual-in_err-ask_source-in-Wants.result ≡ Err c.in_err-ask_source-in-Wants.field-0.0 = search rules in
    rw (e, c.loop-lookahead.invariant.2) (faulted gives _ _ None c.loop-lookahead.source c.ask_source.new.source c.step.new.self c.ask_source.new.self
    c.in_err-ask_source-in-Wants.field-0.0 max (wants_more gives _ _ _ _ _ (c.loop-lookahead.invariant.0 max) _ _
    (rw c.in-Wants.is at c.step.ensures.steps)) c.in_err-ask_source-in-Wants.ensures.fetches)

pub returns-in_err-ask_source-in-Wants-clause-left : goal.returns-in_err-ask_source-in-Wants-clause-left
returns-in_err-ask_source-in-Wants-clause-left g c =
    let gives = g.S.yaml_token_source_t.gives in
    let e : c.from_residual-in_err-ask_source-in-Wants.result ≡ Err c.in_err-ask_source-in-Wants.field-0.0 = search rules in
    rw (e, c.loop-lookahead.invariant.2) (fault_left gives _ None c.loop-lookahead.source c.ask_source.new.source c.step.new.self c.ask_source.new.self _
    c.in_err-ask_source-in-Wants.field-0.0 (wants_more gives _ _ _ _ _ (c.loop-lookahead.invariant.0 (pos 1)) _ _
    (rw c.in-Wants.is at c.step.ensures.steps)) c.in_err-ask_source-in-Wants.ensures.fetches)

pub returns-in_err-ask_source-in-Wants-clause-kept : goal.returns-in_err-ask_source-in-Wants-clause-kept
returns-in_err-ask_source-in-Wants-clause-kept g c =
    let e : c.from_residual-in_err-ask_source-in-Wants.result ≡ Err c.in_err-ask_source-in-Wants.field-0.0 = search rules in
    rw e (kept_fault g.S.yaml_token_source_t.gives None c.loop-lookahead.source c.ask_source.new.source c.step.new.self c.ask_source.new.self
    c.in_err-ask_source-in-Wants.field-0.0 c.in_err-ask_source-in-Wants.ensures.fetches c.in_err-ask_source-in-Wants.ensures.error)

pub returns-in_err-ask_source-in-Wants-clause-failed : goal.returns-in_err-ask_source-in-Wants-clause-failed
returns-in_err-ask_source-in-Wants-clause-failed g c =
    let e : c.from_residual-in_err-ask_source-in-Wants.result ≡ Err c.in_err-ask_source-in-Wants.field-0.0 = search rules in
    rw e (ap is_fault (sym (fetched_fault g.S.yaml_token_source_t.gives None c.loop-lookahead.source c.ask_source.new.source c.step.new.self c.ask_source.new.self
    c.in_err-ask_source-in-Wants.field-0.0 c.in_err-ask_source-in-Wants.ensures.fetches)) ∙ c.in_err-ask_source-in-Wants.ensures.error)

pub returns-in-Given-clause-call : goal.returns-in-Given-clause-call
returns-in-Given-clause-call g c = λ max.
    rw c.loop-lookahead.invariant.2 (gave_event g.S.yaml_token_source_t.gives _ _ _ _ _ (c.loop-lookahead.invariant.0 max) max _ _
    (rw c.in-Given.is at c.step.ensures.steps))

pub returns-in-GivenBefore-clause-call : goal.returns-in-GivenBefore-clause-call
returns-in-GivenBefore-clause-call g c = λ max.
    gave_event g.S.yaml_token_source_t.gives _ _ _ _ _ (c.loop-lookahead.invariant.0 max) max _ _
    (rw c.in-GivenBefore.is at c.step.ensures.steps)

pub returns-in-Failed-clause-call : goal.returns-in-Failed-clause-call
returns-in-Failed-clause-call g c = λ max.
    rw (c.fail.ensures.error, c.fail.ensures.left, c.loop-lookahead.invariant.2)
    (gave_fault g.S.yaml_token_source_t.gives _ _ _ _ _ (c.loop-lookahead.invariant.0 max) max _ _
    (steps_empty _ c.step.new.self c.step.new.self.fault.error
    (rw c.in-Failed.is at c.step.ensures.steps)) (λ m. c.step.ensures.grows c.in-Failed.is m))

pub returns-in_err-next_token-clause-handle : goal.returns-in_err-next_token-clause-handle
returns-in_err-next_token-clause-handle g c = λ max.
    let gives = g.S.yaml_token_source_t.gives in
    let e : c.from_residual.result ≡ Err c.in_err-next_token.field-0.0 = search rules in
    rw (e, c.next_token.ensures.taken) (faulted_holds gives _ _ (token_if c.args.lookahead.now.stays c.args.lookahead.now.token) c.args.source.now c.next_token.new.source c.args.self.now c.next_token.new.self
    c.in_err-next_token.field-0.0 max _ (first_reading gives
    (parser max c.args.source.now (with_lookahead c.args.lookahead.now c.args.self.now))
    (sym c.is_over.ensures ∙ c.if-is_over.false)) c.in_err-next_token.ensures.fetches)

pub returns-in_err-ask_source-in-Wants-clause-handle : goal.returns-in_err-ask_source-in-Wants-clause-handle
returns-in_err-ask_source-in-Wants-clause-handle g c = λ max.
    let gives = g.S.yaml_token_source_t.gives in
    let e : c.from_residual-in_err-ask_source-in-Wants.result ≡ Err c.in_err-ask_source-in-Wants.field-0.0 = search rules in
    rw (e, c.loop-lookahead.invariant.2) (faulted_holds gives _ _ None c.loop-lookahead.source c.ask_source.new.source c.step.new.self c.ask_source.new.self
    c.in_err-ask_source-in-Wants.field-0.0 max _ (wants_more gives _ _ _ _ _ (c.loop-lookahead.invariant.0 max) _ _
    (rw c.in-Wants.is at c.step.ensures.steps)) c.in_err-ask_source-in-Wants.ensures.fetches)

pub returns-in-Failed-clause-handle : goal.returns-in-Failed-clause-handle
returns-in-Failed-clause-handle g c = λ max.
    rw (c.fail.ensures.error, c.fail.ensures.left, c.loop-lookahead.invariant.2)
    (names_held g.S.yaml_token_source_t.gives _ _ _ _ _ (c.loop-lookahead.invariant.0 max) _ _ max c.step.new.pending
    (steps_empty _ c.step.new.self c.step.new.self.fault.error
    (rw c.in-Failed.is at c.step.ensures.steps)) (λ m. c.step.ensures.grows c.in-Failed.is m)
    (c.step.ensures.held c.in-Failed.is))
