use Rattle.std.proofs.Common.{◌≡◌, ◌++◌, Bool, true, false, refl, ap, ◌∙◌, arith}
use Rattle.std.proofs.lemmas.Option.{none-some, same_Some}
use Rattle.line_writing.specs.EventText.{event_line}
use Rattle.libyaml_events.specs.sources.History.{is_over}
use Rattle.token_lines.proofs.events.LastCallLemmas.{closes}
use Rattle.token_lines.proofs.events.InTurnLemmas.{none_yet, one_more}
use Rattle.token_lines.proofs.events.StepLemmas.{writes_events, writes_none}
use Rattle.token_lines.proofs.run.events.write_events.Goals as goal

either_way : {P : Type 0} (b : Bool) → (b ≡ true → P) → (b ≡ false → P) → P
either_way b over running = grind arith

pub loop-last-init : goal.loop-last-init
loop-last-init g c = grind (arith, none_yet)

pub loop-last-preserved : goal.loop-last-preserved
loop-last-preserved g c = record {
  ended = λ ended. absurd (none-some _
      (c.in_default.ensures.ended (ap is_over (c.loop-last.invariant.ended ended).0 ∙ ended)).0);
  in_turn = λ not_ended asked given history. one_more event_line g.S.yaml_token_source_t.gives _
      c.loop-last.parser c.write_next.new.parser _ _ _ asked given
      (c.loop-last.invariant.in_turn not_ended asked given history) c.in_default.ensures.turn;
  bound = c.write_next.ensures.bound ∙ c.loop-last.invariant.bound;
}

pub loop-last-smaller : goal.loop-last-smaller
loop-last-smaller g c = c.in_default.ensures.falls refl

pub returns-in-Some-clause-ended : goal.returns-in-Some-clause-ended
returns-in-Some-clause-ended g c over =
    let at = c.loop-last.invariant.ended over in
    let last = c.in-Some.ensures.ended (ap is_over at.0 ∙ over) in
    let closed = rw (same_Some _ _ last.0) at c.closed.ensures in
    record { ended = closed.0; parser = last.1 ∙ at.0; keeps = rw (last.2 ∙ at.1) at closed.1 }

pub returns-in-Some-clause-in_turn : goal.returns-in-Some-clause-in_turn
returns-in-Some-clause-in_turn g c not_ended asked given history =
    let contents = g.W.Write.contents in
    let w = c.loop-last.invariant.in_turn not_ended asked given history in
    record {
      parser = c.loop-last.parser;
      writer = c.loop-last.writer;
      earlier = w;
      call = closes g.S.yaml_token_source_t.gives c.in-Some.last c.closed.result c.loop-last.parser
          c.write_next.new.parser (contents c.loop-last.writer) (contents c.write_next.new.writer)
          (contents c.closed.new.writer) (asked ++ w.carried.more) (given ++ w.events)
          (c.in-Some.ensures.turn w.running (asked ++ w.carried.more) (given ++ w.events) w.carried.history)
          c.closed.ensures;
    }

pub returns-in-Some-clause-writes : goal.returns-in-Some-clause-writes
returns-in-Some-clause-writes g c events ending run =
    let t = g.S.yaml_token_source_t in
    either_way (is_over c.args.parser.now)
    (λ over. writes_none t.known (t.may_break c.write_next.new.parser.source) _ _ _ _ _ events ending over run
    (returns-in-Some-clause-ended g c over))
    (λ running. writes_events t g.met.S.yaml_token_source_t.follows g.W.Write.contents _ _ _ _ events ending run
    c.closed.result
    (returns-in-Some-clause-in_turn g c running run.asked run.given run.history))
