use Rattle.std.proofs.Common.{None, refl, ap, ◌∙◌, arith}
use Rattle.std.proofs.lemmas.Bool.{false_from_ne_true}
use Rattle.libyaml_events.specs.sources.History.{has_failed, kept_fault}
use Rattle.libyaml_loader.specs.document.Ids.{magnitude}
use Rattle.token_lines.proofs.nodes.NodeTurnLemmas.{kept_closed, last_load_at, none_loaded, one_loaded, turn_at}
use Rattle.token_lines.proofs.nodes.NodeWritesLemmas.{writes_loads_so}
use Rattle.token_lines.proofs.run.nodes.write_nodes.Goals as goal

pub loop-last-init : goal.loop-last-init
loop-last-init g c = grind (arith, none_loaded)

pub loop-last-preserved : goal.loop-last-preserved
loop-last-preserved g c =
    let t = g.S.yaml_token_source_t in
    let contents = g.W.Write.contents in
    let p = c.loop-last.parser in
    let q = c.write_next.new.parser in
    let bound = c.loop-last.invariant.bound in
    let n = magnitude c.args.parser.now.max_entries in
    record {
      between = c.write_next.ensures.between;
      bound = c.write_next.ensures.bound ∙ bound;
      kept = λ failed. absurd (c.in_default.ensures.kept (ap has_failed (c.loop-last.invariant.kept failed).0
          ∙ failed)).0;
      in_turn = λ asked given history. one_loaded t n c.args.parser.now p q (contents c.args.writer.now)
          (contents c.loop-last.writer) (contents c.write_next.new.writer) asked given
          (c.loop-last.invariant.in_turn asked given history)
          (turn_at t None p q (contents c.loop-last.writer)
          (contents c.write_next.new.writer) _ _ bound c.in_default.ensures.turn
          (false_from_ne_true (has_failed p) (λ failed. (c.in_default.ensures.kept failed).0)));
    }

pub loop-last-smaller : goal.loop-last-smaller
loop-last-smaller g c = c.in_default.ensures.falls refl

pub returns-in-Some-clause-kept : goal.returns-in-Some-clause-kept
returns-in-Some-clause-kept g c failed =
    let contents = g.W.Write.contents in
    let at = c.loop-last.invariant.kept failed in
    let last = c.in-Some.ensures.kept (ap has_failed at.0 ∙ failed) in
    record {
      parser = last.1 ∙ at.0;
      wrote = rw (last.2 ∙ at.1) at (rw at.0 at (kept_closed c.in-Some.last (kept_fault c.loop-last.parser)
          c.closed.result (contents c.write_next.new.writer) (contents c.closed.new.writer) last.0 c.closed.ensures));
    }

pub returns-in-Some-clause-in_turn : goal.returns-in-Some-clause-in_turn
returns-in-Some-clause-in_turn g c asked given history =
    let at = c.loop-last in
    let contents = g.W.Write.contents in
    last_load_at g.S.yaml_token_source_t contents c.closed.result c.in-Some.last c.args.parser.now
    at.parser c.write_next.new.parser at.writer (contents c.args.writer.now) (contents c.write_next.new.writer)
    (contents c.closed.new.writer) asked given at.invariant.bound
    (at.invariant.in_turn asked given history) c.in-Some.ensures.turn c.closed.ensures

pub returns-in-Some-clause-writes : goal.returns-in-Some-clause-writes
returns-in-Some-clause-writes g c events ending run =
    writes_loads_so g.S.yaml_token_source_t g.met.S.yaml_token_source_t.follows g.W.Write.contents
    (magnitude c.args.parser.now.max_entries) c.args.parser.now c.write_next.new.parser _ _ events ending run
    c.closed.result (returns-in-Some-clause-in_turn g c run.asked run.given run.history)
