use Rattle.std.proofs.Common.{◌≡◌, ◌∙◌, Bool, None, ap, arith, false, sym}
use Rattle.libyaml_types.specs.Fault.{fault_of}
use Rattle.libyaml_types.specs.declared.mark.yaml_mark_t.{yaml_mark_t}
use Rattle.libyaml_automaton.specs.Automaton as automaton
use Rattle.libyaml_automaton.specs.Config.{Stacks}
use Rattle.libyaml_automaton.specs.Outcomes.{IsOutcome, outcome}
use Rattle.libyaml_automaton.specs.Purposes.{purpose_of}
use Rattle.libyaml_automaton.specs.declared.action.Action.TheVariants as action
use Rattle.libyaml_automaton.specs.declared.reading.Reading.{Reading}
use Rattle.libyaml_events.specs.declared.pending.Pending.{Pending}
use Rattle.libyaml_events.specs.machine.Outcomes.{directive_texts}
use Rattle.libyaml_events.specs.machine.Config.{Machine, config_of, config_with}
use Rattle.libyaml_events.specs.machine.Machine.{put, seen}
use Rattle.libyaml_events.proofs.layer.Putting.{directive_held, directive_wants, fails_as, handle_of, refused, wants_or_fails}
use Rattle.libyaml_events.proofs.parser.TokenParser.take_handle.Goals as goal

-- a directive that is taken has a new handle
is_new : (b : Bool) (start : yaml_mark_t) (has_version : Bool) (a d : Stacks) (t : automaton.KindAndMarks) (r : Reading)
    → IsOutcome (automaton.tag_directive b start has_version a t) (outcome action.Wants (automaton.no_properties t) t r d)
    → b ≡ false
is_new b start has_version a d t r h = grind arith

pub returns-in-Wants : goal.returns-in-Wants
returns-in-Wants c =
    let s = c.tag_directive.ensures.steps (seen c.args.token.now c.args.token.now.content) in
    let new = is_new _ _ _ _ c.tag_directive.new.self _ c.tag_directive.new.read (rw c.in-Wants.is at s) in
    let declared = rw new at c.in-Ok.ensures.ok in
    record {
      puts = λ e out h l.
          let g = handle_of c.args.token.now.content c.requires.directive in
          let does = rw (
            c.in-Wants.is,
            c.tag_directive.ensures.kept,
            c.in-Ok.ensures.before,
            ap config_of c.self.view_is,
            ap config_of c.in-Ok.ensures.ok,
          ) at s in
          wants_or_fails out c.hold_directive.result c.hold_directive.new.token c.hold_directive.new.pending e
          c.hold_directive.new.self c.hold_directive.ensures.given c.hold_directive.ensures.before (λ w.
          let held = c.hold_directive.ensures.held g.0 g.1 w in
          let made : config_with c.tag_directive.new.self c.self.inside.handles
          (fault_of c.self.inside.prefix)
          ≡ c.declare_handle.new.self = rw c.tag_directive.ensures.kept c.self.view_is in
          directive_wants out c.args.self.now c.args.token.now c.hold_directive.new.pending h (config_of c.args.self.now)
          c.hold_directive.new.self (rw held (rw c.in-Wants.is at c.tag_directive.ensures.fits))
          (directive_held h c.args.token.now.content g.0 c.args.pending.now.directives g.1 l.0
          ∙ ap (λ (p : Pending). directive_texts p.directives) (sym held)) (sym (c.hold_directive.ensures.same w ∙ (made ∙ declared)))
          (l.1 ∙ ap (λ (z : automaton.Step). put h None None c.args.self.now c.args.token.now c.args.token.now.content z)
          (does
          ∙ ap (λ (p : Pending). automaton.Wants (purpose_of p.reading) (config_of c.args.self.now)) (sym held))))
          (λ i. ap (λ (d : Machine). d.fault) (c.hold_directive.ensures.failed i));
      grows = λ f e. sym c.in-Ok.ensures.before ∙ new;
    }

pub returns-in_default-clause-puts : goal.returns-in_default-clause-puts
returns-in_default-clause-puts c = λ e out h l.
    let s = c.tag_directive.ensures.steps (seen c.args.token.now c.args.token.now.content) in
    let o = refused c.tag_directive.result c.args.self.now c.args.token.now c.tag_directive.new.read out h _
    c.tag_directive.new.self c.tag_directive.ensures.fits c.in_default.not-Wants l.1
    (rw (c.in-Ok.ensures.before, ap config_of c.self.view_is, ap config_of c.in-Ok.ensures.ok) at s) in
    rw c.set_document_problem.ensures.failed (
      fails_as out c.set_document_problem.new.self _ c.set_document_problem.ensures.error
          (ap (λ (d : Machine). d.fault) c.set_document_problem.ensures.kept) o,
      λ i. absurd cc,
    )
