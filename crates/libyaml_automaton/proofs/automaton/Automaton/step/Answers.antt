use Rattle.std.proofs.Common.{◌∙◌, ap, arith, inl, refl, rules, sym}
use Rattle.libyaml_automaton.specs.Automaton as automaton
use Rattle.libyaml_automaton.specs.Numbers as numbers
use Rattle.libyaml_automaton.specs.Config.{Stacks, stacks_of, marks_of, with_state}
use Rattle.libyaml_automaton.specs.Tokens.{of_token}
use Rattle.libyaml_automaton.proofs.Configs.{config_is}
use Rattle.libyaml_automaton.proofs.EqualSteps.{same_says}
use Rattle.libyaml_automaton.specs.declared.automaton.Automaton.{Automaton}
use Rattle.libyaml_automaton.proofs.NodeEntered.{bare_full, full_of, undone_at}
use Rattle.libyaml_automaton.proofs.automaton.Automaton.step.Goals as goal
use Rattle.libyaml_automaton.proofs.automaton.Automaton.step.Goals.{else-self-marks-via-then-self-marks+else-opens, else-self-marks-via-else-self-marks}

pub returns-in-Node-clause-undone : goal.returns-in-Node-clause-undone
returns-in-Node-clause-undone _ c = λ u.
    let g = c.in-Node.ensures.goes in
    undone_at _ _ _ _ _ _ _ _ _ _ _ g.1.1.1.1.0 g.1.1.1.1.1
    (full_of c.bare_content-in-Node.result c.args.token.now.kind c.bare_content-in-Node.new.read (inl c.bare_content-in-Node.ensures.fits) u)
    (λ e. let w = c.bare_content-in-Node.ensures.undone
    (bare_full c.bare_content-in-Node.result c.args.token.now.kind c.bare_content-in-Node.new.read c.bare_content-in-Node.ensures.fits e) in
    (w.0, (refl, w.1)))

pub returns-else-not-push_state-3 : goal.returns-else-not-push_state-3
returns-else-not-push_state-3 g c =
    let b = c.bare_content-in_default in
    let p = c.push_state-in_default in
    let goes = c.in-Enter.ensures.goes in
    let kept = p.ensures.kept in
    let config = sym (config_is p.new.self p.new.states c.args.marks.now
    (with_state c.in-Enter.state (stacks_of c.take.new.self c.args.states.now c.args.marks.now))
    (ap (λ (x : Automaton). numbers.state_of x.state) kept) (p.ensures.pushed c.if-not-push_state-3.false)
    (ap (λ (x : Automaton). marks_of x.marks_count c.args.marks.now) kept)
    (ap (λ (x : Automaton). numbers.flag x.behind_document_end) kept)) in
    let pushed = ap (λ (x : Stacks). automaton.parse_node c.in-Enter.place x (of_token c.args.token.now) c.args.token.now.kind) config in
    record {
      steps = λ e. same_says _ _ _ (c.in-Enter.ensures.steps e ∙ pushed) (b.ensures.steps p.new.states);
      exact = λ e. same_says _ _ _ (c.in-Enter.ensures.exact e ∙ pushed) (b.ensures.steps p.new.states);
      within = (rw b.ensures.states (p.ensures.within c.if-not-push_state-3.false), b.ensures.within);
      fits = search rules;
      full_states = search rules;
      full_marks = search rules;
      bytes = λ a. p.ensures.bytes goes.1.0 a;
      documents = (
        λ e. absurd (rw e at b.ensures.fits),
        λ d. let n = goes.1.1.0 in absurd cc,
      );
      undone = λ u.
          let full = bare_full b.result c.args.token.now.kind b.new.read b.ensures.fits
          (full_of b.result c.args.token.now.kind b.new.read (inl b.ensures.fits) u) in
          let none = b.ensures.full.0 full in
          let opens = none.0 in
          let room = none.1 in
          let count = ap (λ (x : Automaton). x.marks_count) kept in
          absurd (elim c.else-self-marks.branch [
            | else-self-marks-via-then-self-marks+else-opens w ↦ let a = w.opens.ensures in let f = w.if-opens.false in cc
            | else-self-marks-via-else-self-marks w ↦ let a = w.if-self-marks.false in omega arith
          ]);
    }
