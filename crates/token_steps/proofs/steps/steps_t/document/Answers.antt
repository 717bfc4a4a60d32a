use Rattle.std.proofs.Common.{refl, rules}
use Rattle.libyaml_automaton.specs.Automaton.{no_properties}
use Rattle.libyaml_automaton.specs.Config.{stacks_of}
use Rattle.libyaml_automaton.specs.Purposes.{kind_and_marks, purpose_of}
use Rattle.libyaml_automaton.specs.declared.action.Action.TheVariants as action
use Rattle.token_steps.specs.Records.{span_token}
use Rattle.token_steps.specs.Tells.{want_in}
use Rattle.token_steps.proofs.Exactly.{asked_by_fact, full_if, says_if}
use Rattle.token_steps.proofs.Told.{fits_in_document, not_states, told_in_document, told_step}
use Rattle.token_steps.proofs.steps.steps_t.document.Goals as goal

pub tell_bare-requires-in_default : goal.tell_bare-requires-in_default
tell_bare-requires-in_default g c = record { fits = fits_in_document _ _ _ _ c.document_step.ensures.fits }

pub returns-in-FullStates-clause-full : goal.returns-in-FullStates-clause-full
returns-in-FullStates-clause-full g c =
    let full = full_if _ _ _ _ _ c.in-FullStates.ensures.full c.in-FullStates.ensures.exactly_full in
    (λ e. full.0 refl, λ h. refl)

pub returns-in-AsksVersion-clause-full : goal.returns-in-AsksVersion-clause-full
returns-in-AsksVersion-clause-full g c =
    let full = full_if _ _ _ _ _ c.in-AsksVersion.ensures.full c.in-AsksVersion.ensures.exactly_full in
    search rules

pub returns-in-AsksHandle-clause-full : goal.returns-in-AsksHandle-clause-full
returns-in-AsksHandle-clause-full g c =
    let full = full_if _ _ _ _ _ c.in-AsksHandle.ensures.full c.in-AsksHandle.ensures.exactly_full in
    search rules

pub returns-in-AsksVersion-clause-tells : goal.returns-in-AsksVersion-clause-tells
returns-in-AsksVersion-clause-tells g c = λ marks.
    let v = purpose_of c.args.self.now.read in
    let was = stacks_of c.args.self.now.machine c.args.states.now marks in
    let t = kind_and_marks c.args.token.now.kind c.args.token.now.at.now.start_mark c.args.token.now.at.now.end_mark in
    let said = says_if _ v was t c.args.token.now.kind action.AsksVersion c.document_step.new.self c.document_step.new.read
    c.document_step.new.states marks (λ e. c.in-AsksVersion.ensures.steps e marks c.args.token.now.at.now.end_mark)
    (λ e. c.in-AsksVersion.ensures.exact e marks c.args.token.now.at.now.end_mark) in
    rw (asked_by_fact _ (want_in c.args.self.now) was (span_token c.args.token.now.kind c.args.token.now.fact c.args.token.now.at.now) _ said)
    (c.tell_bare.ensures.tells _ c.document_step.new.states marks
    (c.version_directive-led.ensures.steps c.document_step.new.states marks t))

pub returns-in-AsksHandle-clause-tells : goal.returns-in-AsksHandle-clause-tells
returns-in-AsksHandle-clause-tells g c = λ marks.
    let v = purpose_of c.args.self.now.read in
    let was = stacks_of c.args.self.now.machine c.args.states.now marks in
    let t = kind_and_marks c.args.token.now.kind c.args.token.now.at.now.start_mark c.args.token.now.at.now.end_mark in
    let said = says_if _ v was t c.args.token.now.kind action.AsksHandle c.document_step.new.self c.document_step.new.read
    c.document_step.new.states marks (λ e. c.in-AsksHandle.ensures.steps e marks c.args.token.now.at.now.end_mark)
    (λ e. c.in-AsksHandle.ensures.exact e marks c.args.token.now.at.now.end_mark) in
    rw (asked_by_fact _ (want_in c.args.self.now) was (span_token c.args.token.now.kind c.args.token.now.fact c.args.token.now.at.now) _ said)
    (c.tell_bare-in-AsksHandle.ensures.tells _ c.document_step.new.states marks
    (c.tag_directive-led.ensures.steps c.document_step.new.states marks t))

pub returns-in_default : goal.returns-in_default
returns-in_default g c =
    let told = told_in_document _ _ _ _ c.document_step.ensures.fits c.in_default.not-FullStates c.in_default.not-AsksVersion c.in_default.not-AsksHandle in
    let done = c.tell_bare-in_default.ensures.done told in
    let full = full_if _ _ _ _ _ c.document_step.ensures.full c.document_step.ensures.exactly_full in
    record {
      tells = λ marks.
          let v = purpose_of c.args.self.now.read in
          let was = stacks_of c.args.self.now.machine c.args.states.now marks in
          let t = kind_and_marks c.args.token.now.kind c.args.token.now.at.now.start_mark c.args.token.now.at.now.end_mark in
          let said = says_if _ v was t c.args.token.now.kind c.document_step.result c.document_step.new.self c.document_step.new.read
          c.document_step.new.states marks (λ e. c.document_step.ensures.steps e marks c.args.token.now.at.now.end_mark)
          (λ e. c.document_step.ensures.exact e marks c.args.token.now.at.now.end_mark) in
          rw (told_step _ v v c.args.self.now.tag was (span_token c.args.token.now.kind c.args.token.now.fact c.args.token.now.at.now) c.document_step.result
          (no_properties t) t c.document_step.new.read (stacks_of c.document_step.new.self c.document_step.new.states marks)
          refl said told) (c.tell_bare-in_default.ensures.tells _ c.document_step.new.states marks said);
      within = search rules;
      marks = search rules;
      full = (
        λ e. absurd (not_states _ done e),
        λ f. absurd (c.in_default.not-FullStates (full.1 f)),
      );
      undone = λ e. absurd (not_states _ done e);
      done = λ n. done;
      event_number = c.tell_bare-in_default.ensures.event_number;
      event_flags = c.tell_bare-in_default.ensures.event_flags;
      event_unused = c.tell_bare-in_default.ensures.event_unused;
      event_kept = c.tell_bare-in_default.ensures.event_kept;
      fault_kept = c.tell_bare-in_default.ensures.fault_kept;
    }
