use Rattle.std.proofs.Common.{◌≡◌, ◌∙◌, sym, ap, refl, rules}
use Rattle.libyaml_automaton.specs.Automaton.{no_properties}
use Rattle.libyaml_automaton.specs.Config.{stacks_of}
use Rattle.libyaml_automaton.specs.Fits.{Documents}
use Rattle.libyaml_automaton.specs.Growth.{stack_part_of}
use Rattle.libyaml_automaton.specs.Numbers.{flag, next_of, place_of}
use Rattle.libyaml_automaton.specs.Purposes.{kind_and_marks, properties, purpose_of}
use Rattle.libyaml_automaton.specs.declared.action.Action.TheVariants as action
use Rattle.token_steps.specs.Facts.{tag_if}
use Rattle.token_steps.specs.Growth.{next_in}
use Rattle.token_steps.specs.Records.{span_token}
use Rattle.token_steps.specs.Tells.{want_in}
use Rattle.token_steps.proofs.Exactly.{full_marks_if, full_states_if, opens_nodes, pushes_nodes, says_if}
use Rattle.token_steps.proofs.Problems.{content_number, failed_number, number_if}
use Rattle.token_steps.proofs.Told.{asks_no_document, document_in, document_out, fits_in_step, full_in_marks, full_in_states, never_marks, no_marks, not_bad, not_marks, not_states, not_undone, room_for_marks, room_for_states, same_difference, same_step, states_not_marks, tells_by, told_asks}
use Rattle.token_steps.proofs.Told.{told_in_step, told_step, told_want, where_pushed}
use Rattle.token_steps.proofs.steps.steps_t.step_as.Goals as goal

pub tell_bare-requires : goal.tell_bare-requires
tell_bare-requires g c = record { fits = fits_in_step _ _ _ _ _ c.step.ensures.fits }

pub returns-in-FullStates-clause-full_states : goal.returns-in-FullStates-clause-full_states
returns-in-FullStates-clause-full_states g c = λ w.
    let full = c.in-FullStates.ensures.full_states.0 refl in
    full_states_if _ c.args.self.now c.args.token.now.kind _ _ _ _ (pushes_nodes _ _ _ c.settle.ensures.next full.0.0) (
      λ e. full_in_states _ _ _ _ _ _ _ _ _ _ c.settle.ensures.next full,
      λ h. refl,
    )

pub returns-in-FullStates-clause-full_marks : goal.returns-in-FullStates-clause-full_marks
returns-in-FullStates-clause-full_marks g c = λ w.
    let full = c.in-FullStates.ensures.full_states.0 refl in
    full_marks_if _ c.args.self.now c.args.token.now.kind _ _ (pushes_nodes _ _ _ c.settle.ensures.next full.0.0) (
      λ e. absurd (states_not_marks e),
      λ h. absurd ((full_in_states _ _ (flag c.args.self.now.machine.behind_document_end) _ _ _ _ _ _ _ c.settle.ensures.next full).1 h),
    )

pub returns-in-FullMarks-clause-full_states : goal.returns-in-FullMarks-clause-full_states
returns-in-FullMarks-clause-full_states g c = λ w.
    let full = c.in-FullMarks.ensures.full_marks.0 refl in
    full_states_if _ c.args.self.now c.args.token.now.kind _ _ _ _ (opens_nodes _ _ _ c.settle.ensures.next full.0) (
      λ e. absurd (states_not_marks (sym e)),
      λ h. absurd (h.1 (full_in_marks _ _ _ _ _ _ _ c.settle.ensures.next full)),
    )

pub returns-in-FullMarks-clause-full_marks : goal.returns-in-FullMarks-clause-full_marks
returns-in-FullMarks-clause-full_marks g c = λ w.
    let full = c.in-FullMarks.ensures.full_marks.0 refl in
    full_marks_if _ c.args.self.now c.args.token.now.kind _ _ (opens_nodes _ _ _ c.settle.ensures.next full.0) (
      λ e. full_in_marks _ _ _ _ _ _ _ c.settle.ensures.next full,
      λ h. refl,
    )

pub returns-in-Document-clause-tells : goal.returns-in-Document-clause-tells
returns-in-Document-clause-tells g c =
    let same = c.in-Document.ensures.undone tt in
    tells_by c.document.result _ _ c.document.new.self c.document.new.event c.document.new.fault
    (stacks_of c.document.new.self.machine c.document.new.states c.step.new.marks)
    (sym (same_step _ (purpose_of c.args.self.now.read) (purpose_of c.step.new.read) c.args.self.now.tag
    c.args.self.now.machine c.step.new.self c.args.states.now c.step.new.states c.args.marks.now c.step.new.marks
    (span_token c.args.token.now.kind c.args.token.now.fact c.args.token.now.at.now) (same.1.1.1.1 ∙ c.settle.ensures.wanted) same.0 same.1.0
    same.1.1.0)) (c.document.ensures.tells c.step.new.marks)

pub returns-in-Document-clause-full_states : goal.returns-in-Document-clause-full_states
returns-in-Document-clause-full_states g c = λ w.
    let same = c.in-Document.ensures.undone tt in
    let next = ap next_of same.1.1.1.0 ∙ c.settle.ensures.next in
    let part = sym (ap stack_part_of c.settle.ensures.next) ∙ c.in-Document.ensures.documents.0 refl in
    let differs = same_difference c.args.self.now.read c.step.new.read c.args.self.now.machine c.step.new.self c.args.token.now.kind
    (same.1.1.1.1 ∙ c.settle.ensures.wanted) same.0 in (
      λ e. document_out _ _ _ (next_in c.args.self.now) (next_of c.step.new.read.next) c.args.self.now.machine c.step.new.self
          (tag_if (flag c.args.self.now.read.has_tag) c.args.self.now.tag) (place_of c.args.self.now.read.place) c.args.token.now.kind
          c.args.states.now c.step.new.states c.args.marks.now c.args.self.now.machine.marks_count differs next same.0 same.1.0
          part (c.document.ensures.full.0 e),
      λ h. c.document.ensures.full.1 (document_in _ _ _ (next_in c.args.self.now) (next_of c.step.new.read.next)
          c.args.self.now.machine c.step.new.self c.args.token.now.kind c.args.states.now c.step.new.states differs next same.0 same.1.0
          part h.0),
    )

pub returns-in-Document-clause-full_marks : goal.returns-in-Document-clause-full_marks
returns-in-Document-clause-full_marks g c = λ w.
    let part = sym (ap stack_part_of c.settle.ensures.next) ∙ c.in-Document.ensures.documents.0 refl in (
      λ e. absurd (never_marks _ c.document.ensures.done e),
      λ h. absurd (no_marks _ _ _ _ part (where_pushed _ _ _ h.0)),
    )

pub returns-in-Document-clause-holds_nothing : goal.returns-in-Document-clause-holds_nothing
returns-in-Document-clause-holds_nothing g c = told_want _ _ _ _ _ _ (c.document.ensures.tells c.step.new.marks)

pub returns-in-Document-clause-fault_number : goal.returns-in-Document-clause-fault_number
returns-in-Document-clause-fault_number g c = λ e. failed_number _ _ _ _ _ _
    (number_if _ (want_in (record { machine = c.step.new.self; read = c.step.new.read; tag = c.args.self.now.tag }))
    (stacks_of c.step.new.self c.step.new.states c.step.new.marks)
    (span_token c.args.token.now.kind c.args.token.now.fact c.args.token.now.at.now)) e (c.document.ensures.tells c.step.new.marks)

pub returns-in-AsksContent-clause-tells : goal.returns-in-AsksContent-clause-tells
returns-in-AsksContent-clause-tells g c =
    let v = purpose_of c.settle.new.self in
    let was = stacks_of c.args.self.now.machine c.args.states.now c.args.marks.now in
    let t = kind_and_marks c.args.token.now.kind c.args.token.now.at.now.start_mark c.args.token.now.at.now.end_mark in
    let said = says_if _ v was t c.args.token.now.kind action.AsksContent c.step.new.self c.step.new.read c.step.new.states c.step.new.marks
    c.in-AsksContent.ensures.steps c.in-AsksContent.ensures.exact in
    rw (told_asks _ v (want_in c.args.self.now) was (stacks_of c.step.new.self c.step.new.states c.step.new.marks)
    (span_token c.args.token.now.kind c.args.token.now.fact c.args.token.now.at.now) (place_of c.step.new.read.place) (properties c.step.new.read)
    c.settle.ensures.wanted said) c.content.ensures.tells

pub returns-in-AsksContent-clause-full_states : goal.returns-in-AsksContent-clause-full_states
returns-in-AsksContent-clause-full_states g c = λ w.
    let nodes : stack_part_of (next_in c.args.self.now) ≡ Documents → ⊥ = λ d. asks_no_document (c.in-AsksContent.ensures.documents.1 (ap stack_part_of c.settle.ensures.next ∙ d)) in
    full_states_if _ c.args.self.now c.args.token.now.kind _ _ _ _ nodes (search rules)

pub returns-in-AsksContent-clause-full_marks : goal.returns-in-AsksContent-clause-full_marks
returns-in-AsksContent-clause-full_marks g c = λ w.
    let nodes : stack_part_of (next_in c.args.self.now) ≡ Documents → ⊥ = λ d. asks_no_document (c.in-AsksContent.ensures.documents.1 (ap stack_part_of c.settle.ensures.next ∙ d)) in
    full_marks_if _ c.args.self.now c.args.token.now.kind _ _ nodes (search rules)

pub returns-in-AsksContent-clause-fault_number : goal.returns-in-AsksContent-clause-fault_number
returns-in-AsksContent-clause-fault_number g c = λ e. failed_number _ _ _ _ _ _
    (content_number (tag_if (flag c.step.new.read.has_tag) c.args.self.now.tag) c.args.self.now.tag
    (place_of c.step.new.read.place) (properties c.step.new.read)
    (stacks_of c.step.new.self c.step.new.states c.step.new.marks)
    (span_token c.args.token.now.kind c.args.token.now.fact c.args.token.now.at.now)) e c.content.ensures.tells

pub returns-in_default : goal.returns-in_default
returns-in_default g c =
    let told = told_in_step _ _ _ _ _ c.step.ensures.fits c.in_default.not-FullStates c.in_default.not-FullMarks c.in_default.not-Document c.in_default.not-AsksContent in
    let done = c.tell_bare.ensures.done told in
    let v = purpose_of c.settle.new.self in
    let was = stacks_of c.args.self.now.machine c.args.states.now c.args.marks.now in
    let t = kind_and_marks c.args.token.now.kind c.args.token.now.at.now.start_mark c.args.token.now.at.now.end_mark in
    let steps = says_if _ v was t c.args.token.now.kind c.step.result c.step.new.self c.step.new.read c.step.new.states c.step.new.marks
    c.step.ensures.steps c.step.ensures.exact in
    let nodes : stack_part_of (next_in c.args.self.now) ≡ Documents → ⊥ = λ d. c.in_default.not-Document (c.step.ensures.documents.1 (ap stack_part_of c.settle.ensures.next ∙ d)) in
    let tells = tells_by c.tell_bare.result _ _ c.tell_bare.new.self c.tell_bare.new.event c.tell_bare.new.fault
    (stacks_of c.tell_bare.new.self.machine c.step.new.states c.step.new.marks)
    (told_step _ (purpose_of c.args.self.now.read) v c.args.self.now.tag was
    (span_token c.args.token.now.kind c.args.token.now.fact c.args.token.now.at.now) c.step.result (no_properties t) t c.step.new.read
    (stacks_of c.step.new.self c.step.new.states c.step.new.marks) c.settle.ensures.wanted steps told)
    (c.tell_bare.ensures.tells _ c.step.new.states c.step.new.marks steps) in
    record {
      tells = tells;
      within = search rules;
      bad = (λ e. absurd (not_bad _ done e), λ n. absurd (n (search rules)));
      full_states = λ w. full_states_if _ c.args.self.now c.args.token.now.kind _ _ _ _ nodes (
        λ e. absurd (not_states _ done e),
        λ h. absurd (room_for_states _ _ _ _ _ _ _ _ _ _ c.settle.ensures.next
            (λ d. c.in_default.not-Document (c.step.ensures.documents.1 d))
            (λ f. c.in_default.not-FullStates (c.step.ensures.full_states.1 f)) h),
      );
      full_marks = λ w. full_marks_if _ c.args.self.now c.args.token.now.kind _ _ nodes (
        λ e. absurd (not_marks _ done e),
        λ h. absurd (room_for_marks _ _ _ _ _ c.settle.new.self
            (stacks_of c.args.self.now.machine c.args.states.now c.args.marks.now) _ _ _ _ _ _ _ _ c.settle.ensures.next refl steps told
            (λ f. c.in_default.not-FullMarks (c.step.ensures.full_marks.1 f)) h),
      );
      undone = λ u. absurd (not_undone _ done u);
      holds_nothing = told_want _ _ _ _ _ _ tells;
      event_number = c.tell_bare.ensures.event_number;
      event_flags = c.tell_bare.ensures.event_flags;
      event_unused = c.tell_bare.ensures.event_unused;
      fault_number = λ e. failed_number _ _ _ _ _ _ (number_if _ (want_in c.args.self.now)
          (stacks_of c.args.self.now.machine c.args.states.now c.args.marks.now)
          (span_token c.args.token.now.kind c.args.token.now.fact c.args.token.now.at.now)) e tells;
      event_kept = c.tell_bare.ensures.event_kept;
      fault_kept = c.tell_bare.ensures.fault_kept;
      same_event = refl;
      same_fault = refl;
    }
