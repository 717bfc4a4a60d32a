use Rattle.std.proofs.Common.{◌∙◌, rules, sym}
use Rattle.token_steps.proofs.Told.{defined, opens_defined, not_marks, told_content}
use Rattle.token_steps.proofs.steps.steps_t.content.Goals as goal

pub returns-in_default : goal.returns-in_default
returns-in_default c =
    let has_handle = sym c.is_undefined.ensures ∙ c.if-is_undefined.false in
    let done = c.tell.ensures.done (told_content _ _ _ c.content_after.ensures.fits c.in_default.not-FullMarks) in
    record {
      tells = rw (defined _ _ _ _ _ _ has_handle)
          (c.tell.ensures.tells _ c.args.self.now.read.tag_mark c.args.states.now c.content_after.new.marks
          c.content_after.ensures.steps);
      within = search rules;
      full = (
        λ e. absurd (not_marks _ done e),
        λ h. absurd (c.in_default.not-FullMarks (c.content_after.ensures.full.1
            (sym (opens_defined _ _ _ has_handle) ∙ h.0, h.1))),
      );
      undone = λ e. absurd (not_marks _ done e);
      done = λ n. done;
      event_number = c.tell.ensures.event_number;
      event_flags = c.tell.ensures.event_flags;
      event_unused = c.tell.ensures.event_unused;
      event_kept = c.tell.ensures.event_kept;
      fault_kept = c.tell.ensures.fault_kept;
      same_event = c.tell.ensures.same_event;
      same_fault = c.tell.ensures.same_fault;
    }
