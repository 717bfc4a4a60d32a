-- What the tokens that a source knows say of a parser over it: the run that is to come, and that of the tokens asked for.
pub use Rattle.libyaml_events.proofs.calls.FourEvents.{run_count}
pub use Rattle.libyaml_events.proofs.calls.Items.{fault_more, gave_fault, in_turn, one_event_more, took_items}
pub use Rattle.libyaml_events.proofs.calls.KnownRuns.{asked_prefix, failed_known, fails_after, fails_here, further, nothing_after_end, short_known, whole_known}
