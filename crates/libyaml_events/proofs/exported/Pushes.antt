-- What all tokens that a parser was handed, and the events that it gave, say: between two pushes and within one.
pub use Rattle.libyaml_events.proofs.calls.StackRoom.{fed_depth, fed_marks}
pub use Rattle.libyaml_events.proofs.pushes.HistoryOfPushes.{fed_begins, fed_begins_run, fed_count, fed_ended, fed_faultless, fed_nests, fed_determined, fed_whole}
pub use Rattle.libyaml_events.proofs.pushes.Moments.{one_pushed}
pub use Rattle.libyaml_events.proofs.pushes.Steps.{begins, gives_on, takes, wants}
pub use Rattle.libyaml_events.proofs.pushes.StepOfPush.{fault_runs, gives_end, hand_runs, none_kept, wants_runs}
pub use Rattle.libyaml_events.proofs.expected.Expected.{fed_accepts}
