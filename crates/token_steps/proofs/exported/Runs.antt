-- A run of calls is what a parser was handed and gave, an error of a call is the parser's, and a call is a step of the machine.
pub use Rattle.token_steps.proofs.Running.{StoodAt, fed, stood}
pub use Rattle.token_steps.proofs.Failing.{fails, tells_fails}
pub use Rattle.token_steps.proofs.Seen.{call_seen, seen_run}
pub use Rattle.token_steps.proofs.Stepped.{step_wants, tells_gives, tells_stays, tells_wants}
pub use Rattle.token_steps.proofs.Tied.{steps_told, told_with}
