use Rattle.rust_original.proofs.runs.Apart.{never_same}
use Rattle.rust_original.proofs.runs.UpToDifferences.{after_a_fault, after_the_end, apart}
use Rattle.rust_original.proofs.laws.calls.Goals as goal

pub returns : goal.returns
returns c = record {
  places = apart;
  apart = never_same;
  after_the_end = after_the_end;
  after_a_fault = after_a_fault;
}
