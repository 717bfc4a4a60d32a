-- What a loop over documents yields, and one load, by the run that is to come.
pub use Rattle.libyaml_loader.proofs.loads.Loops.{of_list}
pub use Rattle.libyaml_loader.proofs.loads.NextLoads.{load_of_run}
