-- What holds of every run that counts a parser's events.
pub use Rattle.document_sizes.proofs.ParserLaws.{ends_with_its_size, stops_at_a_cycle, stops_at_the_bound}
pub use Rattle.document_sizes.proofs.Wholes.{goes_on_whole}
