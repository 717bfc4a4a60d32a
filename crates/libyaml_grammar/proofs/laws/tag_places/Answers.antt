use Rattle.libyaml_grammar.proofs.runs.TagPlaces.{tag_places_proof}
use Rattle.libyaml_grammar.proofs.laws.tag_places.Goals as goal

pub returns : goal.returns
returns c = tag_places_proof
