-- What the code's token stands for.
use Rattle.token_steps.specs.declared.handed.Handed.{Handed}
use Rattle.token_steps.specs.Facts.{StepToken}
use Rattle.token_steps.specs.Records.{span_token}

abbrev pub handed_token : Handed → StepToken
handed_token t = span_token t.kind t.fact t.at.now
