use Rattle.line_reading.proofs.sources.OneLines.{one_line_proof}
use Rattle.line_reading.proofs.laws.determined.one_line.Goals as goal

pub returns : goal.returns
returns g c s t u v a b bytes known same first second = one_line_proof g.R.Read.remaining s u a b t v bytes known
    same first second
