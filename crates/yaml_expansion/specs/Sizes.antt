-- Sizes up to a bound.
use Rattle.std.specs.Prelude.{ℕ, nat_le, if◌then◌else◌}
use Rattle.yaml_expansion.specs.declared.size.Size.{Size}
use Rattle.yaml_expansion.specs.declared.size.Size.TheVariants.{Within, TooLarge}

-- this many nodes, under a bound
abbrev pub bounded : (max nodes : ℕ) → Size
bounded max nodes = if nat_le nodes max then Within nodes else TooLarge
