-- What a place says, by its deed.
use Rattle.std.specs.Prelude.{◌≡◌, pos}
use Rattle.libyaml_composer.specs.declared.deed.Deed.{Deed}
use Rattle.libyaml_composer.specs.declared.deed.Deed.TheVariants as deed
use Rattle.libyaml_composer.specs.declared.records.place_t.{place_t}

-- a root has no parent, only a value has a key, and at the end of a collection there is nothing to put; that is 0
abbrev pub UnusedAreZero : Deed → place_t → Type 0
UnusedAreZero deed.Root p = (p.parent ≡ pos 0) × (p.key ≡ pos 0)
UnusedAreZero deed.Item p = p.key ≡ pos 0
UnusedAreZero deed.Key p = p.key ≡ pos 0
UnusedAreZero deed.Closes p = (p.node ≡ pos 0) × ((p.child ≡ pos 0) × (p.key ≡ pos 0))
UnusedAreZero _ p = Unit {0}
