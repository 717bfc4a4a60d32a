-- The numbers that C sees.
use Rattle.std.specs.Prelude.{◌==◌, ℕ, if◌then◌else◌}
use Rattle.libyaml_composer.specs.declared.deed.Deed.{Deed}
use Rattle.libyaml_composer.specs.declared.deed.Deed.TheVariants as deed
use Rattle.document_sizes.specs.declared.counted.Counted.{Counted}
use Rattle.document_sizes.specs.declared.counted.Counted.TheVariants as counted

-- those of deeds go up to 12
abbrev pub counted_number : Counted → ℕ
counted_number counted.Within = 0
counted_number counted.TooLarge = 13
counted_number counted.Endless = 14
counted_number counted.Bad = 15
counted_number counted.Full = 16

-- the deed of this number; of another number that of a bad record
abbrev pub deed_of : ℕ → Deed
deed_of number =
    if number == 0 then deed.Passes else
    if number == 1 then deed.Begins else
    if number == 2 then deed.Ends else
    if number == 3 then deed.Root else
    if number == 4 then deed.Item else
    if number == 5 then deed.Key else
    if number == 6 then deed.Value else
    if number == 7 then deed.Closes else
    if number == 8 then deed.FullStack else
    if number == 9 then deed.UndefinedAlias else
    if number == 10 then deed.RepeatedAnchor else
    if number == 11 then deed.FullList else
    deed.Bad
