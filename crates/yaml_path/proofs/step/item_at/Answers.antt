use Rattle.std.proofs.Common.{w32}
use Rattle.std.proofs.lemmas.Int.{to_z-of_z}
use mir.Val.{SFits}
use Rattle.yaml_path.specs.Paths.{item_at}
use Rattle.yaml_path.proofs.ChildIds.{item_names, answer_names}
use Rattle.yaml_path.proofs.step.item_at.Goals as goal

pub returns-clause-in_document : goal.returns-clause-in_document
returns-clause-in_document c =
    let nodes = c.args.document.now.nodes in
    let fits : SFits w32 c.args.id = c.ranges.id in
    let found = simp to_z-of_z at c.found_item.ensures.item in
    answer_names nodes (item_at nodes c.args.id c.args.index) c.found_item.result found
    (item_names nodes c.args.id c.args.index c.found_item.ensures.ids_in_range)
