use Rattle.std.proofs.Common.{◌≡◌, length, rules}
use Rattle.libyaml_events.proofs.code.HandleLemmas.{nothing_there}
use Rattle.libyaml_events.proofs.handle_table.HandleTable.get.Goals as goal

pub returns-then-is_empty-2 : goal.returns-then-is_empty-2
returns-then-is_empty-2 c =
    let first : length c.self.inside.first.items ≡ 0 = search rules in
    let others : length c.self.inside.others.entries ≡ 0 = search rules in
    rw (← c.self.view_is) (nothing_there c.self.inside.first.items c.self.inside.others.entries c.args.handle.now first others)
