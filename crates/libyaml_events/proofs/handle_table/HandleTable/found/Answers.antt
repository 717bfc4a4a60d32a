use Rattle.std.proofs.Common.{◌∙◌, Some, ap, option_map, string_bytes}
use Rattle.libyaml_events.proofs.code.HandleLemmas.{found_first, found_later}
use Rattle.libyaml_events.proofs.handle_table.HandleTable.found.Goals as goal

pub returns-in-Some : goal.returns-in-Some
returns-in-Some c = rw (← c.self.view_is)
    (found_first c.self.inside.first.items c.self.inside.others c.args.handle.now c.in-Some.prefix.now
    (rw c.deref.ensures.value at c.in-Some.ensures))

pub returns-in-Some-get : goal.returns-in-Some-get
returns-in-Some-get c = rw (← c.self.view_is) (ap Some c.as_str.ensures.value
    ∙ ap (option_map string_bytes) c.in-Some-get.ensures.value
    ∙ found_later c.self.inside.first.items c.self.inside.others c.args.handle.now
    (rw c.deref.ensures.value at c.in_default.ensures))

pub returns-in-None : goal.returns-in-None
returns-in-None c = rw (← c.self.view_is) (ap (option_map string_bytes) c.in-None.ensures.value
    ∙ found_later c.self.inside.first.items c.self.inside.others c.args.handle.now
    (rw c.deref.ensures.value at c.in_default.ensures))
