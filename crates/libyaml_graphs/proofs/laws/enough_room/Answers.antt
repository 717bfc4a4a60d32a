use Rattle.libyaml_graphs.proofs.loads.Room.{room_loads, room_next}
use Rattle.libyaml_graphs.proofs.exported.BoundedPrefixes.{unmet_loads}
use Rattle.libyaml_graphs.proofs.laws.enough_room.Goals as goal

pub returns : goal.returns
returns c = record {
  all = room_loads;
  next = room_next;
  unmet = unmet_loads;
}
