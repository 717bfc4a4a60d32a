use Rattle.std.proofs.Common.{◌≤◌}
use Rattle.libyaml_loader.proofs.pushes.OnePushLoads.{one_push_loads, stopped_push_loads}
use Rattle.libyaml_loader.proofs.laws.determined.one_push.Goals as goal

pub returns-clause-running : goal.returns-clause-running
returns-clause-running c room m n old p q t before after later r s tokens documents h running x y
    = one_push_loads old t before tokens documents h running (room ≤ m) (room ≤ n) p q after
    later r s x y

pub returns-clause-stopped : goal.returns-clause-stopped
returns-clause-stopped c room m n old p q t before after later r s h x y
    = stopped_push_loads (room ≤ m) (room ≤ n) old p q t before after later r s h x y
