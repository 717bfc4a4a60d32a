use Rattle.std.proofs.Common.{◌≡◌, length, nat_lt, true}
use Rattle.libyaml_loader.specs.document.Context.{ComposerMatches, loader_of, with_nodes}
use Rattle.libyaml_loader.specs.loads.HalfDocument.{closed_at, has_waiting_key}
use Rattle.libyaml_loader.proofs.context.loader_ctx.close.Given as goal

abbrev pub invariant-loop-is_waiting : goal.invariant-loop-is_waiting
invariant-loop-is_waiting l = ComposerMatches l.self
    × (l.self.collections.most ≡ l.initial.self.collections.most)
    × (closed_at l.initial.self.collections.most l.initial.mark (loader_of l.initial.self).stack (loader_of l.initial.self)
    ≡ closed_at l.self.collections.most l.initial.mark (loader_of l.self).stack (loader_of l.self))
    × (l.self.document ≡ with_nodes l.self.document.nodes l.initial.self.document)
    × (has_waiting_key (loader_of l.self).stack ≡ true → has_waiting_key (loader_of l.initial.self).stack ≡ true)
    × (nat_lt l.self.collections.nodes l.self.collections.most ≡ true
    → nat_lt l.initial.self.collections.nodes l.initial.self.collections.most ≡ true)

abbrev pub decreases-loop-is_waiting : goal.decreases-loop-is_waiting
decreases-loop-is_waiting l = length l.self.collections.stack
