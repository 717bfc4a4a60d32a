use Rattle.std.proofs.Common.{◌∙◌, rules, sym, w32}
use Rattle.std.proofs.lemmas.Bool.{false_from_ne_true}
use Rattle.std.proofs.lemmas.Int.{to_z-of_z}
use Rattle.libyaml_composer.specs.declared.deed.Deed.TheVariants as deed
use Rattle.libyaml_composer.specs.Composing.{adding, composer_of, is_list_full, stack_of, unless}
use Rattle.libyaml_composer.proofs.Handing.{is_done, is_good, placed}
use Rattle.libyaml_composer.proofs.composer.composer_t.scalar.Goals as goal

pub returns-clause-tells : goal.returns-clause-tells
returns-clause-tells c =
    let n = c.in_default-deed.not-FullList in
    let h = c.place_child-deed.ensures.handed n in
    let k = composer_of c.args.self.now c.args.stack.now in
    let f = false_from_ne_true (is_list_full k.most k.stack) (λ e. n (c.place_child-deed.ensures.full.1 e)) in
    let free = rw (to_z-of_z w32 c.args.anchored_node c.ranges.anchored_node) at c.refusal.ensures.none c.in_default.is
    c.args.place.now (unless (is_list_full k.most k.stack) deed.FullList c.args.place.now k (adding k)) in
    placed k c.args.place.now _ (adding k) f (search rules) ∙ sym free

pub returns-clause-undone : goal.returns-clause-undone
returns-clause-undone c = λ u. absurd (is_done _ (stack_of c.args.self.now.depth c.args.stack.now)
    (c.place_child-deed.ensures.handed c.in_default-deed.not-FullList).0 u)

pub returns-clause-good : goal.returns-clause-good
returns-clause-good c = is_good _ (stack_of c.args.self.now.depth c.args.stack.now)
    (c.place_child-deed.ensures.handed c.in_default-deed.not-FullList).0
