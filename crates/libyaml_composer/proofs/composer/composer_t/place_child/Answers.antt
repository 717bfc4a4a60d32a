use Rattle.std.proofs.Common.{◌≡◌, ◌<◌, ◌-◌, ◌∙◌, ◌∷◌, ◌↔◌, List, true, arith, rules, sym, ap, subst, w32}
use Rattle.std.proofs.lemmas.Int.{to_z-of_z}
use Rattle.libyaml_composer.specs.declared.deed.Deed.TheVariants as deed
use Rattle.libyaml_composer.specs.declared.records.open_t.{open_t}
use Rattle.libyaml_composer.specs.Composing.{deed_for, holding_top, is_list_full, most_of, stack_of}
use Rattle.libyaml_composer.proofs.Tops.{top_below, top_set}
use Rattle.libyaml_composer.proofs.composer.composer_t.place_child.Goals as goal

pub returns-clause-full : goal.returns-clause-full
returns-clause-full c =
    let some : 0 < c.args.self.now.depth = omega arith in
    subst (λ (s : List open_t). (c.hold-deed.result ≡ deed.FullList)
    ↔ (is_list_full (most_of c.args.self.now.max_entries) s ≡ true))
    (sym (top_below c.args.stack.now c.args.self.now.depth _ some c.requires.within))
    (rw c.most.ensures at c.hold-deed.ensures.full)

pub returns-clause-handed : goal.returns-clause-handed
returns-clause-handed c = λ n.
    let h = c.hold-deed.ensures.held n in
    let held = rw (to_z-of_z w32 c.args.child c.ranges.child) at h.0 in
    let some : 0 < c.args.self.now.depth = omega arith in
    let top = top_below c.args.stack.now c.args.self.now.depth _ some c.requires.within in (
      h.1 ∙ sym (ap deed_for top),
      (
        rw top (search rules),
        top_set c.args.stack.now c.args.self.now.depth c.hold-deed.new.self some c.requires.within
            ∙ (ap (λ (o : open_t). o ∷ stack_of (c.args.self.now.depth - 1) c.args.stack.now) held
            ∙ sym (ap (holding_top c.args.child) top)),
      ),
    )
