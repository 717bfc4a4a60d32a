use Rattle.std.proofs.Common.{◌≡◌, ℕ, List, [], ◌∷◌, ◌++◌, ◌<◌, set, refl, sym, subst, arith}
use Rattle.yaml_expansion.specs.declared.walk.Mark.{Mark}
use Rattle.yaml_expansion.specs.declared.walk.Mark.TheVariants.{Open}
use Rattle.yaml_expansion.specs.Sizes.{bounded}
use Rattle.yaml_expansion.specs.Walks.{Walks, work}
use Rattle.yaml_expansion.proofs.Moves.{open_here, leaves, ends, moved, descends, advances, cycles, nothing_in, fewer_left, fewer_below, fewer_here}
use Rattle.yaml_expansion.proofs.walk.Walk.step.Goals as goal

pub progress-next-requires-clause-is_open : goal.progress-next-requires-clause-is_open
progress-next-requires-clause-is_open c =
    let walk = c.args.self.now in
    open_here c.args.nodes.now walk.max walk.marks.items walk.above.items walk.place c.requires.at

pub returns-in-Some-pop-clause-said : goal.returns-in-Some-pop-clause-said
returns-in-Some-pop-clause-said c =
    let nodes = c.args.nodes.now in
    let walk = c.args.self.now in
    let marks = walk.marks.items in
    let next = c.progress-next.result.0 in
    let size = c.progress-next.result.1 in
    let front = c.pop.new.self.items in
    let up = c.in-Some-pop.place in
    let at = subst (λ (above : List ℕ). Walks nodes walk.max marks above walk.place) c.in-Some-pop.ensures.items c.requires.at in (
      leaves nodes walk.max marks front up walk.place next size at c.progress-next.ensures c.in_default.ensures.none,
      fewer_left nodes walk.max marks walk.above.items walk.place next size size c.requires.at c.progress-next.ensures,
    )

pub returns-in-None-clause-said : goal.returns-in-None-clause-said
returns-in-None-clause-said c =
    let nodes = c.args.nodes.now in
    let walk = c.args.self.now in
    let marks = walk.marks.items in
    let next = c.progress-next.result.0 in
    let size = c.progress-next.result.1 in
    let top : walk.above.items ≡ [] = nothing_in walk.above.items (omega (arith, c.in-None.ensures.cases.0, walk.above.ok.0)) in
    let at = subst (λ (above : List ℕ). Walks nodes walk.max marks above walk.place) top c.requires.at in
    ends nodes walk.max marks walk.place next size at c.progress-next.ensures c.in_default.ensures.none

pub returns-in_ok-descend-in-New-clause-said : goal.returns-in_ok-descend-in-New-clause-said
returns-in_ok-descend-in-New-clause-said c =
    let nodes = c.args.nodes.now in
    let walk = c.args.self.now in
    let marks = walk.marks.items in
    let above = walk.above.items in
    let child = c.in-Some.child in
    let now = c.descend.new.self in
    let said = c.in_ok-descend-in-New.ensures in
    let one = bounded walk.max 1 in
    let down = descends nodes walk.max marks above walk.place child c.progress-next.result.0 one c.requires.at
    c.in-Some.ensures.child c.in-Some.ensures.inside (sym c.in-New.ensures) refl in
    let at = moved nodes walk.max (set marks child (Open 0 one)) now.marks.items (above ++ walk.place ∷ []) now.above.items child
    now.place said.marks said.above said.place down in (
      subst (λ (max : ℕ). Walks nodes max now.marks.items now.above.items now.place) (sym said.max) at,
      subst (λ (l : List Mark). work nodes l < work nodes marks) (sym said.marks)
          (fewer_below nodes walk.max marks above walk.place child one c.requires.at c.in-Some.ensures.inside (sym c.in-New.ensures)),
    )

pub returns-in-Open-clause-said : goal.returns-in-Open-clause-said
returns-in-Open-clause-said c =
    let walk = c.args.self.now in
    let met = cycles c.args.nodes.now walk.max walk.marks.items walk.above.items walk.place c.in-Some.child c.progress-next.result.0
    c.in-Open.next c.in-Open.size c.requires.at c.in-Some.ensures.child (sym c.in-Open.ensures) in
    (c.in-Some.ensures.inside, met)

pub returns-in-Done-clause-said : goal.returns-in-Done-clause-said
returns-in-Done-clause-said c =
    let nodes = c.args.nodes.now in
    let walk = c.args.self.now in
    let marks = walk.marks.items in
    let above = walk.above.items in
    let child = c.in-Some.child in
    let next = c.progress-next.result.0 in
    let size = c.progress-next.result.1 in (
      advances nodes walk.max marks above walk.place child next size c.in-Done.below c.sum_of.result c.requires.at
          c.progress-next.ensures c.in-Some.ensures.child (sym c.in-Done.ensures) c.sum_of.ensures,
      fewer_here nodes walk.max marks above walk.place next size c.sum_of.result _ c.requires.at c.progress-next.ensures c.in-Some.ensures.child,
    )
