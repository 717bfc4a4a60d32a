-- A place where a node may be nothing, after an entry's token.
use Rattle.std.proofs.Common.{◌≡◌, Bool, Some, arith}
use Rattle.libyaml_types.specs.declared.enums.yaml_token_type_t.{yaml_token_type_t}
use Rattle.libyaml_automaton.specs.Automaton.{KindAndMarks, at_slot, step}
use Rattle.libyaml_automaton.specs.Config.{Stacks}
use Rattle.libyaml_automaton.specs.Exact.{exact_step}
use Rattle.libyaml_automaton.specs.Fits.{Nodes, OfDispatch}
use Rattle.libyaml_automaton.specs.Growth.{begun_place, node_at_slot, pushes, pushes_at_slot, stack_part_of}
use Rattle.libyaml_automaton.specs.Purposes.{purpose_by, slot_at}
use Rattle.libyaml_automaton.specs.Slots.{slot_mark, stands_after_token}
use Rattle.libyaml_automaton.specs.declared.automaton.Automaton.{Automaton}
use Rattle.libyaml_automaton.specs.declared.next.Next.{Next}
use Rattle.libyaml_automaton.specs.declared.reading.Reading.{Reading}
use Rattle.libyaml_automaton.specs.declared.slot.Slot.{Slot}
use Rattle.libyaml_automaton.specs.declared.taken.Taken.{Taken}

pub slot_step : (n : Next) (r : Reading) (s : Slot) (c : Stacks) (t : KindAndMarks) (k : yaml_token_type_t) → slot_at n ≡ Some s
    → step (purpose_by n r) c t k ≡ at_slot s (slot_mark (stands_after_token s) r.mark t.start_mark) c t k
slot_step n r s c t k e = grind arith

pub slot_exact_step : (n : Next) (r : Reading) (s : Slot) (c : Stacks) (t : KindAndMarks) (k : yaml_token_type_t)
    → slot_at n ≡ Some s
    → exact_step (purpose_by n r) c t k ≡ at_slot s (slot_mark (stands_after_token s) r.mark t.start_mark) c t k
slot_exact_step n r s c t k e = grind arith

pub slot_goes : (n : Next) (s : Slot) (b : Bool) (a : Taken) (k : yaml_token_type_t) (m m' : Automaton) (r r' : Reading)
    → slot_at n ≡ Some s → OfDispatch b a Nodes (pushes_at_slot s k) (node_at_slot s k) k m m' r r'
    → OfDispatch b a (stack_part_of n) (pushes n k) (begun_place n k) k m m' r r'
slot_goes n s b a k m m' r r' e h =
    let part : stack_part_of n ≡ Nodes = grind arith in
    let pushed : pushes n k ≡ pushes_at_slot s k = grind arith in
    let begun : begun_place n k ≡ node_at_slot s k = grind arith in
    rw (part, pushed, begun) h
