-- What is handed to a parent is done, and its list has room for it.
use Rattle.std.proofs.Common.{◌≡◌, List, Bool, true, false, arith}
use Rattle.libyaml_composer.specs.declared.deed.Deed.{Deed}
use Rattle.libyaml_composer.specs.declared.deed.Deed.TheVariants as deed
use Rattle.libyaml_composer.specs.declared.records.open_t.{open_t}
use Rattle.libyaml_composer.specs.declared.records.place_t.{place_t}
use Rattle.libyaml_composer.specs.Composing.{Composer, Told, deed_for, does_nothing, is_list_full, unless}

done_for : (s : List open_t) → does_nothing (deed_for s) ≡ false
done_for s = grind arith

pub is_done : (d : Deed) (s : List open_t) → d ≡ deed_for s → does_nothing d ≡ true → ⊥
is_done d s e u = grind (arith, done_for)

pub is_good : (d : Deed) (s : List open_t) → d ≡ deed_for s → d ≡ deed.Bad → ⊥
is_good d s e b = grind (arith, done_for)

-- so it is told as if no list were looked at
pub placed : (k : Composer) (q : place_t) (s t : Told) → is_list_full k.most k.stack ≡ false → s ≡ t
    → s ≡ unless (is_list_full k.most k.stack) deed.FullList q k t
placed k q s t f e = rw f e

-- nor the room of the stack, where it has some
pub opened_so : (k : Composer) (is_over : Bool) (q : place_t) (s t : Told) → is_list_full k.most k.stack ≡ false
    → is_over ≡ false → s ≡ t → s ≡ unless (is_list_full k.most k.stack) deed.FullList q k (unless is_over deed.FullStack q k t)
opened_so k b q s t f g e = rw f (rw g e)
