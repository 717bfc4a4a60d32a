-- A look-up over records is one in the map that they stand for.
use Rattle.std.proofs.Common.{◌≡◌, ◌≤◌, ◌+◌, ◌++◌, ℕ, List, [], ◌∷◌, None, refl, sym, ap, ◌∙◌, nat_cmp, length, drop, take, arith}
use Rattle.std.proofs.lemmas.List.{length-drop, drop-append-le, take-append-le}
use Rattle.std.specs.Cmp.Lexicographic.{slice_cmp, nat_list_cmp_total}
use Rattle.std.specs.FinMap.{find, get, insert, from_entries, from_entries_push, get-from_entries, slice_cmp-IsAntisymmetric, nat_cmp-IsAntisymmetric}
use Rattle.token_steps.specs.declared.tags.handles.text_t.{text_t}
use Rattle.token_steps.specs.declared.tags.handles.handle_t.{handle_t}
use Rattle.token_steps.specs.Handles.{bytes_at, entries_at, handles_at, prefix_in, AreHandlesWithin}
use Rattle.libyaml_grammar.proofs.exported.TextMaps.{same_keys}

find_handle : (texts : List ℕ) (es : List handle_t) (q : List ℕ)
    → find (slice_cmp nat_cmp) q (entries_at texts es) ≡ prefix_in texts es q
find_handle texts [] q = refl
find_handle texts (e ∷ es) q = grind (arith, same_keys, find_handle texts es q)

pub get_handle : (texts : List ℕ) (es : List handle_t) (q : List ℕ)
    → get (handles_at texts es) q ≡ prefix_in texts es q
get_handle texts es q = get-from_entries nat_list_cmp_total (entries_at texts es) q ∙ find_handle texts es q

entries_append : (texts : List ℕ) (es : List handle_t) (e : handle_t)
    → entries_at texts (es ++ e ∷ []) ≡ entries_at texts es ++
    (bytes_at texts e.handle, bytes_at texts e.prefix) ∷ []
entries_append texts [] e = refl
entries_append texts (x ∷ es) e = cc (entries_append texts es e)

pub adds : (texts : List ℕ) (es : List handle_t) (e : handle_t)
    → get (handles_at texts es) (bytes_at texts e.handle) ≡ None
    → handles_at texts (es ++ e ∷ []) ≡ insert (handles_at texts es) (bytes_at texts e.handle)
    (bytes_at texts e.prefix)
adds texts es e n = ap from_entries (entries_append texts es e)
    ∙ from_entries_push nat_list_cmp_total (slice_cmp-IsAntisymmetric nat_cmp-IsAntisymmetric)
    (entries_at texts es) (bytes_at texts e.handle) (bytes_at texts e.prefix)
    (sym (get-from_entries nat_list_cmp_total (entries_at texts es) (bytes_at texts e.handle)) ∙ n)

range_stays : (texts more : List ℕ) (t : text_t) → t.place + t.length ≤ length texts
    → bytes_at (texts ++ more) t ≡ bytes_at texts t
range_stays texts more t h =
    let a : t.place ≤ length texts = omega arith in
    let b : t.length ≤ length (drop t.place texts) = rw length-drop (omega arith) in
    ap (take t.length) (drop-append-le t.place texts more a)
    ∙ take-append-le t.length (drop t.place texts) more b

entries_stay : (texts more : List ℕ) (es : List handle_t) → AreHandlesWithin texts es
    → entries_at (texts ++ more) es ≡ entries_at texts es
entries_stay texts more [] h = refl
entries_stay texts more (e ∷ es) h
    = rw (range_stays texts more e.handle h.0, range_stays texts more e.prefix h.1.0, entries_stay texts more es h.1.1) refl

pub stay : (texts more : List ℕ) (es : List handle_t) → AreHandlesWithin texts es
    → handles_at (texts ++ more) es ≡ handles_at texts es
stay texts more es h = ap from_entries (entries_stay texts more es h)
