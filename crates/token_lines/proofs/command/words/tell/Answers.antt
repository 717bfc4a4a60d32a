use Rattle.std.proofs.Common.{◌≡◌, ◌≤◌, ◌+◌, ◌-◌, ◌++◌, ℕ, List, Option, Some, None, length, take, drop, sym, subst, ap, ◌∙◌, arith, append_assoc, length-drop}
use Rattle.std.proofs.lemmas.List.{drop-take, length-take-le, take-append-drop, take-append-le, take_all}
use Rattle.std.specs.Io.KnownBytes.{Appends, Keeps}
use Rattle.token_lines.proofs.command.words.tell.Goals as goal
use Rattle.token_lines.proofs.command.words.tell.Goals.{in-Ok, in-Err}

take_more : (w n : ℕ) (l : List ℕ) → w + n ≤ length l → take w l ++ take n (drop w l) ≡ take (w + n) l
take_more w n l le =
    let t : List ℕ = take (w + n) l in
    let begins : take w l ≡ take w t = ap (λ (x : List ℕ). take w x) (sym (take-append-drop (w + n) l))
    ∙ take-append-le w t (drop (w + n) l) (omega (arith, length-take-le (w + n) l le)) in
    ap (λ (x : List ℕ). x ++ take n (drop w l)) begins ∙ (ap (λ (x : List ℕ). take w t ++ x) (sym (drop-take w n l)) ∙ take-append-drop w t)

appends_then : (a b c : Option (List ℕ)) (xs ys : List ℕ) → Appends a b xs → Appends b c ys → Appends a c (xs ++ ys)
appends_then None b c xs ys h k = tt
appends_then (Some x) None c xs ys h k = absurd h
appends_then (Some x) (Some y) None xs ys h k = absurd k
appends_then (Some x) (Some y) (Some z) xs ys h k = k ∙ (ap (λ (l : List ℕ). l ++ ys) h ∙ append_assoc x xs ys)

then_keeps : (a b c : Option (List ℕ)) (xs : List ℕ) → Appends a b xs → Keeps b c → Appends a c xs
then_keeps None b c xs h k = tt
then_keeps (Some x) None c xs h k = absurd h
then_keeps (Some x) (Some y) None xs h k = absurd k
then_keeps (Some x) (Some y) (Some z) xs h k = k ∙ h

-- so many bytes more of the line
more_written : (a b c : Option (List ℕ)) (w n : ℕ) (l : List ℕ) → w ≤ length l → Appends a b (take w l)
    → n ≤ length (take (length l - w) (drop w l)) → Appends b c (take n (take (length l - w) (drop w l)))
    → (w + n ≤ length l) × Appends a c (take (w + n) l)
more_written a b c w n l le h bound k =
    let all : take (length l - w) (drop w l) ≡ drop w l = take_all (length l - w) (drop w l) (omega (arith, length-drop w l)) in
    let fits : w + n ≤ length l = omega (arith, le, subst (λ (x : List ℕ). n ≤ length x) all bound, length-drop w l) in (
      fits,
      subst (λ (x : List ℕ). Appends a c x) (take_more w n l fits)
          (appends_then a b c (take w l) (take n (drop w l)) h (subst (λ (x : List ℕ). Appends b c (take n x)) all k)),
    )

pub loop-preserved : goal.loop-preserved
loop-preserved g c = elim c.match-write.branch [
  | in-Ok w ↦ rw w.written-is (more_written _ (g.E.Write.contents c.loop.errors) _ c.loop.written w.in-Ok.more c.args.line.now
      c.loop.invariant.0 c.loop.invariant.1 w.in-Ok.ensures.bound w.in-Ok.ensures.bytes)
  | in-Err w ↦ rw w.written-is (c.loop.invariant.0, then_keeps _ (g.E.Write.contents c.loop.errors) _ _ c.loop.invariant.1 w.in-Err.ensures.bytes)
]
