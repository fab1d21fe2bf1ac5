-- What a reader that succeeds has read, and when it succeeds: one word, several structures, and the VALUE words of a tuple.
-- The words from a position on are those that were read, and then the words from the next position on (`Span`). Each law follows the
-- reader's definition; the way back starts from the words that stand at the position.
use mathlib.Core.Path.{◌≡◌, refl, sym, ap, ◌∙◌}
use mathlib.Core.Logic.{◌⊎◌, inl, inr}
use mathlib.Core.Bool.{Bool, true, false, cond, ◌&&◌}
use mathlib.Core.List.{List, [], ◌∷◌, ◌++◌, map, append_assoc, Memᴰ}
use Prim.Native.Nat.{ℕ, zero, suc, ◌+◌, ◌≤◌, ◌<◌, ◌^◌}
use native.Mathlib.Numerals.{add-one}
use native.Mathlib.Omega.{arith}
use borrow.Author.Tests.{leb-true, leb-false, lt-leb, lt-ltb, ltb-true, eqb-true, eq-eqb}
use lib.Dec.{leb, eqb}
use lib.IntN.{ℤ}
use lib.Signed.{mag}
use lib.ListN.{length, get_or, drop, length-append, drop_of_length-le}
use lib.Seq.{drop-cons, drop-drop, drop-append_seam}
use Rattle.semantics.specs.Refusal.{net_too_long, net_ends_early, bad_word, most_words}
use Rattle.semantics.specs.Word.{kind, payload, only, signed, modulo, Range, within, value_word}
use Rattle.semantics.specs.Reading.{Reading, read, refused, then, Reader, several, demand, numbered, word_at, word, values_in}
use Rattle.semantics.specs.Order.{in_ranges}
use Rattle.semantics.proofs.Tests.{false_true, either, and_left, and_right, and_both}
use Rattle.semantics.proofs.Words.{value_again, modulo_below, value-kind, value-payload, signed-modulo, within-mag}

-- ── Readings that succeed ──

module _ {A : Type 0} where
  pub refused-read : {X : Type 0} (n p : ℕ) (a : A) (next : ℕ) → refused n p ≡ read a next → X
  refused-read n p a next e = let z : ◌≡◌ {A = ℕ} 0 1 = cc in absurd (omega arith)

  pub read_same : (a b : A) (at next : ℕ) → read a at ≡ read b next → (a ≡ b) × (at ≡ next)
  read_same a b at next e = (cc, cc)

  pub demand-read : (t : Bool) (p : ℕ) (r : Reading A) (a : A) (next : ℕ) → demand t p r ≡ read a next → (t ≡ true) × (r ≡ read a next)
  demand-read true p r a next e = (refl, e)
  demand-read false p r a next e = refused-read bad_word p a next e

  pub numbered-read : (n : ℕ) (r : Reading A) (a : A) (next : ℕ) → numbered n r ≡ read a next → r ≡ read a next
  numbered-read n (read b at) a next e = e
  numbered-read n (refused m p) a next e = refused-read n p a next e

-- what follows from a reading and the one after it
pub then-read : {A B X : Type 0} (r : Reading A) (k : A → ℕ → Reading B) (b : B) (next : ℕ) → then r k ≡ read b next → ((a : A) (mid : ℕ) → r ≡ read a mid → k a mid ≡ read b next → X) → X
then-read (read a mid) k b next e f = f a mid refl e
then-read (refused n p) k b next e f = refused-read n p b next e

pub then-demand : {A B : Type 0} (t : Bool) (p : ℕ) (a : A) (mid : ℕ) (k : A → ℕ → Reading B) (b : B) (next : ℕ) → then (demand t p (read a mid)) k ≡ read b next → (t ≡ true) × (k a mid ≡ read b next)
then-demand true p a mid k b next e = (refl, e)
then-demand false p a mid k b next e = refused-read bad_word p b next e

-- one of several, and the others
pub record Split {A : Type 0} (r : Reader A) (n at : ℕ) (xs : List A) (end : ℕ) : Type 0 where
  pub first : A
  pub mid : ℕ
  pub others : List A
  pub reads : r at ≡ read first mid
  pub rest : several n r mid ≡ read others end
  pub whole : xs ≡ first ∷ others

pub several_split : {A : Type 0} (r : Reader A) (n at : ℕ) (xs : List A) (end : ℕ) → several (suc n) r at ≡ read xs end → Split r n at xs end
unfolding several
several_split r n at xs end h =
    then-read (r at) _ xs end h λ a mid p q.
    then-read (several n r mid) _ xs end q λ bs last s t.
    let e : last ≡ end = cc in
    let f : xs ≡ a ∷ bs = cc in
    record { first = a; mid = mid; others = bs; reads = p; rest = rw (← e) s; whole = f }

pub several-length : {A : Type 0} (r : Reader A) (n at : ℕ) (xs : List A) (end : ℕ) → several n r at ≡ read xs end → length xs ≡ n
unfolding several
several-length r zero at xs end h = ap length (sym (read_same [] xs at end h).0)
several-length r (suc n) at xs end h = let s = several_split r n at xs end h in ap length s.whole ∙ ap suc (several-length r n s.mid s.others end s.rest)

-- ── Words at a position ──

-- the words xs stand from one position to another; neither passes the end of the words, nor the word 16,384
pub record Span (ws : List ℕ) (at : ℕ) (xs : List ℕ) (next : ℕ) : Type 0 where
  pub split : drop at ws ≡ xs ++ drop next ws
  pub after : next ≡ at + length xs
  pub inside : at ≤ length ws → next ≤ length ws
  pub short : at ≤ most_words → next ≤ most_words

pub span_none : (ws : List ℕ) (at : ℕ) → Span ws at [] at
span_none ws at = record { split = refl; after = omega arith; inside = λ h. h; short = λ h. h }

pub span_append : (ws xs ys : List ℕ) (at mid next : ℕ) → Span ws at xs mid → Span ws mid ys next → Span ws at (xs ++ ys) next
span_append ws xs ys at mid next s t =
    let p = s.after in
    let q = t.after in
    record {
      split = s.split ∙ ap (λ (l : List ℕ). xs ++ l) t.split ∙ sym (append_assoc xs ys (drop next ws));
      after = omega (arith, length-append xs ys);
      inside = λ h. t.inside (s.inside h);
      short = λ h. t.short (s.short h);
    }

-- what follows words that stand at a position
pub drop-after : (ws : List ℕ) (at : ℕ) (xs rest : List ℕ) → drop at ws ≡ xs ++ rest → drop (at + length xs) ws ≡ rest
drop-after ws at xs rest e = sym (drop-drop (length xs) at ws) ∙ ap (λ (l : List ℕ). drop (length xs) l) e ∙ drop-append_seam xs rest

pub drop-first : (ws : List ℕ) (at w : ℕ) (rest : List ℕ) → drop at ws ≡ w ∷ rest → (at < length ws) × (get_or ws at 0 ≡ w) × (drop (at + 1) ws ≡ rest)
drop-first ws at w rest e = by (either (leb (length ws) at))
  where
    by : (leb (length ws) at ≡ true) ⊎ (leb (length ws) at ≡ false) → (at < length ws) × (get_or ws at 0 ≡ w) × (drop (at + 1) ws ≡ rest)
    by (inl t) =
        let n = drop_of_length-le ws (leb-true (length ws) at t) in
        let z : ◌≡◌ {A = ℕ} (length (w ∷ rest)) (length (drop at ws)) = ap length (sym e) in
        let l : length (drop at ws) ≡ 0 = ap length n in
        absurd (omega arith)
    by (inr t) =
        let h = leb-false (length ws) at t in
        let c : get_or ws at 0 ∷ drop (suc at) ws ≡ w ∷ rest = sym (drop-cons ws at 0 h) ∙ e in
        (h, cc, rw add-one (cc))

-- ── One word ──

pub word_read : (ws : List ℕ) (k : ℕ) (ok : ℕ → Bool) (at u next : ℕ) → word ws k ok at ≡ read u next → (w : ℕ) × Span ws at (w ∷ []) next × (kind w ≡ k) × (payload w ≡ u) × (ok u ≡ true)
unfolding word word_at
word_read ws k ok at u next e = by (leb (length ws) at) refl (leb most_words at) refl e
  where
    w : ℕ
    w = get_or ws at 0

    by : (s : Bool) → leb (length ws) at ≡ s → (t : Bool) → leb most_words at ≡ t → then (cond s (refused net_ends_early (length ws)) (cond t (refused net_too_long most_words) (read w (at + 1)))) (λ w next. demand (eqb (kind w) k && ok (payload w)) at (read (payload w) next)) ≡ read u next → (w : ℕ) × Span ws at (w ∷ []) next × (kind w ≡ k) × (payload w ≡ u) × (ok u ≡ true)
    by true p t q e = refused-read net_ends_early (length ws) u next e
    by false p true q e = refused-read net_too_long most_words u next e
    by false p false q e =
        let d = demand-read (eqb (kind w) k && ok (payload w)) at (read (payload w) (at + 1)) u next e in
        let same = read_same (payload w) u (at + 1) next d.1 in
        let h = leb-false (length ws) at p in
        let m = leb-false most_words at q in
        let n = same.1 in
        let o = and_right (eqb (kind w) k) (ok (payload w)) d.0 in
        let f = drop-cons ws at 0 h in
        let j : suc at ≡ next = omega arith in
        (w, record { split = rw (← j) f; after = omega arith; inside = λ i. omega arith; short = λ i. omega arith }, eqb-true (kind w) k (and_left (eqb (kind w) k) (ok (payload w)) d.0), same.0, rw same.0 at o)

pub word-reads : (ws : List ℕ) (k : ℕ) (ok : ℕ → Bool) (at w : ℕ) (rest : List ℕ) → drop at ws ≡ w ∷ rest → at < most_words → kind w ≡ k → ok (payload w) ≡ true → word ws k ok at ≡ read (payload w) (at + 1)
unfolding word word_at
word-reads ws k ok at w rest e s p q =
    let h = drop-first ws at w rest e in
    rw (lt-leb (length ws) at h.0, lt-leb most_words at s, h.1, eq-eqb (kind w) k p, q)

-- ── VALUE words ──

-- a VALUE's bits in a range
abbrev pub value_in : Range → ℕ → Bool
value_in r v = only 14 v && within r (signed v)

value_read : (ws : List ℕ) (r : Range) (at v next : ℕ) → word ws 0xC (value_in r) at ≡ read v next → Span ws at (value_word (signed v) ∷ []) next × (within r (signed v) ≡ true)
value_read ws r at v next e = by (word_read ws 0xC (value_in r) at v next e)
  where
    by : (w : ℕ) × Span ws at (w ∷ []) next × (kind w ≡ 0xC) × (payload w ≡ v) × (value_in r v ≡ true) → Span ws at (value_word (signed v) ∷ []) next × (within r (signed v) ≡ true)
    by s =
        let h : payload s.0 < 2 ^ 14 = rw s.3 (ltb-true v (2 ^ 14) (and_left (only 14 v) (within r (signed v)) s.4)) in
        let same : value_word (signed v) ≡ s.0 = rw (← s.3) (value_again s.0 s.2 h) in
        (rw same s.1, and_right (only 14 v) (within r (signed v)) s.4)

pub values-read : (ws : List ℕ) (rs : List Range) (at : ℕ) (c : List ℤ) (next : ℕ) → values_in ws rs at ≡ read c next → Span ws at (map value_word c) next × (in_ranges rs c ≡ true)
unfolding values_in in_ranges
values-read ws [] at c next e = let s = read_same [] c at next e in rw (← s.0, ← s.1) (span_none ws at, refl)
values-read ws (r ∷ rs) at c next e =
    then-read (word ws 0xC (value_in r) at) (λ v mid. then (values_in ws rs mid) (λ vs last. read (signed v ∷ vs) last)) c next e λ v mid p q.
    then-read (values_in ws rs mid) (λ vs last. read (signed v ∷ vs) last) c next q λ vs last p' q'.
    let f = value_read ws r at v mid p in
    let g = values-read ws rs mid vs last p' in
    let s = read_same (signed v ∷ vs) c last next q' in
    rw (← s.0, ← s.1) (span_append ws (value_word (signed v) ∷ []) (map value_word vs) at mid last f.0 g.0, and_both (within r (signed v)) (in_ranges rs vs) f.1 g.1)

-- ranges of values that a word can hold
abbrev pub Narrow : List Range → Type 0
Narrow rs = (r : Range) → Memᴰ r rs → (mag r.low < 8192) × (mag r.high < 8192)

pub values-reads : (ws : List ℕ) (rs : List Range) (at : ℕ) (c : List ℤ) (rest : List ℕ) → Narrow rs → drop at ws ≡ map value_word c ++ rest → in_ranges rs c ≡ true → at + length c ≤ most_words → values_in ws rs at ≡ read c (at + length c)
unfolding values_in in_ranges
values-reads ws [] at [] rest n d e h = let s : at ≡ at + 0 = omega arith in ap (λ (i : ℕ). read [] i) s
values-reads ws [] at (z ∷ zs) rest n d e h = false_true e
values-reads ws (r ∷ rs) at [] rest n d e h = false_true e
values-reads ws (r ∷ rs) at (z ∷ zs) rest n d e h =
    let w = and_left (within r z) (in_ranges rs zs) e in
    let b = n r (Memᴰ.head refl) in
    let s : signed (payload (value_word z)) ≡ z = rw (value-payload z) (signed-modulo z (within-mag r z b.0 b.1 w)) in
    let o : value_in r (payload (value_word z)) ≡ true = and_both (only 14 (payload (value_word z))) (within r (signed (payload (value_word z)))) (rw (value-payload z) (lt-ltb (modulo z (2 ^ 14)) (2 ^ 14) (modulo_below z))) (rw s w) in
    let f = word-reads ws 0xC (value_in r) at (value_word z) (map value_word zs ++ rest) d (omega arith) (value-kind z) o in
    let g = values-reads ws rs (at + 1) zs rest (λ q k. n q (Memᴰ.tail k)) (drop-first ws at (value_word z) (map value_word zs ++ rest) d).2 (and_right (within r z) (in_ranges rs zs) e) (omega arith) in
    let i : at + 1 + length zs ≡ at + suc (length zs) = omega arith in
    rw (f, g, s, i)
