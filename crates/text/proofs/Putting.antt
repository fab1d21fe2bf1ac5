-- Laws of text in a buffer. The idea: bytes stored past the buffer's end change nothing, so that text put after text is their
-- concatenation put at once, wherever the buffer ends; and a loop that puts a text in parts keeps what is left to put.
-- Rests on specs/Put.
use mathlib.Core.Path.{◌≡◌, refl, sym, ap, ◌∙◌}
use mathlib.Core.Logic.{◌⊎◌, inl, inr}
use mathlib.Core.Bool.{true, false}
use mathlib.Core.List.{List, [], ◌∷◌, ◌++◌}
use Prim.Native.Nat.{ℕ, suc, ◌+◌, ◌-◌, ◌≤◌, min}
use native.Mathlib.Omega.{arith}
use borrow.Author.Tests.{leb-true, leb-false}
use lib.Dec.{leb}
use lib.ListN.{length, set, length-append}
use lib.Seq.{sets, length-sets, set_out}
use Rattle.semantics.proofs.Tests.{either}
use Rattle.text.specs.Put.{Put}

-- ── Stores ──

pub sets_out : (l : List ℕ) (i : ℕ) (t : List ℕ) → length l ≤ i → sets l i t ≡ l
sets_out l i [] h = refl
sets_out l i (b ∷ t) h = rw (set_out l i b h) (sets_out l (suc i) t (omega arith))

sets_append : (l : List ℕ) (i : ℕ) (s t : List ℕ) → sets l i (s ++ t) ≡ sets (sets l i s) (i + length s) t
sets_append l i [] t = let e : i ≡ i + 0 = omega arith in ap (λ (k : ℕ). sets l k t) e
sets_append l i (b ∷ s) t =
    let e : suc i + length s ≡ i + suc (length s) = omega arith in
    sets_append (set l i b) (suc i) s t ∙ ap (λ (k : ℕ). sets (sets (set l i b) (suc i) s) k t) e

-- text is put where the text before it ended, at the latest at the buffer's end
sets-from : (l : List ℕ) (i : ℕ) (s t : List ℕ) → sets (sets l i s) (i + min (length s) (length l - i)) t ≡ sets l i (s ++ t)
sets-from l i s t = by (either (leb (length s) (length l - i)))
  where
    by : (leb (length s) (length l - i) ≡ true) ⊎ (leb (length s) (length l - i) ≡ false) → sets (sets l i s) (i + min (length s) (length l - i)) t ≡ sets l i (s ++ t)
    by (inl e) =
        let h = leb-true (length s) (length l - i) e in
        let m : i + min (length s) (length l - i) ≡ i + length s = omega arith in
        rw m (sym (sets_append l i s t))
    by (inr e) =
        let h = leb-false (length s) (length l - i) e in
        let n = length-sets l i s in
        sets_out (sets l i s) (i + min (length s) (length l - i)) t (omega arith) ∙ sym (sets_append l i s t ∙ sets_out (sets l i s) (i + length s) t (omega arith))

-- ── Text ──

module _ {b : List ℕ} {at : ℕ} where
  pub put-none : Put b at [] b at
  put-none = record { bytes = refl; ends = omega arith }

  pub put-size : {t c : List ℕ} {end : ℕ} → Put b at t c end → length c ≡ length b
  put-size {t} p = ap length p.bytes ∙ length-sets b at t

  -- the law: text after text
  pub put_then : {s t c d : List ℕ} {mid end : ℕ} → Put b at s c mid → Put c mid t d end → Put b at (s ++ t) d end
  put_then {s} {t} {c} {d} {mid} p q =
      let n : length c ≡ length b = put-size p in
      let e = p.ends in
      let f = q.ends in
      let l = length-append s t in
      record {
        bytes = q.bytes ∙ ap (λ (k : ℕ). sets c k t) e ∙ ap (λ (m : List ℕ). sets m (at + min (length s) (length b - at)) t) p.bytes ∙ sets-from b at s t;
        ends = omega arith;
      }

-- ── Text in parts ──

-- of the text t that is to be put into b, the text `rest` is left, from a position of the buffer c on
pub record Left (b : List ℕ) (at : ℕ) (t : List ℕ) (c : List ℕ) (mid : ℕ) (rest : List ℕ) : Type 0 where
  pub onto : (d : List ℕ) (end : ℕ) → Put c mid rest d end → Put b at t d end
  pub size : length c ≡ length b

module _ {b t : List ℕ} {at : ℕ} where
  pub left_all : Left b at t b at t
  left_all = record { onto = λ d end p. p; size = refl }

  module _ {c : List ℕ} {mid : ℕ} where
    pub left_after : {s rest d : List ℕ} {next : ℕ} → Left b at t c mid (s ++ rest) → Put c mid s d next → Left b at t d next rest
    left_after l p = record { onto = λ e end q. l.onto e end (put_then p q); size = put-size p ∙ l.size }

    pub left_last : {rest d : List ℕ} {end : ℕ} → Left b at t c mid rest → Put c mid rest d end → Put b at t d end
    left_last l p = l.onto _ _ p

    pub left-none : Left b at t c mid [] → Put b at t c mid
    left-none l = l.onto _ _ put-none
