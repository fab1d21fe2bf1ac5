-- The words of bytes in a buffer: all of them, or as many as any reader looks at. So check on those in the buffer answers as check on all words.
-- Rests on word/proofs/Copying and semantics/proofs/Prefix.
use mathlib.Core.Path.{◌≡◌, refl, sym, ap, ◌∙◌}
use mathlib.Core.List.{List, [], ◌∷◌, ◌++◌}
use Prim.Native.Nat.{ℕ, zero, suc, ◌/◌, ◌%◌, ◌≤◌, min}
use native.Mathlib.Omega.{arith}
use borrow.Author.Tests.{eq-eqb, ne_eqb}
use lib.ListN.{length, take}
use lib.Seq.{length-take-le, take-nil, take_at}
use Rattle.semantics.specs.Word.{words_of_bytes}
use Rattle.semantics.specs.Answer.{Verdict, CheckRefused}
use Rattle.semantics.specs.Calls.{check_call, check_bytes_call}
use Rattle.semantics.proofs.Prefix.{check_prefix}
use Rattle.word.proofs.Copying.{words-length}
use Rattle.byte_checks.specs.Alike.{ReadAlike}

-- ── What a buffer holds ──

-- the first k of a list stand among its first n, where n is at least k or the list's length
take-enough : (k n : ℕ) (l : List ℕ) → min (length l) k ≤ n → take k (take n l) ≡ take k l
take-enough zero n l h = refl
take-enough (suc k) n [] h = ap (take (suc k)) (take-nil n)
take-enough (suc k) zero (x ∷ l) h = absurd (omega arith)
take-enough (suc k) (suc n) (x ∷ l) h = ap (◌∷◌ x) (take-enough k n l (omega arith))

-- n words of bytes were put into a buffer ws of k words, as many as it has room for
pub enough-words : (bs ws rest : List ℕ) (n k : ℕ) → min (length bs / 4) 16385 ≤ k → n ≡ min (length bs / 4) k → ws ≡ take n (words_of_bytes bs) ++ rest
    → ReadAlike (take n ws) (words_of_bytes bs)
enough-words bs ws rest n k l e h =
    let us = words_of_bytes bs in
    let m = words-length bs in
    record { first = rw (h, take_at (take n us) rest n (length-take-le n us (omega arith))) (take-enough 16385 n us (omega arith)) }

-- ── Check ──

pub bytes-refused : (bs : List ℕ) → (length bs % 4 ≡ 0 → ⊥) → CheckRefused 2 (length bs / 4) ≡ check_bytes_call bs
unfolding check_bytes_call
bytes-refused bs h = rw (ne_eqb (length bs % 4) 0 h) refl

pub bytes_checked : (bs : List ℕ) (v : Verdict) → length bs % 4 ≡ 0 → v ≡ check_call (words_of_bytes bs) → v ≡ check_bytes_call bs
unfolding check_bytes_call
bytes_checked bs v z c = rw (eq-eqb (length bs % 4) 0 z) c

pub checked_alike : {ws us : List ℕ} {v : Verdict} → ReadAlike ws us → v ≡ check_call ws → v ≡ check_call us
checked_alike {ws} {us} e c = c ∙ check_prefix ws ∙ ap check_call e.first ∙ sym (check_prefix us)
