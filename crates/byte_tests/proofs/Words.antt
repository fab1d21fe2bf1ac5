-- Test on the words in buffers answers as test on all words: no reader looks past those that a buffer holds. Bad lengths are refused in order.
-- Rests on byte_checks/specs/Alike and semantics/proofs/Prefix.
use mathlib.Core.Path.{◌≡◌, refl}
use mathlib.Core.List.{List}
use Prim.Native.Nat.{ℕ, ◌/◌, ◌%◌}
use borrow.Author.Tests.{eq-eqb, ne_eqb}
use lib.ListN.{length}
use Rattle.semantics.specs.Word.{words_of_bytes}
use Rattle.semantics.specs.Answer.{Tested, TestRefused}
use Rattle.semantics.specs.Calls.{test_call, test_bytes_call}
use Rattle.semantics.proofs.Prefix.{test_prefix}
use Rattle.byte_checks.specs.Alike.{ReadAlike}

module _ (net marking binding : List ℕ) (t : ℕ) where
  pub test_refused-net : (length net % 4 ≡ 0 → ⊥) → TestRefused 2 (length net / 4) ≡ test_bytes_call net t marking binding
  unfolding test_bytes_call
  test_refused-net h = rw (ne_eqb (length net % 4) 0 h) refl

  pub test_refused_marking : length net % 4 ≡ 0 → (length marking % 4 ≡ 0 → ⊥) → TestRefused 7 (length marking / 4) ≡ test_bytes_call net t marking binding
  unfolding test_bytes_call
  test_refused_marking y h = rw (eq-eqb (length net % 4) 0 y, ne_eqb (length marking % 4) 0 h) refl

  pub test_refused-binding : length net % 4 ≡ 0 → length marking % 4 ≡ 0 → (length binding % 4 ≡ 0 → ⊥)
      → TestRefused 8 (length binding / 4) ≡ test_bytes_call net t marking binding
  unfolding test_bytes_call
  test_refused-binding y z h = rw (eq-eqb (length net % 4) 0 y, eq-eqb (length marking % 4) 0 z, ne_eqb (length binding % 4) 0 h) refl

  pub bytes-tested : (v : Tested) → length net % 4 ≡ 0 → length marking % 4 ≡ 0 → length binding % 4 ≡ 0
      → v ≡ test_call (words_of_bytes net) t (words_of_bytes marking) (words_of_bytes binding) → v ≡ test_bytes_call net t marking binding
  unfolding test_bytes_call
  bytes-tested v x y z c = rw (eq-eqb (length net % 4) 0 x, eq-eqb (length marking % 4) 0 y, eq-eqb (length binding % 4) 0 z) c

pub tested_alike : {ws us ms ns bs cs : List ℕ} (t : ℕ) {v : Tested} → ReadAlike ws us → ReadAlike ms ns → ReadAlike bs cs
    → v ≡ test_call ws t ms bs → v ≡ test_call us t ns cs
tested_alike {ws} {us} {ms} {ns} {bs} {cs} t e f g c = rw (test_prefix us t ns cs, ← e.first, ← f.first, ← g.first, ← test_prefix ws t ms bs) c
