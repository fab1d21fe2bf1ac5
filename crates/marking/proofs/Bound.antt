-- The rules of reading a binding: its values, and nothing after them. A binding that is accepted is its values' words.
use mathlib.Core.Path.{◌≡◌, refl, sym, ap, ◌∙◌, subst}
use Prim.Native.Nat.{ℕ, zero, suc, ◌+◌, ◌≤◌, ◌<◌}
use mathlib.Core.Bool.{true}
use mathlib.Core.List.{List, [], ◌∷◌, ◌++◌, map, append-nil}
use borrow.Author.Tests.{le-leb, lt-leb, leb-true}
use lib.Dec.{leb}
use lib.IntN.{ℤ}
use lib.Signed.{mag}
use lib.ListN.{length, get_or, drop, drop_of_length-le}
use Rattle.semantics.specs.Refusal.{bad_binding}
use Rattle.semantics.specs.Lists.{Every}
use Rattle.semantics.specs.Word.{Range, within, value_word}
use Rattle.semantics.specs.Order.{in_ranges}
use Rattle.semantics.specs.Reading.{Reading, read, refused, then, values_in, ended, numbered}
use Rattle.semantics.proofs.Tests.{false_true, and_left, and_right}
use Rattle.semantics.proofs.Spans.{refused-read, read_same, demand-read, numbered-read, then-read, values-read}
use Rattle.word.specs.Fields.{range_word}
use Rattle.word.proofs.Words.{range_small}
use Rattle.net.specs.Places.{ranges_from}
use Rattle.semantics.specs.declared.refusal.Refusal.{Refusal}
use Rattle.semantics.specs.Answer.{refusing}
use Rattle.std.specs.Prelude.{Result, Ok, Err}
use Rattle.expression.specs.Skip.{forget, skipped}
use Rattle.marking.specs.Marked.{binding_read}

module _ (rs : List Range) (ws : List ℕ) where
  pub binding-refused : {s : Result ℕ Refusal} {e : Refusal} → skipped s ≡ numbered bad_binding (forget (values_in ws rs 0)) → s ≡ Err e → refusing e ≡ forget (binding_read rs ws)
  unfolding binding_read
  binding-refused {e = e} x d = by (values_in ws rs 0) (sym (ap skipped d) ∙ x)
    where
      by : (y : Reading (List ℤ)) → refusing e ≡ numbered bad_binding (forget y) → refusing e ≡ forget (numbered bad_binding (then y (λ b next. ended ws b next)))
      by (read b end) x = refused-read _ _ tt end x
      by (refused n p) x = x

  module _ {next : ℕ} {s : Result ℕ Refusal} (x : skipped s ≡ numbered bad_binding (forget (values_in ws rs 0))) (d : s ≡ Ok next) where
    values : (b : List ℤ) × (values_in ws rs 0 ≡ read b next)
    values = by (values_in ws rs 0) (sym (ap skipped d) ∙ x)
      where
        by : (y : Reading (List ℤ)) → read tt next ≡ numbered bad_binding (forget y) → (b : List ℤ) × (y ≡ read b next)
        by (read b end) e = (b, cc)
        by (refused n q) e = refused-read bad_binding q tt next (sym e)

    pub binding-long : next < length ws → refused bad_binding next ≡ forget (binding_read rs ws)
    unfolding binding_read
    binding-long h = let (b, e) = values in rw (e, lt-leb (length ws) _ h) refl

    pub binding-whole : length ws ≤ next → read tt next ≡ forget (binding_read rs ws)
    unfolding binding_read
    binding-whole h = let (b, e) = values in rw (e, le-leb (length ws) _ h) refl

-- ── A binding that is accepted ──

pub record IsBinding (rs : List Range) (ws : List ℕ) (b : List ℤ) : Type 0 where
  pub words : ws ≡ map value_word b
  pub ranged : in_ranges rs b ≡ true

pub binding-read : (rs : List Range) (ws : List ℕ) (b : List ℤ) (next : ℕ) → binding_read rs ws ≡ read b next → IsBinding rs ws b
unfolding binding_read
binding-read rs ws b next e =
    let r = numbered-read bad_binding (then (values_in ws rs 0) (λ b next. ended ws b next)) b next e in
    then-read (values_in ws rs 0) (λ b next. ended ws b next) b next r λ c mid p q.
    let d = demand-read (leb (length ws) mid) mid (read c mid) b next q in
    let s = read_same c b mid next d.1 in
    let v = values-read ws rs 0 c mid p in
    let h = leb-true (length ws) mid d.0 in
    let n : drop mid ws ≡ [] = drop_of_length-le ws h in
    let w : ws ≡ map value_word c = v.0.split ∙ ap (λ (l : List ℕ). map value_word c ++ l) n ∙ append-nil (map value_word c) in
    record { words = subst (λ (b : List ℤ). ws ≡ map value_word b) s.0 w; ranged = subst (λ (b : List ℤ). in_ranges rs b ≡ true) s.0 v.1 }

-- values in the ranges of RANGE words are values
pub ranged-small : (nws : List ℕ) (n at : ℕ) (b : List ℤ) → in_ranges (ranges_from nws n at) b ≡ true → Every (λ z. mag z < 8192) b
unfolding in_ranges ranges_from
ranged-small nws zero at [] e = tt
ranged-small nws zero at (z ∷ zs) e = false_true e
ranged-small nws (suc n) at [] e = false_true e
ranged-small nws (suc n) at (z ∷ zs) e =
    let r = range_word (get_or nws at 0) in
    let w = and_left (within r z) (in_ranges (ranges_from nws n (at + 1)) zs) e in
    (range_small (get_or nws at 0) z w, ranged-small nws n (at + 1) zs (and_right (within r z) (in_ranges (ranges_from nws n (at + 1)) zs) e))
