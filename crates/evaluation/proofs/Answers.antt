-- What an evaluated expression was: the tree that is read and its value. Read off the promise of evaluate. And what the VALUE words of a binding
-- are as an environment.
use mathlib.Core.Path.{◌≡◌, refl, sym, ap, ◌∙◌}
use mathlib.Core.List.{List, [], ◌∷◌, map}
use mathlib.Core.Option.{Option, none, some, bind}
use Prim.Native.Nat.{ℕ, zero, suc, ◌<◌, ◌^◌}
use borrow.Author.Tests.{lt-ltb}
use lib.IntN.{ℤ}
use lib.Signed.{mag}
use lib.ListN.{length}
use Rattle.semantics.specs.Lists.{Every}
use Rattle.semantics.specs.Word.{modulo, value_word}
use Rattle.semantics.specs.Expression.{Expression, house_table, value, bound}
use Rattle.semantics.specs.Reading.{Reading, read, refused}
use Rattle.semantics.specs.ReadNet.{read_expression}
use Rattle.semantics.proofs.Tests.{false_true}
use Rattle.semantics.proofs.Words.{modulo_below, value-kind, value-payload, signed-modulo}
use Rattle.evaluation.specs.Evaluate.{value_of, lent, valued, evaluated_from}

-- an expression is read at a position, and has a value or none
pub record Valued (ws bs : List ℕ) (at : ℕ) (v : Option ℤ) (next : ℕ) : Type 0 where
  pub tree : Expression
  pub reads : read_expression ws (length bs) at ≡ read tree next
  pub same : value house_table (lent bs) tree ≡ v

module _ (ws bs : List ℕ) (at : ℕ) where
  read-valued : (v : Option ℤ) (p : ℕ) (x : Reading Expression) → read_expression ws (length bs) at ≡ x → valued v p ≡ evaluated_from (lent bs) x → Valued ws bs at v p
  read-valued v p (read e next) q f = let i : next ≡ p = cc in record { tree = e; reads = q ∙ ap (read e) i; same = cc }
  read-valued v p (refused n m) q f = false_true (cc)

  pub known-valued : {v : Option ℤ} {p : ℕ} → evaluated_from (lent bs) (read_expression ws (length bs) at) ≡ valued v p → Valued ws bs at v p
  known-valued {v} {p} h = read-valued v p (read_expression ws (length bs) at) refl (sym h)

-- ── An expression that is known to be read ──

module _ (ws : List ℕ) (variables at : ℕ) {e : Expression} {next : ℕ} (x : read_expression ws variables at ≡ read e next) where
  -- what evaluate answers is the tree's value
  pub read-value : (bs : List ℕ) → length bs ≡ variables → {v : Option ℤ} {p : ℕ} → valued v p ≡ evaluated_from (lent bs) (read_expression ws (length bs) at) → (value house_table (lent bs) e ≡ v) × (p ≡ next)
  read-value bs n {v} {p} h = let i : valued v p ≡ valued (value house_table (lent bs) e) next = rw (n, x) at h in (cc, cc)

-- ── Bindings ──

-- a value as it is written
pub value_written : (z : ℤ) → mag z < 8192 → value_of (value_word z) ≡ some z
value_written z h = rw (value-kind z, value-payload z, lt-ltb (modulo z (2 ^ 14)) (2 ^ 14) (modulo_below z), signed-modulo z h)

-- the VALUE words of a binding, as an environment, are the binding
pub lent_bound : (b : List ℤ) → Every (λ z. mag z < 8192) b → (n : ℕ) → lent (map value_word b) n ≡ bound b n
unfolding bind
lent_bound [] h n = refl
lent_bound (z ∷ zs) h zero = value_written z h.0
lent_bound (z ∷ zs) h (suc n) = lent_bound zs h.1 n
